use Rattle.plc_epochs.specs.Visits.{FitsNonce}
use Rattle.plc_epochs.proofs.Nonces.{written_next, all_next}
use Rattle.plc_epochs.proofs.visit.put_told.Goals as goal

pub loop-nonce-preserved : goal.loop-nonce-preserved
loop-nonce-preserved c =
    let i = c.loop-nonce.nonce-index in
    record {
      written = written_next c.args.told.now i _ c.args.out.now.items c.loop-nonce.out.items c.put_nonce.new.out.items c.loop-nonce-test.true c.loop-nonce.invariant.written c.in_ok-put_nonce.ensures.bytes;
      fits = all_next FitsNonce c.args.told.now i _ c.loop-nonce-test.true c.loop-nonce.invariant.fits c.in_ok-put_nonce.ensures.fits;
    }
