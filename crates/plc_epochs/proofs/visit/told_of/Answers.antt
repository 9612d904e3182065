use Rattle.std.proofs.Common.{length, sym, ap, ◌∙◌, arith, length-drop, length-set}
use Rattle.plc_epochs.specs.Visits.{nonce_of, told_of}
use Rattle.plc_epochs.proofs.Nonces.{begins, goes_on, ends, done}
use Rattle.plc_epochs.proofs.visit.told_of.Goals as goal

pub returns-in_err-told : goal.returns-in_err-told
returns-in_err-told c =
    let l = c.loop-machine in
    let is = ap nonce_of (sym c.split_at.ensures.front) ∙ sym c.in_err-told.ensures in
    c.from_residual.ensures ∙ sym (ends l.told l.machine l.rest.now (told_of c.args.bytes.now) c.loop-machine-test.true l.invariant.so_far is)

pub loop-machine-init : goal.loop-machine-init
loop-machine-init c = record {
  so_far = begins c.nothing_told-told.result c.args.bytes.now;
  long = c.requires;
  each = ap length c.nothing_told-told.ensures;
}

pub loop-machine-preserved : goal.loop-machine-preserved
loop-machine-preserved c =
    let l = c.loop-machine in
    let is = ap nonce_of (sym c.split_at.ensures.front) ∙ sym c.in_ok-told.ensures in
    record {
      so_far = rw c.split_at.ensures.back (goes_on l.told l.machine l.rest.now (told_of c.args.bytes.now) c.loop-machine-test.true l.invariant.so_far c.in_ok-told.field-0 l.invariant.each is);
      long = rw c.split_at.ensures.back (omega (arith, l.invariant.long, c.loop-machine-test.true, length-drop 9 l.rest.now));
      each = length-set l.told l.machine c.in_ok-told.field-0 ∙ l.invariant.each;
    }

pub returns : goal.returns
returns c =
    let l = c.loop-machine in
    sym (done l.told l.machine l.rest.now (told_of c.args.bytes.now) c.loop-machine-test.false l.invariant.each l.invariant.so_far)
