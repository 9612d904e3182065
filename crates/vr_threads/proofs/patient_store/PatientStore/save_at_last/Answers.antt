use Rattle.std.proofs.Common.{◌≡◌, ◌≤◌, sym, ◌∙◌, arith}
use Rattle.vr_threads.proofs.Tries.{at_last_failed, later, one_more}
use Rattle.vr_threads.proofs.patient_store.PatientStore.save_at_last.Goals as goal

pub loop-preserved : goal.loop-preserved
loop-preserved g c =
    let failed = at_last_failed g.S.ViewStore.load_gives g.S.ViewStore.save_gives c.args.self.now.store c.args.view c.loop.self.store c.loop.saved (sym c.is_ok.ensures.value ∙ c.if-is_ok.false) c.loop.invariant.saved in
    record {
      saved = one_more g.S.ViewStore.load_gives g.S.ViewStore.save_gives c.args.self.now.store c.args.view c.loop.self.store c.try_again-saved.new.self.store c.try_again-saved.result failed c.try_again-saved.ensures.tried;
      device = later c.try_again-saved.result _ _ _ c.loop.invariant.counts c.try_again-saved.ensures.counts c.try_again-saved.ensures.device;
      counts = omega (arith, c.loop.invariant.counts, c.try_again-saved.ensures.counts);
    }
