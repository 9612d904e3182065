use Rattle.std.proofs.Common.{◌≡◌, ◌≤◌, true, false}
use Rattle.std.specs.Prelude.{MatchResult, OnErr}
use Rattle.io_model.specs.Streams.{Failed}
use Rattle.vr_threads.specs.Trying.{SavesAtLast}
use Rattle.vr_threads.proofs.patient_store.PatientStore.save_at_last.Given as goal

-- how the save went that was tried last
abbrev pub invariant-loop : goal.invariant-loop
invariant-loop g l = record {
  saved : MatchResult l.saved (λ _. SavesAtLast g.S.ViewStore.load_gives g.S.ViewStore.save_gives l.fn.self.store l.view true l.self.store) (λ _. SavesAtLast g.S.ViewStore.load_gives g.S.ViewStore.save_gives l.fn.self.store l.view false l.self.store);
  device : OnErr l.saved (Failed (g.S.ViewStore.faults l.fn.self.store) (g.S.ViewStore.faults l.self.store));
  counts : g.S.ViewStore.faults l.fn.self.store ≤ g.S.ViewStore.faults l.self.store;
}
