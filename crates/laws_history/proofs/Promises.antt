-- What a replica has said, it keeps.
use Rattle.std.proofs.Common.{ℕ, ◌<◌, ◌≤◌, List, arith}
use Rattle.vr_model.specs.Logs.{Request}
use Rattle.vr_model.specs.World.{World, Event, Completion, run, start}
use Rattle.vr_model.specs.Views.{SentDoViewChange}
use Rattle.vr_model.specs.Agreement.{PromisesKept}
use Rattle.laws_history.proofs.History.{History}
use Rattle.laws_history.proofs.Facts.{NormalOk}
use Rattle.laws_history.proofs.Entering.{UpOk, up_ok}
use Rattle.laws_history.proofs.Worlds.{WorldOk}
use Rattle.laws_history.proofs.Events.{said}
use Rattle.laws_history.proofs.Runs.{Always, run_ok, first_base, start_ok}
use Rattle.laws_history.proofs.CarriedOver.{up_normal, up_part}

pub promises_are_kept : {C A : Type 0} (f : ℕ) (answer : List C → A) (events : List (Event C × Completion)) → PromisesKept f answer events
promises_are_kept {C} {A} f answer events = record {
  left = λ i view s part. let up : UpOk f h i (w.replicas i) = up_ok f h i (w.replicas i) k.sound part (k.replicas i (up_part (w.replicas i).status part)) in
      omega (arith, up.promised, promised i view s);
  stored = λ i view s. omega (arith, k.stores i, promised i view s);
  reaches = λ i reach e a. let normal : NormalOk f h i (w.replicas i) = (let ok = k.replicas i (up_normal (w.replicas i).status e) in ok.normal e) in
      let says : a.op_number ≤ h.accepted i (w.replicas i).view = said f answer h w.sent a.place _ k.sent a.is in
      omega (arith, says, a.reaches, normal.stands.accepted);
}
  where
    w : World C A
    w = run f answer events start

    k : WorldOk f answer first_base Always w
    k = run_ok f answer start events (start_ok f answer) (λ d j v n. tt)

    h : History (Request C)
    h = k.history

    promised : (i view : ℕ) → SentDoViewChange w.sent i view → view < h.promised i
    promised i view s = let says = said f answer h w.sent s.place _ k.sent s.is in omega (arith, says.0.leaves.promised, s.above)
