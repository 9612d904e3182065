-- The log of a rule begins with what its replica has executed.
use Rattle.std.proofs.Common.{ℕ, List, arith, subst}
use Rattle.vr_model.specs.Logs.{Request, IsPrefix}
use Rattle.laws_history.proofs.History.{History, IsSound}
use Rattle.vr_model.specs.Messages.{number_of}
use Rattle.vr_model.specs.Replicas.{ReplicaState, Outcome}
use Rattle.vr_model.specs.Rules.{receives}
use Rattle.vr_model.specs.World.{World, Event, Completion, executed, run, start}
use Rattle.vr_model.specs.Agreement.{RulesKeepExecuted}
use Rattle.laws_history.proofs.Facts.{Says, ReplicaOk, Good}
use Rattle.laws_history.proofs.Prefixes.{prefix_trans, take_prefix}
use Rattle.laws_history.proofs.Executed.{IsDone, done_compare, done_later, executed_done, executed_length}
use Rattle.laws_history.proofs.Worlds.{WorldOk}
use Rattle.laws_history.proofs.Events.{good_receives, said}
use Rattle.laws_history.proofs.Runs.{Always, run_ok, first_base, start_ok}

-- whatever agrees with the history keeps what was executed
pub good_keeps : {C A : Type 0} (f i : ℕ) (answer : List C → A) (h : History (Request C)) (r : ReplicaState C) (o : Outcome C A) (st : ℕ)
    → IsSound f h → ReplicaOk f h i r → Good f answer h i st r.commit_number o → IsPrefix (executed r) o.replica.log
good_keeps f i answer h r o st sound ok good =
    let old : IsDone f good.later (executed r) = done_later f h good.later (executed r) sound good.grows (executed_done f h i r ok) in
    let new : IsDone f good.later (executed o.replica) = executed_done f good.later i o.replica good.replica in
    prefix_trans (done_compare f good.later (executed r) (executed o.replica) good.sound old new
    (omega (arith, executed_length f h i r ok, executed_length f good.later i o.replica good.replica, good.grown)))
    (take_prefix o.replica.commit_number o.replica.log)

pub rules_keep_executed : {C A : Type 0} (f : ℕ) (answer : List C → A) (events : List (Event C × Completion)) → RulesKeepExecuted f answer events
rules_keep_executed {C} {A} f answer events i n m up is to =
    let w : World C A = run f answer events start in
    let k : WorldOk f answer first_base Always w = run_ok f answer start events (start_ok f answer) (λ d j v n. tt) in
    let r : ReplicaState C = w.replicas i in
    let ok = k.replicas i up in
    let says : Says f answer k.history (number_of m.from) i m.body = subst (λ p. Says f answer k.history (number_of m.from) (number_of p) m.body) to (said f answer k.history w.sent n m k.sent is) in
    good_keeps f i answer k.history r (receives f i answer r m.from m.body) r.stored_view k.sound ok (good_receives f i answer k.history r m.from m.body k.sound ok says)
