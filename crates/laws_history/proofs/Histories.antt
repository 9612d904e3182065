-- One history for every schedule.
use Rattle.std.proofs.Common.{ℕ, List, length, sym, ap, ◌∙◌, subst}
use Rattle.vr_model.specs.Logs.{IsPrefix, IsFrom}
use Rattle.vr_model.specs.World.{World, Event, Completion, run, start}
use Rattle.vr_model.specs.Report.{IsAnswered, Release, report, Each, IsReleased, Explains}
use Rattle.vr_model.specs.Agreement.{OneHistory}
use Rattle.laws_history.proofs.Prefixes.{take_all, prefix_trans}
use Rattle.laws_history.proofs.Numbers.{run_clients, start_clients}
use Rattle.laws_history.proofs.OrderExecuted.{order_executed}
use Rattle.laws_history.proofs.Worlds.{WorldOk}
use Rattle.laws_history.proofs.Events.{said}
use Rattle.laws_history.proofs.Runs.{Always, run_ok, start_ok, first_base, base_of, from_here, run_append, order_rises, answered}
use Rattle.laws_history.proofs.Reports.{once, to_end, order_is, each_map, explains}
use Rattle.laws_history.proofs.CarriedOver.{carried_over, one_first, goes_on}

pub one_history : {C A : Type 0} (f : ℕ) (answer : List C → A) (early late : List (Event C × Completion)) → OneHistory f answer early late
one_history {C} {A} f answer early late =
    let mid : World C A = run f answer early start in
    let first : WorldOk f answer first_base Always (start {C = C} {A = A}) = start_ok f answer in
    let k : WorldOk f answer first_base Always mid = run_ok f answer start early first (λ d j v n. tt) in
    let n : WorldOk f answer (base_of k) Always (run f answer late mid) = run_ok f answer mid late (from_here f answer mid k) (λ d j v n. tt) in
    let e : Explains f answer early = explains f answer early in record {
      grows = subst (λ w. IsPrefix mid.order w.order) (sym (run_append f answer early late start)) n.since;
      was_executed = let x = order_executed f answer early (length early) in (x.0, x.1, x.3 ∙ ap (λ es. (run f answer es (start {C = C} {A = A})).order) (take_all early));
      executed = λ moment i. prefix_trans (e.executed moment i) (to_end f answer early start moment first);
      once = λ p q a b. once mid.order p q a b (order_rises k).rising;
      rising = (order_rises k).rising;
      submitted = subst (λ x. IsFrom x mid.order) k.asked (order_rises k).submitted;
      submitted_rising = (run_clients f answer start early start_clients).rising;
      numbers = (run_clients f answer start early start_clients).numbers;
      answered = λ n m e. answered f answer k m (said f answer k.history mid.sent n m k.sent e);
      released = subst (λ order. Each (λ (r : Release A). IsAnswered answer order r.client r.number r.answer) (report f answer early).releases) (order_is f answer 0 early start)
          (each_map (IsReleased answer (report f answer early).order (report f answer early).lengths) (λ (r : Release A). IsAnswered answer (report f answer early).order r.client r.number r.answer) (report f answer early).releases (λ r s. s.stands) e.released);
      carried = carried_over f answer early;
      one_first = one_first f answer early;
      started = goes_on f answer early;
    }
