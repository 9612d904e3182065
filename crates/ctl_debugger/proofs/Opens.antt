-- What a run leaves: at its end the machine is at rest, and else it is before an instruction.
use Rattle.std.proofs.Common.{◌≡◌, cond, ℕ, zero, suc, ◌+◌, ◌<◌, ◌≤◌, Bool, true, false, List, [], ◌∷◌, length, Option, Some, None, Result, Ok, Err, refl, sym, subst, arith}
use Rattle.std.specs.Prelude.{nat_lt, not, unwrap_or}
use Rattle.std.proofs.lemmas.Bool.{ltb-true}
use Rattle.il_values.specs.declared.value.Stop.{Stop}
use Rattle.il_values.specs.declared.value.Value.{Value}
use Rattle.il_values.specs.declared.value.Value.TheVariants as values
use Rattle.il_model.specs.declared.program.Place.{Place}
use Rattle.il_model.specs.declared.fetched.Fetched.{Fetched}
use Rattle.il_values.specs.Functions.{function_result}
use Rattle.il_values.specs.Operators.{operation_result}
use Rattle.il_model.specs.Resolved.{fetched_line}
use Rattle.il_values.specs.declared.op.Op.{Op}
use Rattle.il_values.specs.declared.op.Op.TheVariants as ops
use Rattle.il_values.specs.declared.op.Modifier.{Modifier}
use Rattle.il_model.specs.declared.fetched.Source.{Source}
use Rattle.il_model.specs.declared.fetched.Source.TheVariants as sources
use Rattle.il_model.specs.declared.fetched.Passed.{Passed}
use Rattle.il_model.specs.declared.fetched.Deferred.{Deferred}
use Rattle.il_model.specs.Program.{Program}
use Rattle.il_model.specs.Typing.{IsTyped}
use Rattle.ctl_model.specs.State.{State, with_value_at}
use Rattle.ctl_model.specs.Step.{Outcome, Next, End, Stopped, Stuck, with_value, truth_in, negated_by, goes_on, source_value, place_in, target_in, instance_at, acts, to_dint, to_int, to_lint, from_lint, after_call, takes, close_at, close_with, after_opening, open_with, combine, set_where, act, step}
use Rattle.ctl_model.specs.Scan as scans
use Rattle.ctl_model.specs.Scan.{RunEnd, after, ends_before, run_from, run_from_break, one_step_run, is_past_end, is_break}
use Rattle.ctl_model.specs.Suits.{Suits, IsSafe}
use Rattle.ctl_model.proofs.NeverStuck.{never_stuck}
use Rattle.ctl_model.proofs.Turns.{Before, Past, Out, On, before, ends_past, ends_out, ends_not, ran_past, ran_out, ran_break, ran_turn}

-- a run that isn't at its end is before an instruction
abbrev pub IsBefore : Program → RunEnd → Type 0
IsBefore Q (scans.Done s) = Unit {0}
IsBefore Q (scans.Held performed s) = s.position < length Q.code
IsBefore Q (scans.Stopped stop s) = s.position < length Q.code

within_by : (b : Bool) (Q : Program) (s : State) → nat_lt s.position (length Q.code) ≡ b → not b ≡ false → s.position < length Q.code
within_by true Q s e h = ltb-true s.position (length Q.code) e
within_by false Q s e h = absurd cc

pub within : (Q : Program) (s : State) → is_past_end Q s ≡ false → s.position < length Q.code
within Q s h = within_by (nat_lt s.position (length Q.code)) Q s refl h

-- a stop leaves the state as it was
abbrev Stays : State → Outcome → Type 0
Stays s (Next t) = Unit {0}
Stays s (End t) = Unit {0}
Stays s (Stopped stop t) = s ≡ t
Stays s Stuck = Unit {0}

record IsStay (s : State) (o : Outcome) : Type 0 where
  is : Stays s o

at_value : {X : Type 0} (s : State) (o : Option X) (go : X → Outcome) → ((x : X) → IsStay s (go x)) → IsStay s (with_value o go)
at_value s None go h = record { is = tt }
at_value s (Some x) go h = h x

at_cond : (s : State) (b : Bool) (x y : Outcome) → IsStay s x → IsStay s y → IsStay s (cond b x y)
at_cond s true x y h k = h
at_cond s false x y h k = k

at_takes : (Q : Program) (s : State) (o : Option (Result Value Stop)) → IsStay s (takes Q s o)
at_takes Q s None = record { is = tt }
at_takes Q s (Some (Ok v)) = record { is = tt }
at_takes Q s (Some (Err stop)) = record { is = refl }

at_closed : (Q : Program) (s : State) (kept : List Deferred) (o : Option (Result Value Stop)) → IsStay s (close_at Q s kept o)
at_closed Q s kept None = record { is = tt }
at_closed Q s kept (Some (Ok v)) = record { is = tt }
at_closed Q s kept (Some (Err stop)) = record { is = refl }

at_next : (s t : State) → IsStay s (Next t)
at_next s t = record { is = tt }

at_end : (s t : State) → IsStay s (End t)
at_end s t = record { is = tt }

at_stuck : (s : State) → IsStay s Stuck
at_stuck s = record { is = tt }

at_close : (Q : Program) (s : State) (kept : List Deferred) → IsStay s (close_with Q s kept)
at_close Q s [] = at_stuck s
at_close Q s (d ∷ kept) = at_value {X = Value} s s.cr _ (λ v. at_value {X = Value} s (negated_by d.negated v) _ (λ w. at_closed Q s kept (operation_result d.op d.cr w)))

at_opened : (Q : Program) (s : State) (op : Op) (n : Bool) (next : Option Value) → IsStay s (after_opening Q s op n next)
at_opened Q s op n next = at_value {X = Value} s s.cr _ (λ v. at_cond s (nat_lt (length s.kept) 16) _ _ (at_next s _) (at_stuck s))

at_open : (Q : Program) (s : State) (op : Op) (m : Modifier) (src : Source) → IsStay s (open_with Q s op m src)
at_open Q s op m sources.Absent = at_opened Q s op m.negated None
at_open Q s op m (sources.Constant c) = at_opened Q s op m.negated (Some c)
at_open Q s op m (sources.Of p) = at_value {X = Value} s (source_value s (sources.Of p)) _ (λ v. at_opened Q s op m.negated (Some v))
at_open Q s op m (sources.Target n) = at_stuck s
at_open Q s op m (sources.Instance i) = at_stuck s

at_combine : (Q : Program) (s : State) (op : Op) (m : Modifier) (src : Source) → IsStay s (combine Q s op m src)
at_combine Q s op m src = at_cond s m.opens _ _ (at_open Q s op m src) (at_value {X = Value} s s.cr _ (λ a. at_value {X = Value} s (source_value s src) _ (λ v. at_value {X = Value} s (negated_by m.negated v) _ (λ w. at_takes Q s (operation_result op a w)))))

at_written : (Q : Program) (s : State) (o : Option State) → IsStay s (with_value o (goes_on Q))
at_written Q s None = at_stuck s
at_written Q s (Some t) = at_next s _

at_set : (Q : Program) (s : State) (b : Bool) (src : Source) → IsStay s (set_where Q s b src)
at_set Q s b src = at_value {X = Value} s s.cr _ (λ v. at_value {X = Bool} s (truth_in v) _ (λ t. at_value {X = Place} s (place_in src) _ (λ p. at_cond s t _ _ (at_written Q s (with_value_at s p (values.Bool b))) (at_next s _))))

at_act : (Q : Program) (now : ℕ) (s : State) (op : Op) (m : Modifier) (src : Source) (args : List Passed) → IsStay s (act Q now s op m src args)
at_act Q now s ops.Empty m src args = at_next s _
at_act Q now s ops.Ld m src args = at_value {X = Value} s (source_value s src) _ (λ v. at_value {X = Value} s (negated_by m.negated v) _ (λ w. at_next s _))
at_act Q now s ops.St m src args = at_value {X = Value} s s.cr _ (λ v. at_value {X = Place} s (place_in src) _ (λ p. at_value {X = Value} s (negated_by m.negated v) _ (λ w. at_written Q s (with_value_at s p w))))
at_act Q now s ops.S m src args = at_set Q s true src
at_act Q now s ops.R m src args = at_set Q s false src
at_act Q now s ops.Not m src args = at_value {X = Value} s s.cr _ (λ v. at_value {X = Value} s (negated_by true v) _ (λ w. at_next s _))
at_act Q now s ops.Jmp m src args = at_value {X = ℕ} s (target_in src) _ (λ n. at_value {X = Bool} s (acts m s) _ (λ b. at_cond s b _ _ (at_next s _) (at_next s _)))
at_act Q now s ops.Cal m src args = at_value {X = ℕ} s (instance_at src) _ (λ i. at_value {X = Bool} s (acts m s) _ (λ b. at_cond s b _ _ (at_written Q s (after_call now s i args)) (at_next s _)))
at_act Q now s ops.Ret m src args = at_value {X = Bool} s (acts m s) _ (λ b. at_cond s b _ _ (at_end s s) (at_next s _))
at_act Q now s ops.Close m src args = at_close Q s s.kept
at_act Q now s ops.IntToDint m src args = at_value {X = Value} s s.cr _ (λ v. at_takes Q s (to_dint v))
at_act Q now s ops.DintToInt m src args = at_value {X = Value} s s.cr _ (λ v. at_takes Q s (to_int v))
at_act Q now s ops.DintToLint m src args = at_value {X = Value} s s.cr _ (λ v. at_takes Q s (to_lint v))
at_act Q now s ops.LintToDint m src args = at_value {X = Value} s s.cr _ (λ v. at_takes Q s (from_lint v))
at_act Q now s (ops.Apply f) m src args = at_value {X = Value} s s.cr _ (λ v. at_takes Q s (function_result f v))
at_act Q now s op m src args = at_combine Q s op m src

stays : (Q : Program) (now : ℕ) (s : State) → IsStay s (step Q now s)
stays Q now s = at_cond s (nat_lt s.position (length Q.code)) _ _ (at_value {X = Fetched} s (fetched_line Q s.position) _ (λ line. at_act Q now s line.op line.modifier line.source line.arguments)) (at_end s s)

after_before : (Q : Program) (s : State) (o : Outcome) (go : State → RunEnd) → s.position < length Q.code → Stays s o → IsSafe Q o → ((t : State) → Suits Q t → IsBefore Q (go t)) → IsBefore Q (after s o go)
after_before Q s (Next t) go here same safe h = h t safe
after_before Q s (End t) go here same safe h = tt
after_before Q s (Stopped stop t) go here same safe h = subst (λ (t : State). t.position < length Q.code) same here
after_before Q s Stuck go here same safe h = absurd safe

turn_before : (Q : Program) (now : ℕ) (br : List Bool) → IsTyped Q → (budget performed : ℕ) (s : State) → Suits Q s → Before Q budget performed s
    → (performed < budget → (t : State) → Suits Q t → IsBefore Q (run_from Q now br budget (performed + 1) t)) → IsBefore Q (run_from Q now br budget performed s)
turn_before Q now br typed budget performed s suits (Past h) more = subst (IsBefore Q) (sym (ran_past Q now br budget performed s h)) tt
turn_before Q now br typed budget performed s suits (Out h used) more = subst (IsBefore Q) (sym (ran_out Q now br budget performed s h used)) (within Q s h)
turn_before Q now br typed budget performed s suits (On h some) more =
    elim (is_break br s.position) as (λ b. is_break br s.position ≡ b → IsBefore Q (run_from Q now br budget performed s)) [
      | true ↦ λ k. subst (IsBefore Q) (sym (ran_break Q now br budget performed s h some k)) (within Q s h)
      | false ↦ λ k. subst (IsBefore Q) (sym (ran_turn Q now br budget performed s h some k)) (after_before Q s (step Q now s) _ (within Q s h) (stays Q now s).is (never_stuck Q now s typed suits) (more some))
    ] refl

left_before : (Q : Program) (now : ℕ) (br : List Bool) → IsTyped Q → (budget n performed : ℕ) (s : State) → budget ≤ performed + n → Suits Q s → IsBefore Q (run_from Q now br budget performed s)
left_before Q now br typed budget zero performed s le suits = turn_before Q now br typed budget performed s suits (before Q budget performed s) (λ some. absurd (omega (arith, le, some)))
left_before Q now br typed budget (suc n) performed s le suits =
    turn_before Q now br typed budget performed s suits (before Q budget performed s) (λ some t. left_before Q now br typed budget n (performed + 1) t (omega (arith, le)))

pub run_before : (Q : Program) (now : ℕ) (br : List Bool) → IsTyped Q → (budget performed : ℕ) (s : State) → Suits Q s → IsBefore Q (run_from Q now br budget performed s)
run_before Q now br typed budget performed s suits = left_before Q now br typed budget budget performed s (omega arith) suits

pub over_before : (Q : Program) (now : ℕ) (br : List Bool) → IsTyped Q → (budget performed : ℕ) (s : State) → Suits Q s → s.position < length Q.code → IsBefore Q (run_from_break Q now br budget performed s)
over_before Q now br typed budget performed s suits here = after_before Q s (step Q now s) _ here (stays Q now s).is (never_stuck Q now s typed suits) (run_before Q now br typed budget (performed + 1))

stands_before : (Q : Program) (budget performed : ℕ) (s : State) → Before Q budget performed s → IsBefore Q (unwrap_or (ends_before Q budget performed s) (scans.Held performed s))
stands_before Q budget performed s (Past h) = subst (λ (o : Option RunEnd). IsBefore Q (unwrap_or o (scans.Held performed s))) (sym (ends_past Q budget performed s h)) tt
stands_before Q budget performed s (Out h used) = subst (λ (o : Option RunEnd). IsBefore Q (unwrap_or o (scans.Held performed s))) (sym (ends_out Q budget performed s h used)) (within Q s h)
stands_before Q budget performed s (On h some) = subst (λ (o : Option RunEnd). IsBefore Q (unwrap_or o (scans.Held performed s))) (sym (ends_not Q budget performed s h some)) (within Q s h)

pub one_before : (Q : Program) (now : ℕ) → IsTyped Q → (budget performed : ℕ) (s : State) → Suits Q s → s.position < length Q.code → IsBefore Q (one_step_run Q now budget performed s)
one_before Q now typed budget performed s suits here =
    after_before Q s (step Q now s) _ here (stays Q now s).is (never_stuck Q now s typed suits) (λ t k. stands_before Q budget (performed + 1) t (before Q budget (performed + 1) t))
