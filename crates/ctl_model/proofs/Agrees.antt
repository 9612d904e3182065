-- A run with breakpoints, against the run without.
use Rattle.std.proofs.Common.{◌≡◌, ℕ, zero, suc, ◌+◌, ◌≤◌, ◌<◌, Bool, true, false, List, refl, sym, ap, subst, arith}
use Rattle.std.specs.Prelude.{unwrap_or}
use Rattle.il_values.specs.declared.value.Stop.TheVariants as stops
use Rattle.il_model.specs.Program.{Program}
use Rattle.ctl_model.specs.State.{State}
use Rattle.ctl_model.specs.Step as steps
use Rattle.ctl_model.specs.Step.{Outcome, step}
use Rattle.ctl_model.specs.Scan.{RunEnd, Done, Held, Stopped, after, ends_before, run_from, run_from_break, one_step_run, is_past_end, is_break}
use Rattle.ctl_model.proofs.Turns.{Before, Past, Out, On, before, ends_past, ends_out, ends_not, ran_past, ran_out, ran_break, ran_turn}

-- a run that came to its end, or to a stop, came to the other's; a held one has that before it
abbrev pub Agrees : Program → ℕ → List Bool → ℕ → RunEnd → RunEnd → Type 0
Agrees Q now none budget (Done s) r = r ≡ Done s
Agrees Q now none budget (Stopped stop s) r = r ≡ Stopped stop s
Agrees Q now none budget (Held performed s) r = (r ≡ run_from Q now none budget performed s) × (is_past_end Q s ≡ false) × (performed < budget)

abbrev pub HasNone : List Bool → Type 0
HasNone none = (p : ℕ) → is_break none p ≡ false

agrees_by : (Q : Program) (now : ℕ) (none : List Bool) (budget : ℕ) (r r1 q q1 : RunEnd) → r ≡ r1 → q ≡ q1 → Agrees Q now none budget r1 q1 → Agrees Q now none budget r q
agrees_by Q now none budget r r1 q q1 e f h = subst (λ x. Agrees Q now none budget x q) (sym e) (subst (λ y. Agrees Q now none budget r1 y) (sym f) h)

after_agrees : (Q : Program) (now : ℕ) (none : List Bool) (budget : ℕ) (s : State) (o : Outcome) (f g : State → RunEnd) → ((t : State) → Agrees Q now none budget (f t) (g t)) → Agrees Q now none budget (after s o f) (after s o g)
after_agrees Q now none budget s (steps.Next t) f g h = h t
after_agrees Q now none budget s (steps.End t) f g h = refl
after_agrees Q now none budget s (steps.Stopped stop t) f g h = refl
after_agrees Q now none budget s steps.Stuck f g h = refl

turn_agrees : (Q : Program) (now : ℕ) (none br : List Bool) → HasNone none → (budget performed : ℕ) (s : State) → Before Q budget performed s
    → (performed < budget → (t : State) → Agrees Q now none budget (run_from Q now br budget (performed + 1) t) (run_from Q now none budget (performed + 1) t))
    → Agrees Q now none budget (run_from Q now br budget performed s) (run_from Q now none budget performed s)
turn_agrees Q now none br nb budget performed s (Past h) more =
    agrees_by Q now none budget _ (Done s) _ (Done s) (ran_past Q now br budget performed s h) (ran_past Q now none budget performed s h) refl
turn_agrees Q now none br nb budget performed s (Out h used) more =
    agrees_by Q now none budget _ (Stopped stops.Budget s) _ (Stopped stops.Budget s) (ran_out Q now br budget performed s h used) (ran_out Q now none budget performed s h used) refl
turn_agrees Q now none br nb budget performed s (On h some) more =
    elim (is_break br s.position) as (λ b. is_break br s.position ≡ b → Agrees Q now none budget (run_from Q now br budget performed s) (run_from Q now none budget performed s)) [
      | true ↦ λ k. agrees_by Q now none budget _ (Held performed s) _ _ (ran_break Q now br budget performed s h some k) refl (refl, h, some)
      | false ↦ λ k. agrees_by Q now none budget _ _ _ _ (ran_turn Q now br budget performed s h some k) (ran_turn Q now none budget performed s h some (nb s.position))
          (after_agrees Q now none budget s (step Q now s) _ _ (more some))
    ] refl

left_agrees : (Q : Program) (now : ℕ) (none br : List Bool) → HasNone none → (budget n performed : ℕ) (s : State) → budget ≤ performed + n → Agrees Q now none budget (run_from Q now br budget performed s) (run_from Q now none budget performed s)
left_agrees Q now none br nb budget zero performed s le = turn_agrees Q now none br nb budget performed s (before Q budget performed s) (λ some. absurd (omega (arith, le, some)))
left_agrees Q now none br nb budget (suc n) performed s le =
    turn_agrees Q now none br nb budget performed s (before Q budget performed s) (λ some t. left_agrees Q now none br nb budget n (performed + 1) t (omega (arith, le)))

pub run_agrees : (Q : Program) (now : ℕ) (none br : List Bool) → HasNone none → (budget performed : ℕ) (s : State) → Agrees Q now none budget (run_from Q now br budget performed s) (run_from Q now none budget performed s)
run_agrees Q now none br nb budget performed s = left_agrees Q now none br nb budget budget performed s (omega arith)

pub over_agrees : (Q : Program) (now : ℕ) (none br : List Bool) → HasNone none → (budget performed : ℕ) (s : State) → is_past_end Q s ≡ false → performed < budget → Agrees Q now none budget (run_from_break Q now br budget performed s) (run_from Q now none budget performed s)
over_agrees Q now none br nb budget performed s h some =
    agrees_by Q now none budget _ _ _ _ refl (ran_turn Q now none budget performed s h some (nb s.position)) (after_agrees Q now none budget s (step Q now s) _ _ (run_agrees Q now none br nb budget (performed + 1)))

-- ---- one instruction

stands_agrees : (Q : Program) (now : ℕ) (none : List Bool) (budget performed : ℕ) (s : State) → Before Q budget performed s → Agrees Q now none budget (unwrap_or (ends_before Q budget performed s) (Held performed s)) (run_from Q now none budget performed s)
stands_agrees Q now none budget performed s (Past h) =
    agrees_by Q now none budget _ (Done s) _ (Done s) (ap (λ o. unwrap_or o (Held performed s)) (ends_past Q budget performed s h)) (ran_past Q now none budget performed s h) refl
stands_agrees Q now none budget performed s (Out h used) =
    agrees_by Q now none budget _ (Stopped stops.Budget s) _ (Stopped stops.Budget s) (ap (λ o. unwrap_or o (Held performed s)) (ends_out Q budget performed s h used)) (ran_out Q now none budget performed s h used) refl
stands_agrees Q now none budget performed s (On h some) =
    agrees_by Q now none budget _ (Held performed s) _ _ (ap (λ o. unwrap_or o (Held performed s)) (ends_not Q budget performed s h some)) refl (refl, h, some)

pub one_agrees : (Q : Program) (now : ℕ) (none : List Bool) → HasNone none → (budget performed : ℕ) (s : State) → is_past_end Q s ≡ false → performed < budget → Agrees Q now none budget (one_step_run Q now budget performed s) (run_from Q now none budget performed s)
one_agrees Q now none nb budget performed s h some =
    agrees_by Q now none budget _ _ _ _ refl (ran_turn Q now none budget performed s h some (nb s.position))
    (after_agrees Q now none budget s (step Q now s) _ _ (λ t. stands_agrees Q now none budget (performed + 1) t (before Q budget (performed + 1) t)))
