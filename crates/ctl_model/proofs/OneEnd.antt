-- A run comes to one end: the one that is found by counting its budget down.
use Rattle.std.proofs.Common.{◌≡◌, ℕ, zero, suc, ◌+◌, ◌≤◌, ◌<◌, Bool, true, false, not, List, [], ◌∷◌, length, Option, refl, sym, ap, subst, ◌∙◌, arith}
use Rattle.std.specs.Prelude.{nat_lt}
use Rattle.std.proofs.lemmas.Bool.{lt-ltb, ltb-true, ltb-false, le-ltb}
use Rattle.il_model.specs.declared.cells.InImage.{InImage}
use Rattle.il_model.specs.declared.command.Command.{Command}
use Rattle.il_model.specs.declared.command.Command.TheVariants as commands
use Rattle.il_model.specs.Program.{Program}
use Rattle.il_model.specs.Typing.{IsTyped}
use Rattle.ctl_model.specs.declared.phase.ScanOut.{ScanOut}
use Rattle.ctl_model.specs.State.{State}
use Rattle.ctl_model.specs.Step as steps
use Rattle.ctl_model.specs.Step.{Outcome, step}
use Rattle.ctl_model.specs.Scan.{RunEnd, after, run_from, run_from_break, is_past_end, is_break, Cycle, scan_start, scan_run, scan_run_over}
use Rattle.ctl_model.specs.Commands.{Control, on_scan, if_held, command_outcome}
use Rattle.ctl_model.specs.Runs.{IsTurn, Runs, Past, UsedUp, Breaks, Ends, Stops, Steps, ComesTo, RunsOver, IsOnlyEnd, ScanRuns, ScanRunsOver, AnswersRun, HasWholeInputs}
use Rattle.ctl_model.specs.Forces.{overlay, with_forces}
use Rattle.ctl_model.specs.Suits.{AreCells, Suits, IsSafe}
use Rattle.ctl_model.proofs.NeverStuck.{never_stuck}
use Rattle.ctl_model.proofs.ColdSuits.{started_suits}
use Rattle.ctl_model.proofs.Turns as turns
use Rattle.ctl_model.proofs.Turns.{Before, before, ran_past, ran_out, ran_break, ran_turn}

-- ---- at most one

past_so : (Q : Program) (s : State) → length Q.code ≤ s.position → is_past_end Q s ≡ true
past_so Q s le = ap not (le-ltb s.position (length Q.code) le)

within_so : (Q : Program) (s : State) → s.position < length Q.code → is_past_end Q s ≡ false
within_so Q s lt = ap not (lt-ltb s.position (length Q.code) lt)

turn_so : (Q : Program) (now : ℕ) (br : List Bool) (budget performed : ℕ) (s : State) (o : Outcome) → IsTurn Q now br budget performed s o
    → run_from Q now br budget performed s ≡ after s o (run_from Q now br budget (performed + 1))
turn_so Q now br budget performed s o turn =
    ran_turn Q now br budget performed s (within_so Q s turn.within) turn.left turn.unbroken
    ∙ ap (λ (o : Outcome). after s o (run_from Q now br budget (performed + 1))) turn.outcome

pub runs_so : {Q : Program} {now : ℕ} {br : List Bool} {budget performed : ℕ} {s : State} {r : RunEnd} → Runs Q now br budget performed s r
    → run_from Q now br budget performed s ≡ r
runs_so {Q} {now} {br} {budget} (Past {performed = n} {s = s} le) = ran_past Q now br budget n s (past_so Q s le)
runs_so {Q} {now} {br} {budget} (UsedUp {performed = n} {s = s} lt used) = ran_out Q now br budget n s (within_so Q s lt) used
runs_so {Q} {now} {br} {budget} (Breaks {performed = n} {s = s} lt left is) = ran_break Q now br budget n s (within_so Q s lt) left is
runs_so {Q} {now} {br} {budget} (Ends {performed = n} {s = s} turn) = turn_so Q now br budget n s _ turn
runs_so {Q} {now} {br} {budget} (Stops {performed = n} {s = s} turn) = turn_so Q now br budget n s _ turn
runs_so {Q} {now} {br} {budget} (Steps {performed = n} {s = s} turn more) = turn_so Q now br budget n s _ turn ∙ runs_so more

-- ---- and there is one

within_by : (b : Bool) (Q : Program) (s : State) → nat_lt s.position (length Q.code) ≡ b → not b ≡ false → s.position < length Q.code
within_by true Q s e h = ltb-true s.position (length Q.code) e
within_by false Q s e h = absurd cc

past_by : (b : Bool) (Q : Program) (s : State) → nat_lt s.position (length Q.code) ≡ b → not b ≡ true → length Q.code ≤ s.position
past_by true Q s e h = absurd cc
past_by false Q s e h = ltb-false s.position (length Q.code) e

within : (Q : Program) (s : State) → is_past_end Q s ≡ false → s.position < length Q.code
within Q s h = within_by (nat_lt s.position (length Q.code)) Q s refl h

past : (Q : Program) (s : State) → is_past_end Q s ≡ true → length Q.code ≤ s.position
past Q s h = past_by (nat_lt s.position (length Q.code)) Q s refl h

turns_to : (Q : Program) (now : ℕ) (br : List Bool) (budget performed : ℕ) (s : State) (o : Outcome) (go : State → RunEnd) → IsTurn Q now br budget performed s o → IsSafe Q o
    → ((t : State) → Suits Q t → Runs Q now br budget (performed + 1) t (go t)) → Runs Q now br budget performed s (after s o go)
turns_to Q now br budget performed s (steps.Next t) go turn safe more = Steps turn (more t safe)
turns_to Q now br budget performed s (steps.End t) go turn safe more = Ends turn
turns_to Q now br budget performed s (steps.Stopped stop t) go turn safe more = Stops turn
turns_to Q now br budget performed s steps.Stuck go turn safe more = absurd safe

turn_runs : (Q : Program) (now : ℕ) (br : List Bool) → IsTyped Q → (budget performed : ℕ) (s : State) → Suits Q s → Before Q budget performed s
    → (performed < budget → (t : State) → Suits Q t → Runs Q now br budget (performed + 1) t (run_from Q now br budget (performed + 1) t))
    → Runs Q now br budget performed s (run_from Q now br budget performed s)
turn_runs Q now br typed budget performed s suits (turns.Past h) more =
    subst (Runs Q now br budget performed s) (sym (ran_past Q now br budget performed s h)) (Past (past Q s h))
turn_runs Q now br typed budget performed s suits (turns.Out h used) more =
    subst (Runs Q now br budget performed s) (sym (ran_out Q now br budget performed s h used)) (UsedUp (within Q s h) used)
turn_runs Q now br typed budget performed s suits (turns.On h some) more =
    elim (is_break br s.position) as (λ b. is_break br s.position ≡ b → Runs Q now br budget performed s (run_from Q now br budget performed s)) [
      | true ↦ λ k. subst (Runs Q now br budget performed s) (sym (ran_break Q now br budget performed s h some k)) (Breaks (within Q s h) some k)
      | false ↦ λ k. subst (Runs Q now br budget performed s) (sym (ran_turn Q now br budget performed s h some k))
          (turns_to Q now br budget performed s (step Q now s) _ (record { within = within Q s h; left = some; unbroken = k; outcome = refl }) (never_stuck Q now s typed suits) (more some))
    ] refl

left_runs : (Q : Program) (now : ℕ) (br : List Bool) → IsTyped Q → (budget n performed : ℕ) (s : State) → budget ≤ performed + n → Suits Q s
    → Runs Q now br budget performed s (run_from Q now br budget performed s)
left_runs Q now br typed budget zero performed s le suits =
    turn_runs Q now br typed budget performed s suits (before Q budget performed s) (λ some. absurd (omega (arith, le, some)))
left_runs Q now br typed budget (suc n) performed s le suits =
    turn_runs Q now br typed budget performed s suits (before Q budget performed s) (λ some t. left_runs Q now br typed budget n (performed + 1) t (omega (arith, le)))

run_runs : (Q : Program) (now : ℕ) (br : List Bool) → IsTyped Q → (budget performed : ℕ) (s : State) → Suits Q s
    → Runs Q now br budget performed s (run_from Q now br budget performed s)
run_runs Q now br typed budget performed s suits = left_runs Q now br typed budget budget performed s (omega arith) suits

pub one_end : (Q : Program) (now : ℕ) (br : List Bool) (budget performed : ℕ) (s : State) → IsTyped Q → Suits Q s
    → IsOnlyEnd (Runs Q now br budget performed s) (run_from Q now br budget performed s)
one_end Q now br budget performed s typed suits = record {
  comes = run_runs Q now br typed budget performed s suits;
  only = λ other is. sym (runs_so is);
}

-- ---- over an instruction

comes_by : (Q : Program) (s : State) (o : Outcome) (go : State → RunEnd) (Rest : State → RunEnd → Type 0) → IsSafe Q o → ((t : State) → Suits Q t → Rest t (go t)) → ComesTo o Rest (after s o go)
comes_by Q s (steps.Next t) go Rest safe more = more t safe
comes_by Q s (steps.End t) go Rest safe more = refl
comes_by Q s (steps.Stopped stop t) go Rest safe more = refl
comes_by Q s steps.Stuck go Rest safe more = absurd safe

only_by : (s : State) (o : Outcome) (go : State → RunEnd) (Rest : State → RunEnd → Type 0) (r : RunEnd) → ((t : State) → Rest t r → go t ≡ r) → ComesTo o Rest r → r ≡ after s o go
only_by s (steps.Next t) go Rest r so is = sym (so t is)
only_by s (steps.End t) go Rest r so is = is
only_by s (steps.Stopped stop t) go Rest r so is = is
only_by s steps.Stuck go Rest r so is = absurd is

pub one_end_over : (Q : Program) (now : ℕ) (br : List Bool) (budget performed : ℕ) (s : State) → IsTyped Q → Suits Q s
    → IsOnlyEnd (RunsOver Q now br budget performed s) (run_from_break Q now br budget performed s)
one_end_over Q now br budget performed s typed suits = record {
  comes = comes_by Q s (step Q now s) (run_from Q now br budget (performed + 1)) (Runs Q now br budget (performed + 1)) (never_stuck Q now s typed suits) (run_runs Q now br typed budget (performed + 1));
  only = λ other is. only_by s (step Q now s) (run_from Q now br budget (performed + 1)) (Runs Q now br budget (performed + 1)) other (λ t so. runs_so so) is;
}

-- ---- scans

pub scan_runs : (Q : Program) (br : List Bool) (budget : ℕ) (c : Cycle) (x : ScanOut × Cycle) → IsTyped Q → Suits Q c.state → x ≡ scan_run Q br budget c → ScanRuns Q br budget c x
scan_runs Q br budget c x typed suits told = record {
  end = run_from Q c.moment br budget c.performed c.state;
  is = one_end Q c.moment br budget c.performed c.state typed suits;
  told = told;
}

pub scan_runs_over : (Q : Program) (br : List Bool) (budget : ℕ) (c : Cycle) (x : ScanOut × Cycle) → IsTyped Q → Suits Q c.state → x ≡ scan_run_over Q br budget c → ScanRunsOver Q br budget c x
scan_runs_over Q br budget c x typed suits told = record {
  end = run_from_break Q c.moment br budget c.performed c.state;
  is = one_end_over Q c.moment br budget c.performed c.state typed suits;
  told = told;
}

-- ---- commands

length-overlay : {A : Type 0} (fs : List (Option A)) (xs : List A) → length (overlay fs xs) ≡ length xs
length-overlay [] xs = refl
length-overlay (f ∷ fs) [] = refl
length-overlay (f ∷ fs) (x ∷ xs) = ap suc (length-overlay fs xs)

started : (Q : Program) (c : Cycle) (inputs : InImage) (moment : ℕ) → Suits Q c.state → AreCells inputs.cells → Suits Q (scan_start c inputs moment).state
started Q c inputs moment suits are = started_suits Q c.state (with_forces c.forces.input inputs.cells) suits (record {
  bits = length-overlay c.forces.input.bits inputs.cells.bits ∙ are.bits;
  words = length-overlay c.forces.input.words inputs.cells.words ∙ are.words;
})

pub answers_run : (Q : Program) (budget : ℕ) (s : Control) (c : Command) → IsTyped Q → Suits Q s.cycle.state → HasWholeInputs c → AnswersRun Q budget s c (command_outcome Q budget s c)
answers_run Q budget s (commands.Scan inputs moment) typed suits are =
    λ idle. (
    let begun = scan_start s.cycle inputs moment in
    record {
      out = scan_run Q s.breaks budget begun;
      tells = scan_runs Q s.breaks budget begun (scan_run Q s.breaks budget begun) typed (started Q s.cycle inputs moment suits are) refl;
      answered = ap (on_scan Q budget s inputs moment) idle;
    })
answers_run Q budget s commands.Continue typed suits are =
    λ held. record {
      out = scan_run_over Q s.breaks budget s.cycle;
      tells = scan_runs_over Q s.breaks budget s.cycle (scan_run_over Q s.breaks budget s.cycle) typed suits refl;
      answered = ap (if_held s (scan_run_over Q s.breaks budget s.cycle)) held;
    }
answers_run Q budget s (commands.SetBreak p) typed suits are = tt
answers_run Q budget s (commands.ClearBreak p) typed suits are = tt
answers_run Q budget s commands.Step typed suits are = tt
answers_run Q budget s (commands.Force slot v) typed suits are = tt
answers_run Q budget s (commands.Unforce slot) typed suits are = tt
answers_run Q budget s (commands.ReadVar slot) typed suits are = tt
answers_run Q budget s commands.ReadCr typed suits are = tt
answers_run Q budget s commands.Reset typed suits are = tt
answers_run Q budget s commands.Warm typed suits are = tt
answers_run Q budget s (commands.Change image) typed suits are = tt
