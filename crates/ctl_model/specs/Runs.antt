-- What a run comes to, said case by case. Each case that is no end performs one instruction; none counts anything down.
use Rattle.std.specs.Prelude.{◌≡◌, ℕ, ◌+◌, ◌<◌, ◌≤◌, Bool, true, false, List, length, [], ◌∷◌}
use Rattle.il_values.specs.declared.value.Stop.{Stop}
use Rattle.il_model.specs.declared.command.Command.{Command}
use Rattle.il_model.specs.declared.command.Answer.{Answer}
use Rattle.il_model.specs.declared.cells.InImage.{InImage}
use Rattle.il_values.specs.declared.value.Stop.TheVariants as stops
use Rattle.il_model.specs.declared.command.Command.TheVariants as commands
use Rattle.il_model.specs.declared.command.Answer.TheVariants as answers
use Rattle.il_model.specs.Program.{Program}
use Rattle.ctl_model.specs.declared.phase.ScanOut.{ScanOut}
use Rattle.ctl_model.specs.declared.phase.Phase.TheVariants as phases
use Rattle.ctl_model.specs.State.{State}
use Rattle.ctl_model.specs.Step.{Outcome, step}
use Rattle.ctl_model.specs.Step as steps
use Rattle.ctl_model.specs.Scan.{RunEnd, Done, Held, Stopped, is_break, Cycle, scan_start, scan_result}
use Rattle.ctl_model.specs.Commands.{Control, scan_answer, no_breaks, command_outcome}
use Rattle.ctl_model.specs.Suits.{AreCells}

-- an instruction is performed, with so many performed before it, and has that outcome: there is one at the position,
-- something is left of the budget, and no breakpoint stands there
pub record IsTurn (Q : Program) (now : ℕ) (breaks : List Bool) (budget performed : ℕ) (s : State) (o : Outcome)
    : Type 0 where
  pub within : s.position < length Q.code
  pub left : performed < budget
  pub unbroken : is_break breaks s.position ≡ false
  pub outcome : step Q now s ≡ o

-- a run at a moment, with so many instructions performed of its budget, comes from a state to an end
pub data Runs (Q : Program) (now : ℕ) (breaks : List Bool) (budget : ℕ) : ℕ → State → RunEnd → Type 0 where
  -- past the last instruction it is done
  Past : {performed : ℕ} {s : State} → length Q.code ≤ s.position → Runs Q now breaks budget performed s (Done s)
  -- else with its budget used up it is stopped
  UsedUp : {performed : ℕ} {s : State} → s.position < length Q.code → budget ≤ performed
      → Runs Q now breaks budget performed s (Stopped stops.Budget s)
  -- else at a breakpoint it is held
  Breaks : {performed : ℕ} {s : State} → s.position < length Q.code → performed < budget
      → is_break breaks s.position ≡ true → Runs Q now breaks budget performed s (Held performed s)
  -- else the instruction is performed: it ends the run, or stops it, or the run goes on behind it
  Ends : {performed : ℕ} {s t : State} → IsTurn Q now breaks budget performed s (steps.End t)
      → Runs Q now breaks budget performed s (Done t)
  Stops : {performed : ℕ} {s t : State} {stop : Stop} → IsTurn Q now breaks budget performed s (steps.Stopped stop t)
      → Runs Q now breaks budget performed s (Stopped stop t)
  Steps : {performed : ℕ} {s t : State} {r : RunEnd} → IsTurn Q now breaks budget performed s (steps.Next t)
      → Runs Q now breaks budget (performed + 1) t r → Runs Q now breaks budget performed s r

-- what a run over an instruction with that outcome comes to, where Rest says what it comes to from the next one on
abbrev pub ComesTo : Outcome → (State → RunEnd → Type 0) → RunEnd → Type 0
ComesTo (steps.Next t) Rest r = Rest t r
ComesTo (steps.End t) Rest r = r ≡ Done t
ComesTo (steps.Stopped stop t) Rest r = r ≡ Stopped stop t
ComesTo steps.Stuck Rest r = ⊥

-- the same over the instruction that a scan is held at, whatever stands there
abbrev pub RunsOver : Program → ℕ → List Bool → ℕ → ℕ → State → RunEnd → Type 0
RunsOver Q now breaks budget performed s r = ComesTo (step Q now s) (Runs Q now breaks budget (performed + 1)) r

-- it comes to this end, and to no other
pub record IsOnlyEnd (Comes : RunEnd → Type 0) (r : RunEnd) : Type 0 where
  pub comes : Comes r
  pub only : (other : RunEnd) → Comes other → other ≡ r

-- ---- scans

-- what a scan tells and leaves is what the one end of its run says
pub record TellsEnd (Comes : RunEnd → Type 0) (c : Cycle) (x : ScanOut × Cycle) : Type 0 where
  pub end : RunEnd
  pub is : IsOnlyEnd Comes end
  pub told : x ≡ scan_result c end

-- an open scan runs on; a held one over the instruction that it is held at
abbrev pub ScanRuns : Program → List Bool → ℕ → Cycle → ScanOut × Cycle → Type 0
ScanRuns Q breaks budget c x = TellsEnd (Runs Q c.moment breaks budget c.performed c.state) c x

abbrev pub ScanRunsOver : Program → List Bool → ℕ → Cycle → ScanOut × Cycle → Type 0
ScanRunsOver Q breaks budget c x = TellsEnd (RunsOver Q c.moment breaks budget c.performed c.state) c x

-- ---- commands

-- what a scan tells and leaves, as an answer with the state that is left
pub record AnswersScan (s : Control) (Tells : ScanOut × Cycle → Type 0) (x : Answer × Control) : Type 0 where
  pub out : ScanOut × Cycle
  pub tells : Tells out
  pub answered : x ≡ scan_answer s out

-- a command that runs a scan on is answered by the one end of that run; of all others this says nothing
abbrev pub AnswersRun : Program → ℕ → Control → Command → Answer × Control → Type 0
AnswersRun Q budget s (commands.Scan inputs moment) x =
    s.phase ≡ phases.Idle → AnswersScan s (ScanRuns Q s.breaks budget (scan_start s.cycle inputs moment)) x
AnswersRun Q budget s commands.Continue x =
    s.phase ≡ phases.Held → AnswersScan s (ScanRunsOver Q s.breaks budget s.cycle) x
AnswersRun Q budget s _ x = Unit {0}

-- the inputs of a scan have a value for each of their cells
abbrev pub HasWholeInputs : Command → Type 0
HasWholeInputs (commands.Scan inputs moment) = AreCells inputs.cells
HasWholeInputs _ = Unit {0}

-- ---- a scan that is carried on by Step and Continue, and what it comes to

-- the commands that carry a held scan on
pub data Onward : Type 0 where
  Step : Onward
  Continue : Onward

abbrev pub command_of : Onward → Command
command_of Step = commands.Step
command_of Continue = commands.Continue

-- a held scan goes on; what came to an end stays
abbrev pub outcome_after : Program → ℕ → Answer × Control → Onward → Answer → Answer × Control
outcome_after Q budget x g (answers.Held p) = command_outcome Q budget x.1 (command_of g)
outcome_after Q budget x g a = x

abbrev pub outcome_after_all : Program → ℕ → Answer × Control → List Onward → Answer × Control
outcome_after_all Q budget x [] = x
outcome_after_all Q budget x (g ∷ gs) = outcome_after_all Q budget (outcome_after Q budget x g x.0) gs

abbrev pub is_held : Answer → Bool
is_held (answers.Held p) = true
is_held a = false

-- the same state with no breakpoint
abbrev pub without_breaks : Program → Control → Control
without_breaks Q s = record s { breaks = no_breaks Q }

-- a scan with any breakpoints, carried on by Step and Continue alone until it ends, has the answer, and leaves the
-- state, that it has and leaves without breakpoints, the breakpoints aside
abbrev pub EndsTheSame : Program → ℕ → Control → InImage → ℕ → List Onward → Type 0
EndsTheSame Q budget s inputs moment gs =
    s.phase ≡ phases.Idle →
    is_held (outcome_after_all Q budget (command_outcome Q budget s (commands.Scan inputs moment)) gs).0 ≡ false →
    ((outcome_after_all Q budget (command_outcome Q budget s (commands.Scan inputs moment)) gs).0
    ≡ (command_outcome Q budget (without_breaks Q s) (commands.Scan inputs moment)).0)
    × (without_breaks Q (outcome_after_all Q budget (command_outcome Q budget s (commands.Scan inputs moment)) gs).1
    ≡ (command_outcome Q budget (without_breaks Q s) (commands.Scan inputs moment)).1)
