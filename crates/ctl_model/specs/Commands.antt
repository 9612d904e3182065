-- The command table of a controller of one program: for each state and each command the answer and the next state. A
-- change of the program is no command to it; the table with a change in it is `outcome` (`debugger/specs/Outcome`).
use Rattle.std.specs.Prelude.{ℕ, Bool, true, false, List, length, replicate, slice_set, Option, Some, None, nat_lt}
use Rattle.std.specs.Prelude.{if◌then◌else◌}
use Rattle.std.specs.Option.{option_and_then}
use Rattle.il_values.specs.declared.value.Value.{Value}
use Rattle.il_model.specs.declared.program.Area.TheVariants as areas
use Rattle.il_model.specs.declared.program.Loc.{Loc}
use Rattle.il_model.specs.declared.program.Loc.TheVariants.{Bit, Word, Pattern, Double}
use Rattle.il_model.specs.declared.cells.InImage.{InImage}
use Rattle.il_model.specs.declared.command.Command.{Command}
use Rattle.il_model.specs.declared.command.Command.TheVariants as commands
use Rattle.il_model.specs.declared.command.Answer.{Answer}
use Rattle.il_model.specs.declared.command.Answer.TheVariants as answers
use Rattle.il_model.specs.declared.command.Refusal.{Refusal}
use Rattle.il_model.specs.declared.command.Refusal.TheVariants as refusals
use Rattle.il_model.specs.Locations.{safe_image}
use Rattle.il_model.specs.CodedOperands.{any_loc}
use Rattle.il_model.specs.Program.{Program}
use Rattle.ctl_model.specs.declared.phase.Phase.{Phase}
use Rattle.ctl_model.specs.declared.phase.Phase.TheVariants as phases
use Rattle.ctl_model.specs.declared.phase.ScanOut.{ScanOut}
use Rattle.ctl_model.specs.declared.phase.ScanOut.TheVariants as outs
use Rattle.ctl_model.specs.Slots.{value_read}
use Rattle.ctl_model.specs.Scan.{Cycle, cold_cycle, scan_start, scan_run, scan_run_over, scan_step, with_force}
use Rattle.ctl_model.specs.Scan.{without_force, cold_again, warm_again}

-- what a controller keeps
pub record Control : Type 0 where
  pub cycle : Cycle
  -- a flag for each instruction
  pub breaks : List Bool
  pub phase : Phase

abbrev pub no_breaks : Program → List Bool
no_breaks Q = replicate (length Q.code) false

-- a controller that never ran
abbrev pub cold_control : Program → Control
cold_control Q = record { cycle = cold_cycle Q; breaks = no_breaks Q; phase = phases.Idle }

abbrev pub refusal_answer : Control → Refusal → Answer × Control
refusal_answer s why = (answers.Refused why, s)

-- ---- scans

-- what a scan tells, as an answer; a stop releases the safe image
abbrev pub answer_of : ℕ → ScanOut → Answer
answer_of count (outs.Done image) = answers.Outputs count image
answer_of count (outs.Held p) = answers.Held p
answer_of count (outs.Stopped stop p) = answers.Stopped stop p safe_image

abbrev pub phase_of : ScanOut → Phase
phase_of (outs.Done image) = phases.Idle
phase_of (outs.Held p) = phases.Held
phase_of (outs.Stopped stop p) = phases.Stopped stop

abbrev pub scan_answer : Control → ScanOut × Cycle → Answer × Control
scan_answer s x = (answer_of x.1.count x.0, record s { cycle = x.1; phase = phase_of x.0 })

-- a scan begins only where none is open; else the answer is as before, and nothing changes
abbrev pub on_scan : Program → ℕ → Control → InImage → ℕ → Phase → Answer × Control
on_scan Q budget s inputs moment phases.Idle =
    scan_answer s (scan_run Q s.breaks budget (scan_start s.cycle inputs moment))
on_scan Q budget s inputs moment phases.Held = (answers.Held s.cycle.state.position, s)
on_scan Q budget s inputs moment (phases.Stopped stop) = (answers.Stopped stop s.cycle.state.position safe_image, s)

-- a held scan goes on so
abbrev pub if_held : Control → ScanOut × Cycle → Phase → Answer × Control
if_held s x phases.Held = scan_answer s x
if_held s x phase = refusal_answer s refusals.NotHeld

-- ---- breakpoints and forces

abbrev pub on_break : Program → Control → ℕ → Bool → Answer × Control
on_break Q s p b = if nat_lt p (length Q.code) then (answers.Done, record s { breaks = slice_set s.breaks p b })
    else refusal_answer s refusals.BadPosition

-- bits and words of inputs and outputs can be forced; a variable's slot is none of them, wherever the variable lies
abbrev pub is_forcible : Loc → Bool
is_forcible (Bit areas.Memory n) = false
is_forcible (Word areas.Memory n) = false
is_forcible (Pattern area n) = false
is_forcible (Double area n t) = false
is_forcible loc = true

abbrev pub forcible : Loc → Option Loc
forcible loc = if is_forcible loc then Some loc else None

abbrev pub forcible_at : ℕ → Option Loc
forcible_at slot = option_and_then forcible (any_loc slot)

abbrev pub force_answer : Control → Option Cycle → Answer × Control
force_answer s None = refusal_answer s refusals.BadType
force_answer s (Some c) = (answers.Done, record s { cycle = c })

abbrev pub on_force : Control → Value → Option Loc → Answer × Control
on_force s v None = refusal_answer s refusals.BadSlot
on_force s v (Some loc) = force_answer s (with_force s.cycle loc v)

abbrev pub on_unforce : Control → Option Loc → Answer × Control
on_unforce s None = refusal_answer s refusals.BadSlot
on_unforce s (Some loc) = force_answer s (without_force s.cycle loc)

-- ---- questions

abbrev pub value_answer : Control → Option Value → Refusal → Answer × Control
value_answer s (Some v) why = (answers.Value v, s)
value_answer s None why = refusal_answer s why

-- the current result of a held or stopped scan
abbrev pub result_read : Control → Phase → Answer × Control
result_read s phases.Idle = refusal_answer s refusals.NotHeld
result_read s phase = value_answer s s.cycle.state.cr refusals.NoResult

-- ---- the table

abbrev pub command_outcome : Program → ℕ → Control → Command → Answer × Control
command_outcome Q budget s (commands.Scan inputs moment) = on_scan Q budget s inputs moment s.phase
command_outcome Q budget s (commands.SetBreak p) = on_break Q s p true
command_outcome Q budget s (commands.ClearBreak p) = on_break Q s p false
command_outcome Q budget s commands.Step = if_held s (scan_step Q budget s.cycle) s.phase
command_outcome Q budget s commands.Continue = if_held s (scan_run_over Q s.breaks budget s.cycle) s.phase
command_outcome Q budget s (commands.Force slot v) = on_force s v (forcible_at slot.0)
command_outcome Q budget s (commands.Unforce slot) = on_unforce s (forcible_at slot.0)
command_outcome Q budget s (commands.ReadVar slot) = value_answer s (value_read Q s.cycle.state slot.0) refusals.BadSlot
command_outcome Q budget s commands.ReadCr = result_read s s.phase
command_outcome Q budget s commands.Reset =
    (answers.Done, record s { cycle = cold_again Q s.cycle; phase = phases.Idle })
command_outcome Q budget s commands.Warm =
    (answers.Done, record s { cycle = warm_again Q s.cycle; phase = phases.Idle })
-- no contract reaches this row: each is of a command that is no change, or is by the table with a change in it
command_outcome Q budget s (commands.Change bytes) = refusal_answer s refusals.NotIdle
