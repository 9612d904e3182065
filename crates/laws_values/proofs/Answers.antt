-- What each command answers with outputs, and what is seen then.
use Rattle.std.proofs.Common.{◌≡◌, cond, ℕ, Bool, true, false, Option, Some, None, refl, ap}
use Rattle.std.specs.Prelude.{IfSome, Result, Ok, Err}
use Rattle.il_values.specs.declared.value.Value.{Value}
use Rattle.il_model.specs.declared.cells.Cells.{Cells}
use Rattle.il_model.specs.declared.cells.InImage.{InImage}
use Rattle.il_model.specs.declared.command.Answer.{Answer}
use Rattle.il_model.specs.declared.command.Answer.TheVariants as answers
use Rattle.il_model.specs.declared.command.Command.{Command}
use Rattle.il_model.specs.declared.command.Command.TheVariants as commands
use Rattle.il_model.specs.declared.command.Refusal.{Refusal}
use Rattle.il_model.specs.declared.program.Loc.{Loc}
use Rattle.il_model.specs.Program.{Program}
use Rattle.il_records.specs.declared.fault.LoadFault.{LoadFault}
use Rattle.il_loader.specs.Judging.{image_of}
use Rattle.ctl_model.specs.declared.forces.Forces.{Forces}
use Rattle.ctl_model.specs.declared.phase.Phase.{Phase}
use Rattle.ctl_model.specs.declared.phase.Phase.TheVariants as phases
use Rattle.ctl_model.specs.Forces.{with_forces}
use Rattle.ctl_model.specs.Snapshots.{forced_slots, saved_phase}
use Rattle.ctl_model.specs.Scan.{Cycle, RunEnd, Done, Held, Stopped, scan_result, scan_start, with_force, without_force}
use Rattle.ctl_model.specs.Commands.{Control, force_answer, if_held, on_break, on_force, on_scan, on_unforce, result_read, scan_answer, value_answer}
use Rattle.ctl_scan.specs.Kept.{AreMasks}
use Rattle.ctl_debugger.specs.Outcome.{if_idle, on_image}
use Rattle.ctl_debugger.specs.Owned.{Owned, with_control}
use Rattle.plc_values.specs.Values.{released, released_in, saved}
use Rattle.laws_values.specs.Released.{SeesForces, SeesWhatWasReleased, outputs_in, unless_stopped}
use Rattle.laws_values.proofs.Over.{laid_slots}

-- ---- what is seen has the forces over it

by_phase : (f : Forces) (cells : Cells) (phase : Phase) (performed : ℕ) → AreMasks f → released_in (saved_phase phase performed) cells (forced_slots f) ≡ unless_stopped phase (with_forces f.output cells)
by_phase f cells phases.Idle performed are = laid_slots f cells are
by_phase f cells phases.Held performed are = laid_slots f cells are
by_phase f cells (phases.Stopped stop) performed are = refl

pub sees_forces : (o : Owned) → SeesForces o
sees_forces o are = by_phase o.control.cycle.forces o.control.cycle.state.output o.control.phase o.control.cycle.performed are

-- ---- answers

-- what is seen behind this answer is what it releases, if it releases outputs
abbrev Sees : Answer × Owned → Type 0
Sees x = IfSome (outputs_in x.0) (λ cells. released (saved x.1) ≡ cells)

by_run : (o : Owned) (s : Control) (c : Cycle) (r : RunEnd) → AreMasks c.forces → Sees (with_control o (scan_answer s (scan_result c r)))
by_run o s c (Done t) are = laid_slots c.forces t.output are
by_run o s c (Held performed t) are = tt
by_run o s c (Stopped stop t) are = refl

by_scan : (o : Owned) (inputs : InImage) (moment : ℕ) (phase : Phase) → o.control.phase ≡ phase → AreMasks o.control.cycle.forces → Sees (with_control o (on_scan o.program o.budget o.control inputs moment phase))
by_scan o inputs moment phases.Idle e are = by_run o o.control (scan_start o.control.cycle inputs moment) _ are
by_scan o inputs moment phases.Held e are = tt
by_scan o inputs moment (phases.Stopped stop) e are = ap (λ phase. released_in (saved_phase phase o.control.cycle.performed) o.control.cycle.state.output (forced_slots o.control.cycle.forces)) e

by_held : (o : Owned) (c : Cycle) (r : RunEnd) (phase : Phase) → AreMasks c.forces → Sees (with_control o (if_held o.control (scan_result c r) phase))
by_held o c r phases.Idle are = tt
by_held o c r phases.Held are = by_run o o.control c r are
by_held o c r (phases.Stopped stop) are = tt

by_test : (o : Owned) (s t : Control) (is_there : Bool) (why : Refusal) → Sees (with_control o (cond is_there (answers.Done, s) (answers.Refused why, t)))
by_test o s t true why = tt
by_test o s t false why = tt

by_break : (o : Owned) (p : ℕ) (set : Bool) → Sees (with_control o (on_break o.program o.control p set))
by_break o p set = by_test o _ _ _ _

by_cycle : (o : Owned) (it : Option Cycle) → Sees (with_control o (force_answer o.control it))
by_cycle o None = tt
by_cycle o (Some c) = tt

by_force : (o : Owned) (v : Value) (place : Option Loc) → Sees (with_control o (on_force o.control v place))
by_force o v None = tt
by_force o v (Some loc) = by_cycle o (with_force o.control.cycle loc v)

by_unforce : (o : Owned) (place : Option Loc) → Sees (with_control o (on_unforce o.control place))
by_unforce o None = tt
by_unforce o (Some loc) = by_cycle o (without_force o.control.cycle loc)

by_value : (o : Owned) (v : Option Value) (why : Refusal) → Sees (with_control o (value_answer o.control v why))
by_value o None why = tt
by_value o (Some v) why = tt

by_result : (o : Owned) (phase : Phase) → Sees (with_control o (result_read o.control phase))
by_result o phases.Idle = tt
by_result o phases.Held = by_value o o.control.cycle.state.cr _
by_result o (phases.Stopped stop) = by_value o o.control.cycle.state.cr _

by_image : (o : Owned) (read : Result Program LoadFault) (phase : Phase) → Sees (if_idle o (on_image o read) phase)
by_image o (Ok R) phases.Idle = tt
by_image o (Err fault) phases.Idle = tt
by_image o read phases.Held = tt
by_image o read (phases.Stopped stop) = tt

-- ---- the table

pub sees : (o : Owned) (command : Command) → SeesWhatWasReleased o command
sees o (commands.Scan inputs moment) are = by_scan o inputs moment o.control.phase refl are
sees o (commands.SetBreak p) are = by_break o p true
sees o (commands.ClearBreak p) are = by_break o p false
sees o commands.Step are = by_held o o.control.cycle _ o.control.phase are
sees o commands.Continue are = by_held o o.control.cycle _ o.control.phase are
sees o (commands.Force slot v) are = by_force o v _
sees o (commands.Unforce slot) are = by_unforce o _
sees o (commands.ReadVar slot) are = by_value o _ _
sees o commands.ReadCr are = by_result o o.control.phase
sees o commands.Reset are = tt
sees o commands.Warm are = tt
sees o (commands.Change bytes) are = by_image o (image_of bytes) o.control.phase
