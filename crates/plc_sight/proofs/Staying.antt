-- What each command leaves of what is forced.
use Rattle.std.proofs.Common.{◌≡◌, cond, ℕ, Bool, true, false, Option, Some, None, refl}
use Rattle.il_values.specs.declared.value.Value.{Value}
use Rattle.il_model.specs.declared.cells.InImage.{InImage}
use Rattle.il_model.specs.declared.command.Answer.{Answer}
use Rattle.il_model.specs.declared.command.Command.{Command}
use Rattle.il_model.specs.declared.command.Command.TheVariants as commands
use Rattle.il_model.specs.declared.command.Refusal.{Refusal}
use Rattle.ctl_model.specs.declared.phase.Phase.{Phase}
use Rattle.ctl_model.specs.declared.phase.Phase.TheVariants as phases
use Rattle.ctl_model.specs.Scan.{Cycle, RunEnd, Done, Held, Stopped, scan_result, scan_start}
use Rattle.ctl_model.specs.Commands.{Control, if_held, on_break, on_scan, result_read, scan_answer, value_answer}
use Rattle.ctl_debugger.specs.Owned.{Owned}
use Rattle.plc_sight.specs.Staying.{LeavesForces, leaves_forces}

-- an answer, and a control with the forces of this one
abbrev Leaves : Control → Answer × Control → Type 0
Leaves s x = x.1.cycle.forces ≡ s.cycle.forces

by_run : (s : Control) (c : Cycle) (r : RunEnd) → c.forces ≡ s.cycle.forces → Leaves s (scan_answer s (scan_result c r))
by_run s c (Done t) e = e
by_run s c (Held performed t) e = e
by_run s c (Stopped stop t) e = e

by_scan : (o : Owned) (inputs : InImage) (moment : ℕ) (phase : Phase) → Leaves o.control (on_scan o.program o.budget o.control inputs moment phase)
by_scan o inputs moment phases.Idle = by_run o.control (scan_start o.control.cycle inputs moment) _ refl
by_scan o inputs moment phases.Held = refl
by_scan o inputs moment (phases.Stopped stop) = refl

by_held : (s : Control) (r : RunEnd) (phase : Phase) → Leaves s (if_held s (scan_result s.cycle r) phase)
by_held s r phases.Idle = refl
by_held s r phases.Held = by_run s s.cycle r refl
by_held s r (phases.Stopped stop) = refl

by_test : (s : Control) (x y : Answer × Control) (is_there : Bool) → Leaves s x → Leaves s y → Leaves s (cond is_there x y)
by_test s x y true e f = e
by_test s x y false e f = f

by_break : (o : Owned) (p : ℕ) (set : Bool) → Leaves o.control (on_break o.program o.control p set)
by_break o p set = by_test o.control _ _ _ refl refl

by_value : (s : Control) (v : Option Value) (why : Refusal) → Leaves s (value_answer s v why)
by_value s None why = refl
by_value s (Some v) why = refl

by_result : (s : Control) (phase : Phase) → Leaves s (result_read s phase)
by_result s phases.Idle = refl
by_result s phases.Held = by_value s s.cycle.state.cr _
by_result s (phases.Stopped stop) = by_value s s.cycle.state.cr _

pub leaves : (c : Command) → leaves_forces c ≡ true → LeavesForces c
leaves (commands.Scan inputs moment) e o = by_scan o inputs moment o.control.phase
leaves (commands.SetBreak p) e o = by_break o p true
leaves (commands.ClearBreak p) e o = by_break o p false
leaves commands.Step e o = by_held o.control _ o.control.phase
leaves commands.Continue e o = by_held o.control _ o.control.phase
leaves (commands.Force slot v) e o = absurd cc
leaves (commands.Unforce slot) e o = absurd cc
leaves (commands.ReadVar slot) e o = by_value o.control _ _
leaves commands.ReadCr e o = by_result o.control o.control.phase
leaves commands.Reset e o = refl
leaves commands.Warm e o = refl
leaves (commands.Change bytes) e o = absurd cc
