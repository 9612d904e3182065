-- A controller and its mirror.
use Rattle.std.proofs.Common.{◌≡◌, ℕ, Bool, true, false, refl, sym, ap, subst, ◌∙◌, Option, Some, None, Result, Ok, Err}
use Rattle.std.specs.Prelude.{if◌then◌else◌, nat_lt, length, List, slice_set}
use Rattle.std.specs.Option.{option_map}
use Rattle.il_values.specs.declared.value.Value.{Value}
use Rattle.il_model.specs.declared.program.Loc.{Loc}
use Rattle.il_model.specs.declared.cells.InImage.{InImage}
use Rattle.il_model.specs.declared.command.Answer.{Answer}
use Rattle.il_model.specs.declared.command.Answer.TheVariants as answers
use Rattle.il_model.specs.declared.command.Command.{Command}
use Rattle.il_model.specs.declared.command.Command.TheVariants as commands
use Rattle.il_model.specs.declared.command.Refusal.{Refusal}
use Rattle.il_model.specs.declared.command.Refusal.TheVariants as refusals
use Rattle.il_model.specs.Program.{Program}
use Rattle.il_records.specs.declared.fault.LoadFault.{LoadFault}
use Rattle.il_loader.specs.Judging.{image_of}
use Rattle.ctl_model.specs.declared.forces.Forces.{Forces}
use Rattle.ctl_model.specs.declared.phase.Phase.{Phase}
use Rattle.ctl_model.specs.declared.phase.Phase.TheVariants as phases
use Rattle.ctl_model.specs.Forces.{put_force, lift_force}
use Rattle.ctl_model.specs.Scan.{Cycle, RunEnd, Done, Held, Stopped, one_step_run, run_from, run_from_break, scan_result, scan_start}
use Rattle.ctl_model.specs.Slots.{value_read}
use Rattle.ctl_model.specs.Commands.{Control, refusal_answer, scan_answer, on_scan, if_held, on_break, force_answer, on_force, on_unforce, value_answer, result_read, forcible_at, command_outcome}
use Rattle.ctl_debugger.specs.Owned.{Owned}
use Rattle.ctl_debugger.specs.Outcome.{outcome, on_image, if_idle}
use Rattle.plc_console.specs.Mirrored.{mirrored, IsMirror, StaysMirror}

-- the same of two controls
record Alike (s t : Control) : Type 0 where
  forces : t.cycle.forces ≡ s.cycle.forces
  breaks : t.breaks ≡ s.breaks
  idle : t.phase ≡ phases.Idle

-- what the mirror has, where the controller answered so
abbrev taken : Answer → Control → Control → Control
taken answers.Done new old = new
taken answer new old = old

-- the controller comes to x, and the mirror would come to y
abbrev Follows : Control → Answer × Control → Answer × Control → Type 0
Follows t x y = Alike x.1 (taken x.0 y.1 t)

-- a run leaves the forces as they are
ran : (s t : Control) (c : Cycle) (r : RunEnd) (y : Answer × Control) → c.forces ≡ s.cycle.forces → Alike s t → Follows t (scan_answer s (scan_result c r)) y
ran s t c (Done state) y e h = record { forces = h.forces ∙ sym e; breaks = h.breaks; idle = h.idle }
ran s t c (Held performed state) y e h = record { forces = h.forces ∙ sym e; breaks = h.breaks; idle = h.idle }
ran s t c (Stopped stop state) y e h = record { forces = h.forces ∙ sym e; breaks = h.breaks; idle = h.idle }

scanned : (Q : Program) (budget : ℕ) (s t : Control) (inputs : InImage) (moment : ℕ) (p : Phase) (y : Answer × Control) → Alike s t → Follows t (on_scan Q budget s inputs moment p) y
scanned Q budget s t inputs moment phases.Idle y h = ran s t (scan_start s.cycle inputs moment) (run_from Q (scan_start s.cycle inputs moment).moment s.breaks budget (scan_start s.cycle inputs moment).performed (scan_start s.cycle inputs moment).state) y refl h
scanned Q budget s t inputs moment phases.Held y h = h
scanned Q budget s t inputs moment (phases.Stopped stop) y h = h

went_on : (s t : Control) (r : RunEnd) (p : Phase) (y : Answer × Control) → Alike s t → Follows t (if_held s (scan_result s.cycle r) p) y
went_on s t r phases.Held y h = ran s t s.cycle r y refl h
went_on s t r phases.Idle y h = h
went_on s t r (phases.Stopped stop) y h = h

broke_by : (s t : Control) (p : ℕ) (b there : Bool) → Alike s t
    → Follows t (if there then (answers.Done, record s { breaks = slice_set s.breaks p b }) else refusal_answer s refusals.BadPosition) (if there then (answers.Done, record t { breaks = slice_set t.breaks p b }) else refusal_answer t refusals.BadPosition)
broke_by s t p b true h = record { forces = h.forces; breaks = ap (λ (l : List Bool). slice_set l p b) h.breaks; idle = h.idle }
broke_by s t p b false h = h

broke : (Q R : Program) (s t : Control) (p : ℕ) (b : Bool) → R ≡ Q → Alike s t → Follows t (on_break Q s p b) (on_break R t p b)
broke Q R s t p b same h = subst (λ (P : Program). Follows t (on_break Q s p b) (on_break P t p b)) (sym same) (broke_by s t p b (nat_lt p (length Q.code)) h)

forced_same : (s t : Control) (f : Option Forces) → Alike s t → Follows t (force_answer s (option_map (λ (x : Forces). record s.cycle { forces = x }) f)) (force_answer t (option_map (λ (x : Forces). record t.cycle { forces = x }) f))
forced_same s t None h = h
forced_same s t (Some f) h = record { forces = refl; breaks = h.breaks; idle = h.idle }

forced_by : (s t : Control) (f g : Option Forces) → g ≡ f → Alike s t → Follows t (force_answer s (option_map (λ (x : Forces). record s.cycle { forces = x }) f)) (force_answer t (option_map (λ (x : Forces). record t.cycle { forces = x }) g))
forced_by s t f g same h = subst (λ (x : Option Forces). Follows t (force_answer s (option_map (λ (y : Forces). record s.cycle { forces = y }) f)) (force_answer t (option_map (λ (y : Forces). record t.cycle { forces = y }) x))) (sym same) (forced_same s t f h)

forced : (s t : Control) (v : Value) (l : Option Loc) → Alike s t → Follows t (on_force s v l) (on_force t v l)
forced s t v None h = h
forced s t v (Some loc) h = forced_by s t (put_force s.cycle.forces loc v) (put_force t.cycle.forces loc v) (ap (λ (f : Forces). put_force f loc v) h.forces) h

unforced : (s t : Control) (l : Option Loc) → Alike s t → Follows t (on_unforce s l) (on_unforce t l)
unforced s t None h = h
unforced s t (Some loc) h = forced_by s t (lift_force s.cycle.forces loc) (lift_force t.cycle.forces loc) (ap (λ (f : Forces). lift_force f loc) h.forces) h

told : (s t : Control) (v : Option Value) (why : Refusal) (y : Answer × Control) → Alike s t → Follows t (value_answer s v why) y
told s t None why y h = h
told s t (Some v) why y h = h

result_told : (s t : Control) (p : Phase) (y : Answer × Control) → Alike s t → Follows t (result_read s p) y
result_told s t phases.Idle y h = h
result_told s t phases.Held y h = told s t s.cycle.state.cr refusals.NoResult y h
result_told s t (phases.Stopped stop) y h = told s t s.cycle.state.cr refusals.NoResult y h

-- ---- the same of what is owned

alike : (o m : Owned) → IsMirror o m → Alike o.control m.control
alike o m h = record { forces = h.forces; breaks = h.breaks; idle = h.idle }

mirrors : (o m : Owned) (s t : Control) → m.program ≡ o.program → Alike s t → IsMirror (record o { control = s }) (record m { control = t })
mirrors o m s t program h = record { program = program; forces = h.forces; breaks = h.breaks; idle = h.idle }

-- what is ready was taken, by an answer that says done
pub followed : (m n : Owned) (a given : Answer) (command : Command) → a ≡ answers.Done → (given, n) ≡ outcome m command → n ≡ mirrored m command a
followed m n a given command done is = subst (λ (x : Answer). n ≡ mirrored m command x) (sym done) (ap (λ (x : Answer × Owned). x.1) is)

-- a command that is no change
lifted : (o m : Owned) (x y : Answer × Control) (command : Command) → (outcome m command).1 ≡ record m { control = y.1 } → m.program ≡ o.program → Follows m.control x y
    → IsMirror (record o { control = x.1 }) (mirrored m command x.0)
lifted o m (answers.Done, s) y command is program h = subst (λ (w : Owned). IsMirror (record o { control = s }) w) (sym is) (mirrors o m s y.1 program h)
lifted o m (answers.Outputs count image, s) y command is program h = record { program = program; forces = h.forces; breaks = h.breaks; idle = h.idle }
lifted o m (answers.Held p, s) y command is program h = record { program = program; forces = h.forces; breaks = h.breaks; idle = h.idle }
lifted o m (answers.Stopped stop p image, s) y command is program h = record { program = program; forces = h.forces; breaks = h.breaks; idle = h.idle }
lifted o m (answers.Value v, s) y command is program h = record { program = program; forces = h.forces; breaks = h.breaks; idle = h.idle }
lifted o m (answers.Refused why, s) y command is program h = record { program = program; forces = h.forces; breaks = h.breaks; idle = h.idle }

-- a change, where the controller is idle
loaded : (o m : Owned) (r : Result Program LoadFault) (command : Command) → (outcome m command).1 ≡ (on_image m r).1 → IsMirror o m
    → IsMirror (on_image o r).1 (mirrored m command (on_image o r).0)
loaded o m (Ok R) command is h = subst (λ (w : Owned). IsMirror (on_image o (Ok R)).1 w) (sym is) (record { program = refl; forces = h.forces; breaks = refl; idle = refl })
loaded o m (Err fault) command is h = h

changed : (o m : Owned) (r : Result Program LoadFault) (p : Phase) (command : Command) → (outcome m command).1 ≡ (on_image m r).1 → IsMirror o m
    → IsMirror (if_idle o (on_image o r) p).1 (mirrored m command (if_idle o (on_image o r) p).0)
changed o m r phases.Idle command is h = loaded o m r command is h
changed o m r phases.Held command is h = h
changed o m r (phases.Stopped stop) command is h = h

pub stays : StaysMirror
stays o m (commands.Scan inputs moment) h =
    lifted o m (on_scan o.program o.budget o.control inputs moment o.control.phase) (on_scan m.program m.budget m.control inputs moment m.control.phase) (commands.Scan inputs moment) refl h.program
    (scanned o.program o.budget o.control m.control inputs moment o.control.phase (on_scan m.program m.budget m.control inputs moment m.control.phase) (alike o m h))
stays o m (commands.SetBreak p) h =
    lifted o m (on_break o.program o.control p true) (on_break m.program m.control p true) (commands.SetBreak p) refl h.program (broke o.program m.program o.control m.control p true h.program (alike o m h))
stays o m (commands.ClearBreak p) h =
    lifted o m (on_break o.program o.control p false) (on_break m.program m.control p false) (commands.ClearBreak p) refl h.program (broke o.program m.program o.control m.control p false h.program (alike o m h))
stays o m commands.Step h =
    lifted o m (command_outcome o.program o.budget o.control commands.Step) (command_outcome m.program m.budget m.control commands.Step) commands.Step refl h.program
    (went_on o.control m.control (one_step_run o.program o.control.cycle.moment o.budget o.control.cycle.performed o.control.cycle.state) o.control.phase (command_outcome m.program m.budget m.control commands.Step) (alike o m h))
stays o m commands.Continue h =
    lifted o m (command_outcome o.program o.budget o.control commands.Continue) (command_outcome m.program m.budget m.control commands.Continue) commands.Continue refl h.program
    (went_on o.control m.control (run_from_break o.program o.control.cycle.moment o.control.breaks o.budget o.control.cycle.performed o.control.cycle.state) o.control.phase (command_outcome m.program m.budget m.control commands.Continue) (alike o m h))
stays o m (commands.Force slot v) h =
    lifted o m (on_force o.control v (forcible_at slot.0)) (on_force m.control v (forcible_at slot.0)) (commands.Force slot v) refl h.program (forced o.control m.control v (forcible_at slot.0) (alike o m h))
stays o m (commands.Unforce slot) h =
    lifted o m (on_unforce o.control (forcible_at slot.0)) (on_unforce m.control (forcible_at slot.0)) (commands.Unforce slot) refl h.program (unforced o.control m.control (forcible_at slot.0) (alike o m h))
stays o m (commands.ReadVar slot) h =
    lifted o m (command_outcome o.program o.budget o.control (commands.ReadVar slot)) (command_outcome m.program m.budget m.control (commands.ReadVar slot)) (commands.ReadVar slot) refl h.program (told o.control m.control (value_read o.program o.control.cycle.state slot.0) refusals.BadSlot (command_outcome m.program m.budget m.control (commands.ReadVar slot)) (alike o m h))
stays o m commands.ReadCr h =
    lifted o m (command_outcome o.program o.budget o.control commands.ReadCr) (command_outcome m.program m.budget m.control commands.ReadCr) commands.ReadCr refl h.program (result_told o.control m.control o.control.phase (command_outcome m.program m.budget m.control commands.ReadCr) (alike o m h))
stays o m commands.Reset h =
    lifted o m (command_outcome o.program o.budget o.control commands.Reset) (command_outcome m.program m.budget m.control commands.Reset) commands.Reset refl h.program (record { forces = h.forces; breaks = h.breaks; idle = refl })
stays o m commands.Warm h =
    lifted o m (command_outcome o.program o.budget o.control commands.Warm) (command_outcome m.program m.budget m.control commands.Warm) commands.Warm refl h.program (record { forces = h.forces; breaks = h.breaks; idle = refl })
stays o m (commands.Change bytes) h =
    changed o m (image_of bytes) o.control.phase (commands.Change bytes) (ap (λ (p : Phase). (if_idle m (on_image m (image_of bytes)) p).1) h.idle) h
