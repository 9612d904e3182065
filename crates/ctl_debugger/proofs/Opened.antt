-- What a scan leaves open.
use Rattle.std.proofs.Common.{◌≡◌, ℕ, ◌<◌, List, Bool, length, refl, subst, sym}
use Rattle.il_model.specs.Program.{Program}
use Rattle.il_model.specs.Typing.{IsTyped}
use Rattle.ctl_model.specs.declared.phase.ScanOut.{ScanOut}
use Rattle.ctl_model.specs.Suits.{Suits}
use Rattle.ctl_model.specs.Scan.{Cycle, RunEnd, Done, Held, Stopped, run_from, run_from_break, one_step_run, scan_out, cycle_after, scan_result, scan_run, scan_run_over, scan_step}
use Rattle.ctl_model.specs.Commands.{phase_of}
use Rattle.ctl_debugger.specs.Owned.{IsOpen}
use Rattle.ctl_debugger.proofs.Opens.{IsBefore, run_before, over_before, one_before}

opened : (Q : Program) (c : Cycle) (r : RunEnd) → IsBefore Q r → IsOpen Q (phase_of (scan_out c r)) (cycle_after c r)
opened Q c (Done s) h = (refl, refl)
opened Q c (Held performed s) h = h
opened Q c (Stopped stop s) h = (h, refl)

opened_so : (Q : Program) (c : Cycle) (r : RunEnd) (x : ScanOut × Cycle) → x ≡ scan_result c r → IsBefore Q r → IsOpen Q (phase_of x.0) x.1
opened_so Q c r x e h = subst (λ (y : ScanOut × Cycle). IsOpen Q (phase_of y.0) y.1) (sym e) (opened Q c r h)

pub run_opens : (Q : Program) (br : List Bool) (budget : ℕ) (c new : Cycle) (out : ScanOut) → IsTyped Q → Suits Q c.state → (out, new) ≡ scan_run Q br budget c → IsOpen Q (phase_of out) new
run_opens Q br budget c new out typed suits e = opened_so Q c (run_from Q c.moment br budget c.performed c.state) (out, new) e (run_before Q c.moment br typed budget c.performed c.state suits)

pub over_opens : (Q : Program) (br : List Bool) (budget : ℕ) (c new : Cycle) (out : ScanOut) → IsTyped Q → Suits Q c.state → c.state.position < length Q.code → (out, new) ≡ scan_run_over Q br budget c → IsOpen Q (phase_of out) new
over_opens Q br budget c new out typed suits here e = opened_so Q c (run_from_break Q c.moment br budget c.performed c.state) (out, new) e (over_before Q c.moment br typed budget c.performed c.state suits here)

pub step_opens : (Q : Program) (budget : ℕ) (c new : Cycle) (out : ScanOut) → IsTyped Q → Suits Q c.state → c.state.position < length Q.code → (out, new) ≡ scan_step Q budget c → IsOpen Q (phase_of out) new
step_opens Q budget c new out typed suits here e = opened_so Q c (one_step_run Q c.moment budget c.performed c.state) (out, new) e (one_before Q c.moment typed budget c.performed c.state suits here)
