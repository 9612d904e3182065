-- What is open stays open while forces change.
use Rattle.std.proofs.Common.{Option, None, Some}
use Rattle.std.specs.Prelude.{unwrap_or}
use Rattle.std.specs.Option.{option_map}
use Rattle.il_model.specs.Program.{Program}
use Rattle.ctl_model.specs.declared.forces.Forces.{Forces}
use Rattle.ctl_model.specs.declared.phase.Phase.{Phase}
use Rattle.ctl_model.specs.declared.phase.Phase.TheVariants as phases
use Rattle.ctl_model.specs.Scan.{Cycle}
use Rattle.ctl_debugger.specs.Owned.{IsOpen}

abbrev pub cycle_with : Cycle → Option Forces → Cycle
cycle_with c o = unwrap_or (option_map (λ (f : Forces). record c { forces = f }) o) c

with_these : (Q : Program) (p : Phase) (c : Cycle) (f : Forces) → IsOpen Q p c → IsOpen Q p (record c { forces = f })
with_these Q phases.Idle c f h = h
with_these Q phases.Held c f h = h
with_these Q (phases.Stopped stop) c f h = h

pub stays_open : (Q : Program) (p : Phase) (c : Cycle) (o : Option Forces) → IsOpen Q p c → IsOpen Q p (cycle_with c o)
stays_open Q p c None h = h
stays_open Q p c (Some f) h = with_these Q p c f h
