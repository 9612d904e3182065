use Rattle.std.proofs.Common.{subst, sym}
use Rattle.il_values.proofs.RealValues.{real_again}
use Rattle.vr_wire.specs.Fields.{FitsValue}
use Rattle.vr_wire.proofs.value.know_fits.Goals as goal

pub returns-in-Real : goal.returns-in-Real
returns-in-Real c = subst FitsValue (sym c.in-Real.is) (real_again c.in-Real.field-0)
