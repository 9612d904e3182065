use Rattle.std.proofs.Common.{arith, sym}
use Rattle.il_model.proofs.CodedOperands.{loc_small}
use Rattle.il_model.proofs.WrittenLocations.{location_named}
use Rattle.ctl_debugger.proofs.names.location_slot.Goals as goal

pub overflow_cast-result : goal.overflow_cast-result
overflow_cast-result c = omega (arith, loc_small c.in_ok-found.found (location_named c.dialect.result c.args.name.now c.in_ok-found.found (sym c.in_ok-found.ensures)).0, c.code.ensures)
