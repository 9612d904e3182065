use Rattle.std.proofs.Common.{ap}
use Rattle.il_lister.specs.Listing.{arguments_text}
use Rattle.il_lister.proofs.Parts.{equally, stop, then}
use Rattle.il_lister.proofs.instruction.write_operation.Goals as goal

pub returns-in_err-write_operator : goal.returns-in_err-write_operator
returns-in_err-write_operator g c = stop _ c.from_residual.ensures.0 c.in_err-write_operator.ensures

pub returns-in_err-write_behind : goal.returns-in_err-write_behind
returns-in_err-write_behind g c = then c.in_ok-write_operator.ensures (stop _ c.from_residual-in_err-write_behind.ensures.0 c.in_err-write_behind.ensures)

pub returns : goal.returns
returns g c = then c.in_ok-write_operator.ensures (then c.in_ok-write_behind.ensures (equally (ap arguments_text c.as_slice.ensures) c.write_arguments.ensures))
