use Rattle.plc_tool.proofs.Unchanged.{too_long, unassembled}
use Rattle.plc_tool.proofs.changing.change_to.Goals as goal

pub returns-in_err-image-clause-refused : goal.returns-in_err-image-clause-refused
returns-in_err-image-clause-refused c = unassembled c.args.text.now _ c.from_residual.result c.from_residual.ensures.1 c.in_err-image.ensures.refused

pub returns-in_default-clause-refused : goal.returns-in_default-clause-refused
returns-in_default-clause-refused c = too_long c.args.text.now c.in_ok-image.image.items c.in_ok-image.ensures.found c.in_default.ensures.in_range.1
