use Rattle.std.proofs.Common.{arith}
use Rattle.il_lister.specs.Listing.{line_text}
use Rattle.il_lister.proofs.Parts.{breaks, more}
use Rattle.il_lister.proofs.instruction.write_lines.Goals as goal

pub loop-line-preserved : goal.loop-line-preserved
loop-line-preserved g c = more line_text c.args.code.now c.loop-line.line-index c.line-item.result (omega arith) c.line-item.is c.loop-line.invariant c.in_ok-write_line.ensures

pub returns-in_err-write_line : goal.returns-in_err-write_line
returns-in_err-write_line g c = breaks line_text c.args.code.now c.loop-line.line-index c.line-item.result (omega arith) c.line-item.is c.loop-line.invariant c.from_residual.ensures.0 c.in_err-write_line.ensures
