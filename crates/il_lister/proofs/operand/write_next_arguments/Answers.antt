use Rattle.std.proofs.Common.{arith}
use Rattle.il_lister.specs.Listing.{next_argument_text}
use Rattle.il_lister.proofs.Parts.{breaks, more}
use Rattle.il_lister.proofs.operand.write_next_arguments.Goals as goal

pub loop-argument-preserved : goal.loop-argument-preserved
loop-argument-preserved g c = more next_argument_text c.args.arguments.now c.loop-argument.argument-index c.argument-item.result (omega arith) c.argument-item.is c.loop-argument.invariant c.in_ok-write_next_argument.ensures

pub returns-in_err-write_next_argument : goal.returns-in_err-write_next_argument
returns-in_err-write_next_argument g c = breaks next_argument_text c.args.arguments.now c.loop-argument.argument-index c.argument-item.result (omega arith) c.argument-item.is c.loop-argument.invariant c.from_residual.ensures.0 c.in_err-write_next_argument.ensures
