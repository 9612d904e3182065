use Rattle.std.proofs.Common.{arith}
use Rattle.il_lister.proofs.Cases.{arguments_are}
use Rattle.il_lister.proofs.Parts.{equally, stop, then}
use Rattle.il_lister.proofs.operand.write_arguments.Goals as goal

pub returns-in_err-write_text : goal.returns-in_err-write_text
returns-in_err-write_text g c = equally (arguments_are c.args.arguments.now c.first-item.result (omega arith) c.first-item.is) (stop _ c.from_residual.ensures.0 c.in_err-write_text.ensures)

pub returns-in_err-write_argument : goal.returns-in_err-write_argument
returns-in_err-write_argument g c = equally (arguments_are c.args.arguments.now c.first-item.result (omega arith) c.first-item.is) (then c.in_ok-write_text.ensures (stop _ c.from_residual-in_err-write_argument.ensures.0 c.in_err-write_argument.ensures))

pub returns-in_err-write_next_arguments : goal.returns-in_err-write_next_arguments
returns-in_err-write_next_arguments g c = equally (arguments_are c.args.arguments.now c.first-item.result (omega arith) c.first-item.is) (then c.in_ok-write_text.ensures (then c.in_ok-write_argument.ensures (stop _ c.from_residual-in_err-write_next_arguments.ensures.0 c.in_err-write_next_arguments.ensures)))

pub returns : goal.returns
returns g c = equally (arguments_are c.args.arguments.now c.first-item.result (omega arith) c.first-item.is) (then c.in_ok-write_text.ensures (then c.in_ok-write_argument.ensures (then c.in_ok-write_next_arguments.ensures c.write_text-2.ensures)))
