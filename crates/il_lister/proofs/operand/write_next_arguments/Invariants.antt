use Rattle.std.proofs.Common.{Ok, take}
use Rattle.std.specs.List.{flat_map}
use Rattle.il_lister.specs.Listing.{next_argument_text}
use Rattle.il_lister.specs.Writing.{Writes}
use Rattle.il_lister.proofs.operand.write_next_arguments.Given as goal

abbrev pub invariant-loop-argument : goal.invariant-loop-argument
invariant-loop-argument g l = Writes g.W.CountedWrite (flat_map next_argument_text (take l.argument-index l.arguments)) l.initial.writer l.writer (Ok tt)
