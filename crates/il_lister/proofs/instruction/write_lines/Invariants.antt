use Rattle.std.proofs.Common.{Ok, take}
use Rattle.std.specs.List.{flat_map}
use Rattle.il_lister.specs.Listing.{line_text}
use Rattle.il_lister.specs.Writing.{Writes}
use Rattle.il_lister.proofs.instruction.write_lines.Given as goal

abbrev pub invariant-loop-line : goal.invariant-loop-line
invariant-loop-line g l = Writes g.W.CountedWrite (flat_map line_text (take l.line-index l.code)) l.initial.writer l.writer (Ok tt)
