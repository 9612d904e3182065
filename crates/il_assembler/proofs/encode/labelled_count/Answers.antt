use Rattle.std.proofs.Common.{rules}
use Rattle.std.proofs.iter.runs.Made.{chains}
use Rattle.il_assembler.proofs.encode.labelled_count.Goals as goal

pub returns : goal.returns
returns c = search (rules, chains)
