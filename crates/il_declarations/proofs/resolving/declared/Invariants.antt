use Rattle.std.proofs.Common.{◌≡◌, drop, map}
use Rattle.il_reader.specs.Grammar.{block_text}
use Rattle.il_declarations.specs.Walk.{nothing, declare_block, each}
use Rattle.il_declarations.proofs.resolving.declared.Given as goal

abbrev pub invariant-loop-block : goal.invariant-loop-block
invariant-loop-block l = each (declare_block l.dialect) l.known (drop l.block-index (map block_text l.blocks)) ≡ each (declare_block l.dialect) nothing (map block_text l.blocks)
