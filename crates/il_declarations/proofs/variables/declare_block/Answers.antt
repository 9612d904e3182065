use Rattle.std.proofs.lemmas.Simd.{map-map}
use Rattle.il_reader.specs.Grammar.{declaration, block_text, is_retained}
use Rattle.il_declarations.specs.Declaring.{in_block}
use Rattle.il_declarations.proofs.variables.declare_block.Goals as goal

pub returns : goal.returns
returns c =
    rw (map-map (in_block (is_retained (block_text c.args.block.now))) declaration c.args.block.now.declarations.items)
    (rw c.is_retained-retained.ensures at (rw c.as_slice.ensures.value at c.declare_each.ensures))
