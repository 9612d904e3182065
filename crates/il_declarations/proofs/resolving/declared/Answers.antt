use Rattle.std.proofs.Common.{map}
use Rattle.std.proofs.lemmas.Result.{err_from_is_err_and}
use Rattle.il_reader.specs.Grammar.{block_text}
use Rattle.il_declarations.specs.Walk.{nothing, declare_block, each}
use Rattle.il_declarations.proofs.Steps.{goes_on_item, ends_item, is_done}
use Rattle.il_declarations.proofs.resolving.declared.Goals as goal

pub returns-in_err-declare_block : goal.returns-in_err-declare_block
returns-in_err-declare_block c =
    let p = err_from_is_err_and c.from_residual.result c.from_residual.ensures.1 in
    rw (p.1, p.2) (ends_item c.in_err-declare_block.field-0.0 (declare_block c.args.dialect) block_text c.loop-block.known c.args.blocks.now c.loop-block.block-index c.block-item.result (each (declare_block c.args.dialect) nothing (map block_text c.args.blocks.now)) c.loop-block-test.true c.block-item.is c.in_err-declare_block.ensures c.loop-block.invariant)

pub loop-block-preserved : goal.loop-block-preserved
loop-block-preserved c = goes_on_item (declare_block c.args.dialect) block_text c.loop-block.known c.declare_block.new.known c.args.blocks.now c.loop-block.block-index c.block-item.result (each (declare_block c.args.dialect) nothing (map block_text c.args.blocks.now)) c.loop-block-test.true c.block-item.is c.in_ok-declare_block.ensures c.loop-block.invariant

pub returns : goal.returns
returns c = is_done (declare_block c.args.dialect) block_text c.loop-block.known c.args.blocks.now c.loop-block.block-index (each (declare_block c.args.dialect) nothing (map block_text c.args.blocks.now)) c.loop-block-test.false c.loop-block.invariant
