use Rattle.il_reader.specs.Tokens.{tokens_of}
use Rattle.il_reader.specs.Grammar.{block_text}
use Rattle.il_reader.specs.Walk.{block_at}
use Rattle.il_reader.proofs.Loop.{moved}
use Rattle.il_reader.proofs.Programs.{block_shrinks}
use Rattle.il_reader.proofs.blocks.BlocksListed.item.Goals as goal

pub returns-clause-moves : goal.returns-clause-moves
returns-clause-moves c = moved c.block.result (λ x. (block_text x.0, tokens_of c.args.dialect x.1.now)) (block_at c.args.dialect) (tokens_of c.args.dialect c.args.bytes.now) (block_shrinks c.args.dialect (tokens_of c.args.dialect c.args.bytes.now)) c.block.ensures
