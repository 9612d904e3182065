use Rattle.il_reader.specs.Tokens.{tokens_of}
use Rattle.il_reader.specs.Grammar.{declaration}
use Rattle.il_reader.specs.Walk.{declaration_at}
use Rattle.il_reader.proofs.Loop.{moved}
use Rattle.il_reader.proofs.Programs.{declaration_shrinks}
use Rattle.il_reader.proofs.blocks.DeclarationsListed.item.Goals as goal

pub returns-clause-moves : goal.returns-clause-moves
returns-clause-moves c = moved c.declared.result (λ x. (declaration x.0, tokens_of c.args.dialect x.1.now)) declaration_at (tokens_of c.args.dialect c.args.bytes.now) (declaration_shrinks (tokens_of c.args.dialect c.args.bytes.now)) c.declared.ensures
