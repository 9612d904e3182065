use Rattle.il_reader.specs.Tokens.{tokens_of, token}
use Rattle.il_reader.specs.Walk.{name_at}
use Rattle.il_reader.proofs.Loop.{moved}
use Rattle.il_reader.proofs.Programs.{name_shrinks}
use Rattle.il_reader.proofs.blocks.MoreNamesListed.item.Goals as goal

pub returns-clause-moves : goal.returns-clause-moves
returns-clause-moves c = moved c.name_read.result (λ x. (token x.0, tokens_of c.args.dialect x.1.now)) name_at (tokens_of c.args.dialect c.args.bytes.now) (name_shrinks (tokens_of c.args.dialect c.args.bytes.now)) c.name_read.ensures
