use Rattle.il_reader.specs.Tokens.{tokens_of}
use Rattle.il_reader.specs.Grammar.{argument}
use Rattle.il_reader.specs.Walk.{next_argument_at}
use Rattle.il_reader.proofs.Loop.{moved}
use Rattle.il_reader.proofs.Programs.{next_shrinks}
use Rattle.il_reader.proofs.calls.MoreArgumentsListed.item.Goals as goal

pub returns-clause-moves : goal.returns-clause-moves
returns-clause-moves c = moved c.next_argument.result (λ x. (argument x.0, tokens_of c.args.dialect x.1.now)) next_argument_at (tokens_of c.args.dialect c.args.bytes.now) (next_shrinks (tokens_of c.args.dialect c.args.bytes.now)) c.next_argument.ensures
