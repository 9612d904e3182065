use Rattle.il_reader.specs.Tokens.{tokens_of}
use Rattle.il_reader.proofs.Loop.{moved}
use Rattle.il_reader.specs.Grammar.{operand}
use Rattle.il_units.specs.Walk.{other_at}
use Rattle.il_units.proofs.Grammar.{other_shrinks}
use Rattle.il_units.proofs.reading.OthersListed.item.Goals as goal

pub returns-clause-moves : goal.returns-clause-moves
returns-clause-moves c = moved c.other.result (λ x. (operand x.0, tokens_of c.args.dialect x.1.now)) other_at (tokens_of c.args.dialect c.args.bytes.now) (other_shrinks (tokens_of c.args.dialect c.args.bytes.now)) c.other.ensures
