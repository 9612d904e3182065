use Rattle.il_reader.specs.Tokens.{tokens_of}
use Rattle.il_reader.proofs.Loop.{moved}
use Rattle.il_units.specs.Units.{unit_text}
use Rattle.il_units.specs.Walk.{unit_at}
use Rattle.il_units.proofs.Grammar.{unit_shrinks}
use Rattle.il_units.proofs.reading.UnitsAboveListed.item.Goals as goal

pub returns-clause-moves : goal.returns-clause-moves
returns-clause-moves c = moved c.unit_read.result (λ x. (unit_text x.0, tokens_of c.args.dialect x.1.now)) (unit_at c.args.dialect) (tokens_of c.args.dialect c.args.bytes.now) (unit_shrinks c.args.dialect (tokens_of c.args.dialect c.args.bytes.now)) c.unit_read.ensures
