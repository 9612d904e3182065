use Rattle.il_reader.specs.Tokens.{tokens_of}
use Rattle.il_reader.proofs.Loop.{moved}
use Rattle.il_units.specs.Units.{line_text}
use Rattle.il_units.specs.Walk.{line_at}
use Rattle.il_units.proofs.Grammar.{line_shrinks}
use Rattle.il_units.proofs.reading.FunctionLinesListed.item.Goals as goal

pub returns-clause-moves : goal.returns-clause-moves
returns-clause-moves c = moved c.line.result (λ x. (line_text x.0, tokens_of c.args.dialect x.1.now)) (line_at c.args.dialect) (tokens_of c.args.dialect c.args.bytes.now) (line_shrinks c.args.dialect (tokens_of c.args.dialect c.args.bytes.now)) c.line.ensures
