use Rattle.il_reader.specs.Tokens.{tokens_of}
use Rattle.il_reader.specs.Grammar.{line}
use Rattle.il_reader.specs.Walk.{line_at}
use Rattle.il_reader.proofs.Loop.{moved}
use Rattle.il_reader.proofs.Programs.{line_shrinks}
use Rattle.il_reader.proofs.lines.NamedLinesListed.item.Goals as goal

pub returns-clause-moves : goal.returns-clause-moves
returns-clause-moves c = moved c.line_read.result (λ x. (line x.0, tokens_of c.args.dialect x.1.now)) (line_at c.args.dialect) (tokens_of c.args.dialect c.args.bytes.now) (line_shrinks c.args.dialect (tokens_of c.args.dialect c.args.bytes.now)) c.line_read.ensures
