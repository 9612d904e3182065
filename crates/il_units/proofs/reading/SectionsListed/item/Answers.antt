use Rattle.il_reader.specs.Tokens.{tokens_of}
use Rattle.il_reader.proofs.Loop.{moved}
use Rattle.il_units.specs.Units.{section_text}
use Rattle.il_units.specs.Walk.{section_at}
use Rattle.il_units.proofs.Grammar.{section_shrinks}
use Rattle.il_units.proofs.reading.SectionsListed.item.Goals as goal

pub returns-clause-moves : goal.returns-clause-moves
returns-clause-moves c = moved c.section_read.result (λ x. (section_text x.0, tokens_of c.args.dialect x.1.now)) (section_at c.args.dialect) (tokens_of c.args.dialect c.args.bytes.now) (section_shrinks c.args.dialect (tokens_of c.args.dialect c.args.bytes.now)) c.section_read.ensures
