use Rattle.std.proofs.Common.{subst}
use Rattle.il_reader.specs.Texts.{SourceText}
use Rattle.il_reader.specs.Grammar.{dialect_of, program_text}
use Rattle.il_reader.specs.Words.{AreWords}
use Rattle.il_reader.proofs.WordTexts.{said_words}
use Rattle.il_reader.proofs.source.Source.is_read.Goals as goal

pub returns-clause-words : goal.returns-clause-words
returns-clause-words c = subst (λ (s : SourceText). AreWords (dialect_of s.text) s.says) c.self.view_is (said_words (dialect_of c.self.inside.text.now) c.self.inside.text.now (program_text c.self.inside.contents) c.self.invariant.said)
