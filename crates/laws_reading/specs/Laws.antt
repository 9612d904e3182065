-- The text of a flat unit is read as its lines.
use Rattle.std.specs.Prelude.{◌≡◌, ℕ, List, [], ◌∷◌, ◌++◌, map, Some}
use Rattle.std.specs.List.{AllByRecursion}
use Rattle.il_model.specs.declared.dialect.Dialect.TheVariants as dialects
use Rattle.il_reader.specs.Grammar.{dialect_of}
use Rattle.il_reader.specs.Texts.{SourceText, Reads}
use Rattle.il_units.specs.declared.word.Line.{Line}
use Rattle.il_units.specs.Units.{UnitText}
use Rattle.il_units.specs.Spelling.{SaysUnits}
use Rattle.il_units.specs.Flats.{FlatUnit}
use Rattle.il_units.specs.Expansion.{flat_of, flats_from, text_of}
use Rattle.laws_reading.specs.Words.{IsOfWords}
use Rattle.laws_reading.specs.Sorts.{IsTold}
use Rattle.laws_reading.specs.Lines.{line_said, unplaced_line}

-- it is an extended text, and what is read of it apart from places is what the words of its lines say, one by one
pub record SaysItsLines (u : FlatUnit) (source : SourceText) : Type 0 where
  pub dialect : dialect_of (text_of u) ≡ dialects.Extended
  pub lines : map (λ l. Some (unplaced_line l)) source.says.lines ≡ map line_said u.lines

abbrev pub FlatUnitsAreReadAsTheirLines : Type 0
FlatUnitsAreReadAsTheirLines = (u : FlatUnit) (source : SourceText) → IsOfWords u → Reads (text_of u) source
    → SaysItsLines u source

-- a unit that stands in a text, beside those above it
abbrev pub flat_in : List ℕ → List UnitText → UnitText → FlatUnit
flat_in text before unit = flat_of text (flats_from text [] before) unit

abbrev pub lines_of : FlatUnit → List Line
lines_of u = u.lines

-- where the text of its expansion is read, the words of that are tokens
abbrev pub WordsAreTokens : Type 0
WordsAreTokens = (text : List ℕ) (before : List UnitText) (unit : UnitText) (behind : List UnitText)
    (source : SourceText) → SaysUnits text (before ++ unit ∷ behind) → Reads (text_of (flat_in text before unit)) source
    → IsOfWords (flat_in text before unit)

-- and of the sorts that they have
abbrev pub SortsTell : Type 0
SortsTell = (text : List ℕ) (before : List UnitText) (unit : UnitText) (behind : List UnitText)
    → SaysUnits text (before ++ unit ∷ behind) → AllByRecursion IsTold (lines_of (flat_in text before unit))

-- and it's read as its lines
abbrev pub ExpansionsAreReadAsTheirLines : Type 0
ExpansionsAreReadAsTheirLines = (text : List ℕ) (before : List UnitText) (unit : UnitText) (behind : List UnitText)
    (source : SourceText) → SaysUnits text (before ++ unit ∷ behind) → Reads (text_of (flat_in text before unit)) source
    → SaysItsLines (flat_in text before unit) source
