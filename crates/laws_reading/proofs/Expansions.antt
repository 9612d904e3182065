-- The words of an expansion are tokens.
use Rattle.std.proofs.Common.{ℕ, List, [], ◌∷◌, ◌++◌, sym, subst}
use Rattle.std.specs.List.{AllByRecursion}
use Rattle.il_model.specs.declared.dialect.Dialect.TheVariants as dialects
use Rattle.il_reader.specs.Tokens.{tokens_of}
use Rattle.il_units.specs.declared.word.Line.{Line}
use Rattle.il_units.specs.Units.{UnitText}
use Rattle.il_units.specs.Spelling.{SaysUnits}
use Rattle.il_units.specs.Expansion.{flat_of, flats_from, entries_of}
use Rattle.laws_reading.specs.Sorts.{IsTold}
use Rattle.laws_reading.specs.Laws.{flat_in, lines_of, WordsAreTokens, SortsTell, ExpansionsAreReadAsTheirLines}
use Rattle.laws_reading.proofs.Facts.{IsKnown, all_known}
use Rattle.laws_reading.proofs.Sources.{UnitIs, units_good}
use Rattle.laws_reading.proofs.Lawful.{EntryOk, LineOk, line_told}
use Rattle.laws_reading.proofs.Flatten.{unit_ok}
use Rattle.laws_reading.proofs.Upgrade.{words_are}
use Rattle.laws_reading.proofs.Read.{read_as_lines}

before_all : (P : UnitText → Type 0) (before : List UnitText) (u : UnitText) (behind : List UnitText) → AllByRecursion P (before ++ u ∷ behind) → AllByRecursion P before × P u
before_all P [] u behind all = (tt, all.0)
before_all P (v ∷ before) u behind all = let h = before_all P before u behind all.1 in ((all.0, h.0), h.1)

abbrev Lawful : List ℕ → List UnitText → UnitText → Type 0
Lawful text before unit = AllByRecursion EntryOk (entries_of (flat_in text before unit)) × AllByRecursion LineOk (lines_of (flat_in text before unit))

lawful : (text : List ℕ) (before : List UnitText) (unit : UnitText) (behind : List UnitText) → SaysUnits text (before ++ unit ∷ behind) → Lawful text before unit
lawful text before unit behind says =
    let good = units_good (IsKnown text) says.above says.program (tokens_of dialects.Extended text) says.rest (all_known text) says.spelled in
    let all = subst (λ (us : List UnitText). AllByRecursion (UnitIs (IsKnown text)) us) (sym says.all) good in
    let here = before_all (UnitIs (IsKnown text)) before unit behind all in
    unit_ok text before unit here.0 here.1

all_told : (ls : List Line) → AllByRecursion LineOk ls → AllByRecursion IsTold ls
all_told [] all = tt
all_told (l ∷ ls) all = (line_told l all.0, all_told ls all.1)

pub sorts_tell : SortsTell
sorts_tell text before unit behind says = all_told (lines_of (flat_in text before unit)) (lawful text before unit behind says).1

pub words_are_tokens : WordsAreTokens
words_are_tokens text before unit behind source says reads =
    let ok = lawful text before unit behind says in
    words_are (flat_of text (flats_from text [] before) unit) source ok.0 ok.1 reads

pub expansions_are_read : ExpansionsAreReadAsTheirLines
expansions_are_read text before unit behind source says reads =
    read_as_lines (flat_of text (flats_from text [] before) unit) source (words_are_tokens text before unit behind source says reads) reads
