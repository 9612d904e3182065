-- A text as a whole: what it says, and where its bytes stand.
use Rattle.std.specs.Prelude.{ℕ, ◌+◌, ◌-◌, List, [], ◌∷◌, ◌==◌, if◌then◌else◌, length, take, count_by, ◌≡◌, ◌≤◌, Result}
use Rattle.std.specs.Prelude.{Ok, Err}
use Rattle.il_reader.specs.declared.place.Place.{Place}
use Rattle.il_model.specs.declared.dialect.Dialect.{Dialect}
use Rattle.il_model.specs.declared.dialect.Dialect.TheVariants as dialects
use Rattle.il_reader.specs.declared.source.TheConstants.{TEXT_LIMIT, EXTENDED_TEXT_LIMIT}
use Rattle.il_reader.specs.declared.fault.FaultAt.{FaultAt}
use Rattle.il_reader.specs.declared.fault.Fault.{Fault}
use Rattle.il_reader.specs.declared.fault.ReadError.{ReadError}
use Rattle.il_reader.specs.declared.contents.Contents.{Contents}
use Rattle.il_reader.specs.declared.fault.FaultKind.TheVariants as kinds
use Rattle.il_reader.specs.declared.fault.ReadError.TheVariants as errors
use Rattle.il_reader.specs.Grammar.{dialect_of, ProgramText, program_text}
use Rattle.il_reader.specs.Spelling.{Says}

-- ---- lines and columns, counted from 1

-- the column behind these bytes, which begin at a column
unfoldable pub column_behind : ℕ → List ℕ → ℕ
column_behind column [] = column
column_behind column (b ∷ bs) = if b == 10 then column_behind 1 bs else column_behind (column + 1) bs

-- the place behind these bytes
abbrev pub place_behind : List ℕ → Place
place_behind before = record { line = 1 + count_by (λ b. b == 10) before; column = column_behind 1 before }

-- where the byte of a text stands from which on so many are left
abbrev pub place_at : List ℕ → ℕ → Place
place_at text left = place_behind (take (length text - left) text)

-- ---- what a text says

-- a text and what it says
pub record SourceText : Type 0 where
  pub text : List ℕ
  pub says : ProgramText

abbrev pub source_text : List ℕ → Contents → SourceText
source_text text contents = record { text = text; says = program_text contents }

-- how many bytes a text has at most: an extended one four times as many
abbrev pub text_limit : Dialect → ℕ
text_limit dialects.Plain = TEXT_LIMIT
text_limit dialects.Extended = EXTENDED_TEXT_LIMIT

-- a text is short enough, and it says this
pub record IsSource (s : SourceText) : Type 0 where
  pub short : length s.text ≤ text_limit (dialect_of s.text)
  pub said : Says (dialect_of s.text) s.text s.says

abbrev pub Reads : List ℕ → SourceText → Type 0
Reads bytes s = (s.text ≡ bytes) × IsSource s

-- the fault with its place
abbrev pub placed : List ℕ → FaultAt → Fault
placed bytes f = record { kind = f.kind; place = place_at bytes f.left }

-- what is told of a text over the limit, whatever it says
abbrev pub too_long : Fault
too_long = record { kind = kinds.TooLong; place = record { line = 1; column = 1 } }

-- What a call answered is this, unless memory ran out.
abbrev pub Refuses : ReadError → Result SourceText Fault → Type 0
Refuses errors.Memory read = Unit {0}
Refuses (errors.Fault f) read = read ≡ Err f

abbrev pub Answers : {X : Type 0} → (X → SourceText) → Result X ReadError → Result SourceText Fault → Type 0
Answers view (Ok x) read = read ≡ Ok (view x)
Answers view (Err e) read = Refuses e read
