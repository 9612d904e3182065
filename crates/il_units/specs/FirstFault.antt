-- The first fault of a text of units, by the grammar alone.
use Rattle.std.specs.Prelude.{ℕ, ◌≡◌, ◌<◌, ◌≤◌, ◌⊎◌, List, [], ◌∷◌, ◌++◌, length, Result, Err}
use Rattle.il_model.specs.declared.dialect.Dialect.TheVariants as dialects
use Rattle.il_reader.specs.declared.source.TheConstants.{EXTENDED_TEXT_LIMIT}
use Rattle.il_reader.specs.declared.fault.FaultAt.{FaultAt}
use Rattle.il_reader.specs.declared.fault.Fault.{Fault}
use Rattle.il_reader.specs.declared.fault.ReadError.{ReadError}
use Rattle.il_reader.specs.declared.fault.ReadError.TheVariants as errors
use Rattle.il_reader.specs.Tokens.{Token, tokens_of}
use Rattle.il_reader.specs.Front.{fault_at}
use Rattle.il_reader.specs.Spelling.{Spell}
use Rattle.il_reader.specs.Texts.{placed, too_long}
use Rattle.il_units.specs.Units.{UnitText, UnitsText}
use Rattle.il_units.specs.Spelling.{spelled_units}
use Rattle.il_units.specs.Reading.{Answers}

-- the tokens say units, from the first to the last
abbrev pub AreUnits : List Token → Type 0
AreUnits tokens = (above : List UnitText) × (program : UnitText) × (rest : List Token)
    × Spell (spelled_units dialects.Extended above program) tokens rest

-- some list of tokens that says units begins with these
abbrev pub Begins : List Token → Type 0
Begins before = (behind : List Token) × AreUnits (before ++ behind)

-- with the tokens of some text behind them these say units
abbrev pub IsCompleted : List Token → Type 0
IsCompleted before = (text : List ℕ) × AreUnits (before ++ tokens_of dialects.Extended text)

-- The fault is that of a token with which nothing that says units begins behind those before it, while something begins
-- with those alone.
pub record IsUnitsFaultAt (text : List ℕ) (f : FaultAt) : Type 0 where
  pub before : List Token
  pub at : Token
  pub after : List Token
  pub parts : before ++ at ∷ after ≡ tokens_of dialects.Extended text
  pub fault : f ≡ fault_at at
  pub begun : IsCompleted before
  pub not_begun : Begins (before ++ at ∷ []) → ⊥

-- the same with its line and column
abbrev pub IsPlacedFault : List ℕ → Fault → Type 0
IsPlacedFault text g = (f : FaultAt) × (g ≡ placed text f) × IsUnitsFaultAt text f

-- the first fault of a text of units: over the limit it's too long, else it stands at the first token with which no
-- text of units begins
abbrev pub IsUnitsFaultOf : List ℕ → Fault → Type 0
IsUnitsFaultOf text g =
    ((EXTENDED_TEXT_LIMIT < length text) × (g ≡ too_long))
    ⊎ ((length text ≤ EXTENDED_TEXT_LIMIT) × IsPlacedFault text g)

-- ---- what a call answers

-- a fault that is told is the first of the text
abbrev pub TellsFirst : List ℕ → Result UnitsText ReadError → Type 0
TellsFirst text (Err (errors.Fault g)) = IsUnitsFaultOf text g
TellsFirst text r = Unit {0}

-- the first fault of the text is told, unless memory runs out
abbrev pub IsTold : List ℕ → Result UnitsText ReadError → Type 0
IsTold text r = (first : Fault) → IsUnitsFaultOf text first → Answers text r (Err first)
