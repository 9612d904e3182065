-- The first fault of a text, by the grammar alone; and the numbers of faults.
use Rattle.std.specs.Prelude.{ℕ, ◌≡◌, ◌<◌, ◌≤◌, ◌⊎◌, List, [], ◌∷◌, ◌++◌, length, Result, Ok, Err, codes}
use Rattle.il_model.specs.declared.dialect.Dialect.{Dialect}
use Rattle.il_model.specs.declared.dialect.Dialect.TheVariants as dialects
use Rattle.il_reader.specs.declared.fault.FaultKind.{FaultKind}
use Rattle.il_reader.specs.declared.fault.ReadError.{ReadError}
use Rattle.il_reader.specs.declared.fault.FaultAt.{FaultAt}
use Rattle.il_reader.specs.declared.fault.Fault.{Fault}
use Rattle.il_reader.specs.declared.fault.FaultKind.TheVariants as kinds
use Rattle.il_reader.specs.declared.fault.ReadError.TheVariants as errors
use Rattle.il_reader.specs.Tokens.{Token, tokens_of}
use Rattle.il_reader.specs.Front.{fault_at}
use Rattle.il_reader.specs.Grammar.{dialect_of, ProgramText}
use Rattle.il_reader.specs.Spelling.{SaysTokens}
use Rattle.il_reader.specs.Texts.{SourceText, placed, too_long, text_limit, Reads, Answers}

-- ---- the numbers of faults, as the program prints them

abbrev pub kind_number : FaultKind → ℕ
kind_number kinds.BadByte = 1
kind_number kinds.BadToken = 2
kind_number kinds.BadLiteral = 3
kind_number kinds.UnclosedComment = 4
kind_number kinds.Misplaced = 5
kind_number kinds.TooLong = 6

abbrev pub error_number : ReadError → ℕ
error_number (errors.Fault f) = kind_number f.kind
error_number errors.Memory = 7

-- ---- the first fault

-- some list of tokens that the grammar has begins with these
abbrev pub Begins : Dialect → List Token → Type 0
Begins dialect before = (behind : List Token) × (s : ProgramText) × SaysTokens dialect (before ++ behind) s

-- with the tokens of some text behind them these are a list that the grammar has
abbrev pub IsCompleted : Dialect → List Token → Type 0
IsCompleted dialect before =
    (text : List ℕ) × (s : ProgramText) × SaysTokens dialect (before ++ tokens_of dialect text) s

-- The fault is that of this token: nothing of the grammar begins with it behind these, while something begins with
-- these alone.
pub record StandsAt (dialect : Dialect) (before : List Token) (at : Token) (f : FaultAt) : Type 0 where
  pub fault : f ≡ fault_at at
  pub begun : IsCompleted dialect before
  pub not_begun : Begins dialect (before ++ at ∷ []) → ⊥

-- the fault of a text, at one of its tokens
pub record IsTextFault (dialect : Dialect) (bytes : List ℕ) (f : FaultAt) : Type 0 where
  pub before : List Token
  pub at : Token
  pub after : List Token
  pub parts : before ++ at ∷ after ≡ tokens_of dialect bytes
  pub stands : StandsAt dialect before at f

-- the same with its line and column
abbrev pub IsSourceFault : List ℕ → Fault → Type 0
IsSourceFault bytes g = (f : FaultAt) × (g ≡ placed bytes f) × IsTextFault (dialect_of bytes) bytes f

-- the first fault of a text: over the limit of its dialect it's too long, else it stands at the first token with which
-- no text begins
abbrev pub IsFaultOf : List ℕ → Fault → Type 0
IsFaultOf bytes g =
    ((text_limit (dialect_of bytes) < length bytes) × (g ≡ too_long))
    ⊎ ((length bytes ≤ text_limit (dialect_of bytes)) × IsSourceFault bytes g)

-- ---- what a call answers

-- what the text says is read, unless memory runs out
abbrev pub IsGiven : List ℕ → Result SourceText ReadError → Type 0
IsGiven bytes r = (s : SourceText) → Reads bytes s → Answers (λ s. s) r (Ok s)

-- a fault that is told is the first of the text
abbrev pub TellsFirst : List ℕ → Result SourceText ReadError → Type 0
TellsFirst bytes (Err (errors.Fault g)) = IsFaultOf bytes g
TellsFirst bytes r = Unit {0}

-- the first fault of the text is told, unless memory runs out
abbrev pub IsTold : List ℕ → Result SourceText ReadError → Type 0
IsTold bytes r = (first : Fault) → IsFaultOf bytes first → Answers (λ s. s) r (Err first)

-- ---- worked texts

abbrev pub misplaced : ℕ → FaultAt
misplaced left = record { kind = kinds.Misplaced; left = left }

abbrev pub bad_token : ℕ → FaultAt
bad_token left = record { kind = kinds.BadToken; left = left }

-- An operand is missing, at a token and at the end; a word is no operator and stands before no colon; a broken token
-- stands where an operand may, and behind a token that is misplaced. Where one fault is, no other is.
pub record WorkedFaults : Type 0 where
  pub operand : IsTextFault dialects.Plain (codes "LD ;") (misplaced 1)
  pub field : IsTextFault dialects.Plain (codes "LD T1.") (misplaced 0)
  pub colon : IsTextFault dialects.Plain (codes "FOO X") (misplaced 1)
  pub broken : IsTextFault dialects.Plain (codes "LD #") (bad_token 1)
  pub behind : IsTextFault dialects.Plain (codes "; #") (misplaced 3)
  pub elsewhere : IsTextFault dialects.Plain (codes "LD ;") (misplaced 4) → ⊥
