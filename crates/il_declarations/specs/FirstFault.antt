-- The first fault of a text: the one that stands first, and of two at one place the one with the least number.
use Rattle.std.specs.Prelude.{ℕ, ◌≡◌, ◌⊎◌, ◌<◌, ◌≤◌, Result, Ok, Err}
use Rattle.il_model.specs.declared.dialect.Dialect.{Dialect}
use Rattle.il_reader.specs.Grammar.{dialect_of}
use Rattle.il_model.specs.Program.{Program}
use Rattle.il_reader.specs.Grammar.{ProgramText}
use Rattle.il_reader.specs.Texts.{place_at, SourceText}
use Rattle.il_declarations.specs.declared.fault.DeclKind.{DeclKind}
use Rattle.il_declarations.specs.declared.fault.DeclError.{DeclError}
use Rattle.il_declarations.specs.declared.fault.FaultAt.{FaultAt}
use Rattle.il_declarations.specs.declared.fault.Fault.{Fault}
use Rattle.il_declarations.specs.declared.fault.DeclKind.TheVariants as kinds
use Rattle.il_declarations.specs.declared.fault.DeclError.TheVariants as errors
use Rattle.il_declarations.specs.Resolution.{Answers}
use Rattle.il_declarations.specs.Declaring.{IsProgramOf}
use Rattle.il_declarations.specs.TextFaults.{HasFault}

-- ---- the numbers of faults, as the program prints them

abbrev pub kind_number : DeclKind → ℕ
kind_number kinds.Duplicate = 1
kind_number kinds.UnknownType = 2
kind_number kinds.UnknownName = 3
kind_number kinds.BadLocation = 4
kind_number kinds.Overlap = 5
kind_number kinds.BadInitial = 6
kind_number kinds.ReservedName = 7
kind_number kinds.TooMany = 8

abbrev pub error_number : DeclError → ℕ
error_number (errors.Fault f) = kind_number f.kind
error_number errors.Memory = 9

-- ---- the first fault

abbrev pub HasNoFault : Dialect → ProgramText → Type 0
HasNoFault dialect p = (f : FaultAt) → HasFault dialect p f → ⊥

-- one fault is told no later than another: more of the text is left where it stands, or it stands there too and its
-- number is no greater
abbrev pub IsNoLater : FaultAt → FaultAt → Type 0
IsNoLater f g = (g.left < f.left) ⊎ ((f.left ≡ g.left) × (kind_number f.kind ≤ kind_number g.kind))

pub record IsFirstFault (dialect : Dialect) (p : ProgramText) (f : FaultAt) : Type 0 where
  pub has : HasFault dialect p f
  pub first : (g : FaultAt) → HasFault dialect p g → IsNoLater f g

-- the first fault of a text that was read, with its line and column
pub record IsRefused (s : SourceText) (told : Fault) : Type 0 where
  pub fault : FaultAt
  pub first : IsFirstFault (dialect_of s.text) s.says fault
  pub kind : told.kind ≡ fault.kind
  pub place : told.place ≡ place_at s.text fault.left

-- a fault that is told is the first of the text
abbrev pub TellsFirst : {X : Type 0} → SourceText → Result X DeclError → Type 0
TellsFirst s (Err (errors.Fault told)) = IsRefused s told
TellsFirst s r = Unit {0}

-- the first fault of the text is told, unless memory ran out
abbrev pub IsTold : SourceText → Result Program DeclError → Type 0
IsTold s r = (first : Fault) → IsRefused s first → Answers (λ p. p) r (Err first)

-- the program of a text without a fault is given, unless memory ran out
abbrev pub IsGiven : SourceText → Result Program DeclError → Type 0
IsGiven s r = (P : Program) → IsProgramOf (dialect_of s.text) s.says P → HasNoFault (dialect_of s.text) s.says
    → Answers (λ p. p) r (Ok P)
