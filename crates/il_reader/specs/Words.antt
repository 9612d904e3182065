-- What the names and the operators of a text are, whatever it says.
use Rattle.std.specs.Prelude.{◌≡◌, ℕ, ◌<◌, ◌≤◌, Bool, true, false, List, [], ◌∷◌, length, Option, Some, None}
use Rattle.std.specs.List.{AllByRecursion, list_all}
use Rattle.il_model.specs.declared.dialect.Dialect.{Dialect}
use Rattle.il_model.specs.declared.dialect.Dialect.TheVariants as dialects
use Rattle.il_model.specs.declared.limits.TheConstants.{LONGEST_NAME, LONGEST_DOTTED_NAME}
use Rattle.il_model.specs.Words.{is_well_spelled, name_parts}
use Rattle.il_reader.specs.Tokens.{Token, begins_letter, is_word_byte}
use Rattle.il_reader.specs.Grammar.{LineText, Labelled, Plain, OperationText, NamesText, Located, More, DeclarationText}
use Rattle.il_reader.specs.Grammar.{BlockText, ProgramText}
use Rattle.il_reader.specs.Spelling.{operator_before}

-- identifier (B.1.1): letters, digits and underscores, a digit not first, well spelled, at most 32 of them
pub record IsWordText (w : List ℕ) : Type 0 where
  pub begins : begins_letter w ≡ true
  pub bytes : list_all is_word_byte w ≡ true
  pub spelled : is_well_spelled w ≡ true
  pub some : 0 < length w
  pub short : length w ≤ LONGEST_NAME

-- in an extended text some of them, with dots between, and at most 96 bytes
abbrev pub IsNameText : Dialect → List ℕ → Type 0
IsNameText dialects.Plain w = IsWordText w
IsNameText dialects.Extended w = AllByRecursion IsWordText (name_parts w) × (length w ≤ LONGEST_DOTTED_NAME)

abbrev pub IsName : Dialect → Token → Type 0
IsName dialect t = IsNameText dialect t.text

abbrev pub AreNames : Dialect → NamesText → Type 0
AreNames dialect (Located t) = Unit {0}
AreNames dialect (More ts) = AllByRecursion (IsName dialect) ts

pub record IsNamedDeclaration (dialect : Dialect) (d : DeclarationText) : Type 0 where
  pub name : IsName dialect d.name
  pub names : AreNames dialect d.names

-- an operation whose operator some token is
abbrev pub IsOperation : Dialect → OperationText → Type 0
IsOperation dialect o = (t : Token) × (operator_before dialect o.behind t ≡ Some o.operator)

abbrev pub IsOptionalOperation : Dialect → Option OperationText → Type 0
IsOptionalOperation dialect None = Unit {0}
IsOptionalOperation dialect (Some o) = IsOperation dialect o

-- a label is a name
abbrev pub IsOperator : Dialect → LineText → Type 0
IsOperator dialect (Labelled t o) = IsName dialect t × IsOptionalOperation dialect o
IsOperator dialect (Plain o) = IsOperation dialect o

-- the names of declarations and labels are names, and each operation has an operator that takes what stands behind it
pub record AreWords (dialect : Dialect) (p : ProgramText) : Type 0 where
  pub blocks : AllByRecursion (λ (b : BlockText). AllByRecursion (IsNamedDeclaration dialect) b.declarations) p.blocks
  pub lines : AllByRecursion (IsOperator dialect) p.lines
