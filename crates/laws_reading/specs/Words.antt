-- The words of an expansion, as an extended text has them: each is one token, and those of a line stand as its operator
-- has them.
use Rattle.std.specs.Prelude.{◌≡◌, ◌⊎◌, ℕ, List, [], ◌∷◌, ◌++◌, length, Option, Some, None, codes}
use Rattle.std.specs.List.{AllByRecursion}
use Rattle.il_model.specs.declared.dialect.Dialect.TheVariants as dialects
use Rattle.il_model.specs.declared.words.Mnemonic.{Mnemonic}
use Rattle.il_model.specs.Dialects.{operator_in}
use Rattle.il_reader.specs.declared.lexeme.Sign.{Sign}
use Rattle.il_reader.specs.declared.lexeme.Sign.TheVariants as signs
use Rattle.il_reader.specs.declared.lexeme.Class.TheVariants as classes
use Rattle.il_reader.specs.Tokens.{piece_of}
use Rattle.il_units.specs.declared.word.Word.{Word}
use Rattle.il_units.specs.declared.word.Line.{Line}
use Rattle.il_units.specs.declared.word.Entry.{Entry}
use Rattle.il_units.specs.Flats.{FlatUnit}
use Rattle.il_units.specs.Expansion.{entries_of}

-- a text that is one token wherever a blank stands behind it
pub record IsOneToken (text : List ℕ) (sign : Sign) : Type 0 where
  pub first : ℕ
  pub others : List ℕ
  pub parts : text ≡ first ∷ others
  pub piece : (rest : List ℕ) → piece_of dialects.Extended (text ++ 32 ∷ rest)
      ≡ record { class = Some (classes.Sign sign); len = length text }

abbrev pub Is : Sign → Word → Type 0
Is sign w = IsOneToken w.text sign

-- ---- operands and operators

-- of a name, a literal or a location
abbrev pub IsOperandSign : Sign → Type 0
IsOperandSign signs.Name = Unit {0}
IsOperandSign signs.Literal = Unit {0}
IsOperandSign signs.Address = Unit {0}
IsOperandSign sign = ⊥

pub record IsOperand (w : Word) : Type 0 where
  pub sign : Sign
  pub good : IsOperandSign sign
  pub is : Is sign w

-- a word that is an operator, an ampersand, or a right parenthesis
abbrev pub IsOperatorSign : Sign → List ℕ → Type 0
IsOperatorSign signs.Name text = (m : Mnemonic) × (operator_in dialects.Extended text ≡ Some m)
IsOperatorSign signs.Ampersand text = Unit {0}
IsOperatorSign signs.Close text = Unit {0}
IsOperatorSign sign text = ⊥

pub record IsOperator (w : Word) : Type 0 where
  pub sign : Sign
  pub good : IsOperatorSign sign w.text
  pub is : Is sign w

-- ---- calls

-- of an input or of an output
abbrev pub IsSide : Word → Type 0
IsSide w = Is signs.Assign w ⊎ Is signs.Arrow w

-- behind an argument: a comma where more follow, the right parenthesis where none does
abbrev pub EndsArgument : List Word → Word → Type 0
EndsArgument [] w = Is signs.Close w
EndsArgument more w = Is signs.Comma w

-- each argument has a field, a side, an operand and what ends it
abbrev pub AreArguments : List Word → Type 0
AreArguments [] = Unit {0}
AreArguments (field ∷ side ∷ x ∷ end ∷ more) =
    Is signs.Name field × IsSide side × IsOperand x × EndsArgument more end × AreArguments more
AreArguments ws = ⊥

-- what stands behind the left parenthesis of a call
abbrev pub AreInside : List Word → Type 0
AreInside [] = ⊥
AreInside (end ∷ []) = Is signs.Close end
AreInside (field ∷ side ∷ more) = AreArguments (field ∷ side ∷ more)

-- ---- lines

-- behind an operator: nothing; an operand, or a left parenthesis; that and an operand; or a name and its arguments
abbrev pub AreBehind : List Word → Type 0
AreBehind [] = Unit {0}
AreBehind (x ∷ []) = IsOperand x ⊎ Is signs.Open x
AreBehind (opening ∷ x ∷ []) = Is signs.Open opening × IsOperand x
AreBehind (x ∷ opening ∷ inside ∷ more) = Is signs.Name x × Is signs.Open opening × AreInside (inside ∷ more)

abbrev pub AreWords : List Word → Type 0
AreWords [] = Unit {0}
AreWords (operator ∷ behind) = IsOperator operator × AreBehind behind

-- a label, or words, or both
abbrev pub IsLineOf : Option Word → List Word → Type 0
IsLineOf None [] = ⊥
IsLineOf None ws = AreWords ws
IsLineOf (Some label) ws = Is signs.Name label × AreWords ws

abbrev pub IsLine : Line → Type 0
IsLine l = IsLineOf l.label l.words

-- ---- declarations

-- : type ; or : type := value ;
abbrev pub AreTyped : List Word → Type 0
AreTyped (colon ∷ ty ∷ end ∷ []) = Is signs.Colon colon × Is signs.Name ty × Is signs.Semicolon end
AreTyped (colon ∷ ty ∷ assign ∷ value ∷ end ∷ []) = Is signs.Colon colon × Is signs.Name ty × Is signs.Assign assign
    × IsOperand value × Is signs.Semicolon end
AreTyped ws = ⊥

-- AT place, before those
abbrev pub AreLocated : List Word → Type 0
AreLocated (at ∷ place ∷ typed) =
    Is signs.Name at × (at.text ≡ codes "AT") × Is signs.Address place × AreTyped typed
AreLocated ws = ⊥

pub record IsEntry (e : Entry) : Type 0 where
  pub name : Is signs.Name e.name
  pub words : AreTyped e.words ⊎ AreLocated e.words

-- ---- flat units

-- the words of its declarations and lines are such
pub record IsOfWords (u : FlatUnit) : Type 0 where
  pub entries : AllByRecursion IsEntry (entries_of u)
  pub lines : AllByRecursion IsLine u.lines
