-- What the sorts of a line's words tell: which operators jump and return.
use Rattle.std.specs.Prelude.{◌≡◌, ℕ, List, [], ◌∷◌, Option, Some, None}
use Rattle.il_values.specs.declared.op.Op.TheVariants as ops
use Rattle.il_values.specs.declared.op.Modifier.{Modifier}
use Rattle.il_model.specs.declared.dialect.Dialect.TheVariants as dialects
use Rattle.il_model.specs.declared.words.Mnemonic.{Mnemonic}
use Rattle.il_reader.specs.declared.contents.Operator.{Operator}
use Rattle.il_reader.specs.Grammar.{operator_of}
use Rattle.il_units.specs.declared.word.Sort.{Sort}
use Rattle.il_units.specs.declared.word.Sort.TheVariants as sorts
use Rattle.il_units.specs.declared.word.Word.{Word}
use Rattle.il_units.specs.declared.word.Line.{Line}
use Rattle.il_units.specs.Words.{capitals, said}
use Rattle.laws_reading.specs.Lines.{word_token}

-- an operator that the word is, if it's one, is such
abbrev pub Operates : (Mnemonic → Type 0) → List ℕ → Type 0
Operates Fits text = (o : Operator) → operator_of dialects.Extended (word_token (said text 0)) ≡ Some o
    → Fits o.mnemonic

abbrev pub IsJump : Mnemonic → Type 0
IsJump m = m.op ≡ ops.Jmp

abbrev pub IsReturn : Modifier → Mnemonic → Type 0
IsReturn letters m = (m.op ≡ ops.Ret) × (m.modifier ≡ letters)

abbrev pub IsOther : Mnemonic → Type 0
IsOther m = (m.op ≡ ops.Jmp → ⊥) × (m.op ≡ ops.Ret → ⊥)

abbrev pub IsCapital : List ℕ → Type 0
IsCapital text = capitals text ≡ text

-- a label stands behind a jump, and in capital letters; anything else behind none
abbrev pub OneBehind : Sort → List ℕ → List ℕ → Type 0
OneBehind sorts.Label name text = Operates IsJump text × IsCapital name
OneBehind sort name text = Operates IsOther text

abbrev pub ToldBy : Sort → List ℕ → List Word → Type 0
ToldBy (sorts.Return letters) text ws = Operates (IsReturn letters) text
ToldBy sort text (x ∷ []) = OneBehind x.sort x.text text
ToldBy sort text ws = Operates IsOther text

abbrev pub AreTold : List Word → Type 0
AreTold [] = Unit {0}
AreTold (w ∷ ws) = ToldBy w.sort w.text ws

abbrev pub HasCapitals : Option Word → Type 0
HasCapitals None = Unit {0}
HasCapitals (Some w) = IsCapital w.text

-- its label is in capital letters, and jumps and returns are those that the sorts of its words tell
pub record IsTold (l : Line) : Type 0 where
  pub label : HasCapitals l.label
  pub words : AreTold l.words
