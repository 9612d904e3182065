-- Jumps, returns and labels, as the sorts of words tell them.
use Rattle.std.proofs.Common.{◌≡◌, List, [], ◌∷◌, Option, Some, None}
use Rattle.il_values.specs.declared.op.Op.TheVariants as ops
use Rattle.il_model.specs.declared.dialect.Dialect.TheVariants as dialects
use Rattle.il_model.specs.declared.words.Mnemonic.{Mnemonic}
use Rattle.il_reader.specs.declared.contents.Operator.{Operator}
use Rattle.il_reader.specs.Grammar.{operator_of}
use Rattle.il_units.specs.declared.word.Word.{Word}
use Rattle.il_units.specs.declared.word.Line.{Line}
use Rattle.il_units.specs.Words.{capitals}
use Rattle.laws_calls.specs.Lines.{Control, Nothing, Jump, Return, Performs, control_of}
use Rattle.laws_calls.specs.Controller.{IsPerformed}
use Rattle.laws_reading.specs.Lines.{word_token}

-- the operator is what the sorts of the words say; names of labels are in capital letters
abbrev pub IsSaid : Control → Mnemonic → Type 0
IsSaid Nothing m = Unit {0}
IsSaid (Jump letters name) m = (m.op ≡ ops.Jmp) × (m.modifier ≡ letters) × (capitals name ≡ name)
IsSaid (Return letters) m = (m.op ≡ ops.Ret) × (m.modifier ≡ letters)
IsSaid Performs m = IsPerformed m.op

abbrev pub AreSaid : List Word → Type 0
AreSaid [] = Unit {0}
AreSaid (w ∷ ws) = (o : Operator) → operator_of dialects.Extended (word_token w) ≡ Some o
    → IsSaid (control_of (w ∷ ws)) o.mnemonic

abbrev pub IsCapital : Option Word → Type 0
IsCapital None = Unit {0}
IsCapital (Some w) = capitals w.text ≡ w.text

-- the sorts of a line's words tell jumps and returns, and its label is in capital letters
pub record IsToldBySorts (l : Line) : Type 0 where
  pub label : IsCapital l.label
  pub words : AreSaid l.words
