-- The sorts of a line's words tell its control.
use Rattle.std.proofs.Common.{◌≡◌, ℕ, Bool, true, false, List, [], ◌∷◌, Option, Some, None, refl, sym, ap, ◌∙◌, ◌||◌}
use Rattle.std.specs.Prelude.{if◌then◌else◌}
use Rattle.std.specs.List.{AllByRecursion}
use Rattle.il_values.specs.declared.op.Op.{Op}
use Rattle.il_values.specs.declared.op.Op.TheVariants as ops
use Rattle.il_model.specs.declared.dialect.Dialect.TheVariants as dialects
use Rattle.il_model.specs.declared.words.Mnemonic.{Mnemonic}
use Rattle.il_model.specs.Dialects.{operator_in}
use Rattle.il_reader.specs.declared.lexeme.Sign.TheVariants as signs
use Rattle.il_reader.specs.declared.contents.Operator.{Operator}
use Rattle.il_reader.specs.Tokens.{Token}
use Rattle.il_reader.specs.Front.{is_sign}
use Rattle.il_reader.specs.Grammar.{operator_of, operator_from, closing}
use Rattle.il_units.specs.declared.word.Sort.{Sort}
use Rattle.il_units.specs.declared.word.Sort.TheVariants as sorts
use Rattle.il_units.specs.declared.word.Word.{Word}
use Rattle.il_units.specs.declared.word.Line.{Line}
use Rattle.laws_calls.specs.Lines.{Jump, Performs, control_by, behind_operator, is_label, letters_in, letters_of}
use Rattle.laws_calls.specs.Controller.{IsPerformed}
use Rattle.laws_reading.specs.Lines.{word_token}
use Rattle.laws_reading.specs.Sorts.{Operates, IsOther, OneBehind, ToldBy, AreTold, HasCapitals, IsTold}
use Rattle.laws_meaning.proofs.Controls.{IsSaid, AreSaid, IsCapital, IsToldBySorts}

performed_by : (op : Op) → (op ≡ ops.Jmp → ⊥) → (op ≡ ops.Ret → ⊥) → IsPerformed op
performed_by ops.Jmp jump ret = absurd (jump refl)
performed_by ops.Ret jump ret = absurd (ret refl)
performed_by op jump ret = tt

performed : (m : Mnemonic) → IsOther m → IsPerformed m.op
performed m is = performed_by m.op is.0 is.1

some_is : {A : Type 0} (x y : A) → Some x ≡ Some y → x ≡ y
some_is x y e = cc

-- the letters of a jump are those of its word
from_letters : (left : ℕ) (r : Option Mnemonic) (o : Operator) → operator_from left r ≡ Some o → o.mnemonic.modifier ≡ letters_in r
from_letters left None o e = absurd cc
from_letters left (Some m) o e = ap (λ (x : Operator). x.mnemonic.modifier) (sym (some_is (record { mnemonic = m; left = left }) o e))

closing_jump : (left : ℕ) (o : Operator) → Some (record { mnemonic = closing; left = left }) ≡ Some o → o.mnemonic.op ≡ ops.Jmp → ⊥
closing_jump left o e jump =
    let same : record { mnemonic = closing; left = left } ≡ o = some_is (record { mnemonic = closing; left = left }) o e in
    let clash : ops.Close ≡ ops.Jmp = ap (λ (x : Operator). x.mnemonic.op) same ∙ jump in
    absurd cc

letters_by : (t : Token) (p q : Bool) (o : Operator) → (if p then operator_from t.left (operator_in dialects.Extended t.text) else if q then Some (record { mnemonic = closing; left = t.left }) else None) ≡ Some o → o.mnemonic.op ≡ ops.Jmp → o.mnemonic.modifier ≡ letters_of t.text
letters_by t true q o e jump = from_letters t.left (operator_in dialects.Extended t.text) o e
letters_by t false true o e jump = absurd (closing_jump t.left o e jump)
letters_by t false false o e jump = absurd cc

jump_letters : (t : Token) (o : Operator) → operator_of dialects.Extended t ≡ Some o → o.mnemonic.op ≡ ops.Jmp → o.mnemonic.modifier ≡ letters_of t.text
unfolding operator_of
jump_letters t o e jump = letters_by t (is_sign signs.Name t || is_sign signs.Ampersand t) (is_sign signs.Close t) o e jump

one_said : (s : Sort) (w x : Word) (o : Operator) → x.sort ≡ s → operator_of dialects.Extended (word_token w) ≡ Some o → OneBehind s x.text w.text → IsSaid (if is_label s then Jump (letters_of w.text) x.text else Performs) o.mnemonic
one_said sorts.Label w x o e is told = let jump = told.0 o is in (jump, jump_letters (word_token w) o is jump, told.1)
one_said sorts.Said w x o e is told = performed o.mnemonic (told o is)
one_said sorts.Own w x o e is told = performed o.mnemonic (told o is)
one_said sorts.Shared w x o e is told = performed o.mnemonic (told o is)
one_said sorts.InOut w x o e is told = performed o.mnemonic (told o is)
one_said (sorts.Return m) w x o e is told = performed o.mnemonic (told o is)

abbrev BehindTold : Word → List Word → Type 0
BehindTold w (x ∷ []) = OneBehind x.sort x.text w.text
BehindTold w ws = Operates IsOther w.text

behind_said : (w : Word) (ws : List Word) (o : Operator) → operator_of dialects.Extended (word_token w) ≡ Some o → BehindTold w ws → IsSaid (behind_operator w.text ws) o.mnemonic
behind_said w [] o is told = performed o.mnemonic (told o is)
behind_said w (x ∷ []) o is told = one_said x.sort w x o refl is told
behind_said w (x ∷ y ∷ ws) o is told = performed o.mnemonic (told o is)

sort_said : (s : Sort) (w : Word) (ws : List Word) (o : Operator) → operator_of dialects.Extended (word_token w) ≡ Some o → ToldBy s w.text ws → IsSaid (control_by s w.text ws) o.mnemonic
sort_said (sorts.Return m) w ws o is told = told o is
sort_said sorts.Said w [] o is told = behind_said w [] o is told
sort_said sorts.Said w (x ∷ []) o is told = behind_said w (x ∷ []) o is told
sort_said sorts.Said w (x ∷ y ∷ ws) o is told = behind_said w (x ∷ y ∷ ws) o is told
sort_said sorts.Own w [] o is told = behind_said w [] o is told
sort_said sorts.Own w (x ∷ []) o is told = behind_said w (x ∷ []) o is told
sort_said sorts.Own w (x ∷ y ∷ ws) o is told = behind_said w (x ∷ y ∷ ws) o is told
sort_said sorts.Shared w [] o is told = behind_said w [] o is told
sort_said sorts.Shared w (x ∷ []) o is told = behind_said w (x ∷ []) o is told
sort_said sorts.Shared w (x ∷ y ∷ ws) o is told = behind_said w (x ∷ y ∷ ws) o is told
sort_said sorts.InOut w [] o is told = behind_said w [] o is told
sort_said sorts.InOut w (x ∷ []) o is told = behind_said w (x ∷ []) o is told
sort_said sorts.InOut w (x ∷ y ∷ ws) o is told = behind_said w (x ∷ y ∷ ws) o is told
sort_said sorts.Label w [] o is told = behind_said w [] o is told
sort_said sorts.Label w (x ∷ []) o is told = behind_said w (x ∷ []) o is told
sort_said sorts.Label w (x ∷ y ∷ ws) o is told = behind_said w (x ∷ y ∷ ws) o is told

words_said : (ws : List Word) → AreTold ws → AreSaid ws
words_said [] told = tt
words_said (w ∷ ws) told = λ (o : Operator) (is : operator_of dialects.Extended (word_token w) ≡ Some o). sort_said w.sort w ws o is told

label_said : (o : Option Word) → HasCapitals o → IsCapital o
label_said None is = tt
label_said (Some w) is = is

pub all_sorted : (ls : List Line) → AllByRecursion IsTold ls → AllByRecursion IsToldBySorts ls
all_sorted [] all = tt
all_sorted (l ∷ ls) all = (record { label = label_said l.label all.0.label; words = words_said l.words all.0.words }, all_sorted ls all.1)
