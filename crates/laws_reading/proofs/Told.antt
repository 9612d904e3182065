-- Operators by their words, and names of labels.
use Rattle.std.proofs.Common.{◌≡◌, ℕ, ◌-◌, ◌≤◌, Bool, true, false, List, [], ◌∷◌, ◌++◌, map, take, drop, Option, Some, None, refl, sym, ap, ◌∙◌, subst, arith, inl, inr, codes, decimal}
use Rattle.std.specs.Prelude.{◌&&◌, ◌==◌, nat_le, if◌then◌else◌}
use Rattle.std.specs.List.{list_all}
use Rattle.std.proofs.lemmas.Bool.{leb-true, and_parts}
use Rattle.il_values.specs.Spelled.{upper, spells}
use Rattle.il_values.specs.declared.op.Op.TheVariants as ops
use Rattle.il_values.specs.declared.op.Modifier.{Modifier}
use Rattle.il_model.specs.declared.dialect.Dialect.TheVariants as dialects
use Rattle.il_model.specs.declared.words.Mnemonic.{Mnemonic}
use Rattle.il_model.specs.Words.{under, is_well_spelled, mnemonic_of, look, plain, letter_c, letters_cn}
use Rattle.il_model.specs.Dialects.{operator_in}
use Rattle.il_reader.specs.declared.lexeme.Sign.{Sign}
use Rattle.il_reader.specs.declared.lexeme.Sign.TheVariants as signs
use Rattle.il_reader.specs.declared.lexeme.Class.{Class}
use Rattle.il_reader.specs.declared.lexeme.Class.TheVariants as classes
use Rattle.il_reader.specs.declared.fault.FaultKind.{FaultKind}
use Rattle.il_reader.specs.declared.contents.Operator.{Operator}
use Rattle.il_reader.specs.Tokens.{Token, is_letter_byte, broken}
use Rattle.il_reader.specs.Front.{first}
use Rattle.il_reader.specs.Grammar.{operator_of}
use Rattle.il_reader.proofs.Tokens.{gives}
use Rattle.il_units.specs.Words.{capitals, said, jump_with}
use Rattle.laws_reading.specs.Words.{IsOneToken, IsOperatorSign}
use Rattle.laws_reading.specs.Lines.{word_token}
use Rattle.laws_reading.specs.Sorts.{Operates, IsJump, IsOther, IsCapital}
use Rattle.laws_reading.proofs.Lexing.{tok, token_is}
use Rattle.laws_reading.proofs.Operands.{operator_unplaced}
use Rattle.laws_reading.proofs.Runs.{IsBroken, MayBe, IsRun, plain_run, run_may, run_under}
use Rattle.laws_reading.proofs.Typed.{numbered_run, digits_are}

-- ---- a word that is no token is no operator

none_operates : (text : List ℕ) (f : FaultKind) (left : ℕ) → operator_of dialects.Extended (record { class = classes.Broken f; text = text; left = left }) ≡ None
unfolding operator_of
none_operates text f left = refl

broken_class : (text : List ℕ) (b : ℕ) (bs : List ℕ) → text ≡ b ∷ bs → IsBroken text → (f : FaultKind) × (word_token (said text 0) ≡ record { class = classes.Broken f; text = text; left = 0 })
broken_class text b bs parts is =
    let p = is [] in
    let e = gives dialects.Extended (text ++ 32 ∷ []) (take 1 (text ++ 32 ∷ [])) (drop 1 (text ++ 32 ∷ [])) (broken p.0) (classes.Broken p.0) (sym p.1) (λ any. omega arith) refl refl refl in
    (p.0, ap (λ (ts : List Token). record { class = (first ts).class; text = text; left = 0 }) e)

some_none : (r : Option Operator) (o : Operator) → r ≡ None → r ≡ Some o → ⊥
some_none None o a b = absurd cc
some_none (Some x) o a b = absurd cc

some_is : {A : Type 0} (x y : A) → Some x ≡ Some y → x ≡ y
some_is x y e = cc

name_operates : (text : List ℕ) (m : Mnemonic) → operator_in dialects.Extended text ≡ Some m → operator_of dialects.Extended (tok signs.Name text 0) ≡ Some (record { mnemonic = m; left = 0 })
unfolding operator_of
name_operates text m is = rw is refl

-- a name that is such an operator
pub may_operate : (Fits : Mnemonic → Type 0) (text : List ℕ) (m : Mnemonic) → MayBe text signs.Name → operator_in dialects.Extended text ≡ Some m → Fits m → Operates Fits text
may_operate Fits text m (inl one) is fits = λ (o : Operator) (e : operator_of dialects.Extended (word_token (said text 0)) ≡ Some o).
    let there = sym (name_operates text m is) ∙ sym (ap (operator_of dialects.Extended) (token_is signs.Name (said text 0) one)) ∙ e in
    let same : record { mnemonic = m; left = 0 } ≡ o = some_is (record { mnemonic = m; left = 0 }) o there in
    subst (λ (x : Operator). Fits x.mnemonic) same fits
may_operate Fits text m (inr none) is fits = λ (o : Operator) (e : operator_of dialects.Extended (word_token (said text 0)) ≡ Some o).
    let b = broken_class text none.0 none.1 none.2 none.3 in
    absurd (some_none (operator_of dialects.Extended (word_token (said text 0))) o (ap (operator_of dialects.Extended) b.1 ∙ none_operates text b.0 0) e)

token_so : (t : Token) (s : Sign) → t.class ≡ classes.Sign s → t ≡ tok s t.text t.left
token_so t s e = ap (λ (c : Class). record { class = c; text = t.text; left = t.left }) e

-- an operator of a text of units, written again
pub token_operates : (Fits : Mnemonic → Type 0) (t : Token) (s : Sign) (x : Operator) → t.class ≡ classes.Sign s → IsOneToken t.text s → operator_of dialects.Extended t ≡ Some x → Fits x.mnemonic → Operates Fits t.text
token_operates Fits t s x class one is fits = λ (o : Operator) (e : operator_of dialects.Extended (word_token (said t.text 0)) ≡ Some o).
    let here : operator_of dialects.Extended (tok s t.text t.left) ≡ Some x = sym (ap (operator_of dialects.Extended) (token_so t s class)) ∙ is in
    let there : Some (record { mnemonic = x.mnemonic; left = 0 }) ≡ Some o = sym (operator_unplaced s t.text t.left x here) ∙ sym (ap (operator_of dialects.Extended) (token_is s (said t.text 0) one)) ∙ e in
    let same : record { mnemonic = x.mnemonic; left = 0 } ≡ o = some_is (record { mnemonic = x.mnemonic; left = 0 }) o there in
    subst (λ (y : Operator). Fits y.mnemonic) same fits

-- ---- names of labels

pub record IsLabelName (name : List ℕ) : Type 0 where
  pub run : IsRun name
  pub capital : IsCapital name

up_by : (b : ℕ) (c : Bool) → (nat_le 97 b && nat_le b 122) ≡ c → upper (if c then b - 32 else b) ≡ (if c then b - 32 else b)
up_by b true e =
    let h = and_parts (nat_le 97 b) (nat_le b 122) e in
    let high : b ≤ 122 = leb-true b 122 h.1 in
    small (b - 32) (omega (arith, high))
  where
    small : (n : ℕ) → n ≤ 96 → upper n ≡ n
    small n less = by_test (nat_le 97 n) refl
      where
        by_test : (d : Bool) → nat_le 97 n ≡ d → (if d && nat_le n 122 then n - 32 else n) ≡ n
        by_test true f = let more : 97 ≤ n = leb-true 97 n f in absurd (omega (arith, more, less))
        by_test false f = refl
up_by b false e = ap (λ (c : Bool). if c then b - 32 else b) e

pub up_twice : (w : List ℕ) → capitals (capitals w) ≡ capitals w
up_twice [] = refl
up_twice (b ∷ bs) = ap (λ (c : ℕ). c ∷ map upper (map upper bs)) (up_by b (nat_le 97 b && nat_le b 122) refl) ∙ ap (λ (cs : List ℕ). upper b ∷ cs) (up_twice bs)

map_under : (a b : List ℕ) → map upper (a ++ 46 ∷ b) ≡ map upper a ++ 46 ∷ map upper b
map_under [] b = refl
map_under (c ∷ cs) b = ap (λ (w : List ℕ). upper c ∷ w) (map_under cs b)

under_up : (a b : List ℕ) → IsCapital a → IsCapital b → IsCapital (under a b)
under_up a b x y = map_under a b ∙ ap (λ (w : List ℕ). w ++ 46 ∷ map upper b) x ∙ ap (λ (w : List ℕ). a ++ 46 ∷ w) y

pub label_under : (a b : List ℕ) → IsLabelName a → IsLabelName b → IsLabelName (under a b)
label_under a b x y = record { run = run_under a b x.run y.run; capital = under_up a b x.capital y.capital }

digits_up : (ds : List ℕ) → list_all (λ (b : ℕ). nat_le 48 b && nat_le b 57) ds ≡ true → map upper ds ≡ ds
digits_up [] all = refl
digits_up (d ∷ ds) all =
    let h = and_parts (nat_le 48 d && nat_le d 57) (list_all (λ (b : ℕ). nat_le 48 b && nat_le b 57) ds) all in
    let high : d ≤ 57 = leb-true d 57 (and_parts (nat_le 48 d) (nat_le d 57) h.0).1 in
    ap (λ (c : ℕ). c ∷ map upper ds) (digit_up d high) ∙ ap (λ (cs : List ℕ). d ∷ cs) (digits_up ds h.1)
  where
    digit_up : (n : ℕ) → n ≤ 57 → upper n ≡ n
    digit_up n less = by_test (nat_le 97 n) refl
      where
        by_test : (b : Bool) → nat_le 97 n ≡ b → (if b && nat_le n 122 then n - 32 else n) ≡ n
        by_test true f = let more : 97 ≤ n = leb-true 97 n f in absurd (omega (arith, more, less))
        by_test false f = refl

pub numbered_label : (b n : ℕ) → is_letter_byte b ≡ true → (b == 95) ≡ false → upper b ≡ b → IsLabelName (b ∷ decimal n)
numbered_label b n letter line up = record { run = numbered_run b n letter line; capital = ap (λ (c : ℕ). c ∷ map upper (decimal n)) up ∙ ap (λ (cs : List ℕ). b ∷ cs) (digits_up (decimal n) (digits_are n)) }

pub return_label : IsLabelName (codes "RET")
unfolding is_well_spelled
return_label = record { run = plain_run 82 (69 ∷ 84 ∷ []) refl refl refl; capital = refl }

pub call_label : IsLabelName (codes "CAL")
unfolding is_well_spelled
call_label = record { run = plain_run 67 (65 ∷ 76 ∷ []) refl refl refl; capital = refl }

-- ---- operators that are everywhere the same

pub record OperatorOk (text : List ℕ) : Type 0 where
  pub sign : Sign
  pub good : IsOperatorSign sign text
  pub may : MayBe text sign

pub record OtherOk (text : List ℕ) : Type 0 where
  pub ok : OperatorOk text
  pub told : Operates IsOther text

pub record JumpOk (text : List ℕ) : Type 0 where
  pub ok : OperatorOk text
  pub told : Operates IsJump text

operator_run : (text : List ℕ) → IsRun text → (m : Mnemonic) → operator_in dialects.Extended text ≡ Some m → OperatorOk text
operator_run text run m is = record { sign = signs.Name; good = (m, is); may = run_may text run }

pub other_run : (text : List ℕ) → IsRun text → (m : Mnemonic) → operator_in dialects.Extended text ≡ Some m → IsOther m → OtherOk text
other_run text run m is other = record { ok = operator_run text run m is; told = may_operate IsOther text m (run_may text run) is other }

jump_run : (text : List ℕ) → IsRun text → (m : Mnemonic) → operator_in dialects.Extended text ≡ Some m → IsJump m → JumpOk text
jump_run text run m is jump = record { ok = operator_run text run m is; told = may_operate IsJump text m (run_may text run) is jump }

jump_word : JumpOk (codes "JMP")
unfolding is_well_spelled mnemonic_of look spells
jump_word = jump_run (codes "JMP") (plain_run 74 (77 ∷ 80 ∷ []) refl refl refl) (record { op = ops.Jmp; modifier = plain }) refl refl

jump_c_word : JumpOk (codes "JMPC")
unfolding is_well_spelled mnemonic_of look spells
jump_c_word = jump_run (codes "JMPC") (plain_run 74 (77 ∷ 80 ∷ 67 ∷ []) refl refl refl) (record { op = ops.Jmp; modifier = letter_c }) refl refl

jump_cn_word : JumpOk (codes "JMPCN")
unfolding is_well_spelled mnemonic_of look spells
jump_cn_word = jump_run (codes "JMPCN") (plain_run 74 (77 ∷ 80 ∷ 67 ∷ 78 ∷ []) refl refl refl) (record { op = ops.Jmp; modifier = letters_cn }) refl refl

pub jump_is : (m : Modifier) → JumpOk (jump_with m)
jump_is m = by_letters m.conditional m.negated
  where
    by_letters : (c n : Bool) → JumpOk (if c then (if n then codes "JMPCN" else codes "JMPC") else codes "JMP")
    by_letters false n = jump_word
    by_letters true true = jump_cn_word
    by_letters true false = jump_c_word
