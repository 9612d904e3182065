-- The tokens of a text that was read stand in the order in which it says them: fewer and fewer bytes are left from each on.
use Rattle.std.proofs.Common.{◌≡◌, ℕ, zero, suc, ◌-◌, ◌<◌, ◌≤◌, Bool, true, false, cond, List, [], ◌∷◌, ◌++◌, length, take, Option, Some, None, refl, sym, ap, subst, ◌∙◌, arith, ◌||◌}
use Rattle.il_model.specs.declared.dialect.Dialect.{Dialect}
use Rattle.il_model.specs.Dialects.{operator_in}
use Rattle.il_model.specs.declared.words.Mnemonic.{Mnemonic}
use Rattle.il_reader.specs.declared.contents.Operator.{Operator}
use Rattle.il_reader.specs.declared.lexeme.Class.{Class}
use Rattle.il_reader.specs.declared.lexeme.Class.TheVariants as classes
use Rattle.il_reader.specs.declared.lexeme.Sign.TheVariants as signs
use Rattle.il_reader.specs.Tokens.{Token, piece_of, after, put, tokens_behind, tokens_of}
use Rattle.il_reader.specs.Front.{is_sign, skip_breaks}
use Rattle.il_reader.specs.Grammar.{BehindText, form_of, closing, operator_of, operator_from}
use Rattle.il_reader.specs.Spelling.{Part, breaks, one, this, operator, ahead, Spell, accepts, accepting, operator_before}

-- ---- tokens

abbrev Falling : ℕ → List Token → Type 0
Falling n [] = Unit {0}
Falling n (t ∷ ts) = (t.left < n) × Falling t.left ts

weaken : (m n : ℕ) (ts : List Token) → m ≤ n → Falling m ts → Falling n ts
weaken m n [] le falls = tt
weaken m n (t ∷ ts) le falls = (let lt = falls.0 in omega arith, falls.1)

after_falls : (c : Class) (n : ℕ) (ts : List Token) → Falling n ts → Falling n (after c ts)
after_falls (classes.Sign s) n ts falls = falls
after_falls (classes.Broken f) n ts falls = tt
after_falls classes.End n ts falls = tt

put_falls : (o : Option Class) (text : List ℕ) (left n : ℕ) (ts : List Token) → left < n → Falling left ts → Falling n (put o text left ts)
put_falls None text left n ts here falls = weaken left n ts (omega arith) falls
put_falls (Some c) text left n ts here falls = (here, after_falls c left ts falls)

tokens_fall : (dialect : Dialect) → (k : ℕ) (bytes : List ℕ) → Falling (suc (length bytes)) (tokens_behind dialect k bytes)
unfolding tokens_behind
tokens_fall dialect k [] = (omega arith, tt)
tokens_fall dialect (suc k) (b ∷ bs) = weaken (suc (length bs)) (suc (suc (length bs))) (tokens_behind dialect k bs) (omega arith) (tokens_fall dialect k bs)
tokens_fall dialect zero (b ∷ bs) =
    let p = piece_of dialect (b ∷ bs) in
    put_falls p.class (take p.len (b ∷ bs)) (length (b ∷ bs)) (suc (suc (length bs))) (tokens_behind dialect (p.len - 1) bs) (omega arith) (tokens_fall dialect (p.len - 1) bs)

skip_falls : (n : ℕ) (ts : List Token) → Falling n ts → Falling n (skip_breaks ts)
unfolding skip_breaks
skip_falls n [] falls = tt
skip_falls n (t ∷ ts) falls = chosen (is_sign signs.Break t) (skip_falls n ts (weaken t.left n ts (let lt = falls.0 in omega arith) falls.1))
  where
    chosen : (b : Bool) → Falling n (skip_breaks ts) → Falling n (cond b (skip_breaks ts) (t ∷ ts))
    chosen true h = h
    chosen false h = falls

-- ---- parts

-- the tokens of parts stand behind the first number and not behind the second
abbrev pub Falls : ℕ → List Part → ℕ → Type 0
Falls n [] m = m ≤ n
Falls n (this p x ∷ ps) m = (x.left < n) × Falls x.left ps m
Falls n (operator f x ∷ ps) m = (t : Token) × (f t ≡ Some x) × (t.left < n) × Falls t.left ps m
Falls n (p ∷ ps) m = Falls n ps m

less : (a b : ℕ) (ps : List Part) (m : ℕ) → a ≤ b → Falls a ps m → Falls b ps m
less a b [] m le falls = omega arith
less a b (this p x ∷ ps) m le falls = (let lt = falls.0 in omega arith, falls.1)
less a b (operator f x ∷ ps) m le falls = (falls.0, falls.1, let lt = falls.2 in omega arith, falls.3)
less a b (breaks ∷ ps) m le falls = less a b ps m le falls
less a b (one p ∷ ps) m le falls = less a b ps m le falls
less a b (ahead p ∷ ps) m le falls = less a b ps m le falls

parts_fall : (n : ℕ) (ps : List Part) (ts rest : List Token) → Falling n ts → Spell ps ts rest → Falls n ps 0
parts_fall n [] ts rest falls h = omega arith
parts_fall n (breaks ∷ ps) ts rest falls h = parts_fall n ps (skip_breaks ts) rest (skip_falls n ts falls) h
parts_fall n (ahead p ∷ ps) ts rest falls h = parts_fall n ps ts rest falls h.1
parts_fall n (one p ∷ ps) [] rest falls h = absurd h
parts_fall n (one p ∷ ps) (t ∷ ts) rest falls h = parts_fall n ps ts rest (weaken t.left n ts (let lt = falls.0 in omega arith) falls.1) h.1
parts_fall n (operator f x ∷ ps) [] rest falls h = absurd h
parts_fall n (operator f x ∷ ps) (t ∷ ts) rest falls h = (t, h.0, falls.0, parts_fall t.left ps ts rest falls.1 h.1)
parts_fall n (this p x ∷ ps) [] rest falls h = absurd h
parts_fall n (this p x ∷ ps) (t ∷ ts) rest falls h =
    let P : Token → Type 0 = λ u. (u.left < n) × Falls u.left ps 0 in
    subst P h.0.1 (falls.0, parts_fall t.left ps ts rest falls.1 h.1)

-- the parts of a text that was read
pub text_falls : (dialect : Dialect) → (bytes : List ℕ) (ps : List Part) (rest : List Token) → Spell ps (tokens_of dialect bytes) rest → Falls (suc (length bytes)) ps 0
text_falls dialect bytes ps rest h = parts_fall (suc (length bytes)) ps (tokens_of dialect bytes) rest (tokens_fall dialect 0 bytes) h

pub at_most : (n : ℕ) (ps : List Part) (m : ℕ) → Falls n ps m → m ≤ n
at_most n [] m falls = falls
at_most n (this p x ∷ ps) m falls = let le = at_most x.left ps m falls.1 in let lt = falls.0 in omega arith
at_most n (operator f x ∷ ps) m falls = let le = at_most falls.0.left ps m falls.3 in let lt = falls.2 in omega arith
at_most n (breaks ∷ ps) m falls = at_most n ps m falls
at_most n (one p ∷ ps) m falls = at_most n ps m falls
at_most n (ahead p ∷ ps) m falls = at_most n ps m falls

-- parts and those behind them meet somewhere
pub split : (n : ℕ) (ps qs : List Part) (m : ℕ) → Falls n (ps ++ qs) m → (k : ℕ) × Falls n ps k × Falls k qs m
split n [] qs m falls = (n, omega arith, falls)
split n (this p x ∷ ps) qs m falls = let h = split x.left ps qs m falls.1 in (h.0, (falls.0, h.1), h.2)
split n (operator f x ∷ ps) qs m falls = let h = split falls.0.left ps qs m falls.3 in (h.0, (falls.0, falls.1, falls.2, h.1), h.2)
split n (breaks ∷ ps) qs m falls = split n ps qs m falls
split n (one p ∷ ps) qs m falls = split n ps qs m falls
split n (ahead p ∷ ps) qs m falls = split n ps qs m falls

-- ---- operators

abbrev some_operator : Operator → Option Operator
some_operator x = Some x

operator_is : (x y : Operator) → some_operator x ≡ some_operator y → x ≡ y
operator_is x y e = cc

-- an operator stands where its token stands
pub operator_at : (dialect : Dialect) → (b : BehindText) (t : Token) (x : Operator) → operator_before dialect b t ≡ Some x → x.left ≡ t.left
unfolding operator_of
operator_at dialect b t x e = found (operator_of dialect t) by_token e
  where
    by_token : (y : Operator) → operator_of dialect t ≡ Some y → y.left ≡ t.left
    by_token y h = chosen (is_sign signs.Name t) (is_sign signs.Ampersand t) (is_sign signs.Close t) h
      where
        worded : (o : Option Mnemonic) → operator_from t.left o ≡ Some y → y.left ≡ t.left
        worded None h = absurd cc
        worded (Some m) h = sym (ap (λ (z : Operator). z.left) (operator_is (record { mnemonic = m; left = t.left }) y h))

        chosen : (a c d : Bool) → cond (a || c) (operator_from t.left (operator_in dialect t.text)) (cond d (Some (record { mnemonic = closing; left = t.left })) None) ≡ Some y → y.left ≡ t.left
        chosen true c d h = worded (operator_in dialect t.text) h
        chosen false true d h = worded (operator_in dialect t.text) h
        chosen false false true h = sym (ap (λ (z : Operator). z.left) (operator_is (record { mnemonic = closing; left = t.left }) y h))
        chosen false false false h = absurd cc

    found : (o : Option Operator) → ((y : Operator) → o ≡ Some y → y.left ≡ t.left) → accepting b o ≡ Some x → x.left ≡ t.left
    found None at h = absurd cc
    found (Some y) at h = taken (accepts (form_of y.mnemonic.op) b) h
      where
        taken : (a : Bool) → cond a (Some y) None ≡ Some x → x.left ≡ t.left
        taken true k = ap (λ (z : Operator). z.left) (sym (operator_is y x k)) ∙ at y refl
        taken false k = absurd cc
