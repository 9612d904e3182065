-- Operands and operators, read from their tokens.
use Rattle.std.proofs.Common.{◌≡◌, ℕ, Bool, true, false, cond, List, ◌∷◌, Option, Some, None, Result, Ok, Err, refl, ap, ◌||◌}
use Rattle.il_model.specs.declared.dialect.Dialect.TheVariants as dialects
use Rattle.il_model.specs.declared.words.Mnemonic.{Mnemonic}
use Rattle.il_model.specs.Dialects.{operator_in}
use Rattle.il_reader.specs.declared.lexeme.Sign.{Sign}
use Rattle.il_reader.specs.declared.lexeme.Sign.TheVariants as signs
use Rattle.il_reader.specs.declared.contents.Operator.{Operator}
use Rattle.il_reader.specs.declared.fault.FaultAt.{FaultAt}
use Rattle.il_reader.specs.Tokens.{Token}
use Rattle.il_reader.specs.Front.{is_sign, next_is}
use Rattle.il_reader.specs.Grammar.{is_truth, is_constant, before_dot, operator_of, operator_from, closing}
use Rattle.il_reader.specs.Reading.{expect}
use Rattle.il_reader.specs.Walk.{operand_at, inner_operand_at, variable_at, constant_at, field_at, inner_field_at, lone_at}
use Rattle.laws_reading.specs.Words.{IsOperandSign}
use Rattle.laws_reading.specs.Lines.{unplaced_operand, unplaced_operator, operand_of}
use Rattle.laws_reading.proofs.Lexing.{tok}

-- ---- what is read, and what is refused

abbrev pub done : {A : Type 0} → A → Result A FaultAt
done x = Ok x

abbrev pub IsRefused : {A : Type 0} → Result A FaultAt → Type 0
IsRefused (Ok x) = ⊥
IsRefused (Err f) = Unit {0}

pub no_reading : {A : Type 0} (r : Result A FaultAt) (x : A) → r ≡ Ok x → IsRefused r → ⊥
no_reading (Ok y) x e h = h
no_reading (Err f) x e h = absurd cc

pub no_stop : (b : Bool) → b ≡ true → b ≡ false → ⊥
no_stop true e f = absurd cc
no_stop false e f = absurd cc

-- ---- operands

-- an operand, where no dot follows
pub operand_there : (s : Sign) (w : List ℕ) (n : ℕ) (ts : List Token) → IsOperandSign s → next_is signs.Dot ts ≡ false → operand_at (tok s w n ∷ ts) ≡ Ok (operand_of (tok s w n), ts)
unfolding operand_at variable_at field_at lone_at constant_at expect is_constant
operand_there signs.Name w n ts good dot = by_truth (is_truth (tok signs.Name w n)) refl
  where
    by_truth : (b : Bool) → is_truth (tok signs.Name w n) ≡ b → operand_at (tok signs.Name w n ∷ ts) ≡ Ok (operand_of (tok signs.Name w n), ts)
    by_truth true e = rw e refl
    by_truth false e = rw (e, dot) refl
operand_there signs.Literal w n ts good dot = refl
operand_there signs.Address w n ts good dot = refl
operand_there s w n ts good dot = absurd good

-- the same between the parentheses of a call
pub inner_there : (s : Sign) (w : List ℕ) (n : ℕ) (ts : List Token) → IsOperandSign s → before_dot ts ≡ false → inner_operand_at (tok s w n ∷ ts) ≡ Ok (operand_of (tok s w n), ts)
unfolding inner_operand_at variable_at inner_field_at lone_at constant_at expect is_constant
inner_there signs.Name w n ts good dot = by_truth (is_truth (tok signs.Name w n)) refl
  where
    by_truth : (b : Bool) → is_truth (tok signs.Name w n) ≡ b → inner_operand_at (tok signs.Name w n ∷ ts) ≡ Ok (operand_of (tok signs.Name w n), ts)
    by_truth true e = rw e refl
    by_truth false e = rw (e, dot) refl
inner_there signs.Literal w n ts good dot = refl
inner_there signs.Address w n ts good dot = refl
inner_there s w n ts good dot = absurd good

-- apart from its place
pub operand_unplaced : (s : Sign) (w : List ℕ) (n : ℕ) → IsOperandSign s → unplaced_operand (operand_of (tok s w n)) ≡ operand_of (tok s w 0)
operand_unplaced signs.Name w n good = by_truth (is_truth (tok signs.Name w n)) refl
  where
    by_truth : (b : Bool) → is_truth (tok signs.Name w n) ≡ b → unplaced_operand (operand_of (tok signs.Name w n)) ≡ operand_of (tok signs.Name w 0)
    by_truth true e = rw e refl
    by_truth false e = rw e refl
operand_unplaced signs.Literal w n good = refl
operand_unplaced signs.Address w n good = refl
operand_unplaced s w n good = absurd good

-- ---- operators

some_is : {A : Type 0} (x y : A) → Some x ≡ Some y → x ≡ y
some_is x y e = cc

by_signs : (p q : Bool) (m : Option Mnemonic) (n : ℕ) (o : Operator) → cond p (operator_from n m) (cond q (Some (record { mnemonic = closing; left = n })) None) ≡ Some o
    → cond p (operator_from 0 m) (cond q (Some (record { mnemonic = closing; left = 0 })) None) ≡ Some (unplaced_operator o)
by_signs true q None n o e = absurd cc
by_signs true q (Some m) n o e = ap (λ (x : Operator). Some (unplaced_operator x)) (some_is (record { mnemonic = m; left = n }) o e)
by_signs false true m n o e = ap (λ (x : Operator). Some (unplaced_operator x)) (some_is (record { mnemonic = closing; left = n }) o e)
by_signs false false m n o e = absurd cc

pub operator_unplaced : (s : Sign) (w : List ℕ) (n : ℕ) (o : Operator) → operator_of dialects.Extended (tok s w n) ≡ Some o → operator_of dialects.Extended (tok s w 0) ≡ Some (unplaced_operator o)
unfolding operator_of
operator_unplaced s w n o e =
    by_signs (is_sign signs.Name (tok s w n) || is_sign signs.Ampersand (tok s w n)) (is_sign signs.Close (tok s w n)) (operator_in dialects.Extended w) n o e
