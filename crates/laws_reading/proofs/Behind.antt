-- What stands behind an operator, read from its tokens.
use Rattle.std.proofs.Common.{◌≡◌, ℕ, true, false, List, [], ◌∷◌, Some, None, Result, Ok, refl, sym, ap, ◌∙◌, subst}
use Rattle.il_reader.specs.declared.lexeme.Sign.{Sign}
use Rattle.il_reader.specs.declared.lexeme.Sign.TheVariants as signs
use Rattle.il_reader.specs.declared.operations.Form.{Form}
use Rattle.il_reader.specs.declared.operations.Form.TheVariants as forms
use Rattle.il_reader.specs.declared.fault.FaultAt.{FaultAt}
use Rattle.il_reader.specs.Tokens.{Token}
use Rattle.il_reader.specs.Grammar.{OperandText, BehindText, Nothing, Given, Target, Opened, Called, is_line_stop, is_constant}
use Rattle.il_reader.specs.Reading.{◌>>=◌, expect, mapped}
use Rattle.il_reader.specs.Walk.{behind_at, either_at, nested_at, optional_operand_at, call_at, arguments_at, operand_at, lone_at, constant_at}
use Rattle.il_reader.proofs.Laws.{ok_is}
use Rattle.laws_reading.specs.Words.{IsOperandSign}
use Rattle.laws_reading.specs.Lines.{unplaced_behind, operand_of, behind_of}
use Rattle.laws_reading.proofs.Lexing.{tok}
use Rattle.laws_reading.proofs.Operands.{done, no_reading, no_stop, operand_there, operand_unplaced}

-- what is read behind an operator says these tokens, and those stand next
pub record SaysBehind (form : Form) (ts : List Token) (rest : List Token) (b : BehindText × List Token) : Type 0 where
  pub says : behind_of form ts ≡ Some (unplaced_behind b.0)
  pub rest_is : b.1 ≡ rest

abbrev brk : ℕ → Token
brk n = tok signs.Break (10 ∷ []) n

-- this was read
is_this : (form : Form) (ts rest : List Token) (x : BehindText) (b : BehindText × List Token) → behind_of form ts ≡ Some (unplaced_behind x) → done (x, rest) ≡ done b → SaysBehind form ts rest b
is_this form ts rest x b says e = subst (SaysBehind form ts rest) (ok_is (x, rest) b e) (record { says = says; rest_is = refl })

-- this was read, and no line ends behind it
pub no_end_there : (x : BehindText × List Token) (b : BehindText × List Token) → done x ≡ done b → is_line_stop b.1 ≡ true → is_line_stop x.1 ≡ false → ⊥
no_end_there x b e stop no_end = no_stop (is_line_stop b.1) stop (subst (λ (y : BehindText × List Token). is_line_stop y.1 ≡ false) (ok_is x b e) no_end)

-- ---- nothing

pub nothing_behind : (form : Form) (n : ℕ) (more : List Token) (b : BehindText × List Token) → behind_at form (brk n ∷ more) ≡ Ok b → SaysBehind form [] (brk n ∷ more) b
unfolding behind_at operand_at lone_at constant_at is_constant expect either_at call_at
nothing_behind forms.Operand n more b e = absurd (no_reading (behind_at forms.Operand (brk n ∷ more)) b e tt)
nothing_behind forms.Nothing n more b e = is_this forms.Nothing [] (brk n ∷ more) Nothing b refl e
nothing_behind forms.Label n more b e = absurd (no_reading (behind_at forms.Label (brk n ∷ more)) b e tt)
nothing_behind forms.Call n more b e = absurd (no_reading (behind_at forms.Call (brk n ∷ more)) b e tt)
nothing_behind forms.Either n more b e = absurd (no_reading (behind_at forms.Either (brk n ∷ more)) b e tt)

-- ---- an operand

given_is : (s : Sign) (w : List ℕ) (n : ℕ) → IsOperandSign s → Some (Given (operand_of (tok s w 0))) ≡ Some (unplaced_behind (Given (operand_of (tok s w n))))
given_is s w n good = ap (λ (x : OperandText). Some (Given x)) (sym (operand_unplaced s w n good))

-- where the operator takes one
taken : (s : Sign) (w : List ℕ) (n m : ℕ) (more : List Token) → IsOperandSign s → mapped Given operand_at (tok s w n ∷ brk m ∷ more) ≡ Ok (Given (operand_of (tok s w n)), brk m ∷ more)
taken s w n m more good = ap (λ (r : Result (OperandText × List Token) FaultAt). r >>= λ x. Ok (Given x.0, x.1)) (operand_there s w n (brk m ∷ more) good refl)

no_end : (s : Sign) (w : List ℕ) (n : ℕ) (ts : List Token) → IsOperandSign s → is_line_stop (tok s w n ∷ ts) ≡ false
no_end signs.Name w n ts good = refl
no_end signs.Literal w n ts good = refl
no_end signs.Address w n ts good = refl
no_end s w n ts good = absurd good

label_behind : (s : Sign) (w : List ℕ) (n m : ℕ) (more : List Token) (b : BehindText × List Token) → IsOperandSign s → behind_at forms.Label (tok s w n ∷ brk m ∷ more) ≡ Ok b → SaysBehind forms.Label (tok s w 0 ∷ []) (brk m ∷ more) b
unfolding behind_at expect
label_behind signs.Name w n m more b good e = is_this forms.Label (tok signs.Name w 0 ∷ []) (brk m ∷ more) (Target (tok signs.Name w n)) b refl e
label_behind signs.Literal w n m more b good e = absurd (no_reading (behind_at forms.Label (tok signs.Literal w n ∷ brk m ∷ more)) b e tt)
label_behind signs.Address w n m more b good e = absurd (no_reading (behind_at forms.Label (tok signs.Address w n ∷ brk m ∷ more)) b e tt)
label_behind s w n m more b good e = absurd good

call_behind : (s : Sign) (w : List ℕ) (n m : ℕ) (more : List Token) (b : BehindText × List Token) → IsOperandSign s → behind_at forms.Call (tok s w n ∷ brk m ∷ more) ≡ Ok b → SaysBehind forms.Call (tok s w 0 ∷ []) (brk m ∷ more) b
unfolding behind_at expect call_at arguments_at
call_behind signs.Name w n m more b good e = is_this forms.Call (tok signs.Name w 0 ∷ []) (brk m ∷ more) (Called (record { instance = tok signs.Name w n; written = None })) b refl e
call_behind signs.Literal w n m more b good e = absurd (no_reading (behind_at forms.Call (tok signs.Literal w n ∷ brk m ∷ more)) b e tt)
call_behind signs.Address w n m more b good e = absurd (no_reading (behind_at forms.Call (tok signs.Address w n ∷ brk m ∷ more)) b e tt)
call_behind s w n m more b good e = absurd good

either_behind : (s : Sign) (w : List ℕ) (n m : ℕ) (more : List Token) (b : BehindText × List Token) → IsOperandSign s → behind_at forms.Either (tok s w n ∷ brk m ∷ more) ≡ Ok b → SaysBehind forms.Either (tok s w 0 ∷ []) (brk m ∷ more) b
unfolding behind_at either_at
either_behind signs.Name w n m more b good e = is_this forms.Either (tok signs.Name w 0 ∷ []) (brk m ∷ more) (Given (operand_of (tok signs.Name w n))) b (given_is signs.Name w n good) (sym (taken signs.Name w n m more good) ∙ e)
either_behind signs.Literal w n m more b good e = is_this forms.Either (tok signs.Literal w 0 ∷ []) (brk m ∷ more) (Given (operand_of (tok signs.Literal w n))) b (given_is signs.Literal w n good) (sym (taken signs.Literal w n m more good) ∙ e)
either_behind signs.Address w n m more b good e = is_this forms.Either (tok signs.Address w 0 ∷ []) (brk m ∷ more) (Given (operand_of (tok signs.Address w n))) b (given_is signs.Address w n good) (sym (taken signs.Address w n m more good) ∙ e)
either_behind s w n m more b good e = absurd good

pub operand_behind : (form : Form) (s : Sign) (w : List ℕ) (n m : ℕ) (more : List Token) (b : BehindText × List Token) → IsOperandSign s → behind_at form (tok s w n ∷ brk m ∷ more) ≡ Ok b → is_line_stop b.1 ≡ true
    → SaysBehind form (tok s w 0 ∷ []) (brk m ∷ more) b
unfolding behind_at
operand_behind forms.Operand s w n m more b good e stop = is_this forms.Operand (tok s w 0 ∷ []) (brk m ∷ more) (Given (operand_of (tok s w n))) b (given_is s w n good) (sym (taken s w n m more good) ∙ e)
operand_behind forms.Nothing s w n m more b good e stop = absurd (no_end_there (Nothing, tok s w n ∷ brk m ∷ more) b e stop (no_end s w n (brk m ∷ more) good))
operand_behind forms.Label s w n m more b good e stop = label_behind s w n m more b good e
operand_behind forms.Call s w n m more b good e stop = call_behind s w n m more b good e
operand_behind forms.Either s w n m more b good e stop = either_behind s w n m more b good e

-- ---- a left parenthesis

abbrev opened : ℕ → List ℕ → Token
opened n w = tok signs.Open w n

pub open_behind : (form : Form) (w : List ℕ) (n m : ℕ) (more : List Token) (b : BehindText × List Token) → behind_at form (tok signs.Open w n ∷ brk m ∷ more) ≡ Ok b → is_line_stop b.1 ≡ true
    → SaysBehind form (tok signs.Open w 0 ∷ []) (brk m ∷ more) b
unfolding behind_at operand_at lone_at constant_at is_constant expect either_at nested_at optional_operand_at call_at
open_behind forms.Operand w n m more b e stop = absurd (no_reading (behind_at forms.Operand (tok signs.Open w n ∷ brk m ∷ more)) b e tt)
open_behind forms.Nothing w n m more b e stop = absurd (no_end_there (Nothing, tok signs.Open w n ∷ brk m ∷ more) b e stop refl)
open_behind forms.Label w n m more b e stop = absurd (no_reading (behind_at forms.Label (tok signs.Open w n ∷ brk m ∷ more)) b e tt)
open_behind forms.Call w n m more b e stop = absurd (no_reading (behind_at forms.Call (tok signs.Open w n ∷ brk m ∷ more)) b e tt)
open_behind forms.Either w n m more b e stop = is_this forms.Either (tok signs.Open w 0 ∷ []) (brk m ∷ more) (Opened None) b refl e

-- ---- that and an operand

nested_is : (s : Sign) (w : List ℕ) (n : ℕ) → IsOperandSign s → Some (Opened (Some (operand_of (tok s w 0)))) ≡ Some (unplaced_behind (Opened (Some (operand_of (tok s w n)))))
nested_is s w n good = ap (λ (x : OperandText). Some (Opened (Some x))) (sym (operand_unplaced s w n good))

nested_taken : (opening : List ℕ) (s : Sign) (w : List ℕ) (k n m : ℕ) (more : List Token) → IsOperandSign s
    → behind_at forms.Either (tok signs.Open opening k ∷ tok s w n ∷ brk m ∷ more) ≡ Ok (Opened (Some (operand_of (tok s w n))), brk m ∷ more)
unfolding behind_at either_at nested_at optional_operand_at expect
nested_taken opening s w k n m more good = rw (no_end s w n (brk m ∷ more) good, operand_there s w n (brk m ∷ more) good refl) refl

pub nested_behind : (form : Form) (opening : List ℕ) (s : Sign) (w : List ℕ) (k n m : ℕ) (more : List Token) (b : BehindText × List Token) → IsOperandSign s → behind_at form (tok signs.Open opening k ∷ tok s w n ∷ brk m ∷ more) ≡ Ok b → is_line_stop b.1 ≡ true
    → SaysBehind form (tok signs.Open opening 0 ∷ tok s w 0 ∷ []) (brk m ∷ more) b
unfolding behind_at operand_at lone_at constant_at is_constant expect call_at
nested_behind forms.Operand opening s w k n m more b good e stop = absurd (no_reading (behind_at forms.Operand (tok signs.Open opening k ∷ tok s w n ∷ brk m ∷ more)) b e tt)
nested_behind forms.Nothing opening s w k n m more b good e stop = absurd (no_end_there (Nothing, tok signs.Open opening k ∷ tok s w n ∷ brk m ∷ more) b e stop refl)
nested_behind forms.Label opening s w k n m more b good e stop = absurd (no_reading (behind_at forms.Label (tok signs.Open opening k ∷ tok s w n ∷ brk m ∷ more)) b e tt)
nested_behind forms.Call opening s w k n m more b good e stop = absurd (no_reading (behind_at forms.Call (tok signs.Open opening k ∷ tok s w n ∷ brk m ∷ more)) b e tt)
nested_behind forms.Either opening s w k n m more b good e stop =
    is_this forms.Either (tok signs.Open opening 0 ∷ tok s w 0 ∷ []) (brk m ∷ more) (Opened (Some (operand_of (tok s w n)))) b (nested_is s w n good) (sym (nested_taken opening s w k n m more good) ∙ e)
