-- Each code of an operator stands for it alone.
use Rattle.std.proofs.Common.{◌≡◌, ℕ, zero, suc, ◌+◌, ◌-◌, ◌≤◌, Bool, true, false, cond, ltb, eqb, List, [], ◌∷◌, Option, Some, None, refl, sym, ap, ◌∙◌, arith}
use Rattle.std.specs.Prelude.{slice_get}
use Rattle.std.specs.Option.{option_map}
use Rattle.std.proofs.lemmas.Bool.{ltb-false, eqb-true}
use Rattle.il_values.specs.declared.op.Op.{Op}
use Rattle.il_values.specs.declared.op.Op.TheVariants as ops
use Rattle.il_values.specs.declared.function.Function.{Function}
use Rattle.il_values.specs.Functions.{function_list, function_code}
use Rattle.il_values.specs.declared.shift.Shift.{Shift}
use Rattle.il_values.specs.BitStrings.{shift_list, shift_code}
use Rattle.il_values.specs.OpCodes.{op_code}
use Rattle.il_values.specs.OpCodes.{op_list, op_of}

-- the codes of a list rise by one from a number on
abbrev AreCoded : {X : Type 0} → (X → ℕ) → ℕ → List X → Type 0
AreCoded code k [] = Unit {0}
AreCoded code k (x ∷ xs) = (code x ≡ k) × AreCoded code (suc k) xs

coded_at : {X : Type 0} (code : X → ℕ) (k n : ℕ) (xs : List X) (x : X) → AreCoded code k xs → slice_get xs n ≡ Some x → code x ≡ k + n
coded_at code k n [] x coded e = absurd cc
coded_at code k zero (y ∷ xs) x coded e = let is : y ≡ x = cc in sym (ap code is) ∙ (coded.0 ∙ omega arith)
coded_at code k (suc n) (y ∷ xs) x coded e = coded_at code (suc k) n xs x coded.1 e ∙ omega arith

ops_coded : AreCoded op_code 0 op_list
ops_coded = (refl, (refl, (refl, (refl, (refl, (refl, (refl, (refl, (refl, (refl, (refl, (refl, (refl, (refl, (refl, (refl, (refl, (refl, (refl, (refl, (refl, (refl, (refl, (refl, (refl, (refl, tt))))))))))))))))))))))))))

functions_coded : AreCoded function_code 32 function_list
functions_coded = (refl, (refl, (refl, (refl, (refl, (refl, (refl, (refl, (refl, (refl, (refl, (refl, (refl, (refl, (refl, (refl, (refl, (refl, (refl, (refl, tt))))))))))))))))))))

shifts_coded : AreCoded shift_code 64 shift_list
shifts_coded = (refl, (refl, (refl, (refl, tt))))

applied_is : (o : Option Function) (op : Op) → option_map ops.Apply o ≡ Some op → (f : Function) × (o ≡ Some f) × (ops.Apply f ≡ op)
applied_is (Some f) op e = (f, refl, cc)
applied_is None op e = absurd cc

function_is : (n : ℕ) (op : Op) → 32 ≤ n → option_map ops.Apply (slice_get function_list (n - 32)) ≡ Some op → op_code op ≡ n
function_is n op le e =
    let f = applied_is (slice_get function_list (n - 32)) op e in
    sym (ap op_code f.2) ∙ (coded_at function_code 32 (n - 32) function_list f.0 functions_coded f.1 ∙ omega (arith, le))

moved_is : (o : Option Shift) (op : Op) → option_map ops.Shift o ≡ Some op → (s : Shift) × (o ≡ Some s) × (ops.Shift s ≡ op)
moved_is (Some s) op e = (s, refl, cc)
moved_is None op e = absurd cc

shift_is : (n : ℕ) (op : Op) → 64 ≤ n → option_map ops.Shift (slice_get shift_list (n - 64)) ≡ Some op → op_code op ≡ n
shift_is n op le e =
    let s = moved_is (slice_get shift_list (n - 64)) op e in
    sym (ap op_code s.2) ∙ (coded_at shift_code 64 (n - 64) shift_list s.0 shifts_coded s.1 ∙ omega (arith, le))

-- a function, or a shift
behind : (b : Bool) (n : ℕ) (op : Op) → ltb n 64 ≡ b → 32 ≤ n
    → cond b (option_map ops.Apply (slice_get function_list (n - 32))) (option_map ops.Shift (slice_get shift_list (n - 64))) ≡ Some op → op_code op ≡ n
behind true n op f le e = function_is n op le e
behind false n op f le e = shift_is n op (ltb-false n 64 f) e

-- the four codes behind those of arguments come first
op_by : (a b c d e : Bool) (n : ℕ) (op : Op) → eqb n 28 ≡ a → eqb n 29 ≡ b → eqb n 30 ≡ c → eqb n 31 ≡ d → ltb n 32 ≡ e
    → cond e (cond a (Some ops.DintToLint) (cond b (Some ops.LintToDint) (cond c (Some ops.Min) (cond d (Some ops.Max) (slice_get op_list n))))) (cond (ltb n 64) (option_map ops.Apply (slice_get function_list (n - 32))) (option_map ops.Shift (slice_get shift_list (n - 64)))) ≡ Some op → op_code op ≡ n
op_by true b c d true n op f g h k l s = let is : ops.DintToLint ≡ op = cc in sym (ap op_code is) ∙ sym (eqb-true n 28 f)
op_by false true c d true n op f g h k l s = let is : ops.LintToDint ≡ op = cc in sym (ap op_code is) ∙ sym (eqb-true n 29 g)
op_by false false true d true n op f g h k l s = let is : ops.Min ≡ op = cc in sym (ap op_code is) ∙ sym (eqb-true n 30 h)
op_by false false false true true n op f g h k l s = let is : ops.Max ≡ op = cc in sym (ap op_code is) ∙ sym (eqb-true n 31 k)
op_by false false false false true n op f g h k l s = coded_at op_code 0 n op_list op ops_coded s ∙ omega arith
op_by a b c d false n op f g h k l s = behind (ltb n 64) n op refl (ltb-false n 32 l) s

pub op_is : (n : ℕ) (op : Op) → op_of n ≡ Some op → op_code op ≡ n
op_is n op e = op_by (eqb n 28) (eqb n 29) (eqb n 30) (eqb n 31) (ltb n 32) n op refl refl refl refl refl e
