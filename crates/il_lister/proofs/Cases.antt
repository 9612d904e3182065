-- Texts that go by cases, where the case is known.
use Rattle.std.proofs.Common.{◌≡◌, ◌<◌, List, [], ◌∷◌, ◌++◌, length, get_or, zero, suc, ℤ, pos, negsuc, Bool, false, cond, refl, sym, ap, ◌∙◌, arith}
use Rattle.std.specs.Prelude.{codes}
use Rattle.std.specs.List.{between}
use Rattle.std.proofs.lemmas.Bool.Decides.{nat_tests}
use Rattle.std.proofs.lemmas.Slice.{first_rest}
use Rattle.il_values.specs.declared.value.Value.{Value}
use Rattle.il_model.specs.declared.program.Argument.{Argument}
use Rattle.il_model.specs.declared.program.Operand.{Operand}
use Rattle.il_model.specs.declared.program.Operand.TheVariants as operands
use Rattle.il_values.specs.Values.{number_of}
use Rattle.il_values.specs.Operators.{is_zero}
use Rattle.il_lister.specs.Listing.{literal_text, initial_text, operand_text, behind_text, arguments_text}

is_zero-other : (z : ℤ) → (z ≡ pos 0 → ⊥) → is_zero z ≡ false
is_zero-other (pos zero) other = absurd (other refl)
is_zero-other (pos (suc n)) other = grind (arith, nat_tests)
is_zero-other (negsuc n) other = refl

pub initial_is : (v : Value) → (number_of v ≡ pos 0 → ⊥) → initial_text v ≡ codes " := " ++ literal_text v
initial_is v other = ap (λ (b : Bool). cond b [] (codes " := " ++ literal_text v)) (is_zero-other (number_of v) other)

pub behind_is : (operand : Operand) → (operand ≡ operands.Absent → ⊥) → behind_text operand ≡ codes " " ++ operand_text operand
behind_is operand other = grind arith

pub arguments_are : (arguments : List Argument) (first : Argument) → 0 < length arguments → first ≡ get_or arguments 0 first → arguments_text (first ∷ between 1 (length arguments) arguments) ≡ arguments_text arguments
arguments_are arguments first some is =
    ap arguments_text (ap (λ (a : Argument). a ∷ between 1 (length arguments) arguments) is ∙ sym (first_rest arguments first some))
