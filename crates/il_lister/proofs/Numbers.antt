-- What a number is printed as.
use Rattle.std.proofs.Common.{◌≡◌, ◌<◌, ◌^◌, ◌∷◌, ℕ, List, zero, suc, ℤ, pos, negsuc, sym, ap, ◌∙◌, arith, SFits, w64}
use Rattle.std.proofs.Math.Dec.{eqb-suc-zero}
use Rattle.std.proofs.lemmas.Bool.{cond-false}
use Rattle.std.proofs.lemmas.Int.{ints}
use Rattle.std.proofs.lemmas.Fmt.{decimal_digit, decimal-digits_of}
use Rattle.std.specs.Fmt.{decimal as printed, signed_decimal}
use Rattle.il_lister.specs.Listing.{decimal, number_text}

pub decimal-is : (n : ℕ) → n < 2 ^ 64 → printed n ≡ decimal n
decimal-is zero lt = decimal_digit 0 (omega arith)
decimal-is (suc n) lt = decimal-digits_of (suc n) (omega arith) lt ∙ sym (cond-false _ _ _ (eqb-suc-zero n))

pub number-is : (z : ℤ) → SFits w64 z → signed_decimal z ≡ number_text z
number-is (pos n) fits = decimal-is n (omega (arith, ints))
number-is (negsuc n) fits = ap (λ (l : List ℕ). 45 ∷ l) (decimal-is (suc n) (omega (arith, ints)))
