-- An image that is told, and read again.
use Rattle.std.proofs.Common.{◌≡◌, ◌&&◌, ℕ, ◌+◌, ◌-◌, List, [], ◌∷◌, ◌++◌, length, take, drop, sym, ap, ◌∙◌, arith, refl, Option, Some}
use Rattle.std.specs.Prelude.{nat_eq, codes, if◌then◌else◌, true, option_and_then}
use Rattle.std.specs.List.{ends_with}
use Rattle.std.proofs.lemmas.List.{length-append, take-append-le, drop-append-le, take_all, drop_all}
use Rattle.hex.specs.Hex.{IsBytes, encode_lower, decode_of}
use Rattle.hex.proofs.HexLemmas.{decode_of-encode_lower}
use Rattle.plc_console.specs.Lines.{line_end}
use Rattle.plc_console.specs.Fetching.{ReadsBack, bytes_of_digits, bytes_told, digits_in, image_in, image_line}

-- so long is what stands before the last of some items
before_last : (xs : List ℕ) (y : ℕ) → length (xs ++ y ∷ []) - 1 ≡ length xs
before_last xs y = omega (arith, length-append xs (y ∷ []))

-- what stands before the last of some items, and that one alone
taken : (xs : List ℕ) (y : ℕ) → take (length (xs ++ y ∷ []) - 1) (xs ++ y ∷ []) ≡ xs
taken xs y =
    ap (λ (n : ℕ). take n (xs ++ y ∷ [])) (before_last xs y)
    ∙ (take-append-le (length xs) xs (y ∷ []) (omega arith) ∙ take_all (length xs) xs (omega arith))

left : (xs : List ℕ) (y : ℕ) → drop (length (xs ++ y ∷ []) - 1) (xs ++ y ∷ []) ≡ y ∷ []
left xs y =
    ap (λ (n : ℕ). drop n (xs ++ y ∷ [])) (before_last xs y)
    ∙ (drop-append-le (length xs) xs (y ∷ []) (omega arith) ∙ ap (λ (r : List ℕ). r ++ y ∷ []) (drop_all (length xs) xs (omega arith)))

-- the line's end is found
ended : (digits : List ℕ) → ends_with nat_eq (codes "image " ++ (digits ++ line_end ∷ [])) (codes "\n") ≡ true
ended digits = rw (left (codes "image " ++ digits) line_end) refl

-- the digits of a line that was made of them
found : (digits : List ℕ) → digits_in (codes "image " ++ (digits ++ line_end ∷ [])) ≡ Some digits
found digits = rw (ended digits, taken digits line_end) refl

pub read_back : ReadsBack
read_back image bytes =
    ap (option_and_then bytes_of_digits) (found (encode_lower image)) ∙ ap bytes_told (decode_of-encode_lower image bytes)
