-- The text of a value is read back as it.
use Rattle.std.proofs.Common.{◌≡◌, ℕ, ◌<◌, ◌≤◌, ◌+◌, ◌-◌, ◌*◌, ◌^◌, Bool, true, false, refl, ap, sym, subst, ◌∙◌, Option, Some, None, List, [], ◌∷◌, length, arith}
use Rattle.std.specs.Prelude.{decimal, if◌then◌else◌}
use Rattle.std.specs.Str.{IsAscii, IsCharBoundary}
use Rattle.std.proofs.lemmas.Str.{IsCharBoundary-from_ascii, digit_value_digit}
use Rattle.std.specs.Str.Parse.{AllDigits, digits_value_after}
use Rattle.std.proofs.lemmas.Bool.{lt-ltb, le-leb, eqb-true, ne_eqb}
use Rattle.std.proofs.lemmas.Fmt.{decimal_is_IsNumeral}
use Rattle.std.proofs.lemmas.Str.Parse.{digit_from_value}
use Rattle.std.specs.Char.{digit_value}
use Rattle.il_real.specs.declared.real.Real.{Real}
use Rattle.il_real.specs.Literals.{is_next, pattern_behind, patterned, real_literal}
use Rattle.il_real.specs.Texts.{plain_text, is_found, pattern_text, real_text}
use Rattle.il_real.proofs.Values.{with_own_pattern, same_real, real_small}

-- where a text of ASCII may be cut
pub ascii_boundary : (bs : List ℕ) (i : ℕ) → IsAscii bs → i ≤ length bs → IsCharBoundary bs i
ascii_boundary = IsCharBoundary-from_ascii

-- ---- digits are read as the number that they write

least_after : (n : ℕ) (ds : List ℕ) → n ≤ digits_value_after 10 n ds
least_after n [] = omega arith
least_after n (c ∷ cs) = omega (arith, least_after (n * 10 + digit_value c) cs)

digit_byte : (c : ℕ) → digit_value c < 10 → c - 48 ≡ digit_value c
digit_byte c h = let k = digit_value_digit c (digit_from_value c h) in omega (arith, k, digit_from_value c h)

next_is : (n c : ℕ) → digit_value c < 10 → n * 10 + digit_value c < 4294967296 → is_next n c ≡ true
next_is n c h small =
    let k = digit_from_value c h in
    rw (le-leb 48 c (omega (arith, k)), le-leb c 57 (omega (arith, k)), digit_byte c h) (lt-ltb _ _ small)

digits_read : (n : ℕ) (ds : List ℕ) → AllDigits 10 ds → digits_value_after 10 n ds < 4294967296
    → pattern_behind n ds ≡ Some (digits_value_after 10 n ds)
unfolding pattern_behind
digits_read n [] all small = refl
digits_read n (c ∷ cs) all small =
    let fits : n * 10 + digit_value c < 4294967296 = omega (arith, small, least_after (n * 10 + digit_value c) cs) in
    let P : ℕ → Type 0 = λ d. pattern_behind (n * 10 + d) cs ≡ Some (digits_value_after 10 (n * 10 + digit_value c) cs) in
    rw (next_is n c all.0 fits) (subst P (sym (digit_byte c all.0)) (digits_read (n * 10 + digit_value c) cs all.1 small))

-- ---- a pattern is read as its value

patterned_by : (r : Real) (ds : List ℕ) → 0 < length ds → pattern_behind 0 ds ≡ Some r.pattern → patterned ds ≡ Some r
patterned_by r [] some h = absurd (omega (arith, some))
patterned_by r (c ∷ cs) some h = rw (ne_eqb (length (c ∷ cs)) 0 (λ e. omega (arith, e)), h) (with_own_pattern r)

own_pattern_read : (r : Real) → real_literal (pattern_text r) ≡ Some r
unfolding real_literal
own_pattern_read r =
    let small : r.pattern < 2 ^ 64 = omega (arith, real_small r) in
    let k = decimal_is_IsNumeral r.pattern small in
    patterned_by r (decimal r.pattern) k.0.0
    (digits_read 0 (decimal r.pattern) k.0.1 (omega (arith, k.1, real_small r)) ∙ ap (λ (n : ℕ). Some n) k.1)

-- ---- the text is one of two

found_is : (r : Real) (o : Option Real) → is_found r o ≡ true → o ≡ Some r
found_is r (Some x) h = ap Some (same_real x r (eqb-true x.pattern r.pattern h))
found_is r None h = absurd (cc h)

text_by : (r : Real) (b : Bool) → is_found r (real_literal (plain_text r)) ≡ b
    → real_literal (if b then plain_text r else pattern_text r) ≡ Some r
text_by r true h = found_is r (real_literal (plain_text r)) h
text_by r false h = own_pattern_read r

pub reads_back : (r : Real) → real_literal (real_text r) ≡ Some r
reads_back r = text_by r (is_found r (real_literal (plain_text r))) refl
