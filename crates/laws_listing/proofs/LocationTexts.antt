-- The listing of a location is read as the location.
use Rattle.std.proofs.Common.{◌≡◌, ℕ, ◌+◌, ◌*◌, ◌/◌, ◌%◌, ◌<◌, true, List, ◌∷◌, ◌++◌, length, Option, Some, None, refl, ap, ◌∙◌, arith}
use Rattle.std.specs.Prelude.{suc, take, drop}
use Rattle.std.proofs.lemmas.Bool.{lt-ltb}
use Rattle.std.proofs.Math.Seq.{take-append_seam, drop-append-add}
use Rattle.il_model.specs.declared.program.Area.{Area}
use Rattle.il_model.specs.declared.program.Area.TheVariants as areas
use Rattle.il_model.specs.declared.program.Loc.{Loc}
use Rattle.il_model.specs.declared.program.Loc.TheVariants.{Bit, Word, Pattern, Double}
use Rattle.il_model.specs.declared.program.DoubleType.{DoubleType}
use Rattle.il_model.specs.declared.program.DoubleType.TheVariants as doubles
use Rattle.il_model.specs.declared.dialect.Dialect.{Dialect}
use Rattle.il_model.specs.declared.dialect.Dialect.TheVariants as dialects
use Rattle.il_model.specs.declared.codes.Version.TheVariants as versions
use Rattle.il_model.specs.Literals.{are_digits, integer_of}
use Rattle.il_model.specs.Locations.{begins_double, is_no_dot, dot_at, bit_of, bit_at, word_at, double_at, location_of, or_double, extended_location_of}
use Rattle.il_model.specs.Dialects.{location_in, newest}
use Rattle.il_model.specs.Image.{location_version, may_have}
use Rattle.il_model.specs.CodedOperands.{IsCell}
use Rattle.il_lister.specs.Listing.{decimal, location_text}
use Rattle.il_model.proofs.WrittenLocations.{text_loc}
use Rattle.laws_listing.proofs.Fronts.{prefix_whole, all_weaker}
use Rattle.laws_listing.proofs.Numerals.{is_digit, IsNumeral, numeral}
use Rattle.laws_listing.proofs.LiteralTexts.{digit_is_not}

no_dot_digit : (b : ℕ) → is_digit b ≡ true → is_no_dot b ≡ true
no_dot_digit b is = rw (digit_is_not 46 b (λ low high. omega arith) is) refl

abbrev dotted : List ℕ → List ℕ → List ℕ
dotted w r = w ++ 46 ∷ r

dot_there : (n : ℕ) (w r : List ℕ) → IsNumeral n w → dot_at (dotted w r) ≡ length w
dot_there n w r is = prefix_whole is_no_dot w (46 ∷ r) (all_weaker is_digit is_no_dot no_dot_digit w is.bytes) refl

bit_again : (area : Area) (k n : ℕ) (w r : List ℕ) → IsNumeral k w → IsNumeral n r → bit_at area (dotted w r) ≡ bit_of area (Some k) (Some n)
unfolding bit_at
bit_again area k n w r is also = rw (dot_there k w r is, take-append_seam w (46 ∷ r), drop-append-add w (46 ∷ r) 1, is.reads, also.reads) refl

word_again : (area : Area) (n : ℕ) → n < 64 → word_at area (decimal n) ≡ Some (Word area n)
unfolding word_at
word_again area n lt = let is = numeral n in rw (is.reads, lt-ltb n 64 lt) refl

bit_whole : (area : Area) (n : ℕ) → n < 512 → bit_at area (dotted (decimal (n / 8)) (decimal (n % 8))) ≡ Some (Bit area n)
bit_whole area n lt =
    let whole : 8 * (n / 8) + n % 8 ≡ n = omega arith in
    bit_again area (n / 8) (n % 8) (decimal (n / 8)) (decimal (n % 8)) (numeral (n / 8)) (numeral (n % 8))
    ∙ rw (lt-ltb (n / 8) 64 (omega arith), lt-ltb (n % 8) 8 (omega arith), whole) refl

-- a double word, which no text before had

double_again : (area : Area) (n : ℕ) → begins_double n ≡ true → double_at area (decimal n) ≡ Some (Double area n doubles.Dint)
unfolding double_at
double_again area n begins = let is = numeral n in rw (is.reads, begins) refl

none_bit : (area : Area) (n : Option ℕ) → bit_of area None n ≡ None
none_bit area None = refl
none_bit area (Some n) = refl

-- a D is no digit
no_number : (ds : List ℕ) → integer_of 10 (take (dot_at (68 ∷ ds)) (68 ∷ ds)) ≡ None
unfolding are_digits
no_number ds = let e : 1 + dot_at ds ≡ suc (dot_at ds) = omega arith in rw e refl

no_bit_there : (area : Area) (ds : List ℕ) → bit_at area (68 ∷ ds) ≡ None
unfolding bit_at
no_bit_there area ds = rw (no_number ds) (none_bit area (integer_of 10 (drop (dot_at (68 ∷ ds) + 1) (68 ∷ ds))))

plain_again : (loc : Loc) → IsCell loc → location_version loc ≡ versions.One → location_of (location_text loc) ≡ Some loc
plain_again (Bit areas.Input n) lt e = bit_whole areas.Input n lt
plain_again (Bit areas.Output n) lt e = bit_whole areas.Output n lt
plain_again (Bit areas.Memory n) lt e = bit_whole areas.Memory n lt
plain_again (Word areas.Input n) lt e = word_again areas.Input n lt
plain_again (Word areas.Output n) lt e = word_again areas.Output n lt
plain_again (Word areas.Memory n) lt e = word_again areas.Memory n lt
plain_again (Pattern a n) lt e = absurd cc
plain_again (Double a n t) lt e = absurd cc

double_text_again : (area : Area) (n : ℕ) (t : DoubleType) → begins_double n ≡ true → extended_location_of (location_text (Double area n t)) ≡ Some (Double area n doubles.Dint)
double_text_again areas.Input n t begins = ap (or_double (location_text (Double areas.Input n t))) (no_bit_there areas.Input (decimal n)) ∙ double_again areas.Input n begins
double_text_again areas.Output n t begins = ap (or_double (location_text (Double areas.Output n t))) (no_bit_there areas.Output (decimal n)) ∙ double_again areas.Output n begins
double_text_again areas.Memory n t begins = ap (or_double (location_text (Double areas.Memory n t))) (no_bit_there areas.Memory (decimal n)) ∙ double_again areas.Memory n begins

-- a pattern has the text of its word
word_text_again : (area : Area) (n : ℕ) → n < 64 → location_of (location_text (Pattern area n)) ≡ Some (Word area n)
word_text_again areas.Input n lt = word_again areas.Input n lt
word_text_again areas.Output n lt = word_again areas.Output n lt
word_text_again areas.Memory n lt = word_again areas.Memory n lt

-- a word is read as INT, a double word as DINT
pub location_again : (dialect : Dialect) (loc : Loc) → IsCell loc → may_have (newest dialect) (location_version loc) ≡ true → location_in dialect (location_text loc) ≡ Some (text_loc loc)
location_again dialects.Plain (Bit a n) lt may = plain_again (Bit a n) lt refl
location_again dialects.Plain (Word a n) lt may = plain_again (Word a n) lt refl
location_again dialects.Plain (Pattern a n) lt may = absurd cc
location_again dialects.Plain (Double a n t) lt may = absurd cc
location_again dialects.Extended (Bit a n) lt may = ap (or_double (location_text (Bit a n))) (plain_again (Bit a n) lt refl)
location_again dialects.Extended (Word a n) lt may = ap (or_double (location_text (Word a n))) (plain_again (Word a n) lt refl)
location_again dialects.Extended (Pattern a n) lt may = ap (or_double (location_text (Pattern a n))) (word_text_again a n lt)
location_again dialects.Extended (Double a n t) begins may = double_text_again a n t begins
