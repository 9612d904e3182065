-- Bits and words as bytes are read as what was written.
use Rattle.std.proofs.Common.{◌≡◌, ℕ, ℤ, zero, suc, ◌+◌, ◌*◌, ◌/◌, ◌%◌, ◌^◌, ◌<◌, ◌≤◌, Bool, true, false, List, [], ◌∷◌, ◌++◌, length, get_or, refl, sym, ap, ◌∙◌, arith}
use Rattle.std.specs.Prelude.{◌==◌, pos, slice_index, FitsSigned}
use Rattle.std.specs.Int.{w16, cast_signed, cast_unsigned, byte_at}
use Rattle.std.specs.List.{AllByRecursion}
use Rattle.std.proofs.Math.Facts.{Fits-of_z}
use Rattle.std.proofs.lemmas.Int.{to_z-of_z}
use Rattle.std.proofs.lemmas.List.FromFn.{fill_by_all, get_or-map-range_with_len}
use Rattle.modbus_wire.specs.Frames.{number_at}
use Rattle.modbus_wire.specs.Packing.{bit_value, byte_of, bytes_of_bits, bit_of, bits_of_bytes, bytes_of_words, word_of, words_of_bytes}

-- 16 bits are their two bytes
pub two_bytes : (n : ℕ) → n < 65536 → byte_at 1 n * 256 + byte_at 0 n ≡ n
two_bytes n h = omega arith

-- ---- bits

value_small : (bits : List Bool) (k : ℕ) → bit_value bits k ≤ 1
value_small bits k = small (get_or bits k false) refl
  where
    small : (b : Bool) → get_or bits k false ≡ b → bit_value bits k ≤ 1
    small true e = rw e (omega arith)
    small false e = rw e (omega arith)

value_says : (bits : List Bool) (k : ℕ) → (bit_value bits k == 1) ≡ get_or bits k false
value_says bits k = says (get_or bits k false) refl
  where
    says : (b : Bool) → get_or bits k false ≡ b → (bit_value bits k == 1) ≡ get_or bits k false
    says true e = rw e refl
    says false e = rw e refl

record AreSmall (a b c d e f g h : ℕ) : Type 0 where
  a_small : a ≤ 1
  b_small : b ≤ 1
  c_small : c ≤ 1
  d_small : d ≤ 1
  e_small : e ≤ 1
  f_small : f ≤ 1
  g_small : g ≤ 1
  h_small : h ≤ 1

-- of eight bits as a byte, divided by a power of two, the lowest bit is the one of that place
place_0 : (a b c d e f g h : ℕ) → AreSmall a b c d e f g h → (a + 2 * b + 4 * c + 8 * d + 16 * e + 32 * f + 64 * g + 128 * h) / 1 % 2 ≡ a
place_0 a b c d e f g h s = omega (arith, s)

place_1 : (a b c d e f g h : ℕ) → AreSmall a b c d e f g h → (a + 2 * b + 4 * c + 8 * d + 16 * e + 32 * f + 64 * g + 128 * h) / 2 % 2 ≡ b
place_1 a b c d e f g h s = omega (arith, s)

place_2 : (a b c d e f g h : ℕ) → AreSmall a b c d e f g h → (a + 2 * b + 4 * c + 8 * d + 16 * e + 32 * f + 64 * g + 128 * h) / 4 % 2 ≡ c
place_2 a b c d e f g h s = omega (arith, s)

place_3 : (a b c d e f g h : ℕ) → AreSmall a b c d e f g h → (a + 2 * b + 4 * c + 8 * d + 16 * e + 32 * f + 64 * g + 128 * h) / 8 % 2 ≡ d
place_3 a b c d e f g h s = omega (arith, s)

place_4 : (a b c d e f g h : ℕ) → AreSmall a b c d e f g h → (a + 2 * b + 4 * c + 8 * d + 16 * e + 32 * f + 64 * g + 128 * h) / 16 % 2 ≡ e
place_4 a b c d e f g h s = omega (arith, s)

place_5 : (a b c d e f g h : ℕ) → AreSmall a b c d e f g h → (a + 2 * b + 4 * c + 8 * d + 16 * e + 32 * f + 64 * g + 128 * h) / 32 % 2 ≡ f
place_5 a b c d e f g h s = omega (arith, s)

place_6 : (a b c d e f g h : ℕ) → AreSmall a b c d e f g h → (a + 2 * b + 4 * c + 8 * d + 16 * e + 32 * f + 64 * g + 128 * h) / 64 % 2 ≡ g
place_6 a b c d e f g h s = omega (arith, s)

place_7 : (a b c d e f g h : ℕ) → AreSmall a b c d e f g h → (a + 2 * b + 4 * c + 8 * d + 16 * e + 32 * f + 64 * g + 128 * h) / 128 % 2 ≡ h
place_7 a b c d e f g h s = omega (arith, s)

all_small : (bits : List Bool) (k : ℕ) → AreSmall (bit_value bits k) (bit_value bits (k + 1)) (bit_value bits (k + 2)) (bit_value bits (k + 3)) (bit_value bits (k + 4)) (bit_value bits (k + 5)) (bit_value bits (k + 6)) (bit_value bits (k + 7))
all_small bits k = record {
  a_small = value_small bits k;
  b_small = value_small bits (k + 1);
  c_small = value_small bits (k + 2);
  d_small = value_small bits (k + 3);
  e_small = value_small bits (k + 4);
  f_small = value_small bits (k + 5);
  g_small = value_small bits (k + 6);
  h_small = value_small bits (k + 7);
}

-- bit r of the byte of eight bits from k on
bit_at : (bits : List Bool) (k r : ℕ) → r < 8 → byte_of bits k / 2 ^ r % 2 ≡ bit_value bits (k + r)
bit_at bits k zero h = place_0 _ _ _ _ _ _ _ _ (all_small bits k) ∙ ap (bit_value bits) (omega arith)
bit_at bits k (suc zero) h = place_1 _ _ _ _ _ _ _ _ (all_small bits k)
bit_at bits k (suc (suc zero)) h = place_2 _ _ _ _ _ _ _ _ (all_small bits k)
bit_at bits k (suc (suc (suc zero))) h = place_3 _ _ _ _ _ _ _ _ (all_small bits k)
bit_at bits k (suc (suc (suc (suc zero)))) h = place_4 _ _ _ _ _ _ _ _ (all_small bits k)
bit_at bits k (suc (suc (suc (suc (suc zero))))) h = place_5 _ _ _ _ _ _ _ _ (all_small bits k)
bit_at bits k (suc (suc (suc (suc (suc (suc zero)))))) h = place_6 _ _ _ _ _ _ _ _ (all_small bits k)
bit_at bits k (suc (suc (suc (suc (suc (suc (suc zero))))))) h = place_7 _ _ _ _ _ _ _ _ (all_small bits k)
bit_at bits k (suc (suc (suc (suc (suc (suc (suc (suc r)))))))) h = absurd (omega arith)

bit_back : (bits : List Bool) (n : ℕ) → n < length bits → get_or bits n false ≡ bit_of (bytes_of_bits bits) n
bit_back bits n h =
    let byte : slice_index (bytes_of_bits bits) (n / 8) ≡ byte_of bits (8 * (n / 8)) = get_or-map-range_with_len (λ k. byte_of bits (8 * k)) 0 ((length bits + 7) / 8) (n / 8) (n / 8) 0 (omega arith) (omega arith) in
    let whole : 8 * (n / 8) + n % 8 ≡ n = omega arith in
    let same : slice_index (bytes_of_bits bits) (n / 8) / 2 ^ (n % 8) % 2 ≡ bit_value bits n =
    ap (λ (b : ℕ). b / 2 ^ (n % 8) % 2) byte ∙ (bit_at bits (8 * (n / 8)) (n % 8) (omega arith) ∙ ap (bit_value bits) whole) in
    sym (ap (λ (b : ℕ). b == 1) same ∙ value_says bits n)

pub bits_back : (bits : List Bool) → bits_of_bytes (bytes_of_bits bits) (length bits) ≡ bits
bits_back bits = sym (fill_by_all (bit_of (bytes_of_bits bits)) bits (length bits) false refl (bit_back bits))

-- ---- words

pub signed_back : (z : ℤ) → FitsSigned w16 z → cast_signed w16 (cast_unsigned w16 z) ≡ z
signed_back z fits = to_z-of_z w16 z fits

pub unsigned_small : (z : ℤ) → FitsSigned w16 z → cast_unsigned w16 z < 65536
unsigned_small z fits = (Fits-of_z fits).fits

number_back : (words : List ℤ) (k : ℕ) → AllByRecursion (FitsSigned w16) words → k < length words → number_at (bytes_of_words words) (2 * k) ≡ cast_unsigned w16 (get_or words k (pos 0))
number_back [] k fits h = absurd (omega arith)
number_back (z ∷ words) zero fits h = omega (arith, two_bytes (cast_unsigned w16 z) (unsigned_small z fits.0))
number_back (z ∷ words) (suc k) fits h = ap (number_at (bytes_of_words (z ∷ words))) (twice k) ∙ number_back words k fits.1 (omega arith)
  where
    twice : (k : ℕ) → 2 * suc k ≡ suc (suc (2 * k))
    twice k = omega arith

fits_at : (words : List ℤ) (k : ℕ) → AllByRecursion (FitsSigned w16) words → k < length words → FitsSigned w16 (get_or words k (pos 0))
fits_at [] k fits h = absurd (omega arith)
fits_at (z ∷ words) zero fits h = fits.0
fits_at (z ∷ words) (suc k) fits h = fits_at words k fits.1 (omega arith)

pub words_back : (words : List ℤ) → AllByRecursion (FitsSigned w16) words → words_of_bytes (bytes_of_words words) (length words) ≡ words
words_back words fits = sym (fill_by_all (word_of (bytes_of_words words)) words (length words) (pos 0) refl back)
  where
    back : (k : ℕ) → k < length words → get_or words k (pos 0) ≡ word_of (bytes_of_words words) k
    back k h = sym (ap (cast_signed w16) (number_back words k fits h) ∙ signed_back (get_or words k (pos 0)) (fits_at words k fits h))
