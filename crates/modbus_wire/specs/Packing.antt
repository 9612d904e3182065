-- Bits and words as bytes.
use Rattle.std.specs.Prelude.{ℕ, ℤ, ◌+◌, ◌*◌, ◌/◌, ◌%◌, ◌^◌, ◌==◌, Bool, false, if◌then◌else◌, List, length, get_or}
use Rattle.std.specs.Prelude.{slice_index, map}
use Rattle.std.specs.List.{range_with_len, flat_map}
use Rattle.std.specs.Int.{w16, to_be_bytes, cast_signed, cast_unsigned}
use Rattle.modbus_wire.specs.Frames.{number_at}

-- 1 for a bit that is TRUE, 0 for one that is FALSE or past the end
abbrev pub bit_value : List Bool → ℕ → ℕ
bit_value bits k = if get_or bits k false then 1 else 0

-- eight bits from a place on, the lowest first
abbrev pub byte_of : List Bool → ℕ → ℕ
byte_of bits k = bit_value bits k + 2 * bit_value bits (k + 1) + 4 * bit_value bits (k + 2) + 8 * bit_value bits (k + 3)
    + 16 * bit_value bits (k + 4) + 32 * bit_value bits (k + 5) + 64 * bit_value bits (k + 6) + 128 * bit_value bits
    (k + 7)

-- bits as bytes, the lowest first, padded with 0
abbrev pub bytes_of_bits : List Bool → List ℕ
bytes_of_bits bits = map (λ k. byte_of bits (8 * k)) (range_with_len 0 ((length bits + 7) / 8))

-- bit n of these bytes
abbrev pub bit_of : List ℕ → ℕ → Bool
bit_of bytes n = slice_index bytes (n / 8) / 2 ^ (n % 8) % 2 == 1

-- so many bits of bytes, the lowest first
abbrev pub bits_of_bytes : List ℕ → ℕ → List Bool
bits_of_bytes bytes count = map (bit_of bytes) (range_with_len 0 count)

-- words as two bytes each, the high one first, in two's complement
abbrev pub bytes_of_words : List ℤ → List ℕ
bytes_of_words words = flat_map (λ z. to_be_bytes w16 (cast_unsigned w16 z)) words

-- the number of two bytes, the high one first
abbrev pub word_of : List ℕ → ℕ → ℤ
word_of bytes k = cast_signed w16 (number_at bytes (2 * k))

abbrev pub words_of_bytes : List ℕ → ℕ → List ℤ
words_of_bytes bytes count = map (word_of bytes) (range_with_len 0 count)
