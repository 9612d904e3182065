-- How long cells are as bytes.
use Rattle.std.proofs.Common.{◌≡◌, ◌+◌, ◌*◌, ◌/◌, ℕ, Bool, ℤ, List, [], ◌∷◌, length, refl, arith}
use Rattle.std.proofs.lemmas.List.FromFn.{length-map-range_with_len}
use Rattle.modbus_wire.specs.Packing.{bytes_of_words, bytes_of_bits, bits_of_bytes}

pub length_bytes_of_words : (words : List ℤ) → length (bytes_of_words words) ≡ 2 * length words
length_bytes_of_words [] = refl
length_bytes_of_words (w ∷ ws) = let h : length (bytes_of_words ws) ≡ 2 * length ws = length_bytes_of_words ws in omega (arith, h)

pub length_bytes_of_bits : (bits : List Bool) → length (bytes_of_bits bits) ≡ (length bits + 7) / 8
length_bytes_of_bits bits = length-map-range_with_len _ 0 _

pub length_bits_of_bytes : (bytes : List ℕ) (count : ℕ) → length (bits_of_bytes bytes count) ≡ count
length_bits_of_bytes bytes count = length-map-range_with_len _ 0 count
