-- The hexadecimal digits of a WORD are those of its two bytes.
use Rattle.std.proofs.Common.{◌≡◌, ℕ, ◌-◌, ◌<◌, ◌/◌, ◌%◌, ◌^◌, Bool, true, false, List, [], ◌∷◌, ◌++◌, refl, ap, ◌∙◌, arith}
use Rattle.std.specs.Fmt.{digits, digit_glyph, padded_integral, format_spec}
use Rattle.std.proofs.lemmas.Fmt.{hex_byte}
use Rattle.il_values.specs.BitStrings.{hex_word}

-- what `{:02X}` writes
abbrev pub byte_text : ℕ → List ℕ
byte_text n = padded_integral (format_spec 32 0 4 2 (2 ^ 64 - 1)) false [] (digits 16 true n)

pub two_bytes : (n : ℕ) → n < 2 ^ 16 → byte_text (n / 256) ++ byte_text (n % 256) ≡ hex_word n
two_bytes n small =
    let first : n / 256 / 16 ≡ n / 4096 % 16 = omega arith in
    let third : n % 256 / 16 ≡ n / 16 % 16 = omega arith in
    let fourth : n % 256 % 16 ≡ n % 16 = omega arith in
    let high = hex_byte true (n / 256) (omega arith) in
    let low = hex_byte true (n % 256) (omega arith) in
    rw (high, low, first, third, fourth) refl
