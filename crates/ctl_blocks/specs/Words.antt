-- The four words that a block's state is saved as. Their layout is this project's own.
use Rattle.std.specs.Prelude.{ℕ, ◌+◌, ◌*◌, ◌%◌, ◌/◌, ◌^◌, Bool, true, false, List, [], ◌∷◌, ℤ, pos, negsuc, nat_eq}
use Rattle.std.specs.Prelude.{if◌then◌else◌}
use Rattle.std.specs.Int.{cast_unsigned, cast_signed, w32}
use Rattle.il_values.specs.Values.{is_within}

abbrev pub bit : Bool → ℕ
bit true = 1
bit false = 0

-- the number with these bits, the lowest first
abbrev pub bits_number : List Bool → ℕ
bits_number [] = 0
bits_number (b ∷ bs) = bit b + 2 * bits_number bs

-- two numbers of 32 bits in one word, each in two's complement
abbrev pub joined_halves : ℤ → ℤ → ℕ
joined_halves high low = cast_unsigned w32 high * 2 ^ 32 + cast_unsigned w32 low

-- truths, two numbers, a moment, and 0
abbrev pub saved_words : List Bool → ℤ → ℤ → ℕ → List ℕ
saved_words truths high low moment = bits_number truths ∷ joined_halves high low ∷ moment ∷ 0 ∷ []

-- whether the bit of that weight is set
abbrev pub has_bit : ℕ → ℕ → Bool
has_bit n weight = nat_eq ((n / weight) % 2) 1

abbrev pub high_of : ℕ → ℤ
high_of n = cast_signed w32 (n / 2 ^ 32)

abbrev pub low_of : ℕ → ℤ
low_of n = cast_signed w32 (n % 2 ^ 32)

-- the number, or 0 where INT hasn't it
abbrev pub int_or_zero : ℤ → ℤ
int_or_zero z = if is_within (2 ^ 15) z then z else pos 0

abbrev pub is_zero : ℤ → Bool
is_zero (pos n) = nat_eq n 0
is_zero (negsuc n) = false
