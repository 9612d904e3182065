-- Literals (IEC 61131-3:2003, B.1.2): what a text is that begins with a digit, a sign, or a word before a #.
use Rattle.std.specs.Prelude.{ℕ, ◌+◌, ◌-◌, ◌*◌, ◌^◌, min, option_map, Bool, true, false, ◌&&◌, List, [], ◌∷◌, length}
use Rattle.std.specs.Prelude.{Option, Some, None, nat_lt, nat_le, ◌==◌, if◌then◌else◌, zero, suc, ◌/◌, ◌%◌, ◌||◌, take}
use Rattle.std.specs.Prelude.{drop, codes, not, ℤ, pos, negsuc}
use Rattle.std.specs.List.{prefix_len, list_any}
use Rattle.std.specs.Option.{option_and_then}
use Rattle.il_model.specs.declared.duration.TimeUnit.{TimeUnit}
use Rattle.il_model.specs.declared.duration.TimePart.{TimePart}
use Rattle.il_values.specs.declared.value.Ty.{Ty}
use Rattle.il_model.specs.declared.literal.Literal.{Literal}
use Rattle.il_model.specs.declared.literal.Literal.TheVariants.{Bare, Typed}
use Rattle.il_values.specs.declared.value.Ty.TheVariants as types
use Rattle.il_values.specs.declared.value.Value.TheVariants as values
use Rattle.il_values.specs.Spelled.{upper, spells}
use Rattle.il_real.specs.declared.real.Real.{Real}
use Rattle.il_real.specs.Literals.{real_literal}
use Rattle.il_values.specs.Values.{is_within, typed_value}

-- ---- digits (B.1.2.1)

-- the value of a digit, 99 for any other byte
abbrev pub digit_of : ℕ → ℕ
digit_of b =
    if nat_le 48 b && nat_le b 57 then b - 48
    else if nat_le 65 b && nat_le b 90 then b - 55
    else if nat_le 97 b && nat_le b 122 then b - 87
    else 99

-- digits of the base with single underscores between them, behind a digit or not
unfoldable pub are_digits : ℕ → Bool → List ℕ → Bool
are_digits base behind [] = behind
are_digits base behind (b ∷ bs) =
    if b == 95 then behind && are_digits base false bs
    else nat_lt (digit_of b) base && are_digits base true bs

-- what they stand for behind a value
unfoldable pub value_behind : ℕ → ℕ → List ℕ → ℕ
value_behind base n [] = n
value_behind base n (b ∷ bs) = if b == 95 then value_behind base n bs else value_behind base (n * base + digit_of b) bs

abbrev pub integer_behind : ℕ → Bool → ℕ → List ℕ → Option ℕ
integer_behind base behind n bs = if are_digits base behind bs then Some (value_behind base n bs) else None

-- the whole number that a text of digits stands for
abbrev pub integer_of : ℕ → List ℕ → Option ℕ
integer_of base bs = integer_behind base false 0 bs

-- the value of decimals behind the point, in ones of the last place
unfoldable pub decimals : List ℕ → ℕ
decimals [] = 0
decimals (d ∷ ds) = d * 10 ^ length ds + decimals ds

-- how digits are read as a number of a base
abbrev pub Digits : Type 0
Digits = ℕ → List ℕ → Option ℕ

-- That, with all numbers from 2^64 - 1 on, which lie above every range, told as 2^64 - 1: what code of fixed width
-- computes.
abbrev pub held_integer : Digits
held_integer base bs = option_map (λ n. min n 18446744073709551615) (integer_of base bs)

-- ---- durations (B.1.2.3.1), in milliseconds: what stands behind T# and a sign

abbrev pub is_digit_byte : ℕ → Bool
is_digit_byte b = (nat_le 48 b && nat_le b 57) || b == 95

abbrev pub is_unit_byte : ℕ → Bool
is_unit_byte b = nat_le 65 (upper b) && nat_le (upper b) 90

-- how many bytes stand before the first that is no digit and no underscore
abbrev pub digits_len : List ℕ → ℕ
digits_len bytes = prefix_len is_digit_byte bytes

-- how many bytes stand before the first that is no letter
abbrev pub unit_len : List ℕ → ℕ
unit_len bytes = prefix_len is_unit_byte bytes

-- days, hours, minutes, seconds, milliseconds, the greater the higher
abbrev pub unit_of : List ℕ → Option TimeUnit
unit_of w =
    if spells (codes "D") w then Some (record { rank = 4; milliseconds = 86400000 })
    else if spells (codes "H") w then Some (record { rank = 3; milliseconds = 3600000 })
    else if spells (codes "M") w then Some (record { rank = 2; milliseconds = 60000 })
    else if spells (codes "S") w then Some (record { rank = 1; milliseconds = 1000 })
    else if spells (codes "MS") w then Some (record { rank = 0; milliseconds = 1 })
    else None

-- decimals without their underscores, as digits
unfoldable pub digit_list : List ℕ → List ℕ
digit_list [] = []
digit_list (b ∷ bs) = if b == 95 then digit_list bs else digit_of b ∷ digit_list bs

-- the milliseconds that decimals of a unit are, where they are whole
unfoldable pub whole_part : ℕ → List ℕ → Option ℕ
whole_part unit ds = if decimals ds * unit % 10 ^ length ds == 0 then Some (decimals ds * unit / 10 ^ length ds)
    else None

abbrev pub fraction_of : ℕ → List ℕ → Option ℕ
fraction_of unit bytes = if are_digits 10 false bytes then whole_part unit (digit_list bytes) else None

-- one part of a duration: how high its unit is, whether it has decimals, its milliseconds, and what follows
pub record PartText : Type 0 where
  pub rank : ℕ
  pub broken : Bool
  pub milliseconds : ℕ
  pub rest : List ℕ

abbrev pub part_text : TimePart → PartText
part_text p = record { rank = p.rank; broken = p.broken; milliseconds = p.milliseconds; rest = p.rest.now }

-- a whole number of a unit
abbrev pub plain_part : ℕ → List ℕ → TimeUnit → PartText
plain_part n rest u = record { rank = u.rank; broken = false; milliseconds = n * u.milliseconds; rest = rest }

-- a number of a unit with decimals
abbrev pub broken_part : ℕ → List ℕ → List ℕ → TimeUnit → Option PartText
broken_part n fraction rest u =
    option_map (λ f. record { rank = u.rank; broken = true; milliseconds = n * u.milliseconds + f; rest = rest })
    (fraction_of u.milliseconds fraction)

-- a whole number's unit
abbrev pub at_unit : ℕ → List ℕ → Option PartText
at_unit n bytes = option_map (plain_part n (drop (unit_len bytes) bytes)) (unit_of (take (unit_len bytes) bytes))

-- decimals and their unit
abbrev pub decimals_unit : ℕ → List ℕ → List ℕ → Option PartText
decimals_unit n fraction unit =
    option_and_then (broken_part n fraction (drop (unit_len unit) unit)) (unit_of (take (unit_len unit) unit))

abbrev pub at_decimals : ℕ → List ℕ → Option PartText
at_decimals n bytes = decimals_unit n (take (digits_len bytes) bytes) (drop (digits_len bytes) bytes)

abbrev pub begins_dot : List ℕ → Bool
begins_dot [] = false
begins_dot (b ∷ bs) = b == 46

abbrev pub behind_number : List ℕ → ℕ → Option PartText
behind_number bytes n = if begins_dot bytes then at_decimals n (drop 1 bytes) else at_unit n bytes

unfoldable pub part_by : Digits → List ℕ → Option PartText
part_by read bytes = option_and_then (behind_number (drop (digits_len bytes) bytes))
    (read 10 (take (digits_len bytes) bytes))

-- an underscore may join two parts
abbrev pub past_join : List ℕ → List ℕ
past_join [] = []
past_join (b ∷ bs) = if b == 95 then bs else b ∷ bs

-- a part of a unit below a limit, with those behind it
abbrev pub sum_of_parts : (ℕ → List ℕ → Option ℕ) → ℕ → PartText → Option ℕ
sum_of_parts parts limit p =
    if nat_lt p.rank limit then
    (if length p.rest == 0 then Some p.milliseconds
    else (if p.broken then None else option_map (λ n. p.milliseconds + n) (parts p.rank (past_join p.rest))))
    else None

-- parts, each of a lower unit than the one before, added up; there are five units
unfoldable pub parts_by : Digits → ℕ → ℕ → List ℕ → Option ℕ
parts_by read zero limit bytes = None
parts_by read (suc k) limit bytes = option_and_then (sum_of_parts (parts_by read k) limit) (part_by read bytes)

-- a duration without a sign
abbrev pub duration_by : Digits → List ℕ → Option ℕ
duration_by read bytes = parts_by read 5 5 bytes

-- ---- whole numbers

abbrev pub positive : ℕ → ℤ
positive n = pos n

abbrev pub minus : ℕ → ℤ
minus zero = pos 0
minus (suc n) = negsuc n

-- decimal, with a sign or without
abbrev pub signed_by : Digits → List ℕ → Option ℤ
signed_by read [] = None
signed_by read (b ∷ bs) =
    if b == 45 then option_map minus (read 10 bs)
    else if b == 43 then option_map positive (read 10 bs)
    else option_map positive (read 10 (b ∷ bs))

abbrev pub is_no_hash : ℕ → Bool
is_no_hash b = not (b == 35)

-- how many bytes stand before the first #
abbrev pub hash_at : List ℕ → ℕ
hash_at bytes = prefix_len is_no_hash bytes

-- 2#, 8# and 16#, without a sign
abbrev pub based_by : Digits → List ℕ → List ℕ → Option ℤ
based_by read base bytes =
    if spells (codes "2") base then option_map positive (read 2 bytes)
    else if spells (codes "8") base then option_map positive (read 8 bytes)
    else if spells (codes "16") base then option_map positive (read 16 bytes)
    else None

abbrev pub whole_by : Digits → List ℕ → Option ℤ
whole_by read bytes =
    if nat_lt (hash_at bytes) (length bytes)
    then based_by read (take (hash_at bytes) bytes) (drop (hash_at bytes + 1) bytes)
    else signed_by read bytes

-- a duration with a minus or without
abbrev pub time_by : Digits → List ℕ → Option ℤ
time_by read [] = None
time_by read (b ∷ bs) = if b == 45 then option_map minus (duration_by read bs)
    else option_map positive (duration_by read (b ∷ bs))

-- ---- literals

abbrev pub truth_literal : List ℕ → Option Literal
truth_literal bytes =
    if spells (codes "TRUE") bytes || spells (codes "1") bytes then Some (Typed (values.Bool true))
    else if spells (codes "FALSE") bytes || spells (codes "0") bytes then Some (Typed (values.Bool false))
    else None

abbrev pub typed_literal : Ty → Option ℤ → Option Literal
typed_literal type o = option_map Typed (option_and_then (typed_value type) o)

-- a number without a type has 32 bits
abbrev pub bare_literal : ℤ → Option Literal
bare_literal z = if is_within (2 ^ 31) z then Some (Bare z) else None

-- behind a word and a #
abbrev pub prefixed_literal : Digits → List ℕ → List ℕ → Option Literal
prefixed_literal read word bytes =
    if spells (codes "BOOL") word then truth_literal bytes
    else if spells (codes "INT") word then typed_literal types.Int (whole_by read bytes)
    else if spells (codes "DINT") word then typed_literal types.Dint (whole_by read bytes)
    else if spells (codes "LINT") word then typed_literal types.Lint (whole_by read bytes)
    else if spells (codes "T") word || spells (codes "TIME") word then typed_literal types.Time (time_by read bytes)
    else option_and_then bare_literal (based_by read word bytes)

abbrev pub is_word : List ℕ → Bool
is_word bytes = spells (codes "TRUE") bytes || spells (codes "FALSE") bytes

-- the literal that a text is, if it is one
abbrev pub literal_by : Digits → List ℕ → Option Literal
literal_by read bytes =
    if nat_lt (hash_at bytes) (length bytes)
    then prefixed_literal read (take (hash_at bytes) bytes) (drop (hash_at bytes + 1) bytes)
    else if is_word bytes then truth_literal bytes
    else option_and_then bare_literal (signed_by read bytes)

unfoldable pub literal_of : List ℕ → Option Literal
literal_of bytes = literal_by integer_of bytes

-- ---- literals of extended texts: those, REALs and bit strings

abbrev pub has_point : List ℕ → Bool
has_point bytes = list_any (λ b. b == 46) bytes

abbrev pub typed_real : Option Real → Option Literal
typed_real r = option_map (λ r. Typed (values.Real r)) r

-- behind a word and a #
abbrev pub extended_prefixed : List ℕ → List ℕ → List ℕ → Option Literal
extended_prefixed word rest bytes =
    if spells (codes "REAL") word then typed_real (real_literal rest)
    else if spells (codes "WORD") word then typed_literal types.Word (whole_by integer_of rest)
    else if spells (codes "DWORD") word then typed_literal types.Dword (whole_by integer_of rest)
    else literal_of bytes

abbrev pub extended_plain : List ℕ → Option Literal
extended_plain bytes = if has_point bytes then typed_real (real_literal bytes) else literal_of bytes

-- the literal that a text is in an extended text
abbrev pub extended_literal_of : List ℕ → Option Literal
extended_literal_of bytes = if nat_lt (hash_at bytes) (length bytes)
    then extended_prefixed (take (hash_at bytes) bytes) (drop (hash_at bytes + 1) bytes) bytes else extended_plain bytes
