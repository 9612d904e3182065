-- The one table of operand codes, which slots use, too: the code of each operand, and the operand of each code.
use Rattle.std.specs.Prelude.{◌≡◌, ℕ, ◌+◌, ◌-◌, ◌*◌, ◌/◌, ◌%◌, ◌<◌, true, Option, Some, None, nat_lt, nat_eq}
use Rattle.std.specs.Prelude.{if◌then◌else◌}
use Rattle.std.specs.Option.{option_map}
use Rattle.il_model.specs.declared.limits.TheConstants.{BITS, WORDS}
use Rattle.il_model.specs.declared.program.Area.{Area}
use Rattle.il_model.specs.declared.program.Area.TheVariants as areas
use Rattle.il_model.specs.declared.program.Loc.{Loc}
use Rattle.il_model.specs.declared.program.Loc.TheVariants.{Bit, Word, Pattern, Double}
use Rattle.il_model.specs.declared.program.DoubleType.{DoubleType}
use Rattle.il_model.specs.declared.program.DoubleType.TheVariants as doubles
use Rattle.il_model.specs.declared.coded_operand.CodedOperand.{CodedOperand}
use Rattle.il_model.specs.declared.coded_operand.CodedOperand.TheVariants.{Location, Variable, Field, Constant, Unused}
use Rattle.il_model.specs.Locations.{begins_double}

-- ---- locations

-- where an area begins
abbrev pub base_of : Area → ℕ
base_of areas.Input = 0
base_of areas.Output = 0x1000
base_of areas.Memory = 0x2000

-- where the words of an area begin, behind its bits
abbrev pub first_word : ℕ
first_word = 0x400

-- where its double words of a type begin, behind its words
abbrev pub first_double : DoubleType → ℕ
first_double doubles.Dint = 0x500
first_double doubles.Time = 0x600
first_double doubles.Real = 0x700
first_double doubles.Dword = 0x800

-- where its words that are patterns begin, behind those
abbrev pub first_pattern : ℕ
first_pattern = 0x900

abbrev pub loc_code : Loc → ℕ
loc_code (Bit a n) = base_of a + n
loc_code (Word a n) = base_of a + (first_word + n)
loc_code (Pattern a n) = base_of a + (first_pattern + n)
loc_code (Double a n t) = base_of a + (first_double t + n)

-- an area has so many bits and words, and a double word at each word with an even number
abbrev pub IsCell : Loc → Type 0
IsCell (Bit a n) = n < BITS
IsCell (Word a n) = n < WORDS
IsCell (Pattern a n) = n < WORDS
IsCell (Double a n t) = begins_double n ≡ true

abbrev pub double_loc : Area → DoubleType → ℕ → Option Loc
double_loc area t n = if begins_double n then Some (Double area n t) else None

abbrev pub pattern_loc : Area → ℕ → Option Loc
pattern_loc area n = if nat_lt n WORDS then Some (Pattern area n) else None

-- the double word or the pattern of an area that stands so far behind its beginning
abbrev pub double_there : Area → ℕ → Option Loc
double_there area n =
    if nat_lt n (first_double doubles.Dint) then None
    else if nat_lt n (first_double doubles.Time) then double_loc area doubles.Dint (n - first_double doubles.Dint)
    else if nat_lt n (first_double doubles.Real) then double_loc area doubles.Time (n - first_double doubles.Time)
    else if nat_lt n (first_double doubles.Dword) then double_loc area doubles.Real (n - first_double doubles.Real)
    else if nat_lt n first_pattern then double_loc area doubles.Dword (n - first_double doubles.Dword)
    else pattern_loc area (n - first_pattern)

-- the location of an area that stands so far behind its beginning
abbrev pub area_loc : Area → ℕ → Option Loc
area_loc area n =
    if nat_lt n BITS then Some (Bit area n)
    else (if nat_lt n first_word then None
    else (if nat_lt n (first_word + WORDS) then Some (Word area (n - first_word)) else double_there area n))

-- the location that a code stands for
abbrev pub any_loc : ℕ → Option Loc
any_loc n =
    if nat_lt n (base_of areas.Output) then area_loc areas.Input n
    else (if nat_lt n (base_of areas.Memory) then area_loc areas.Output (n - base_of areas.Output)
    else area_loc areas.Memory (n - base_of areas.Memory))

-- ---- all operands

-- where variables, fields and constants begin; locations stand before them, and the last code is for none
abbrev pub first_variable : ℕ
first_variable = 0x4000

abbrev pub first_field : ℕ
first_field = 0x5000

abbrev pub first_constant : ℕ
first_constant = 0x8000

abbrev pub unused : ℕ
unused = 0xFFFF

-- variables, instances and constants are numbered from 0 in their tables, and each instance has room for 8 fields
abbrev pub code_of : CodedOperand → ℕ
code_of (Location loc) = loc_code loc
code_of (Variable i) = first_variable + i
code_of (Field i n) = first_field + (8 * i + n)
code_of (Constant k) = first_constant + k
code_of Unused = unused

-- the operands that have a code of their own
abbrev pub HasOwnCode : CodedOperand → Type 0
HasOwnCode (Location loc) = IsCell loc
HasOwnCode (Variable i) = first_variable + i < first_field
HasOwnCode (Field i n) = (first_field + 8 * i < first_constant) × (n < 8)
HasOwnCode (Constant k) = first_constant + k < unused
HasOwnCode Unused = Unit {0}

-- the operand of a code
abbrev pub with_code : ℕ → Option CodedOperand
with_code n =
    if nat_lt n first_variable then option_map Location (any_loc n)
    else if nat_lt n first_field then Some (Variable (n - first_variable))
    else if nat_lt n first_constant then Some (Field ((n - first_field) / 8) ((n - first_field) % 8))
    else if nat_lt n unused then Some (Constant (n - first_constant))
    else if nat_eq n unused then Some Unused
    else None
