-- The places of inputs, outputs and memory: areas and their cells, and locations as they are written.
use Rattle.std.specs.Prelude.{replicate, false, true, pos, ℕ, suc, ◌+◌, ◌*◌, ◌%◌, Bool, not, ◌&&◌, ◌==◌, List, [], ◌∷◌}
use Rattle.std.specs.Prelude.{take, drop}
use Rattle.std.specs.Prelude.{Option, Some, None, nat_lt, nat_eq, if◌then◌else◌}
use Rattle.std.specs.List.{prefix_len}
use Rattle.il_values.specs.declared.value.Ty.{Ty}
use Rattle.il_values.specs.declared.value.Ty.TheVariants as types
use Rattle.il_model.specs.declared.program.Area.{Area}
use Rattle.il_model.specs.declared.program.Loc.{Loc}
use Rattle.il_model.specs.declared.program.Loc.TheVariants.{Bit, Word, Pattern, Double}
use Rattle.il_model.specs.declared.program.DoubleType.{DoubleType}
use Rattle.il_model.specs.declared.program.DoubleType.TheVariants as doubles
use Rattle.il_model.specs.declared.limits.TheConstants.{BITS, WORDS}
use Rattle.il_model.specs.declared.cells.Cells.{Cells}
use Rattle.il_model.specs.declared.cells.InImage.{InImage}
use Rattle.il_model.specs.declared.cells.OutImage.{OutImage}
use Rattle.il_model.specs.declared.program.Area.TheVariants as areas
use Rattle.il_values.specs.Spelled.{upper}
use Rattle.il_model.specs.Literals.{integer_of}

abbrev pub area_of : Loc → Area
area_of (Bit a n) = a
area_of (Word a n) = a
area_of (Pattern a n) = a
area_of (Double a n t) = a

-- whether a double word begins at the word with this number: at each even one, so that no two double words overlap in
-- one word alone
abbrev pub begins_double : ℕ → Bool
begins_double n = nat_lt n WORDS && nat_eq (n % 2) 0

-- the bit or the words that a location is: a pattern is its word, a double word that word and the next one
abbrev pub parts_of : Loc → List Loc
parts_of (Pattern a n) = Word a n ∷ []
parts_of (Double a n t) = Word a n ∷ Word a (suc n) ∷ []
parts_of loc = loc ∷ []

-- what an instruction can name: a word by itself is INT, a double word DINT, and of another type by a declaration
abbrev pub is_nameable : Loc → Bool
is_nameable (Double a n doubles.Time) = false
is_nameable (Double a n doubles.Real) = false
is_nameable (Double a n doubles.Dword) = false
is_nameable (Pattern a n) = false
is_nameable loc = true

-- ---- the cells of an area, and the images of inputs and outputs

-- all bits FALSE and all words 0
abbrev pub clear_cells : Cells
clear_cells = record { bits = replicate BITS false; words = replicate WORDS (pos 0) }

-- the input image with all bits FALSE and all words 0
abbrev pub clear_inputs : InImage
clear_inputs = record { cells = clear_cells }

-- the safe image: all bits FALSE and all words 0
abbrev pub safe_image : OutImage
safe_image = record { cells = clear_cells }

-- ---- locations in a text (IEC 61131-3:2003, 2.4.1.1): %IXb.n, where X may be missing, and %IWk, in either case; in an
-- extended text %IDk, too

abbrev pub is_no_dot : ℕ → Bool
is_no_dot b = not (b == 46)

-- how many bytes stand before the first dot
abbrev pub dot_at : List ℕ → ℕ
dot_at bytes = prefix_len is_no_dot bytes

-- the bit of a byte, by both numbers
abbrev pub bit_of : Area → Option ℕ → Option ℕ → Option Loc
bit_of area (Some b) (Some n) = if nat_lt b 64 && nat_lt n 8 then Some (Bit area (8 * b + n)) else None
bit_of area b n = None

-- a word, by its number
abbrev pub word_of : Area → Option ℕ → Option Loc
word_of area (Some k) = if nat_lt k WORDS then Some (Word area k) else None
word_of area None = None

abbrev pub letter_area : ℕ → Option Area
letter_area letter = if upper letter == 73 then Some areas.Input else if upper letter == 81 then Some areas.Output
    else if upper letter == 77 then Some areas.Memory else None

-- two integers with a dot between them
unfoldable pub bit_at : Area → List ℕ → Option Loc
bit_at area bytes = bit_of area (integer_of 10 (take (dot_at bytes) bytes))
    (integer_of 10 (drop (dot_at bytes + 1) bytes))

-- one integer
unfoldable pub word_at : Area → List ℕ → Option Loc
word_at area bytes = word_of area (integer_of 10 bytes)

-- behind the letter of the area: X and a bit, W and a word, or a bit
abbrev pub place_at : Area → List ℕ → Option Loc
place_at area [] = None
place_at area (b ∷ bs) = if upper b == 88 then bit_at area bs else if upper b == 87 then word_at area bs
    else bit_at area (b ∷ bs)

abbrev pub place_in : Option Area → List ℕ → Option Loc
place_in None bytes = None
place_in (Some area) bytes = place_at area bytes

-- the location that a text with a % in front is
abbrev pub location_of : List ℕ → Option Loc
location_of [] = None
location_of (percent ∷ []) = None
location_of (percent ∷ letter ∷ bytes) = place_in (letter_area letter) bytes

-- ---- a written location as that of a variable of a type

-- the type, if a double word may have it, in place of the one that it had
abbrev pub double_as : Ty → DoubleType → DoubleType
double_as types.Dint t = doubles.Dint
double_as types.Time t = doubles.Time
double_as types.Real t = doubles.Real
double_as types.Dword t = doubles.Dword
double_as type t = t

-- a word that is a WORD is a pattern
abbrev pub word_as : Ty → Area → ℕ → Loc
word_as types.Word a n = Pattern a n
word_as type a n = Word a n

-- a double word is one of that type, and a word may be a pattern; any other location stays as it is
abbrev pub seen_as : Ty → Loc → Loc
seen_as type (Word a n) = word_as type a n
seen_as type (Double a n t) = Double a n (double_as type t)
seen_as type loc = loc

-- ---- double words, which an extended text alone has

-- a double word, by its number, which is even: a DINT until a declaration says another type
abbrev pub double_of : Area → Option ℕ → Option Loc
double_of area (Some k) = if begins_double k then Some (Double area k doubles.Dint) else None
double_of area None = None

unfoldable pub double_at : Area → List ℕ → Option Loc
double_at area bytes = double_of area (integer_of 10 bytes)

abbrev pub double_in : Option Area → List ℕ → Option Loc
double_in None bytes = None
double_in (Some area) bytes = double_at area bytes

-- behind the letter of the area: D and a double word
abbrev pub double_location_of : List ℕ → Option Loc
double_location_of (percent ∷ letter ∷ sort ∷ bytes) =
    if upper sort == 68 then double_in (letter_area letter) bytes else None
double_location_of text = None

abbrev pub or_double : List ℕ → Option Loc → Option Loc
or_double text (Some loc) = Some loc
or_double text None = double_location_of text

-- the location that an extended text with a % in front is
abbrev pub extended_location_of : List ℕ → Option Loc
extended_location_of text = or_double text (location_of text)
