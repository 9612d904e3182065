-- The commands that JSON data gives, by RFC 8259's values: an array of them, each a word or an object with one member.
use Rattle.std.specs.Prelude.{◌≡◌, ℕ, ◌^◌, ◌&&◌, ◌||◌, not, ℤ, pos, negsuc, Bool, true, false, List, [], ◌∷◌, map}
use Rattle.std.specs.Prelude.{Option, Some, None, option_and_then, option_map, bytes_eq, codes, nat_eq, nat_lt}
use Rattle.std.specs.Prelude.{Result, Ok, Err, if◌then◌else◌, IsUtf8, string_bytes}
use Rattle.std.specs.List.{range_with_len}
use Rattle.il_model.specs.declared.limits.TheConstants.{BITS, WORDS}
use Rattle.il_model.specs.Limits.{is_short_image, is_long_image}
use Rattle.il_model.specs.declared.cells.Cells.{Cells}
use Rattle.il_model.specs.declared.cells.InImage.{InImage}
use Rattle.il_model.specs.declared.command.Command.{Command}
use Rattle.il_model.specs.declared.command.Command.TheVariants.{Scan, SetBreak, ClearBreak, Step, Continue, ReadCr}
use Rattle.il_model.specs.declared.command.Command.TheVariants.{Reset, Warm, Change}
use Rattle.il_values.specs.declared.value.Value.{Value}
use Rattle.il_values.specs.declared.value.Value.TheVariants as values
use Rattle.hex.specs.Hex.{decode_of}
use Rattle.hex.specs.declared.error.FromHexError.{FromHexError}
use Rattle.serde_json.specs.Data.{Data, Items, no_items, item, Members, no_members, member}
use Rattle.serde_json.specs.Find.{get, as_number, as_u64, as_i64, as_bool, as_str, as_array, as_object}
use Rattle.serde_json.specs.Read.{read as read_text}
use Rattle.plc_json.specs.declared.command.NamedCommand.{NamedCommand}
use Rattle.plc_json.specs.declared.command.NamedCommand.TheVariants as commands

infixl 10 ◌>>=◌
abbrev pub ◌>>=◌ : {A B : Type 0} → Option A → (A → Option B) → Option B
o >>= f = option_and_then f o

-- a command as a file has it, its names as their bytes
pub data Named : Type 0 where
  Plain : Command → Named
  Force : List ℕ → Value → Named
  Unforce : List ℕ → Named
  Read : List ℕ → Named

abbrev pub named : NamedCommand → Named
named (commands.Plain command) = Plain command
named (commands.Force name value) = Force (string_bytes name) value
named (commands.Unforce name) = Unforce (string_bytes name)
named (commands.Read name) = Read (string_bytes name)

-- ---- numbers and pairs

abbrev pub below : ℕ → ℕ → Option ℕ
below bound n = if nat_lt n bound then Some n else None

-- a whole number of 64 bits, without a sign
abbrev pub number_at : Data → Option ℕ
number_at d = option_and_then as_u64 (as_number d)

-- the position of an instruction
abbrev pub position_of : Data → Option ℕ
position_of d = option_and_then (below (2 ^ 16)) (number_at d)

-- a number of 16 bits with a sign
abbrev pub int_of : ℤ → Option ℤ
int_of (pos n) = if nat_lt n (2 ^ 15) then Some (pos n) else None
int_of (negsuc n) = if nat_lt n (2 ^ 15) then Some (negsuc n) else None

abbrev pub int_at : Data → Option ℤ
int_at d = option_and_then int_of (option_and_then as_i64 (as_number d))

-- the two values of a pair
abbrev pub two : Items → Option (Data × Data)
two no_items = None
two (item a no_items) = None
two (item a (item b no_items)) = Some (a, b)
two (item a (item b (item c more))) = None

abbrev pub pair_at : Data → Option (Data × Data)
pair_at d = option_and_then two (as_array d)

-- ---- inputs

abbrev pub is_in : ℕ → List ℕ → Bool
is_in n [] = false
is_in n (m ∷ more) = nat_eq m n || is_in n more

-- each number is below the bound, and none is given twice
abbrev pub are_once : ℕ → List ℕ → Bool
are_once bound [] = true
are_once bound (n ∷ more) = nat_lt n bound && (not (is_in n more) && are_once bound more)

-- the value that stands beside a number, else 0
abbrev pub value_of : ℕ → List (ℕ × ℤ) → ℤ
value_of n [] = pos 0
value_of n (p ∷ more) = if nat_eq p.0 n then p.1 else value_of n more

-- what each of a list gives, if each gives something
abbrev pub all_of : {A B : Type 0} → (A → Option B) → List A → Option (List B)
all_of f [] = Some []
all_of f (x ∷ xs) = option_and_then (λ y. option_map (λ ys. y ∷ ys) (all_of f xs)) (f x)

abbrev pub items_in : Items → List Data
items_in no_items = []
items_in (item d more) = d ∷ items_in more

-- the bits of an area: TRUE are those whose numbers are given
abbrev pub bits_given : List ℕ → Option (List Bool)
bits_given numbers = if are_once BITS numbers then Some (map (λ n. is_in n numbers) (range_with_len 0 BITS)) else None

abbrev pub bits_of : List Data → Option (List Bool)
bits_of ds = option_and_then bits_given (all_of number_at ds)

-- a word's number and its value
abbrev pub numbered_word_of : Data × Data → Option (ℕ × ℤ)
numbered_word_of p = option_and_then (λ n. option_map (λ z. (n, z)) (int_at p.1)) (number_at p.0)

abbrev pub numbered_word : Data → Option (ℕ × ℤ)
numbered_word d = option_and_then numbered_word_of (pair_at d)

abbrev pub numbers_of : List (ℕ × ℤ) → List ℕ
numbers_of pairs = map (λ p. p.0) pairs

-- the words of an area, by pairs of a number and a value; the others are 0
abbrev pub words_given : List (ℕ × ℤ) → Option (List ℤ)
words_given pairs = if are_once WORDS (numbers_of pairs)
    then Some (map (λ n. value_of n pairs) (range_with_len 0 WORDS)) else None

abbrev pub words_of : List Data → Option (List ℤ)
words_of ds = option_and_then words_given (all_of numbered_word ds)

abbrev pub image_with : List Bool → List ℤ → InImage
image_with bits words = let cells : Cells = record { bits = bits; words = words } in record { cells = cells }

abbrev pub image_of : Data → Data → Option InImage
image_of bits words =
    (as_array bits) >>= λ numbers. bits_of (items_in numbers) >>= λ bits. (as_array words) >>= λ pairs. words_of
    (items_in pairs) >>= λ words. Some (image_with bits words)

-- ---- commands

-- a command that is a word alone
abbrev pub word_alone : List ℕ → Option Command
word_alone word = if bytes_eq word (codes "step") then Some Step else (
    if bytes_eq word (codes "continue") then Some Continue else (
    if bytes_eq word (codes "cr") then Some ReadCr else (
    if bytes_eq word (codes "reset") then Some Reset else (
    if bytes_eq word (codes "warm") then Some Warm else None))))

abbrev pub has_three : Members → Bool
has_three (member k d (member l e (member m f no_members))) = true
has_three ms = false

-- the members ix, iw and moment
abbrev pub scan_with : Data → Option Command
scan_with d = get (codes "ix") d >>= λ bits. get (codes "iw") d >>= λ words. image_of bits words >>= λ inputs. get
    (codes "moment") d >>= λ at. number_at at >>= λ moment. Some (Scan inputs moment)

-- an object with these and no other
abbrev pub scan_of : Data → Option Command
scan_of d = option_and_then (λ ms. if has_three ms then scan_with d else None) (as_object d)

-- a truth value for a bit, a number for a word
abbrev pub forced_number : Option Bool → Data → Option Value
forced_number (Some b) d = Some (values.Bool b)
forced_number None d = option_map values.Int (int_at d)

abbrev pub forced_value : Data → Option Value
forced_value d = forced_number (as_bool d) d

abbrev pub forced_pair : Data × Data → Option (List ℕ × Value)
forced_pair p = option_and_then (λ v. option_map (λ name. (name, v)) (as_str p.0)) (forced_value p.1)

-- a name and what is forced there
abbrev pub forced_at : Data → Option (List ℕ × Value)
forced_at d = option_and_then forced_pair (pair_at d)

abbrev pub force_of : Data → Option Named
force_of d = option_map (λ f. Force f.0 f.1) (forced_at d)

-- bytes that may be those of an image
abbrev pub image_bytes : (List ℕ → Bool) → Result (List ℕ) FromHexError → Option (List ℕ)
image_bytes may (Ok bytes) = if may bytes then Some bytes else None
image_bytes may (Err fault) = None

-- hex digits, two a byte, of both cases
abbrev pub bytes_of : (List ℕ → Bool) → List ℕ → Option (List ℕ)
bytes_of may digits = image_bytes may (decode_of digits)

abbrev pub change_of : (List ℕ → Bool) → Data → Option Command
change_of may d = option_map Change (option_and_then (bytes_of may) (as_str d))

-- the command of a key
abbrev pub keyed_of : List ℕ × Data → Option Named
keyed_of (key, d) = if bytes_eq key (codes "scan") then option_map Plain (scan_of d) else (
    if bytes_eq key (codes "break") then option_map Plain (option_map SetBreak (position_of d)) else (
    if bytes_eq key (codes "clear") then option_map Plain (option_map ClearBreak (position_of d)) else (
    if bytes_eq key (codes "force") then force_of d else (
    if bytes_eq key (codes "unforce") then option_map Unforce (as_str d) else (
    if bytes_eq key (codes "read") then option_map Read (as_str d) else (
    if bytes_eq key (codes "change") then option_map Plain (change_of is_short_image d) else (
    if bytes_eq key (codes "long_change") then option_map Plain (change_of is_long_image d) else None)))))))

abbrev pub only_member : Members → Option (List ℕ × Data)
only_member no_members = None
only_member (member k d no_members) = Some (k, d)
only_member (member k d (member l e more)) = None

abbrev pub worded_or_keyed : Option (List ℕ) → Data → Option Named
worded_or_keyed (Some word) d = option_map Plain (word_alone word)
worded_or_keyed None d = option_and_then keyed_of (option_and_then only_member (as_object d))

-- a word, or an object with one member, whose key is the command's name
abbrev pub command_of : Data → Option Named
command_of d = worded_or_keyed (as_str d) d

-- ---- the whole text

-- what the values of an array give, in its order
abbrev pub each_of : {B : Type 0} → (Data → Option B) → Data → Option (List B)
each_of f d = option_and_then (λ ds. all_of f (items_in ds)) (as_array d)

-- what the values of a text's array give; an object's last member of a key is the one that counts
abbrev pub each_in : {B : Type 0} → (Data → Option B) → List ℕ → Option (List B)
each_in f text = option_and_then (each_of f) (read_text text)

-- the commands of a text
abbrev pub commands_in : List ℕ → Option (List Named)
commands_in text = each_in command_of text

-- the text has these commands
abbrev pub HasCommands : List ℕ → List NamedCommand → Type 0
HasCommands text cs = IsUtf8 text × (commands_in text ≡ Some (map named cs))

-- the text isn't UTF-8, or it has no commands
abbrev pub HasNoCommands : List ℕ → Type 0
HasNoCommands text = IsUtf8 text → commands_in text ≡ None
