-- The keys of a group, the text that has them, and what is made from a key.
use Rattle.std.specs.Prelude.{ℕ, ◌-◌, ◌==◌, nat_lt, List, [], ◌∷◌, ◌++◌, length, take, drop, codes}
use Rattle.std.specs.Prelude.{bytes_eq, slice_index, if◌then◌else◌, Option, Some, None, Result, Ok, Err}
use Rattle.hex.specs.Hex.{decode_sized}
use Rattle.hex.specs.declared.error.FromHexError.{FromHexError}
use Rattle.hex.specs.declared.error.FromHexError.TheVariants as hex
use Rattle.net_keys.specs.Hmac.{hmac}
use Rattle.net_keys.specs.declared.key.Key.{Key}
use Rattle.net_keys.specs.declared.key.KeyFault.{KeyFault}
use Rattle.net_keys.specs.declared.key.KeyFault.TheVariants.{Lines, Digit, Twice}
use Rattle.net_keys.specs.declared.keys.Keys.{Keys}

-- ---- what is made from a key

-- the first eight bytes of its sum of these words: no sum of another text is sent by this key itself
abbrev pub key_name : Key → List ℕ
key_name key = take 8 (hmac key.bytes (codes "PLC-VR key name"))

-- two machines, the lower number first
abbrev pub in_order : ℕ → ℕ → List ℕ
in_order one other = if nat_lt one other then one ∷ other ∷ [] else other ∷ one ∷ []

-- the key of two machines, whichever dials
abbrev pub pair_key : Key → ℕ → ℕ → List ℕ
pair_key key one other = hmac key.bytes (codes "PLC-VR machines" ++ in_order one other)

-- ---- the text of a file

abbrev pub fault_in : ℕ → FromHexError → KeyFault
fault_in line (hex.InvalidHexCharacter c index) = Digit line index
fault_in line hex.OddLength = Lines
fault_in line hex.InvalidStringLength = Lines
fault_in line hex.OutOfMemory = Lines

abbrev pub key_by : ℕ → Result (List ℕ) FromHexError → Result Key KeyFault
key_by line (Ok bytes) = Ok (record { bytes = bytes })
key_by line (Err fault) = Err (fault_in line fault)

-- 32 bytes in hexadecimal digits
abbrev pub key_in : ℕ → List ℕ → Result Key KeyFault
key_in line digits = key_by line (decode_sized digits 32)

abbrev pub with_second : Key → Result Key KeyFault → Result Keys KeyFault
with_second first (Err fault) = Err fault
with_second first (Ok second) = if bytes_eq first.bytes second.bytes then Err Twice
    else Ok (record { speaks = first; hears = Some second })

abbrev pub with_first : Result Key KeyFault → Result Key KeyFault → Result Keys KeyFault
with_first (Err fault) second = Err fault
with_first (Ok first) second = with_second first second

-- the first is spoken, and both are heard
abbrev pub two_keys : List ℕ → List ℕ → Result Keys KeyFault
two_keys first second = with_first (key_in 1 first) (key_in 2 second)

abbrev pub one_key : Result Key KeyFault → Result Keys KeyFault
one_key (Err fault) = Err fault
one_key (Ok key) = Ok (record { speaks = key; hears = None })

-- of a line, and what stands behind its digits: its end, and a second line
abbrev pub with_line : List ℕ → List ℕ → Result Keys KeyFault
with_line first rest = if slice_index rest 0 == 10 then two_keys first (drop 1 rest) else Err Lines

-- one line of 64 digits, or two, of which the last has no end
abbrev pub in_lines : List ℕ → Result Keys KeyFault
in_lines digits = if length digits == 64 then one_key (key_in 1 digits)
    else (if length digits == 129 then with_line (take 64 digits) (drop 64 digits) else Err Lines)

abbrev pub without_end : List ℕ → List ℕ
without_end text = if slice_index text (length text - 1) == 10 then take (length text - 1) text else text

-- the keys that a file has
abbrev pub keys_in : List ℕ → Result Keys KeyFault
keys_in text = in_lines (without_end text)

-- ---- which is meant

abbrev pub heard_as : Option Key → List ℕ → Option Key
heard_as None name = None
heard_as (Some key) name = if bytes_eq (key_name key) name then Some key else None

-- the key of this name, if it's heard
abbrev pub key_named : Keys → List ℕ → Option Key
key_named keys name = if bytes_eq (key_name keys.speaks) name then Some keys.speaks else heard_as keys.hears name
