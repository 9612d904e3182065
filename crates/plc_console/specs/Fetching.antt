-- The image of the program in force, as a console tells it and as it's read again.
use Rattle.std.specs.Prelude.{◌≡◌, ℕ, nat_eq, ◌-◌, ◌&&◌, List, [], ◌∷◌, ◌++◌, length, take, drop, codes, if◌then◌else◌}
use Rattle.std.specs.Prelude.{Option, Some, None, option_and_then, Result, Ok, Err}
use Rattle.std.specs.List.{starts_with, ends_with}
use Rattle.std.specs.Io.KnownBytes.{Appends, Consumes}
use Rattle.hex.specs.Hex.{IsBytes, encode_lower, decode_of}
use Rattle.hex.specs.declared.error.FromHexError.{FromHexError}
use Rattle.plc_console.specs.declared.fetching.Fetched.{Fetched}
use Rattle.plc_console.specs.declared.fetching.Fetched.TheVariants as fetched
use Rattle.plc_console.specs.Lines.{line_end}
use Rattle.plc_console.specs.Sending.{EndsLine}

-- the line that tells an image: a word, and two digits for each byte
abbrev pub image_line : List ℕ → List ℕ
image_line image = codes "image " ++ (encode_lower image ++ line_end ∷ [])

-- what stands behind the word of such a line, up to its end
abbrev pub behind_word : List ℕ → List ℕ
behind_word line = drop 6 line

abbrev pub digits_in : List ℕ → Option (List ℕ)
digits_in line = if starts_with nat_eq line (codes "image ") && ends_with nat_eq line (codes "\n")
    then Some (take (length (behind_word line) - 1) (behind_word line)) else None

-- the bytes of hex digits, of either case, if they are such
abbrev pub bytes_told : Result (List ℕ) FromHexError → Option (List ℕ)
bytes_told (Ok bytes) = Some bytes
bytes_told (Err fault) = None

abbrev pub bytes_of_digits : List ℕ → Option (List ℕ)
bytes_of_digits digits = bytes_told (decode_of digits)

-- the image that a line tells, if it tells one
abbrev pub image_in : List ℕ → Option (List ℕ)
image_in line = option_and_then bytes_of_digits (digits_in line)

-- what an answer came to: the image that it tells, or its line where it tells none
abbrev pub IsFetched : List ℕ → Fetched → Type 0
IsFetched answer (fetched.Image image) = image_in answer ≡ Some image.items
IsFetched answer (fetched.Other line) = (line.items ≡ answer) × (image_in answer ≡ None)

-- The question for the image was sent as a line; its answer, which ends a line, was read, and came to this.
pub record Fetches (what : Fetched) (left left' held held' : Option (List ℕ)) : Type 0 where
  pub sent : Appends held held' (codes "\"image\"\n")
  pub answer : List ℕ
  pub ends : EndsLine answer
  pub read : Consumes left left' answer
  pub is : IsFetched answer what

-- Each image is read again from the line that tells it.
abbrev pub ReadsBack : Type 0
ReadsBack = (image : List ℕ) → IsBytes image → image_in (image_line image) ≡ Some image
