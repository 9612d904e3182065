-- Records on a stream of bytes, one behind the other.
use Rattle.std.specs.Prelude.{◌≡◌, ℕ, ◌+◌, ◌-◌, ◌*◌, ◌^◌, ◌<◌, ◌==◌, if◌then◌else◌, List, [], ◌∷◌, ◌++◌, length, drop}
use Rattle.std.specs.Int.{w16, to_be_bytes}
use Rattle.std.specs.List.{flat_map}
use Rattle.io_model.specs.Streams.{Format, IsOneStream, Splits, Rest}
use Rattle.net_records.specs.declared.place.Place.{Place}
use Rattle.net_records.specs.declared.place.Place.TheVariants.{Length, LowByte, Body}

-- the length of the body in two bytes, the high one first, and the body
abbrev pub record_of : List ℕ → List ℕ
record_of body = to_be_bytes w16 (length body) ++ body

abbrev pub IsBody : List ℕ → Type 0
IsBody body = length body < 2 ^ 16

-- a record with no body
abbrev pub beat : List ℕ
beat = 0 ∷ 0 ∷ []

-- less than a record: no whole length, or fewer bytes than it tells
abbrev pub IsPartial : List ℕ → Type 0
IsPartial [] = Unit {0}
IsPartial (high ∷ []) = Unit {0}
IsPartial (high ∷ low ∷ bytes) = length bytes < 256 * high + low

-- no stream has a fault: any two bytes are a length
abbrev pub records : Format (List ℕ) (Unit {0})
records = record { frame = record_of; IsFramed = IsBody; IsPartial = IsPartial; IsBroken = λ fault bytes. ⊥ }

abbrev pub joined : List (List ℕ) → List ℕ
joined bodies = flat_map (λ body. body) bodies

-- ---- byte by byte

-- in a body of which so many bytes are to come: before the next length where there are none
abbrev pub place_in : ℕ → Place
place_in left = if left == 0 then Length else Body left

abbrev pub IsPlace : Place → Type 0
IsPlace Length = Unit {0}
IsPlace (LowByte high) = Unit {0}
IsPlace (Body left) = 0 < left

abbrev pub next_place : Place → ℕ → Place
next_place Length byte = LowByte byte
next_place (LowByte high) byte = place_in (256 * high + byte)
next_place (Body left) byte = place_in (left - 1)

-- the bytes of bodies among these, from a place on
abbrev pub bodies_from : Place → List ℕ → List ℕ
bodies_from place [] = []
bodies_from Length (byte ∷ bytes) = bodies_from (LowByte byte) bytes
bodies_from (LowByte high) (byte ∷ bytes) = bodies_from (next_place (LowByte high) byte) bytes
bodies_from (Body left) (byte ∷ bytes) = byte ∷ bodies_from (next_place (Body left) byte) bytes

-- the place behind these bytes
abbrev pub place_behind : Place → List ℕ → Place
place_behind place [] = place
place_behind place (byte ∷ bytes) = place_behind (next_place place byte) bytes

-- ---- what is promised of every stream

-- A stream of records has one list of bodies, in whatever pieces it comes. What is given of it byte by byte are the
-- bodies of its records, joined, and what has come of the next one. Of a prefix of it a prefix of that is given.
pub record AreJoined : Type 0 where
  pub one_stream : IsOneStream records
  pub bodies : (stream : List ℕ) (bodies : List (List ℕ)) (rest : List ℕ) → Splits records stream bodies (Rest rest)
      → bodies_from Length stream ≡ joined bodies ++ drop 2 rest
  pub prefixes : (stream more : List ℕ) → (later : List ℕ)
      × (bodies_from Length (stream ++ more) ≡ bodies_from Length stream ++ later)
