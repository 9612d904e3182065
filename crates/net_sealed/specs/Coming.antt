-- What comes in of a stream of sealed records.
use Rattle.std.specs.Prelude.{◌≡◌, ℕ, ◌+◌, ◌*◌, ◌≤◌, List, [], ◌∷◌, ◌++◌, length, take, nat_lt, slice_index}
use Rattle.std.specs.Prelude.{if◌then◌else◌, Option, Result, Ok, Err}
use Rattle.std.specs.Int.{w16, to_be_bytes}
use Rattle.std.specs.Io.KnownBytes.{Consumes}
use Rattle.net_ends.specs.Ends.{HasEnded, HasPaused, Stops}
use Rattle.net_ends.specs.declared.non_blocking.Stop.{Stop}
use Rattle.net_ends.specs.declared.non_blocking.Stop.TheVariants.{ForNow, ForGood}
use Rattle.net_sealed.specs.declared.incoming.Blocked.{Blocked}
use Rattle.net_sealed.specs.declared.incoming.Blocked.TheVariants.{Stopped, Memory}
use Rattle.net_keys.specs.Sealing.{Opens}
use Rattle.net_keys.specs.Forging.{AreOpened}
use Rattle.net_keys.specs.declared.sealing.Opener.{Opener}
use Rattle.net_sealed.specs.declared.incoming.Front.{Front}
use Rattle.net_sealed.specs.declared.incoming.Front.TheVariants.{Partial, Whole, TooLong}

-- the length of the body in two bytes, the high one first, the body, and its sum
abbrev pub sealed_bytes : List ℕ → List ℕ → List ℕ
sealed_bytes body sum = to_be_bytes w16 (length body) ++ (body ++ sum)

-- what opens the next record, what is left to give of the body that was opened last, and the bytes that came behind it
pub record Coming : Type 0 where
  pub opener : Opener
  pub opened : List ℕ
  pub waiting : List ℕ

-- what stands at the front of these bytes
abbrev pub front_of : List ℕ → Front
front_of [] = Partial
front_of (high ∷ []) = Partial
front_of (high ∷ low ∷ bytes) = if nat_lt 16384 (256 * high + low) then TooLong
    else (if nat_lt (length bytes) (256 * high + low + 16) then Partial else Whole (256 * high + low))

-- two bytes tell the length of a body, and there are as many bytes as a record of it has
abbrev pub IsFront : Front → List ℕ → Type 0
IsFront (Whole count) bytes = (count ≤ 16384) × (count + 18 ≤ length bytes)
    × (256 * slice_index bytes 0 + slice_index bytes 1 ≡ count)
IsFront Partial bytes = Unit {0}
IsFront TooLong bytes = Unit {0}

-- these bytes were given of the body that was opened last
pub record Gives (before after : Coming) (given : List ℕ) : Type 0 where
  pub front : before.opened ≡ given ++ after.opened
  pub opener : after.opener ≡ before.opener
  pub waiting : after.waiting ≡ before.waiting

-- the next record was whole, two bytes of a length, so many of its body, and its sum, and was opened under the next
-- number
pub record OpensNext (before after : Coming) : Type 0 where
  pub high : ℕ
  pub low : ℕ
  pub sum : List ℕ
  pub front : before.waiting ≡ high ∷ low ∷ (after.opened ++ (sum ++ after.waiting))
  pub length_is : length after.opened ≡ 256 * high + low
  pub opens : Opens before.opener after.opener after.opened sum

-- the bodies of records, joined, each of which stands here with its sum
abbrev pub bodies_in : List (List ℕ × List ℕ) → List ℕ
bodies_in [] = []
bodies_in ((body, sum) ∷ records) = body ++ bodies_in records

-- These records stand at the front of the bytes, one behind the other and nothing between: of each the length of its
-- body in two bytes, the body, and its sum. This is what stands behind them.
abbrev pub StandFirst : List ℕ → List (List ℕ × List ℕ) → List ℕ → Type 0
StandFirst bytes [] rest = bytes ≡ rest
StandFirst bytes ((body, sum) ∷ records) rest = (high : ℕ) × (low : ℕ) × (behind : List ℕ)
    × (bytes ≡ high ∷ low ∷ (body ++ (sum ++ behind))) × (length body ≡ 256 * high + low)
    × StandFirst behind records rest

-- These bytes were read. Of them, behind what waited before, these records stand first, and the others wait. Each was
-- opened under the next number, by the sum that stands behind it, which is the one that the key makes in that place.
-- What was given, and what is left to give, are their bodies, behind what was left before.
pub record Reads (left left' : Option (List ℕ)) (before after : Coming) (given : List ℕ) : Type 0 where
  pub came : List ℕ
  pub read : Consumes left left' came
  pub records : List (List ℕ × List ℕ)
  pub stand : StandFirst (before.waiting ++ came) records after.waiting
  pub opened : AreOpened before.opener.key before.opener.side before.opener.next records
  pub bodies : before.opened ++ bodies_in records ≡ given ++ after.opened
  pub key : after.opener.key ≡ before.opener.key
  pub side : after.opener.side ≡ before.opener.side
  pub next : after.opener.next ≡ before.opener.next + length records

-- it was so read, unless the stream is over: then nothing was given
abbrev pub HasRead : {A : Type 0} → Result A Stop → Option (List ℕ) → Option (List ℕ) → Coming → Coming → List ℕ
    → Type 0
HasRead (Ok went) left left' before after given = Reads left left' before after given
HasRead (Err ForNow) left left' before after given = Reads left left' before after given
HasRead (Err ForGood) left left' before after given = given ≡ []

-- what was given to the front of these bytes
abbrev pub given_in : Result ℕ Stop → List ℕ → List ℕ
given_in (Ok count) bytes = take count bytes
given_in (Err stop) bytes = []

-- these bytes were read behind those that wait
pub record Fills (left left' : Option (List ℕ)) (before after : Coming) : Type 0 where
  pub came : List ℕ
  pub read : Consumes left left' came
  pub waiting : after.waiting ≡ before.waiting ++ came

-- Bytes were read behind those that wait, none where it stopped; or memory ran out for them.
abbrev pub HasFilled : Result (Unit {0}) Blocked → Option (List ℕ) → Option (List ℕ) → Coming → Coming → Type 0
HasFilled (Ok went) left left' before after = Fills left left' before after
HasFilled (Err (Stopped stop)) left left' before after = Fills left left' before after
HasFilled (Err Memory) left left' before after = Unit {0}

-- the pauses of what is read or written, and how often it was told that nothing goes any more
abbrev pub stops_of : Stops → ℕ → Stops
stops_of inner ends = record { pauses = inner.pauses; ends = ends }

-- what the reader of a piece counted
abbrev pub HasCounted : Result (Unit {0}) Blocked → Stops → Stops → Type 0
HasCounted (Ok went) before after = after ≡ before
HasCounted (Err (Stopped ForNow)) before after = HasPaused before after × (after.ends ≡ before.ends)
HasCounted (Err (Stopped ForGood)) before after = HasEnded before after × (after.pauses ≡ before.pauses)
HasCounted (Err Memory) before after = after ≡ before
