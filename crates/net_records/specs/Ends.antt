-- The two ends of a connection that carries records.
use Rattle.std.specs.Prelude.{◌≡◌, ℕ, Bool, List, [], ◌∷◌, ◌++◌, Option, Some, None}
use Rattle.std.specs.Option.{option_map}
use Rattle.std.specs.Io.KnownBytes.{Appends}
use Rattle.net_ends.specs.Ends.{Stops}
use Rattle.net_records.specs.declared.place.Place.{Place}
use Rattle.net_records.specs.declared.place.Place.TheVariants.{Length, LowByte, Body}
use Rattle.net_records.specs.Records.{bodies_from, place_behind, beat}

-- where the stream that comes in stands, and the bytes of it that wait behind that place
pub record Coming : Type 0 where
  pub place : Place
  pub waiting : List ℕ

-- the bytes of bodies that will be given, where the bytes are known that the reader will give
abbrev pub to_give : Coming → Option (List ℕ) → Option (List ℕ)
to_give coming left = option_map (λ bytes. bodies_from coming.place (coming.waiting ++ bytes)) left

-- The front of what waited was used, and the bytes of bodies in it were given.
pub record Unwraps (before after : Coming) (given : List ℕ) : Type 0 where
  pub used : List ℕ
  pub front : before.waiting ≡ used ++ after.waiting
  pub given_is : given ≡ bodies_from before.place used
  pub place : after.place ≡ place_behind before.place used

abbrev pub at_boundary : Place → List ℕ → Option (List ℕ)
at_boundary Length bodies = Some bodies
at_boundary (LowByte high) bodies = None
at_boundary (Body left) bodies = None

-- the bodies of these bytes, joined, where they are whole records
abbrev pub whole_bodies : List ℕ → Option (List ℕ)
whole_bodies bytes = at_boundary (place_behind Length bytes) (bodies_from Length bytes)

-- the bytes that were taken, by what a writer holds and what waits to be written: known where that is whole records
abbrev pub taken : Option (List ℕ) → List ℕ → Option (List ℕ)
taken None waiting = None
taken (Some held) waiting = whole_bodies (held ++ waiting)

-- These bytes of what waits were written, and the others wait.
pub record Pushes (held held' : Option (List ℕ)) (waiting waiting' : List ℕ) : Type 0 where
  pub written : List ℕ
  pub rest : waiting ≡ written ++ waiting'
  pub went : Appends held held' written

-- a beat where nothing waits
abbrev pub or_beat : List ℕ → List ℕ
or_beat [] = beat
or_beat (byte ∷ bytes) = byte ∷ bytes

-- the pauses of what is read, and how often records told that nothing comes any more
abbrev pub stops_of : Stops → ℕ → Stops
stops_of inner ends = record { pauses = inner.pauses; ends = ends }

-- the two ends over what reads and writes: what comes in, what waits to be written, and whether anything came or went
-- since that was asked last
pub record Ends (T : Type 0) : Type 0 where
  pub inner : T
  pub coming : Coming
  pub waiting : List ℕ
  pub has_come : Bool
  pub has_gone : Bool
  pub ends : ℕ
