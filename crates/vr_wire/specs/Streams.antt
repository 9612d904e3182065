-- The frames of messages as a stream: what a feed does with a piece of it, and what a look at its front shows.
use Rattle.std.specs.Prelude.{◌≡◌, ℕ, ◌+◌, ◌≤◌, ◌⊎◌, List, [], ◌++◌, length, Result, Ok, Err, Option, Some, None}
use Rattle.std.specs.List.{flat_map, AllByRecursion}
use Rattle.io_model.specs.Streams.{Format, Ending, Fault, IsRest, Splits, Took}
use Rattle.vr_model.specs.declared.message.Message.{Message}
use Rattle.vr_wire.specs.declared.fault.WireFault.{WireFault}
use Rattle.vr_wire.specs.declared.fault.WireError.{WireError}
use Rattle.vr_wire.specs.declared.fault.WireError.TheVariants as errors
use Rattle.vr_wire.specs.Frames.{frame_of, IsFramed, IsPartial, IsBroken, told_length}
use Rattle.vr_wire.specs.MessageReading.{Front, Waits, Whole, Broken}

-- ---- feeds

abbrev pub frames : Format Message WireFault
frames = record { frame = frame_of; IsFramed = IsFramed; IsPartial = IsPartial; IsBroken = IsBroken }

-- Ok where no fault was met, a fault where it's that; want of memory is told apart
abbrev pub Feeding : Result (Unit {0}) WireError → Ending WireFault → List ℕ → Ending WireFault → List Message
    → List Message → Type 0
Feeding (Ok done) before piece after out out' = Took frames before piece after out out' × IsRest after
Feeding (Err (errors.Fault fault)) before piece after out out' = Took frames before piece after out out'
    × (after ≡ Fault fault)
Feeding (Err errors.Memory) before piece after out out' = Unit {0}

-- Where the bytes are a prefix of the frames of these messages, what they split into is a prefix of the messages, in
-- order, and no fault.
abbrev pub OnlyFramed : Type 0
OnlyFramed =
    (stream more : List ℕ) (sent given : List Message) (ending : Ending WireFault)
    → AllByRecursion IsFramed sent → stream ++ more ≡ flat_map frame_of sent → Splits frames stream given ending
    → (later : List Message) × (sent ≡ given ++ later) × IsRest ending

-- ---- within a piece

-- What is held grew by bytes of the piece, until it's as long as its frame or the piece is used up; the rest is left.
pub record Fills (before piece after rest : List ℕ) : Type 0 where
  pub parts : after ++ rest ≡ before ++ piece
  pub most : 4 ≤ length after → length after ≤ 4 + told_length after
  pub full : (rest ≡ []) ⊎ ((4 ≤ length after) × (4 + told_length after ≤ length after))

-- ---- the front

-- the frame of this message stands in front, and this is behind it
pub record IsWhole (bytes : List ℕ) (m : Message) (rest : List ℕ) : Type 0 where
  pub parts : bytes ≡ frame_of m ++ rest
  pub framed : IsFramed m

-- what was returned, with a message and the bytes behind it in X, is what stands in front
abbrev pub Shows : {X : Type 0} → (X → Message) → (X → List ℕ) → Result (Option X) WireError → List ℕ → Type 0
Shows message rest (Ok None) bytes = IsPartial bytes
Shows message rest (Ok (Some x)) bytes = IsWhole bytes (message x) (rest x)
Shows message rest (Err (errors.Fault fault)) bytes = IsBroken fault bytes
Shows message rest (Err errors.Memory) bytes = Unit {0}

-- ---- the same by the readers

abbrev pub ReadsFound : {X : Type 0} → (X → Message) → (X → List ℕ) → Option X → Front → Type 0
ReadsFound message rest None front = front ≡ Waits
ReadsFound message rest (Some x) front = front ≡ Whole (message x) (rest x)

abbrev pub ReadsError : WireError → Front → Type 0
ReadsError errors.Memory front = Unit {0}
ReadsError (errors.Fault fault) front = front ≡ Broken fault

abbrev pub ReadsFront : {X : Type 0} → (X → Message) → (X → List ℕ) → Result (Option X) WireError → Front → Type 0
ReadsFront message rest (Ok found) front = ReadsFound message rest found front
ReadsFront message rest (Err error) front = ReadsError error front
