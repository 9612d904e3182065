-- What goes in and out: calls that fail, counted, and streams of frames that come in pieces.
use Rattle.std.specs.Prelude.{ℕ, ◌≡◌, ◌-◌, ◌^◌, ◌<◌, ◌⊎◌, List, [], ◌∷◌, ◌++◌, Option, Some, None}
use Rattle.std.specs.List.{flat_map, AllByRecursion}

-- ---- readers and writers that count their failures

-- the device failed in the call: its count rose, or stood at the greatest number
abbrev pub Failed : ℕ → ℕ → Type 0
Failed before after = (before < after) ⊎ (before ≡ 2 ^ 64 - 1)

-- a reader or a writer with the count of its failures
pub record Counting (T : Type 0) : Type 0 where
  pub inner : T
  pub failures : ℕ

-- ---- frames in pieces: X is the type of what a frame holds, F that of faults

-- a format of frames: the frame of each item; which items have one; what is less than a frame; what no stream of frames
-- goes on with, and why
pub record Format (X F : Type 0) : Type 1 where
  pub frame : X → List ℕ
  pub IsFramed : X → Type 0
  pub IsPartial : List ℕ → Type 0
  pub IsBroken : F → List ℕ → Type 0

-- what a stream has come to: less than a frame, or a fault
pub data Ending (F : Type 0) : Type 0 where
  Rest : (bytes : List ℕ) → Ending F
  Fault : (fault : F) → Ending F

abbrev pub Ends : {X F : Type 0} → Format X F → Ending F → List ℕ → Type 0
Ends format (Rest bytes) rest = (rest ≡ bytes) × format.IsPartial rest
Ends format (Fault fault) rest = format.IsBroken fault rest

-- The stream is the frames of these items, one behind the other, and then it ends so.
pub record Splits {X F : Type 0} (format : Format X F) (stream : List ℕ) (items : List X)
    (ending : Ending F) : Type 0 where
  pub rest : List ℕ
  pub whole : stream ≡ flat_map format.frame items ++ rest
  pub each : AllByRecursion format.IsFramed items
  pub ends : Ends format ending rest

-- a piece of the stream comes: these items are whole now, and the stream has come to another ending; behind a fault
-- nothing is looked at
abbrev pub Feeds : {X F : Type 0} → Format X F → Ending F → List ℕ → List X → Ending F → Type 0
Feeds format (Rest bytes) piece items ending = Splits format (bytes ++ piece) items ending
Feeds format (Fault fault) piece items ending = (items ≡ []) × (ending ≡ Fault fault)

-- piece after piece
abbrev pub FeedsAll : {X F : Type 0} → Format X F → Ending F → List (List ℕ) → List X → Ending F → Type 0
FeedsAll format before [] items after = (items ≡ []) × (after ≡ before)
FeedsAll {X = X} {F = F} format before (piece ∷ pieces) items after =
    (first : List X) × (others : List X) × (between : Ending F) × Feeds format before piece first between
    × FeedsAll format between pieces others after × (items ≡ first ++ others)

-- Whatever pieces it comes in, a stream has these items and this ending, and no others; what was framed is found; no
-- frame begins another.
pub record IsOneStream {X F : Type 0} (format : Format X F) : Type 0 where
  pub whole : (pieces : List (List ℕ)) (items : List X) (ending : Ending F)
      → FeedsAll format (Rest []) pieces items ending → Splits format (flat_map (λ piece. piece) pieces) items ending
  pub only : (stream : List ℕ) (items others : List X) (ending other : Ending F) → Splits format stream items ending
      → Splits format stream others other → (items ≡ others) × (ending ≡ other)
  pub found : (pieces : List (List ℕ)) (items others : List X) (ending : Ending F)
      → AllByRecursion format.IsFramed items → flat_map (λ piece. piece) pieces ≡ flat_map format.frame items
      → FeedsAll format (Rest []) pieces others ending → (others ≡ items) × (ending ≡ Rest [])
  pub alone : (x y : X) (rest : List ℕ) → format.IsFramed x → format.IsFramed y → format.frame y ≡ format.frame x
      ++ rest → (x ≡ y) × (rest ≡ [])

-- these bytes, or the fault that was met
abbrev pub ending_of : {F : Type 0} → List ℕ → Option F → Ending F
ending_of bytes None = Rest bytes
ending_of bytes (Some fault) = Fault fault

-- no fault was met
abbrev pub IsRest : {F : Type 0} → Ending F → Type 0
IsRest (Rest bytes) = Unit {0}
IsRest (Fault fault) = ⊥

-- The stream begins with the frames of these items, one behind the other.
pub record Starts {X F : Type 0} (format : Format X F) (stream : List ℕ) (items : List X) : Type 0 where
  pub rest : List ℕ
  pub whole : stream ≡ flat_map format.frame items ++ rest
  pub each : AllByRecursion format.IsFramed items

-- A piece of the stream was taken, and the items that are whole now were added to those found before.
pub record Took {X F : Type 0} (format : Format X F) (before : Ending F) (piece : List ℕ) (after : Ending F)
    (found found' : List X) : Type 0 where
  pub items : List X
  pub added : found' ≡ found ++ items
  pub fed : Feeds format before piece items after
