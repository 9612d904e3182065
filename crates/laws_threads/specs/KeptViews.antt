-- What a store may hold of views, by its loads, its saves and its starts.
use Rattle.std.specs.Prelude.{◌≡◌, ℕ, Bool, true, false, Option, Some, None}
use Rattle.vr_model.specs.declared.event.Stored.{Stored}
use Rattle.vr_model.specs.Replicas.{put}
use Rattle.vr_model.specs.Stores.{only}
use Rattle.vr_threads.specs.declared.file_store.Held.{Held}
use Rattle.vr_threads.specs.Keeping.{MayHold}

-- A load gives one of the views that the store may hold, and then it holds that one; a save settles it, and one that
-- failed adds its view; a start leaves it as a load does. What holds no other views than these holds no other than
-- more.
pub record KeepsViews {S : Type 0} (load_gives : S → Option Stored → S → Type 0)
    (save_gives : S → ℕ → Bool → S → Type 0) (begin_gives : S → Option Stored → S → Type 0)
    (holds : S → (ℕ → Bool) → Type 0) : Type 0 where
  pub loads : (s t : S) (k : ℕ → Bool) (stored : Stored) → holds s k → load_gives s (Some stored) t
      → (k stored.view ≡ true) × holds t (only stored.view)
  pub load_failed : (s t : S) (k : ℕ → Bool) → holds s k → load_gives s None t → holds t k
  pub saves : (s t : S) (k : ℕ → Bool) (view : ℕ) → holds s k → save_gives s view true t → holds t (only view)
  pub save_failed : (s t : S) (k : ℕ → Bool) (view : ℕ) → holds s k → save_gives s view false t
      → holds t (put k view true)
  pub begins : (s t : S) (k : ℕ → Bool) (stored : Stored) → holds s k → begin_gives s (Some stored) t
      → (k stored.view ≡ true) × holds t (only stored.view)
  pub begin_failed : (s t : S) (k : ℕ → Bool) → holds s k → begin_gives s None t → holds t k
  pub more : (s : S) (k l : ℕ → Bool) → holds s k → ((view : ℕ) → k view ≡ true → l view ≡ true) → holds s l

-- the file of a store holds no other view than these
abbrev pub HoldsNoOther : Held → (ℕ → Bool) → Type 0
HoldsNoOther h k = (v : Stored) → MayHold h v → k v.view ≡ true

-- This start is one of a store that knew what its file had, and holds no views but those.
pub record StartsKnowing {S : Type 0} (begin_gives : S → Option Stored → S → Type 0) (holds : S → (ℕ → Bool) → Type 0)
    (had : Held) (stored : Stored) (left : S) : Type 0 where
  pub knowing : S
  pub starts : begin_gives knowing (Some stored) left
  pub knows : (k : ℕ → Bool) → HoldsNoOther had k → holds knowing k
