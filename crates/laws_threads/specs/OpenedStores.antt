-- What a store's file had when it was opened for a start, by what the store before it may hold, and behind a kill.
use Rattle.std.specs.Prelude.{◌≡◌, ℕ, ◌⊎◌, Bool, false, Option, Some, None}
use Rattle.vr_model.specs.declared.event.Stored.{Stored}
use Rattle.vr_model.specs.Stores.{only}
use Rattle.vr_threads.specs.declared.file_store.Held.{Held}
use Rattle.vr_threads.specs.Keeping.{IsOneOf}
use Rattle.laws_threads.specs.CodeMoves.{Seat}
use Rattle.laws_threads.specs.KeptViews.{HoldsNoOther}

-- The file may have this: before the first start no view but 0, and then none but those that were left.
abbrev pub IsFileLeft : {S : Type 0} → (S → (ℕ → Bool) → Type 0) → Option (Seat S) → Held → Type 0
IsFileLeft holds None had = HoldsNoOther had (only 0)
IsFileLeft holds (Some seat) had = (k : ℕ → Bool) → holds seat.store k → HoldsNoOther had k

-- where there was a start before, this one is no first one
abbrev pub IsLater : {S : Type 0} → Option (Seat S) → Stored → Type 0
IsLater None stored = Unit {0}
IsLater (Some seat) stored = stored.starts ≡ 1 → ⊥

-- and was judged so
abbrev pub IsJudgedLater : {S : Type 0} → Option (Seat S) → Bool → Type 0
IsJudgedLater None is_first = Unit {0}
IsJudgedLater (Some seat) is_first = is_first ≡ false

-- where the process was killed within a call: the file has what it had before, or what it would have had behind the call
abbrev pub IsOneOrOther : Held → Held → Held → Type 0
IsOneOrOther before behind left = (v : Stored) → IsOneOf left v → IsOneOf before v ⊎ IsOneOf behind v
