-- The numbers of a replica's starts, of which its store counts the first of each process alone.
use Rattle.std.specs.Prelude.{◌≡◌, ℕ, ◌+◌, ◌*◌, ◌/◌, ◌<◌, ◌⊎◌, ◌==◌, ◌&&◌, nat_lt, if◌then◌else◌, MatchBool}
use Rattle.std.specs.Prelude.{Option, Some, None}
use Rattle.vr_model.specs.declared.event.Stored.{Stored}

-- The number of a start: of a process with this count, which had started its replica so often before. The very first
-- one has number 1.
abbrev pub number_of : ℕ → ℕ → ℕ
number_of count before = if (count == 1) && (before == 0) then 1 else count * 4_294_967_296 + before

-- there is a number for it, which no other start has
abbrev pub HasNumber : ℕ → ℕ → Type 0
HasNumber count before = (0 < count) × (count < 4_294_967_296) × (before < 4_294_967_296)

-- how many processes were counted by the start with this number
abbrev pub count_in : ℕ → ℕ
count_in number = if nat_lt number 4_294_967_296 then number else number / 4_294_967_296

-- what was found, under the number of this start
abbrev pub numbered : Stored → ℕ → Stored
numbered found before = record found { starts = number_of found.starts before }

-- of a store: how a start leaves it, and how a load does
module _ {S : Type 0} (begin_gives : S → Option Stored → S → Type 0) (load_gives : S → Option Stored → S → Type 0) where
  -- what a start found: the first of a process by one that the store counts, each later one by a load
  abbrev pub Finds : ℕ → S → Option Stored → S → Type 0
  Finds before s found t = MatchBool (before == 0) (begin_gives s found t) (load_gives s found t)

  -- A start has what was found, under its number. It failed where the store did, or where there is no number for it.
  abbrev pub BeginsNumbered : ℕ → S → Option Stored → S → Type 0
  BeginsNumbered before s (Some stored) t =
      (found : Stored) × Finds before s (Some found) t × HasNumber found.starts before
      × (stored ≡ numbered found before)
  BeginsNumbered before s None t =
      Finds before s None t
      ⊎ ((found : Stored) × Finds before s (Some found) t × (HasNumber found.starts before → ⊥))
