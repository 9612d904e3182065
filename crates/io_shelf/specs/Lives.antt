-- The processes that change one file, one after another, each of which may be killed at any moment.
use Rattle.std.specs.Prelude.{◌≡◌, ◌<◌, ℕ, ◌⊎◌, Bool, true, false, List, [], ◌∷◌, ◌++◌, Option, Some, None}
use Rattle.io_shelf.specs.Shelves.{Content, Only, NoMore, OldOrNew}
use Rattle.io_shelf.specs.Counts.{counted, IsNext, IsLeftOrNext}

-- what a process did with its file: it read it; or changed it to this, which was made or failed
pub data Deed : Type 0 where
  Reads : Deed
  Changes : (new : Content) (is_made : Bool) → Deed

-- what the file may be left with behind these deeds, where it may have had these before
abbrev pub left_by : List Content → List Deed → List Content
left_by had [] = had
left_by had (Reads ∷ deeds) = left_by had deeds
left_by had (Changes new true ∷ deeds) = left_by (new ∷ []) deeds
left_by had (Changes new false ∷ deeds) = left_by (new ∷ had) deeds

abbrev pub Has : List Content → Content → Type 0
Has [] c = ⊥
Has (x ∷ xs) c = (c ≡ x) ⊎ Has xs c

-- each is more than the one before, and the first than this
abbrev pub Rise : ℕ → List ℕ → Type 0
Rise m [] = Unit {0}
Rise m (n ∷ ns) = (m < n) × Rise n ns

-- the numbers that were answered
abbrev pub told : List (Option ℕ) → List ℕ
told [] = []
told (None ∷ answers) = told answers
told (Some n ∷ answers) = n ∷ told answers

-- and by all processes, in order
abbrev pub all_told : List (List (Option ℕ)) → List ℕ
all_told [] = []
all_told (answers ∷ later) = told answers ++ all_told later

-- the shelves of one kind, by what a kill may leave
module _ {S : Type 0} (may_leave : S → Content → Type 0) where
  abbrev pub Does : S → Deed → S → Type 0
  Does s Reads t = NoMore (may_leave s) (may_leave t)
  Does s (Changes new is_made) t =
      OldOrNew new (may_leave s) (may_leave t) × (is_made ≡ true → Only new (may_leave t))

  -- deed after deed
  abbrev pub DoesAll : S → List Deed → S → Type 0
  DoesAll s [] t = t ≡ s
  DoesAll s (deed ∷ deeds) t = (u : S) × Does s deed u × DoesAll u deeds t

  -- one call that counts, from this shelf to that one: it answered a number, or failed
  pub record Counts (s : S) (answer : Option ℕ) (t : S) : Type 0 where
    pub next : (n : ℕ) → answer ≡ Some n → IsNext (may_leave s) n
    pub settled : (n : ℕ) → answer ≡ Some n → Only (counted n) (may_leave t)
    pub left : (c : Content) → may_leave t c → IsLeftOrNext (may_leave s) c

  -- call after call
  abbrev pub CountsAll : S → List (Option ℕ) → S → Type 0
  CountsAll s [] t = t ≡ s
  CountsAll s (answer ∷ answers) t = (u : S) × Counts s answer u × CountsAll u answers t

  -- One process, by a shelf that knows what it finds, as one does that was just opened behind its first read: it made
  -- these calls, and was killed then, or within one more; and this was left.
  pub record Life (found : Content) (answers : List (Option ℕ)) (left : Content) : Type 0 where
    pub opened : S
    pub done : S
    pub knows : Only found (may_leave opened)
    pub calls : CountsAll opened answers done
    pub leaves : IsLeftOrNext (may_leave done) left

  -- one process after another: each finds what the one before left
  abbrev pub Lives : Content → List (List (Option ℕ)) → Type 0
  Lives found [] = Unit {0}
  Lives found (answers ∷ later) = (left : Content) × Life found answers left × Lives left later
