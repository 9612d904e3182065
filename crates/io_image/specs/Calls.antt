-- What a list of calls of a book did.
use Rattle.std.specs.Prelude.{ℕ, ◌≡◌, ◌+◌, ◌<◌, ◌≤◌, List, [], ◌∷◌, ◌++◌, length, false, All, ⊤}
use Rattle.std.specs.List.{range_with_len}
use Rattle.il_model.specs.declared.cells.Cells.{Cells}
use Rattle.il_model.specs.Locations.{clear_cells}
use Rattle.io_image.specs.declared.book.TheConstants.{MOST_WRITES}
use Rattle.io_image.specs.Book.{Book, Change, cells_of, is_full, with_change, sampled, new_book, replayed}

-- one call with its answer: the cells that a read gave, the cells and the number that a sample gave, a write and its
-- ticket, or a write that was refused
pub data Call : Type 0 where
  read_gave : Cells → Call
  sample_gave : Cells → ℕ → Call
  wrote : Change → ℕ → Call
  refused : Call

-- what each call does to a book
abbrev pub Does : Book → Call → Book → Type 0
Does b (read_gave cells) c = (c ≡ b) × (cells ≡ cells_of b)
Does b (sample_gave cells next) c = (c ≡ sampled b) × (cells ≡ cells_of b) × (next ≡ b.next)
Does b (wrote change ticket) c = (c ≡ with_change b change) × (ticket ≡ b.next) × (is_full b ≡ false)
Does b refused c = c ≡ b

-- these calls, one after another
abbrev pub Ran : Book → List Call → Book → Type 0
Ran b [] c = c ≡ b
Ran b (call ∷ calls) c = (m : Book) × Does b call m × Ran m calls c

abbrev pub AreNoSamples : List Call → Type 0
AreNoSamples [] = ⊤
AreNoSamples (read_gave cells ∷ calls) = AreNoSamples calls
AreNoSamples (sample_gave cells next ∷ calls) = ⊥
AreNoSamples (wrote change ticket ∷ calls) = AreNoSamples calls
AreNoSamples (refused ∷ calls) = AreNoSamples calls

-- the writes that got a ticket
abbrev pub changes_in : List Call → List Change
changes_in [] = []
changes_in (read_gave cells ∷ calls) = changes_in calls
changes_in (sample_gave cells next ∷ calls) = changes_in calls
changes_in (wrote change ticket ∷ calls) = change ∷ changes_in calls
changes_in (refused ∷ calls) = changes_in calls

abbrev pub tickets_in : List Call → List ℕ
tickets_in [] = []
tickets_in (read_gave cells ∷ calls) = tickets_in calls
tickets_in (sample_gave cells next ∷ calls) = tickets_in calls
tickets_in (wrote change ticket ∷ calls) = ticket ∷ tickets_in calls
tickets_in (refused ∷ calls) = tickets_in calls

-- the calls between two samples: the later one has their writes, each whole, in ticket order, over the earlier one.
-- Their tickets are the numbers from the earlier sample's to the later one's, and there are MOST_WRITES of them at most
pub record Joins (cells : Cells) (next : ℕ) (calls : List Call) (cells' : Cells) (next' : ℕ) : Type 0 where
  pub shown : cells' ≡ replayed cells (changes_in calls)
  pub tickets : tickets_in calls ≡ range_with_len next (length (changes_in calls))
  pub next_is : next' ≡ next + length (changes_in calls)
  pub few : length (changes_in calls) ≤ MOST_WRITES

-- whatever calls a new book takes: its first sample joins the clear cells, each further one the sample before it, a
-- read shows the writes since the last sample, and the greatest number of 64 bits is no ticket
pub record EachSampleHolds : Type 0 where
  pub first : (b : Book) (calls more : List Call) (cells : Cells) (next : ℕ) → AreNoSamples calls
      → Ran new_book (calls ++ sample_gave cells next ∷ more) b → Joins clear_cells 0 calls cells next
  pub further : (b : Book) (before calls more : List Call) (cells cells' : Cells) (next next' : ℕ) → AreNoSamples calls
      → Ran new_book (before ++ sample_gave cells next ∷ (calls ++ sample_gave cells' next' ∷ more)) b
      → Joins cells next calls cells' next'
  pub first_read : (b : Book) (calls more : List Call) (cells : Cells) → AreNoSamples calls
      → Ran new_book (calls ++ read_gave cells ∷ more) b → cells ≡ replayed clear_cells (changes_in calls)
  pub further_read : (b : Book) (before calls more : List Call) (cells cells' : Cells) (next : ℕ) → AreNoSamples calls
      → Ran new_book (before ++ sample_gave cells next ∷ (calls ++ read_gave cells' ∷ more)) b
      → cells' ≡ replayed cells (changes_in calls)
  pub tickets : (b : Book) (calls : List Call) → Ran new_book calls b
      → All (λ t. t < 18446744073709551615) (tickets_in calls)
