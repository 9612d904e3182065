-- The staged inputs: the last sample, the writes since then, and the next ticket.
use Rattle.std.specs.Prelude.{ℕ, ℤ, pos, Bool, ◌+◌, ◌<◌, ◌≤◌, ◌==◌, ◌||◌, bit_and, bit_or, List, [], ◌∷◌, ◌++◌, length}
use Rattle.std.specs.Prelude.{fold, get_or, slice_set, map, ◌≡◌, Option, Some, None}
use Rattle.std.specs.List.{splice}
use Rattle.std.specs.Int.{w16, bit_not, cast_signed, cast_unsigned}
use Rattle.il_model.specs.declared.cells.Cells.{Cells}
use Rattle.il_model.specs.declared.limits.TheConstants.{BITS, WORDS}
use Rattle.il_model.specs.Locations.{clear_cells}
use Rattle.io_image.specs.declared.book.TheConstants.{MOST_WRITES}
use Rattle.io_image.specs.declared.book.Entry.{Entry}
use Rattle.io_image.specs.declared.book.Entry.TheVariants.{Bits, Words, Mask}

-- one write: bits or words from a place on, or two masks, And and then Or, for the word at a place
pub data Change : Type 0 where
  bits_at : ℕ → List Bool → Change
  words_at : ℕ → List ℤ → Change
  mask_at : ℕ → ℕ → ℕ → Change

-- (word AND And) OR (Or AND NOT And), bit by bit in two's complement
abbrev pub masked : ℤ → ℕ → ℕ → ℤ
masked word and_mask or_mask =
    cast_signed w16 (bit_or (bit_and (cast_unsigned w16 word) and_mask) (bit_and or_mask (bit_not w16 and_mask)))

-- the cells after one write, which stands whole; masks are laid on the word that is there
abbrev pub after_change : Cells → Change → Cells
after_change c (bits_at at values) = record c { bits = splice c.bits at (at + length values) values }
after_change c (words_at at values) = record c { words = splice c.words at (at + length values) values }
after_change c (mask_at at and_mask or_mask) =
    record c { words = slice_set c.words at (masked (get_or c.words at (pos 0)) and_mask or_mask) }

-- a write of cells that are there
abbrev pub LiesInside : Change → Type 0
LiesInside (bits_at at values) = at + length values ≤ BITS
LiesInside (words_at at values) = at + length values ≤ WORDS
LiesInside (mask_at at and_mask or_mask) = at < WORDS

-- the cells after these writes, in their order
abbrev pub replayed : Cells → List Change → Cells
replayed c changes = fold after_change c changes

-- the sample, the writes since then, whose tickets are the consecutive numbers that end just below the next, and the
-- next ticket
pub record Book : Type 0 where
  pub sample : Cells
  pub changes : List Change
  pub next : ℕ

-- all cells FALSE and 0, no write, and no ticket given
abbrev pub new_book : Book
new_book = record { sample = clear_cells; changes = []; next = 0 }

-- the cells now: the writes over the sample
abbrev pub cells_of : Book → Cells
cells_of b = replayed b.sample b.changes

-- no write gets a ticket: there are MOST_WRITES since the sample, or the next number is the greatest of 64 bits
abbrev pub is_full : Book → Bool
is_full b = (length b.changes == MOST_WRITES) || (b.next == 18446744073709551615)

-- the book after a write that got a ticket
abbrev pub with_change : Book → Change → Book
with_change b c = record { sample = b.sample; changes = b.changes ++ c ∷ []; next = b.next + 1 }

-- the book after a sample
abbrev pub sampled : Book → Book
sampled b = record { sample = cells_of b; changes = []; next = b.next }

-- ---- the writes that a book of the code keeps, as changes

abbrev pub change_of : Entry → Change
change_of (Bits at values) = bits_at at values.items
change_of (Words at values) = words_at at values.items
change_of (Mask at and_mask or_mask) = mask_at at and_mask or_mask

abbrev pub changes_of : List Entry → List Change
changes_of entries = map change_of entries

-- ---- what a staging tells

-- what a call did to the book that the staging told; a staging that tells nothing goes on telling nothing
abbrev pub Changed : Option Book → Option Book → (Book → Book → Type 0) → Type 0
Changed None after P = after ≡ None
Changed (Some before) None P = ⊥
Changed (Some before) (Some after) P = P before after
