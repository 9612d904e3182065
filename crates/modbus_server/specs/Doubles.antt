-- The inputs' double words: two neighbouring words each, of which a write that gives it both leaves no half.
use Rattle.std.specs.Prelude.{◌≡◌, ◌⊎◌, ℕ, ℤ, pos, ◌+◌, ◌-◌, ◌<◌, ◌≤◌, ◌&&◌, nat_le, nat_lt, if◌then◌else◌}
use Rattle.std.specs.Prelude.{List, [], ◌∷◌, length, get_or, Option, Some, None, unwrap_or}
use Rattle.std.specs.List.{AllByRecursion}
use Rattle.il_model.specs.declared.cells.Cells.{Cells}
use Rattle.il_model.specs.declared.limits.TheConstants.{WORDS}
use Rattle.io_image.specs.Book.{Change, bits_at, words_at, mask_at, LiesInside, replayed}

-- the words of the double word that begins at this number
abbrev pub double_at : ℕ → List ℤ → ℤ × ℤ
double_at n words = (get_or words n (pos 0), get_or words (n + 1) (pos 0))

-- none of so many words from a place on is one of its two
abbrev pub Misses : ℕ → ℕ → ℕ → Type 0
Misses n at count = (at + count ≤ n) ⊎ (n + 1 < at)

-- all of its words are among them
abbrev pub Covers : ℕ → ℕ → ℕ → Type 0
Covers n at count = (at ≤ n) × (n + 1 < at + count)

-- a write that gives it both words, or none
abbrev pub IsWhole : ℕ → Change → Type 0
IsWhole n (bits_at at values) = Unit {0}
IsWhole n (words_at at values) = Covers n at (length values) ⊎ Misses n at (length values)
IsWhole n (mask_at at and_mask or_mask) = Misses n at 1

-- the words that a write gives it
abbrev pub given : ℕ → Change → Option (ℤ × ℤ)
given n (words_at at values) =
    if nat_le at n && nat_lt (n + 1) (at + length values) then Some (double_at (n - at) values) else None
given n change = None

-- what the last of these writes that gives it words gave it, or what it was before
abbrev pub last_given : ℕ → ℤ × ℤ → List Change → ℤ × ℤ
last_given n before [] = before
last_given n before (change ∷ changes) = last_given n (unwrap_or (given n change) before) changes

-- a double word, after whole writes alone, is the last that one of them gave, and never a half of one
abbrev pub DoublesAreWhole : Type 0
DoublesAreWhole = (n : ℕ) (cells : Cells) (changes : List Change) → n + 1 < WORDS → length cells.words ≡ WORDS
    → AllByRecursion LiesInside changes → AllByRecursion (IsWhole n) changes
    → double_at n (replayed cells changes).words ≡ last_given n (double_at n cells.words) changes
