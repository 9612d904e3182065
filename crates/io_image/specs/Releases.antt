-- Lists of releases, the rule by which threads share one, and how long it is shown.
use Rattle.std.specs.Prelude.{ℕ, ◌<◌, List, [], ◌∷◌, ◌≡◌, ◌==◌, true, ◌++◌, Bool, false, nat_lt, Option, Some, None}
use Rattle.std.specs.Bool.{OnTrue}
use Rattle.logbook.specs.Pages.{Cell, Step, View as Sight, Book, Named}
use Rattle.il_model.specs.declared.cells.OutImage.{OutImage}
use Rattle.il_model.specs.Locations.{safe_image}
use Rattle.io_image.specs.declared.release.Release.{Release}
use Rattle.io_image.specs.declared.release.View.{View}

-- the number of the last release, or the number before the first
abbrev pub number_from : ℕ → List Release → ℕ
number_from n [] = n
number_from n (r ∷ rs) = number_from r.number rs

-- the image of the last release, or the image before the first
abbrev pub image_from : OutImage → List Release → OutImage
image_from i [] = i
image_from i (r ∷ rs) = image_from r.image rs

-- the number of the last release, or 0
abbrev pub number_of : List Release → ℕ
number_of rs = number_from 0 rs

-- each number is above the one before
abbrev pub IsRisingFrom : ℕ → List Release → Type 0
IsRisingFrom n [] = Unit {0}
IsRisingFrom n (r ∷ rs) = (n < r.number) × IsRisingFrom r.number rs

-- the numbers rise, and the first is above 0
abbrev pub IsRising : List Release → Type 0
IsRising rs = IsRisingFrom 0 rs

-- the number and the image of the last release, or 0 and the safe image
abbrev pub shown : List Release → View
shown rs = record { number = number_of rs; image = image_from safe_image rs }

-- what a list that ends with this release shows
abbrev pub view_of : Release → View
view_of r = record { number = r.number; image = r.image }

-- ---- the rule of the releases that threads share, and what its one step tells

-- the word is the number of the last release of the list, which rises. A book has two words, of which this one leaves
-- the second at 0
pub record IsKept (cells : List Cell) (log : List Release) : Type 0 where
  pub words : cells ≡ (number_of log, true) ∷ (0, true) ∷ []
  pub rising : IsRising log

-- the first word of a book
abbrev pub head_of : Book → Named
head_of b = record { tracked = true; key = 0; book = b }

-- where the number found is the one expected, the release was added to all that had been seen
abbrev pub Adds : Step Release → Sight Release ℕ → ℕ → Sight Release ℕ → Type 0
Adds s v found w = OnTrue (found == s.old) (w.0 ≡ v.0 ++ s.ask ∷ [])

-- ---- how long outputs are shown without a release

-- outputs that were released so long ago, if they were, aren't shown any more, if there is a limit; in milliseconds
abbrev pub is_stale : Option ℕ → Option ℕ → Bool
is_stale None age = false
is_stale (Some limit) None = true
is_stale (Some limit) (Some age) = nat_lt limit age
