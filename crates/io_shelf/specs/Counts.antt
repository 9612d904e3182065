-- A file that counts.
use Rattle.std.specs.Prelude.{◌≡◌, ◌≤◌, ◌<◌, ◌^◌, ℕ, ◌+◌, ◌⊎◌, length, Some, None}
use Rattle.byteorder.specs.Endian.{big_bytes, big_number}
use Rattle.io_shelf.specs.Shelves.{Content}

-- a file that isn't there has counted nothing; else the count is its eight bytes, the highest first
abbrev pub IsCount : Content → ℕ → Type 0
IsCount None n = n ≡ 0
IsCount (Some bytes) n = (length bytes ≡ 8) × (n ≡ big_number 8 bytes)

abbrev pub counted : ℕ → Content
counted n = Some (big_bytes 8 n)

-- this is one more than a count that may have been left
abbrev pub IsNext : (Content → Type 0) → ℕ → Type 0
IsNext may_leave n = (c : Content) × (m : ℕ) × may_leave c × IsCount c m × (n ≡ m + 1) × (n < 2 ^ 64)

-- it could have been left before, or is one more than what could
abbrev pub IsLeftOrNext : (Content → Type 0) → Content → Type 0
IsLeftOrNext may_leave c = may_leave c ⊎ ((n : ℕ) × IsNext may_leave n × (c ≡ counted n))

-- whatever is left counts so many at least
abbrev pub AtLeast : ℕ → (Content → Type 0) → Type 0
AtLeast m may_leave = (c : Content) (n : ℕ) → may_leave c → IsCount c n → m ≤ n
