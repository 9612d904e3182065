-- What a store has done whose saves are tried again.
use Rattle.std.specs.Prelude.{ℕ, Bool, false, Option, Some, None, ◌≡◌, ◌⊎◌, zero, suc}
use Rattle.vr_model.specs.declared.event.Stored.{Stored}

-- A save is tried once more, behind one that failed: what the store holds was read, and the save made or failed; or the
-- read failed.
abbrev pub TriesAgain : {S : Type 0} → (S → Option Stored → S → Type 0) → (S → ℕ → Bool → S → Type 0) → S → ℕ → Bool → S
    → Type 0
TriesAgain {S} load_gives save_gives s view made t =
    ((stored : Stored) × (read : S) × load_gives s (Some stored) read × save_gives read view made t)
    ⊎ ((made ≡ false) × load_gives s None t)

-- it was tried, and so many times more, each behind one that failed
abbrev pub SavesBehind : {S : Type 0} → (S → Option Stored → S → Type 0) → (S → ℕ → Bool → S → Type 0) → ℕ → S → ℕ
    → Bool → S → Type 0
SavesBehind load_gives save_gives zero s view made t = save_gives s view made t
SavesBehind {S} load_gives save_gives (suc tries) s view made t =
    (failed : S) × SavesBehind load_gives save_gives tries s view false failed
    × TriesAgain load_gives save_gives failed view made t

-- it was tried as often as it took, or until no more was to be tried
abbrev pub SavesAtLast : {S : Type 0} → (S → Option Stored → S → Type 0) → (S → ℕ → Bool → S → Type 0) → S → ℕ → Bool
    → S → Type 0
SavesAtLast load_gives save_gives s view made t =
    (tries : ℕ) × SavesBehind load_gives save_gives tries s view made t
