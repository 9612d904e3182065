-- What the file of a store may hold, and how a start, a load and a save leave it.
use Rattle.std.specs.Prelude.{◌≡◌, ℕ, ◌+◌, ◌-◌, ◌^◌, ◌<◌, ◌⊎◌, Bool, true, false, List, ◌++◌, drop, Option, Some, None}
use Rattle.std.specs.Prelude.{MatchBool, length, nat_lt}
use Rattle.byteorder.specs.Endian.{big_bytes, big_number}
use Rattle.vr_model.specs.declared.event.Stored.{Stored}
use Rattle.vr_threads.specs.declared.file_store.Held.{Held}
use Rattle.vr_threads.specs.declared.file_store.Held.TheVariants.{Unknown, One, OneOf}

-- the view, then the number of starts, big-endian
abbrev pub stored_bytes : Stored → List ℕ
stored_bytes stored = big_bytes 8 stored.view ++ big_bytes 8 stored.starts

abbrev pub stored_from : List ℕ → Stored
stored_from bytes = record { view = big_number 8 bytes; starts = big_number 8 (drop 8 bytes) }

-- these are all the bytes of a file that a start left, and this is what they say
abbrev pub IsFileOf : Stored → List ℕ → Type 0
IsFileOf stored bytes = (length bytes ≡ 16) × (stored ≡ stored_from bytes) × (0 < stored.starts)

-- what is kept before the first start
abbrev pub unstarted : Stored
unstarted = record { view = 0; starts = 0 }

-- a view is kept only after a start
abbrev pub IsLawful : Stored → Type 0
IsLawful v = v.starts ≡ 0 → v.view ≡ 0

abbrev pub IsOneOf : Held → Stored → Type 0
IsOneOf Unknown v = Unit {0}
IsOneOf (One a) v = v ≡ a
IsOneOf (OneOf a b) v = (v ≡ a) ⊎ (v ≡ b)

abbrev pub MayHold : Held → Stored → Type 0
MayHold h v = IsLawful v × IsOneOf h v

-- a count rose, or stood at the greatest number
abbrev pub Rose : ℕ → ℕ → Type 0
Rose before after = (before < after) ⊎ (before ≡ 2 ^ 64 - 1)

-- what was found, under another view
abbrev pub with_view : Stored → ℕ → Stored
with_view found view = record found { view = view }

-- what was found, with one start more
abbrev pub started : Stored → Stored
started found = record found { starts = found.starts + 1 }

-- a load gives a value that may be held, which is the only one from then on; one that failed changes nothing
abbrev pub Loads : Held → Option Stored → Held → Type 0
Loads h (Some found) after = MayHold h found × (after ≡ One found)
Loads h None after = after ≡ h

-- a write of this, over what was found, was made; or it failed, and either may be held
abbrev pub Writes : Stored → Stored → Bool → Held → Type 0
Writes found stored true after = after ≡ One stored
Writes found stored false after = after ≡ OneOf found stored

-- A save writes the view, with as many starts as were loaded. It is refused where there was no start yet, and where no
-- load or save was made since the store was opened or a write failed.
abbrev pub Saves : Held → ℕ → Bool → Held → Type 0
Saves (One found) view made after =
    MatchBool (nat_lt 0 found.starts) (Writes found (with_view found view) made after)
    ((made ≡ false) × (after ≡ One found))
Saves Unknown view made after = (made ≡ false) × (after ≡ Unknown)
Saves (OneOf a b) view made after = (made ≡ false) × (after ≡ OneOf a b)

-- a start loads, and writes one start more; or its load failed, or its write, or there is no greater number
abbrev pub CountsStart : Held → Option Stored → Held → Type 0
CountsStart h (Some stored) after = (found : Stored) × MayHold h found × (stored ≡ started found) × (after ≡ One stored)
CountsStart h None after = (after ≡ h)
    ⊎ ((found : Stored) × MayHold h found × ((after ≡ One found) ⊎ (after ≡ OneOf found (started found))))
