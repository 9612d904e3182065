-- The contents that a file in memory has had.
use Rattle.std.specs.Prelude.{◌≡◌, ◌⊎◌, ℕ, List, [], ◌∷◌, length, drop, Option}
use Rattle.std.specs.declared.alloc.Global.{Global}
use Rattle.std.specs.declared.vec.Vec.{Vec}
use mathlib.Core.Logic.{inl, inr}
use Rattle.io_shelf.specs.Shelves.{Content, content_of}

-- one of them is this
abbrev pub HadBeen : List (Option (Vec ℕ Global)) → Content → Type 0
HadBeen [] c = ⊥
HadBeen (v ∷ past) c = (c ≡ content_of v) ⊎ HadBeen past c

none_left : (past : List (Option (Vec ℕ Global))) (c : Content) → HadBeen (drop (length past) past) c → ⊥
none_left [] c had = had
none_left (v ∷ past) c had = none_left past c had

-- since the last of them there is what is there now
pub only_content : (past : List (Option (Vec ℕ Global))) (now c : Content)
    → (c ≡ now) ⊎ HadBeen (drop (length past) past) c → c ≡ now
only_content past now c (inl is) = is
only_content past now c (inr had) = absurd (none_left past c had)
