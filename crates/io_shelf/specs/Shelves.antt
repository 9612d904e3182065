-- A file that is put in its place whole: what is left of it wherever its process is killed, or the power is cut.
use Rattle.std.specs.Prelude.{◌≡◌, ◌≤◌, ◌⊎◌, ℕ, List, Option, option_map}
use Rattle.std.specs.declared.alloc.Global.{Global}
use Rattle.std.specs.declared.vec.Vec.{Vec}

-- the bytes of a file, or none where it isn't there
abbrev pub Content : Type 0
Content = Option (List ℕ)

abbrev pub content_of : Option (Vec ℕ Global) → Content
content_of found = option_map (λ bytes. bytes.items) found

-- this is left, and nothing else
abbrev pub Only : Content → (Content → Type 0) → Type 0
Only c may_leave = (d : Content) → may_leave d → d ≡ c

-- what may be left could have been left before
abbrev pub NoMore : (Content → Type 0) → (Content → Type 0) → Type 0
NoMore before after = (c : Content) → after c → before c

-- what may be left could have been left before, or is what the file was changed to
abbrev pub OldOrNew : Content → (Content → Type 0) → (Content → Type 0) → Type 0
OldOrNew new before after = (c : Content) → after c → before c ⊎ (c ≡ new)

-- ---- moments

-- Time went on over a call: since an earlier moment that may have been left which may have been before, or which may be
-- left now.
pub record Elapses (before now : ℕ) (past since : ℕ → Content → Type 0) (may_leave : Content → Type 0) : Type 0 where
  pub later : before ≤ now
  pub nothing_else : (t : ℕ) (c : Content) → t ≤ before → since t c → past t c ⊎ may_leave c
  pub keeps : (t : ℕ) (c : Content) → t ≤ before → past t c → since t c

-- A kill at any moment since the first of these leaves what has P; since moments before, that or what could have been
-- left by then.
pub record LeavesOnly {S : Type 0} (moment : S → ℕ) (left_since : S → ℕ → Content → Type 0) (before now : S)
    (P : Content → Type 0) : Type 0 where
  pub later : moment before ≤ moment now
  pub each : (c : Content) → left_since now (moment before) c → P c
  pub earlier : (t : ℕ) (c : Content) → t ≤ moment before → left_since now t c → left_since before t c ⊎ P c
