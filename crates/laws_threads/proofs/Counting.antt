-- How many starts the file of a store counts at least.
use Rattle.std.proofs.Common.{◌≡◌, ◌≤◌, ◌<◌, ◌+◌, ℕ, Bool, true, false, Option, Some, None, refl, sym, ap, subst, inl, inr, ltb, arith}
use Rattle.std.specs.Prelude.{MatchBool}
use Rattle.vr_model.specs.declared.event.Stored.{Stored}
use Rattle.vr_threads.specs.declared.file_store.Held.{Held}
use Rattle.vr_threads.specs.declared.file_store.Held.TheVariants.{Unknown, One, OneOf}
use Rattle.vr_threads.specs.Keeping.{IsOneOf, MayHold, with_view, started, Loads, Writes, Saves, CountsStart}
use Rattle.laws_threads.specs.MachineMoves.{HoldsAtLeast, HoldsJust}

as_many : (n : ℕ) (a v : Stored) → v ≡ a → n ≤ a.starts → n ≤ v.starts
as_many n a v is le = subst (λ (y : Stored). n ≤ y.starts) (sym is) le

one : (t : Held) (a : Stored) (n : ℕ) → t ≡ One a → n ≤ a.starts → HoldsAtLeast t n
one t a n is le v may = as_many n a v (subst (λ (h : Held). IsOneOf h v) is may) le

two : (t : Held) (a b : Stored) (n : ℕ) → t ≡ OneOf a b → n ≤ a.starts → n ≤ b.starts → HoldsAtLeast t n
two t a b n is le more v may = elim (subst (λ (h : Held). IsOneOf h v) is may) [
  | inl same ↦ as_many n a v same le
  | inr same ↦ as_many n b v same more
]

same : (h t : Held) (n : ℕ) → t ≡ h → HoldsAtLeast h n → HoldsAtLeast t n
same h t n is at v may = at v (subst (λ (x : Held). IsOneOf x v) is may)

pub loads : (h t : Held) (n : ℕ) (found : Option Stored) → HoldsAtLeast h n → Loads h found t → HoldsAtLeast t n
loads h t n None at l = same h t n l at
loads h t n (Some found) at l = one t found n l.1 (at found l.0.1)

pub saves : (h t : Held) (n view : ℕ) (made : Bool) → HoldsAtLeast h n → Saves h view made t → HoldsAtLeast t n
saves Unknown t n view made at s = same Unknown t n s.1 at
saves (OneOf a b) t n view made at s = same (OneOf a b) t n s.1 at
saves (One found) t n view made at s = of (ltb 0 found.starts) made s
  where
    le : n ≤ found.starts
    le = at found refl

    of : (b did : Bool) → MatchBool b (Writes found (with_view found view) did t) ((did ≡ false) × (t ≡ One found)) → HoldsAtLeast t n
    of true true w = one t (with_view found view) n w le
    of true false w = two t found (with_view found view) n w le le
    of false did w = same (One found) t n w.1 at

pub begins : (h t : Held) (n : ℕ) (stored : Stored) → HoldsAtLeast h n → CountsStart h (Some stored) t → (n < stored.starts) × HoldsAtLeast t stored.starts
begins h t n stored at b =
    let le : n ≤ b.0.starts = at b.0 b.1.1 in
    let more : stored.starts ≡ b.0.starts + 1 = ap (λ (y : Stored). y.starts) b.2 in
    (omega (arith, le, more), one t stored stored.starts b.3 (omega arith))

pub begin_failed : (h t : Held) (n : ℕ) → HoldsAtLeast h n → CountsStart h None t → HoldsAtLeast t n
begin_failed h t n at b = elim b [
  | inl is ↦ same h t n is at
  | inr f ↦ (
      let le : n ≤ f.0.starts = at f.0 f.1.1 in
      elim f.2 [
        | inl is ↦ one t f.0 n is le
        | inr is ↦ two t f.0 (started f.0) n is le (let up : n ≤ f.0.starts + 1 = omega (arith, le) in up)
      ])
]

-- what was opened anew starts as what was left, where it found what that may hold
pub reopened : (left after : Held) (found stored : Stored) → MayHold left found → CountsStart Unknown (Some stored) after → stored ≡ started found → CountsStart left (Some stored) after
reopened left after found stored may b is =
    (found, may, is, b.3)

-- ---- just so many

just_one : (t : Held) (a : Stored) (n : ℕ) → t ≡ One a → a.starts ≡ n → HoldsJust t n
just_one t a n is e v may = subst (λ (y : Stored). y.starts ≡ n) (sym (subst (λ (h : Held). IsOneOf h v) is may)) e

just_same : (h t : Held) (n : ℕ) → t ≡ h → HoldsJust h n → HoldsJust t n
just_same h t n is at v may = at v (subst (λ (x : Held). IsOneOf x v) is may)

pub begins_just : (h t : Held) (stored : Stored) → CountsStart h (Some stored) t → HoldsJust t stored.starts
begins_just h t stored b = just_one t stored stored.starts b.3 refl

pub loads_just : (h t : Held) (n : ℕ) (found : Stored) → HoldsJust h n → Loads h (Some found) t → (found.starts ≡ n) × HoldsJust t n
loads_just h t n found at l = (at found l.0.1, just_one t found n l.1 (at found l.0.1))

pub load_failed_just : (h t : Held) (n : ℕ) → HoldsJust h n → Loads h None t → HoldsJust t n
load_failed_just h t n at l = just_same h t n l at

pub saves_just : (h t : Held) (n view : ℕ) (made : Bool) → HoldsJust h n → Saves h view made t → HoldsJust t n
saves_just Unknown t n view made at s = just_same Unknown t n s.1 at
saves_just (OneOf a b) t n view made at s = just_same (OneOf a b) t n s.1 at
saves_just (One found) t n view made at s = of (ltb 0 found.starts) made s
  where
    is : found.starts ≡ n
    is = at found refl

    of : (b did : Bool) → MatchBool b (Writes found (with_view found view) did t) ((did ≡ false) × (t ≡ One found)) → HoldsJust t n
    of true true w = just_one t (with_view found view) n w is
    of true false w = λ v may. elim (subst (λ (h : Held). IsOneOf h v) w may) [
      | inl same ↦ subst (λ (y : Stored). y.starts ≡ n) (sym same) is
      | inr other ↦ subst (λ (y : Stored). y.starts ≡ n) (sym other) is
    ]
    of false did w = just_same (One found) t n w.1 at
