-- What a file has behind a start that counted itself or failed, or within which its process was killed.
use Rattle.std.proofs.Common.{◌≡◌, ℕ, ◌+◌, ◌≤◌, Bool, true, Option, Some, None, refl, sym, ap, subst, inl, inr, ◌⊎◌, arith, ◌∙◌}
use Rattle.vr_model.specs.declared.event.Stored.{Stored}
use Rattle.vr_model.specs.Stores.{only}
use Rattle.vr_threads.specs.declared.file_store.Held.{Held}
use Rattle.vr_threads.specs.declared.file_store.Held.TheVariants.{One, OneOf}
use Rattle.vr_threads.specs.Keeping.{IsOneOf, MayHold, started, CountsStart}
use Rattle.laws_threads.specs.CodeMoves.{Seat}
use Rattle.laws_threads.specs.KeptViews.{HoldsNoOther}
use Rattle.laws_threads.specs.MachineMoves.{HoldsAtLeast}
use Rattle.laws_threads.specs.OpenedStores.{IsFileLeft, IsOneOrOther}

-- behind a start the file has what it had, or that with one start more
record IsOldOrStarted (h : Held) (v : Stored) : Type 0 where
  was : Stored
  may : MayHold h was
  is : (v ≡ was) ⊎ (v ≡ started was)

one_is : (t : Held) (a v : Stored) → t ≡ One a → IsOneOf t v → v ≡ a
one_is t a v is one = subst (λ (h : Held). IsOneOf h v) is one

two_are : (t : Held) (a b v : Stored) → t ≡ OneOf a b → IsOneOf t v → (v ≡ a) ⊎ (v ≡ b)
two_are t a b v is one = subst (λ (h : Held). IsOneOf h v) is one

-- what it has behind the call, where that isn't what it had before
behind : (h t : Held) (stored : Option Stored) (v : Stored) → CountsStart h stored t → IsOneOf t v → IsOneOf h v ⊎ IsOldOrStarted h v
behind h t (Some s) v c one = inr (record { was = c.0; may = c.1; is = inr (one_is t s v c.3 one ∙ c.2) })
behind h t None v c one = elim c [
  | inl same ↦ inl (subst (λ (x : Held). IsOneOf x v) same one)
  | inr f ↦ elim f.2 [
    | inl is ↦ inr (record { was = f.0; may = f.1; is = inl (one_is t f.0 v is one) })
    | inr is ↦ inr (record { was = f.0; may = f.1; is = two_are t f.0 (started f.0) v is one })
  ]
]

either_way : (h t left : Held) (stored : Option Stored) (v : Stored) → CountsStart h stored t → IsOneOrOther h t left → IsOneOf left v → IsOneOf h v ⊎ IsOldOrStarted h v
either_way h t left stored v c either one = elim (either v one) [
  | inl here ↦ inl here
  | inr there ↦ behind h t stored v c there
]

view_as : (k : ℕ → Bool) (v was : Stored) → (v ≡ was) ⊎ (v ≡ started was) → k was.view ≡ true → k v.view ≡ true
view_as k v was is held = elim is [
  | inl e ↦ ap (λ (x : Stored). k x.view) e ∙ held
  | inr e ↦ ap (λ (x : Stored). k x.view) e ∙ held
]

pub views : (h t left : Held) (stored : Option Stored) (k : ℕ → Bool) → HoldsNoOther h k → CountsStart h stored t → IsOneOrOther h t left → HoldsNoOther left k
views h t left stored k held c either v may = elim (either_way h t left stored v c either may.1) [
  | inl one ↦ held v (may.0, one)
  | inr o ↦ view_as k v o.was o.is (held o.was o.may)
]

count_as : (n : ℕ) (v was : Stored) → (v ≡ was) ⊎ (v ≡ started was) → n ≤ was.starts → n ≤ v.starts
count_as n v was is held = elim is [
  | inl e ↦ subst (λ (x : Stored). n ≤ x.starts) (sym e) held
  | inr e ↦ subst (λ (x : Stored). n ≤ x.starts) (sym e) (let more : n ≤ was.starts + 1 = omega (arith, held) in more)
]

pub counts : (h t left : Held) (stored : Option Stored) (counted : ℕ) → HoldsAtLeast h counted → CountsStart h stored t → IsOneOrOther h t left → HoldsAtLeast left counted
counts h t left stored counted held c either v one = elim (either_way h t left stored v c either one) [
  | inl here ↦ held v here
  | inr o ↦ count_as counted v o.was o.is (held o.was o.may.1)
]

module _ {S : Type 0} (holds : S → (ℕ → Bool) → Type 0) where
  pub left_by : (seat : Option (Seat S)) (h t left : Held) (stored : Option Stored) → IsFileLeft holds seat h → CountsStart h stored t → IsOneOrOther h t left → IsFileLeft holds seat left
  left_by None h t left stored file c either = views h t left stored (only 0) file c either
  left_by (Some seat) h t left stored file c either = λ k held. views h t left stored k (file k held) c either

-- ---- worked: a first start that was cut off

-- a file that was never there has nothing; its first start is to make it one with a start
abbrev never : Held
never = One (record { view = 0; starts = 0 })

abbrev first : Held
first = One (record { view = 0; starts = 1 })

counts_one : CountsStart never (Some (record { view = 0; starts = 1 })) first
counts_one = (record { view = 0; starts = 0 }, (λ e. refl, refl), refl, refl)

-- whichever of the two it has then, it's one of those
cut_off_before : IsOneOrOther never first never
cut_off_before v one = inl one

cut_off_behind : IsOneOrOther never first first
cut_off_behind v one = inr one

still_none : IsFileLeft {S = Unit {0}} (λ s k. Unit {0}) None first
still_none = left_by {S = Unit {0}} (λ s k. Unit {0}) None never first first (Some (record { view = 0; starts = 1 })) (λ v may. ap (λ (x : Stored). only 0 x.view) (one_is never (record { view = 0; starts = 0 }) v refl may.1)) counts_one cut_off_behind
