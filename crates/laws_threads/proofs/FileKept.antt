-- What a store's file may hold.
use Rattle.std.proofs.Common.{◌≡◌, ℕ, Bool, true, false, Some, None, ap, ◌∙◌, subst, inl, inr, ltb}
use Rattle.std.specs.Prelude.{MatchBool}
use Rattle.std.proofs.lemmas.Bool.{cases_eq}
use Rattle.vr_model.specs.declared.event.Stored.{Stored}
use Rattle.vr_model.specs.Replicas.{put}
use Rattle.vr_model.specs.Stores.{only}
use Rattle.vr_threads.specs.declared.file_store.Held.{Held}
use Rattle.vr_threads.specs.declared.file_store.Held.TheVariants.{Unknown, One, OneOf}
use Rattle.vr_threads.specs.Keeping.{MayHold, with_view, started, Loads, Writes, Saves, CountsStart}
use Rattle.laws_threads.specs.KeptViews.{HoldsNoOther}
use Rattle.laws_threads.proofs.Tables.{put_same, put_other}

-- just this
one_holds : (t : Held) (a : Stored) → t ≡ One a → HoldsNoOther t (only a.view)
one_holds t a is v may = let x : MayHold (One a) v = subst (λ (h : Held). MayHold h v) is may in put_same (λ u. false) a.view true v.view (ap (λ (y : Stored). y.view) x.1)

same_holds : (h t : Held) (k : ℕ → Bool) → t ≡ h → HoldsNoOther h k → HoldsNoOther t k
same_holds h t k is holds v may = holds v (subst (λ (x : Held). MayHold x v) is may)

pub loads : (h t : Held) (k : ℕ → Bool) (stored : Stored) → HoldsNoOther h k → Loads h (Some stored) t → (k stored.view ≡ true) × HoldsNoOther t (only stored.view)
loads h t k stored holds l = (holds stored l.0, one_holds t stored l.1)

pub load_failed : (h t : Held) (k : ℕ → Bool) → HoldsNoOther h k → Loads h None t → HoldsNoOther t k
load_failed h t k holds l = same_holds h t k l holds

pub saves : (h t : Held) (view : ℕ) → Saves h view true t → HoldsNoOther t (only view)
saves Unknown t view s = absurd (let wrong : true ≡ false = s.0 in cc)
saves (OneOf a b) t view s = absurd (let wrong : true ≡ false = s.0 in cc)
saves (One found) t view s = of (ltb 0 found.starts) s
  where
    of : (b : Bool) → MatchBool b (Writes found (with_view found view) true t) ((true ≡ false) × (t ≡ One found)) → HoldsNoOther t (only view)
    of true w = one_holds t (with_view found view) w
    of false w = absurd (let wrong : true ≡ false = w.0 in cc)

added : (k : ℕ → Bool) (view v : ℕ) → k v ≡ true → put k view true v ≡ true
added k view v e = elim (cases_eq v view) [
  | inl is ↦ put_same k view true v is
  | inr ne ↦ put_other k view true v ne ∙ e
]

more : (h t : Held) (k : ℕ → Bool) (view : ℕ) → t ≡ h → HoldsNoOther h k → HoldsNoOther t (put k view true)
more h t k view is holds v may = added k view v.view (same_holds h t k is holds v may)

pub save_failed : (h t : Held) (k : ℕ → Bool) (view : ℕ) → HoldsNoOther h k → Saves h view false t → HoldsNoOther t (put k view true)
save_failed Unknown t k view holds s = more Unknown t k view s.1 holds
save_failed (OneOf a b) t k view holds s = more (OneOf a b) t k view s.1 holds
save_failed (One found) t k view holds s = of (ltb 0 found.starts) s
  where
    of : (b : Bool) → MatchBool b (Writes found (with_view found view) false t) ((false ≡ false) × (t ≡ One found)) → HoldsNoOther t (put k view true)
    of false w = more (One found) t k view w.1 holds
    of true w = λ v may.
        let x : MayHold (OneOf found (with_view found view)) v = subst (λ (h : Held). MayHold h v) w may in
        elim x.1 [
          | inl is ↦ added k view v.view (holds v (x.0, is))
          | inr is ↦ put_same k view true v.view (ap (λ (y : Stored). y.view) is)
        ]

pub begins : (h t : Held) (k : ℕ → Bool) (stored : Stored) → HoldsNoOther h k → CountsStart h (Some stored) t → (k stored.view ≡ true) × HoldsNoOther t (only stored.view)
begins h t k stored holds b = (ap k (ap (λ (y : Stored). y.view) b.2) ∙ holds b.0 b.1, one_holds t stored b.3)

pub begin_failed : (h t : Held) (k : ℕ → Bool) → HoldsNoOther h k → CountsStart h None t → HoldsNoOther t k
begin_failed h t k holds b = elim b [
  | inl is ↦ same_holds h t k is holds
  | inr f ↦ λ v may. (
      let known : k f.0.view ≡ true = holds f.0 f.1 in
      elim f.2 [
        | inl is ↦ (let x : MayHold (One f.0) v = subst (λ (y : Held). MayHold y v) is may in ap k (ap (λ (y : Stored). y.view) x.1) ∙ known)
        | inr is ↦ (let x : MayHold (OneOf f.0 (started f.0)) v = subst (λ (y : Held). MayHold y v) is may in elim x.1 [
          | inl same ↦ ap k (ap (λ (y : Stored). y.view) same) ∙ known
          | inr same ↦ ap k (ap (λ (y : Stored). y.view) same) ∙ known
        ])
      ])
]
