-- What a file has behind a save that was tried, and tried again.
use Rattle.std.proofs.Common.{◌≡◌, ℕ, zero, suc, ◌<◌, Bool, true, false, ltb, refl, sym, ap, ◌∙◌, subst, inl, inr, ◌⊎◌, arith}
use Rattle.std.specs.Prelude.{MatchBool}
use Rattle.std.proofs.lemmas.Bool.{ltb-true}
use Rattle.vr_model.specs.declared.event.Stored.{Stored}
use Rattle.vr_threads.specs.declared.file_store.Held.{Held}
use Rattle.vr_threads.specs.declared.file_store.Held.TheVariants.{Unknown, One, OneOf}
use Rattle.vr_threads.specs.Keeping.{IsOneOf, MayHold, Loads, Saves, Writes, with_view}
use Rattle.vr_threads.specs.Trying.{SavesBehind}
use Rattle.laws_threads.specs.KeptViews.{HoldsNoOther}

one_is : (t : Held) (a v : Stored) → t ≡ One a → IsOneOf t v → v ≡ a
one_is t a v is one = subst (λ (h : Held). IsOneOf h v) is one

two_are : (t : Held) (a b v : Stored) → t ≡ OneOf a b → IsOneOf t v → (v ≡ a) ⊎ (v ≡ b)
two_are t a b v is one = subst (λ (h : Held). IsOneOf h v) is one

view_of : (k : ℕ → Bool) (v a : Stored) → v ≡ a → k a.view ≡ true → k v.view ≡ true
view_of k v a is held = ap (λ (x : Stored). k x.view) is ∙ held

same : (h t : Held) (k : ℕ → Bool) → t ≡ h → HoldsNoOther h k → HoldsNoOther t k
same h t k is held v may = held v (may.0, subst (λ (x : Held). IsOneOf x v) is may.1)

-- a value with a start may be held
started_may : (a : Stored) → 0 < a.starts → MayHold (One a) a
started_may a some = ((λ none. absurd (omega (arith, some, none))), refl)

module _ (view : ℕ) (k : ℕ → Bool) where
  -- one try
  saved : (h t : Held) (made : Bool) → Saves h view made t → HoldsNoOther h k → k view ≡ true → HoldsNoOther t k
  saved Unknown t made s held new = same Unknown t k s.1 held
  saved (OneOf a b) t made s held new = same (OneOf a b) t k s.1 held
  saved (One a) t made s held new = of (ltb 0 a.starts) refl made s
    where
      of : (b : Bool) → ltb 0 a.starts ≡ b → (did : Bool) → MatchBool b (Writes a (with_view a view) did t) ((did ≡ false) × (t ≡ One a)) → HoldsNoOther t k
      of true e true w = λ v may. view_of k v (with_view a view) (one_is t (with_view a view) v w may.1) new
      of true e false w = λ v may. elim (two_are t a (with_view a view) v w may.1) [
        | inl is ↦ view_of k v a is (held a (started_may a (ltb-true 0 a.starts e)))
        | inr is ↦ view_of k v (with_view a view) is new
      ]
      of false e did w = same (One a) t k w.1 held

  pub tried : (tries : ℕ) (h t : Held) (made : Bool) → SavesBehind Loads Saves tries h view made t → HoldsNoOther h k → k view ≡ true → HoldsNoOther t k
  tried zero h t made s held new = saved h t made s held new
  tried (suc tries) h t made s held new =
      let before : HoldsNoOther s.0 k = tried tries h s.0 false s.1 held new in
      elim s.2 [
        | inl again ↦ (
            let found : Stored = again.0 in
            let read : HoldsNoOther again.1 k = λ v may. view_of k v found (one_is again.1 found v again.2.1 may.1) (before found again.2.0) in
            saved again.1 t made again.3 read new)
        | inr failed ↦ same s.0 t k failed.1 before
      ]

  -- one that was made
  made_one : (h t : Held) → Saves h view true t → HoldsNoOther t k → k view ≡ true
  made_one Unknown t s held = absurd (let no : true ≡ false = s.0 in cc)
  made_one (OneOf a b) t s held = absurd (let no : true ≡ false = s.0 in cc)
  made_one (One a) t s held = of (ltb 0 a.starts) refl s
    where
      of : (b : Bool) → ltb 0 a.starts ≡ b → MatchBool b (Writes a (with_view a view) true t) ((true ≡ false) × (t ≡ One a)) → k view ≡ true
      of true e w = same (One (with_view a view)) (One (with_view a view)) k refl (λ v may. held v (may.0, subst (λ (x : Held). IsOneOf x v) (sym w) may.1)) (with_view a view) (started_may (with_view a view) (ltb-true 0 a.starts e))
      of false e w = absurd (let no : true ≡ false = w.0 in cc)

  pub made_last : (tries : ℕ) (h t : Held) → SavesBehind Loads Saves tries h view true t → HoldsNoOther t k → k view ≡ true
  made_last zero h t s held = made_one h t s held
  made_last (suc tries) h t s held = elim s.2 [
    | inl again ↦ made_one again.1 t again.3 held
    | inr failed ↦ absurd (let no : true ≡ false = failed.0 in cc)
  ]
