-- Lists that rise, read from a least bound on.
use Rattle.std.proofs.Common.{◌≡◌, ℕ, suc, ◌<◌, ◌≤◌, Bool, true, false, List, [], ◌∷◌, map, refl, sym, ap, ◌∙◌, arith}
use Rattle.std.specs.Prelude.{◌&&◌, nat_le, nat_lt}
use Rattle.std.specs.List.{list_all}
use Rattle.std.proofs.lemmas.Bool.{le-leb, leb-true, lt-ltb, ltb-true}
use mathlib.Core.List.{map-id}
use Rattle.il_model.specs.declared.snapshot.ForcedSlot.{ForcedSlot}
use Rattle.il_model.proofs.RowTypes.{and_yes}
use Rattle.ctl_model.specs.Snapshots.{is_below, are_rising, fit_breaks, fits_force, fit_forces}
use Rattle.ctl_model.proofs.Fitting.{and_both}

-- each passes the test, and its key is at the bound or above, and above the key before it
abbrev pub rise_from : {A : Type 0} → (A → ℕ) → (A → Bool) → ℕ → List A → Bool
rise_from key test least [] = true
rise_from key test least (x ∷ xs) = nat_le least (key x) && (test x && rise_from key test (suc (key x)) xs)

-- positions of breakpoints, and slots of forces
abbrev pub breaks_from : ℕ → ℕ → List ℕ → Bool
breaks_from least end ps = rise_from (λ p. p) (λ p. nat_lt p end) least ps

abbrev pub forces_from : ℕ → List ForcedSlot → Bool
forces_from least fs = rise_from (λ (f : ForcedSlot). f.slot.0) fits_force least fs

-- ---- both say the same

module _ {A : Type 0} (key : A → ℕ) (test : A → Bool) where
  below_so : (least : ℕ) (m : ℕ) (xs : List A) → m < least → rise_from key test least xs ≡ true → is_below m (map key xs) ≡ true
  below_so least m [] lt h = refl
  below_so least m (x ∷ xs) lt h = let le = leb-true least (key x) (and_yes (nat_le least (key x)) _ h).0 in lt-ltb m (key x) (omega (arith, lt, le))

  keys_rise : (least : ℕ) (xs : List A) → rise_from key test least xs ≡ true → are_rising (map key xs) ≡ true
  keys_rise least [] h = refl
  keys_rise least (x ∷ xs) h =
      let more = (and_yes (test x) _ (and_yes (nat_le least (key x)) _ h).1).1 in
      and_both (is_below (key x) (map key xs)) _ (below_so (suc (key x)) (key x) xs (omega arith) more) (keys_rise (suc (key x)) xs more)

  all_pass : (least : ℕ) (xs : List A) → rise_from key test least xs ≡ true → list_all test xs ≡ true
  all_pass least [] h = refl
  all_pass least (x ∷ xs) h =
      let here = and_yes (test x) _ (and_yes (nat_le least (key x)) _ h).1 in
      and_both (test x) _ here.0 (all_pass (suc (key x)) xs here.1)

  pub rises : (xs : List A) → rise_from key test 0 xs ≡ true → (are_rising (map key xs) && list_all test xs) ≡ true
  rises xs h = and_both (are_rising (map key xs)) _ (keys_rise 0 xs h) (all_pass 0 xs h)

  -- the first key is at the bound or above
  abbrev starts : ℕ → List A → Type 0
  starts least [] = Unit {0}
  starts least (x ∷ xs) = least ≤ key x

  next_starts : (m : ℕ) (xs : List A) → is_below m (map key xs) ≡ true → starts (suc m) xs
  next_starts m [] h = tt
  next_starts m (x ∷ xs) h = let lt = ltb-true m (key x) h in omega (arith, lt)

  rise_so : (least : ℕ) (xs : List A) → starts least xs → are_rising (map key xs) ≡ true → list_all test xs ≡ true → rise_from key test least xs ≡ true
  rise_so least [] s r t = refl
  rise_so least (x ∷ xs) s r t =
      let a = and_yes (is_below (key x) (map key xs)) _ r in
      let b = and_yes (test x) _ t in
      and_both (nat_le least (key x)) _ (le-leb least (key x) s) (and_both (test x) _ b.0 (rise_so (suc (key x)) xs (next_starts (key x) xs a.0) a.1 b.1))

  at_zero : (xs : List A) → starts 0 xs
  at_zero [] = tt
  at_zero (x ∷ xs) = omega arith

  pub rise_from_least : (xs : List A) → (are_rising (map key xs) && list_all test xs) ≡ true → rise_from key test 0 xs ≡ true
  rise_from_least xs h = let a = and_yes (are_rising (map key xs)) _ h in rise_so 0 xs (at_zero xs) a.0 a.1

same_by : (a b : Bool) → (a ≡ true → b ≡ true) → (b ≡ true → a ≡ true) → a ≡ b
same_by true b f g = sym (f refl)
same_by false false f g = refl
same_by false true f g = absurd (let e : false ≡ true = g refl in cc)

pub breaks_fit : (end : ℕ) (ps : List ℕ) → breaks_from 0 end ps ≡ fit_breaks end ps
breaks_fit end ps =
    same_by (breaks_from 0 end ps) (are_rising (map (λ p. p) ps) && list_all (λ p. nat_lt p end) ps) (rises (λ p. p) (λ p. nat_lt p end) ps) (rise_from_least (λ p. p) (λ p. nat_lt p end) ps)
    ∙ ap (λ qs. are_rising qs && list_all (λ p. nat_lt p end) ps) (map-id ps)

pub forces_fit : (fs : List ForcedSlot) → forces_from 0 fs ≡ fit_forces fs
forces_fit fs = same_by (forces_from 0 fs) (fit_forces fs) (rises (λ (f : ForcedSlot). f.slot.0) fits_force fs) (rise_from_least (λ (f : ForcedSlot). f.slot.0) fits_force fs)
