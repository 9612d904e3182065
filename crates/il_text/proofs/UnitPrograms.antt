-- The loop over the units of a text: what holds of those that are left holds of all.
use Rattle.std.proofs.Common.{◌≡◌, ℕ, ◌+◌, ◌<◌, List, [], ◌∷◌, ◌++◌, length, get_or, drop, map, refl, sym, ap, subst, ◌∙◌, inl, inr}
use Rattle.std.proofs.lemmas.List.{at_drop_more}
use Rattle.il_units.specs.Units.{UnitText}
use Rattle.il_units.specs.Flats.{FlatUnit}
use Rattle.il_units.specs.Expansion.{flat_of, flats_from, text_of, last_text}
use Rattle.il_text.specs.Meaning.{IsUnitFault, IsGoodUnit, AreGood, HasUnitFault}
use Rattle.il_text.specs.declared.fault.Fault.{Fault}

-- one is next of those that are left
left_is : {A : Type 0} (f : A → UnitText) (xs : List A) (i : ℕ) (x : A) → i < length xs → x ≡ get_or xs i x → map f (drop i xs) ≡ f x ∷ map f (drop (i + 1) xs)
left_is {A} f xs i x lt is = at_drop_more (map f) xs i x lt ∙ ap (λ (y : A). f y ∷ map f (drop (i + 1) xs)) (sym is)

pub flats_go_on : {A : Type 0} (text : List ℕ) (f : A → UnitText) (xs : List A) (i : ℕ) (x : A) (above : List FlatUnit) (total : List FlatUnit) → i < length xs → x ≡ get_or xs i x
    → flats_from text above (map f (drop i xs)) ≡ total → flats_from text (above ++ flat_of text above (f x) ∷ []) (map f (drop (i + 1) xs)) ≡ total
unfolding flats_from
flats_go_on text f xs i x above total lt is so_far = sym (ap (flats_from text above) (left_is f xs i x lt is)) ∙ so_far

pub fault_here : {A : Type 0} (text : List ℕ) (f : A → UnitText) (xs : List A) (i : ℕ) (x : A) (above : List FlatUnit) (told : Fault) → i < length xs → x ≡ get_or xs i x
    → IsUnitFault text above (f x) told → HasUnitFault text above (map f (drop i xs)) told
fault_here text f xs i x above told lt is fault =
    let P : List UnitText → Type 0 = λ us. HasUnitFault text above us told in
    subst P (sym (left_is f xs i x lt is)) (inl fault)

pub fault_later : {A : Type 0} (text : List ℕ) (f : A → UnitText) (xs : List A) (i : ℕ) (x : A) (above : List FlatUnit) (told : Fault) → i < length xs → x ≡ get_or xs i x
    → IsGoodUnit text above (f x) → HasUnitFault text (above ++ flat_of text above (f x) ∷ []) (map f (drop (i + 1) xs)) told → HasUnitFault text above (map f (drop i xs)) told
fault_later text f xs i x above told lt is good fault =
    let P : List UnitText → Type 0 = λ us. HasUnitFault text above us told in
    subst P (sym (left_is f xs i x lt is)) (inr (good, fault))

pub good_later : {A : Type 0} (text : List ℕ) (f : A → UnitText) (xs : List A) (i : ℕ) (x : A) (above : List FlatUnit) → i < length xs → x ≡ get_or xs i x
    → IsGoodUnit text above (f x) → AreGood text (above ++ flat_of text above (f x) ∷ []) (map f (drop (i + 1) xs)) → AreGood text above (map f (drop i xs))
good_later text f xs i x above lt is good more =
    let P : List UnitText → Type 0 = λ us. AreGood text above us in
    subst P (sym (left_is f xs i x lt is)) (good, more)

-- the text of the last one
pub last_is : (above : List FlatUnit) (u : FlatUnit) → last_text (above ++ u ∷ []) ≡ text_of u
unfolding last_text
last_is [] u = refl
last_is (v ∷ []) u = refl
last_is (v ∷ w ∷ above) u = last_is (w ∷ above) u
