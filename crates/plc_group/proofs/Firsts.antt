-- The first of several faults.
use Rattle.std.proofs.Common.{◌≡◌, ℕ, Bool, true, false, not, List, [], ◌∷◌, ◌++◌, map, Option, Some, None, Result, Ok, Err, IsErrAnd, option_map, inl, inr, refl, sym, ap, ◌∙◌}
use Rattle.std.proofs.lemmas.Bool.{cases_Bool}
use Rattle.std.proofs.lemmas.Option.{none-some, same_Some}
use Rattle.std.proofs.lemmas.Result.{err_from_is_err_and}
use Rattle.std.specs.List.{find, filter}
use Rattle.plc_group.specs.declared.fault.GroupFault.{GroupFault}
use Rattle.plc_group.specs.declared.fault.GroupFault.TheVariants as told
use Rattle.plc_group.specs.Faults.{Fault, first, IsFirst, Judges}

-- the first of a list is that of any list that it begins
pub first_front : {A : Type 0} (xs ys : List A) (x : A) → first xs ≡ Some x → first (xs ++ ys) ≡ Some x
first_front [] ys x h = absurd (none-some x h)
first_front (y ∷ xs) ys x h = h

pub told_front : (xs ys : List Fault) (e : GroupFault) → IsFirst xs e → IsFirst (xs ++ ys) e
told_front xs ys (told.Toml line column) h = h
told_front xs ys (told.Unknown machine key) h = first_front xs ys _ h
told_front xs ys (told.At machine key why) h = first_front xs ys _ h
told_front xs ys told.Memory h = h

-- behind lists that are empty
pub told_behind : (xs ys : List Fault) (e : GroupFault) → xs ≡ [] → IsFirst ys e → IsFirst (xs ++ ys) e
told_behind xs ys e none h = rw none h

pub none_both : (xs ys : List Fault) → xs ≡ [] → ys ≡ [] → xs ++ ys ≡ []
none_both xs ys a b = rw a b

-- the first that a filter lets through is the one that is found
pub first_found : {A B : Type 0} (f : A → B) (p : A → Bool) (xs : List A) (x : A) → find p xs ≡ Some x → first (map f (filter p xs)) ≡ Some (f x)
first_found f p [] x h = absurd (none-some x h)
first_found f p (y ∷ xs) x h = elim (cases_Bool (p y)) [
  | inl is_so ↦ rw is_so (ap (λ z. Some (f z)) (same_Some y x (rw is_so at h)))
  | inr is_not ↦ rw is_not (first_found f p xs x (rw is_not at h))
]

pub none_found : {A B : Type 0} (f : A → B) (p : A → Bool) (xs : List A) → find p xs ≡ None → map f (filter p xs) ≡ []
none_found f p [] h = refl
none_found f p (y ∷ xs) h = elim (cases_Bool (p y)) [
  | inl is_so ↦ absurd (none-some y (sym (rw is_so at h)))
  | inr is_not ↦ rw is_not (none_found f p xs (rw is_not at h))
]

-- what is found of what a function gives
pub find-map : {A B : Type 0} (f : A → B) (p : B → Bool) (xs : List A) → find p (map f xs) ≡ option_map f (find (λ x. p (f x)) xs)
find-map f p [] = refl
find-map f p (y ∷ xs) = elim (cases_Bool (p (f y))) [
  | inl is_so ↦ rw is_so refl
  | inr is_not ↦ rw is_not (find-map f p xs)
]

-- what `?` hands on
pub handed : {A : Type 0} (faults : List Fault) (Is : A → Type 0) (r : Result A GroupFault) (e : GroupFault) → IsErrAnd r (λ x. x ≡ e) → IsFirst faults e → Judges faults Is r
handed faults Is r e is h = let p = err_from_is_err_and r is in rw (p.1, p.2) h
