-- A loop that does one thing after the other.
use Rattle.std.proofs.Common.{◌≡◌, ℕ, zero, suc, ◌+◌, ◌<◌, ◌≤◌, List, [], ◌∷◌, length, get_or, drop, map, Result, Ok, Err, refl, sym, subst, ◌∙◌, arith, add-one}
use Rattle.std.proofs.Math.ListN.{drop_of_length-le, length-map}
use Rattle.il_declarations.specs.declared.fault.FaultAt.{FaultAt}
use Rattle.il_declarations.specs.declared.fault.Failure.{Failure}
use Rattle.il_declarations.specs.declared.fault.Failure.TheVariants as failures
use Rattle.il_declarations.specs.Walk.{Fails, each}

drop_map : {A X : Type 0} (f : A → X) (xs : List A) (i : ℕ) (d : A) → i < length xs → drop i (map f xs) ≡ f (get_or xs i d) ∷ drop (suc i) (map f xs)
drop_map f [] i d lt = absurd (omega arith)
drop_map f (x ∷ xs) zero d lt = refl
drop_map f (x ∷ xs) (suc i) d lt = drop_map f xs i d (omega arith)

pub goes_on : {A X Y : Type 0} (step : Y → X → Result Y FaultAt) (f : A → X) (y z : Y) (xs : List A) (i : ℕ) (d : A) (total : Result Y FaultAt) → i < length xs → step y (f (get_or xs i d)) ≡ Ok z
    → each step y (drop i (map f xs)) ≡ total → each step z (drop (i + 1) (map f xs)) ≡ total
unfolding each
goes_on step f y z xs i d total lt h so_far =
    let one : each step y (drop i (map f xs)) ≡ each step z (drop (suc i) (map f xs)) = rw (drop_map f xs i d lt, h) refl in
    rw add-one (sym one ∙ so_far)

pub ends : {A X Y : Type 0} (e : Failure) (step : Y → X → Result Y FaultAt) (f : A → X) (y : Y) (xs : List A) (i : ℕ) (d : A) (total : Result Y FaultAt) → i < length xs → Fails e (step y (f (get_or xs i d)))
    → each step y (drop i (map f xs)) ≡ total → Fails e total
unfolding each
ends failures.Memory step f y xs i d total lt h so_far = tt
ends (failures.Refused e) step f y xs i d total lt h so_far =
    let one : each step y (drop i (map f xs)) ≡ Err e = rw (drop_map f xs i d lt, h) refl in
    sym so_far ∙ one

pub is_done : {A X Y : Type 0} (step : Y → X → Result Y FaultAt) (f : A → X) (y : Y) (xs : List A) (i : ℕ) (total : Result Y FaultAt) → length xs ≤ i → each step y (drop i (map f xs)) ≡ total → total ≡ Ok y
unfolding each
is_done step f y xs i total le so_far =
    let none : drop i (map f xs) ≡ [] = drop_of_length-le (map f xs) (omega (arith, length-map xs f)) in
    sym so_far ∙ rw none refl

-- the same of an element that is known by itself
pub goes_on_item : {A X Y : Type 0} (step : Y → X → Result Y FaultAt) (f : A → X) (y z : Y) (xs : List A) (i : ℕ) (x : A) (total : Result Y FaultAt) → i < length xs → x ≡ get_or xs i x → step y (f x) ≡ Ok z
    → each step y (drop i (map f xs)) ≡ total → each step z (drop (i + 1) (map f xs)) ≡ total
goes_on_item {A} {X} {Y} step f y z xs i x total lt is h so_far =
    let P : A → Type 0 = λ w. step y (f w) ≡ Ok z in goes_on step f y z xs i x total lt (subst P is h) so_far

pub ends_item : {A X Y : Type 0} (e : Failure) (step : Y → X → Result Y FaultAt) (f : A → X) (y : Y) (xs : List A) (i : ℕ) (x : A) (total : Result Y FaultAt) → i < length xs → x ≡ get_or xs i x → Fails e (step y (f x))
    → each step y (drop i (map f xs)) ≡ total → Fails e total
ends_item {A} {X} {Y} e step f y xs i x total lt is h so_far =
    let P : A → Type 0 = λ w. Fails e (step y (f w)) in ends e step f y xs i x total lt (subst P is h) so_far
