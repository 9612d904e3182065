-- How many machines there are.
use Rattle.std.proofs.Common.{◌≡◌, ℕ, true, List, [], ◌∷◌, map, Option, Some, None, option_map, option_and_then, length, suc, refl, sym, ap, ◌∙◌, inl, inr, arith, cond}
use Rattle.std.proofs.lemmas.List.{length-map}
use Rattle.std.proofs.lemmas.Option.{none-some, same_Some}
use Rattle.std.proofs.lemmas.Bool.{cases_Bool}
use Rattle.std.proofs.lemmas.Bool.Decides.{nat_tests}
use Rattle.toml.specs.Data.{Data, Items, Members, string, integer, float, boolean, datetime, array, table, as_array, as_table}
use Rattle.toml.specs.View.{view, items_of, items_view}
use Rattle.toml.specs.declared.value.Value.{Value}
use Rattle.plc_group.specs.Values.{items_in, is_size, IsSize, sized, machines_of, networks_from, networks_of, all_of}

pub items_again : (ds : List Data) → items_in (items_of ds) ≡ ds
items_again [] = refl
items_again (d ∷ ds) = ap (λ more. d ∷ more) (items_again ds)

-- the machines of an array of values
pub array_machines : (d : Data) (vs : List Value) → as_array d ≡ Some (items_view vs) → machines_of d ≡ cond (is_size (length vs)) (Some (map view vs)) None
array_machines d vs h = rw (h, items_again (map view vs), length-map vs view) refl

-- the networks of an array of values
pub array_networks : (d : Data) (vs : List Value) → as_array d ≡ Some (items_view vs) → networks_of d ≡ networks_from [] (map view vs)
array_networks d vs h = rw (h, items_again (map view vs)) refl

pub size_is : (n : ℕ) → is_size n ≡ true → IsSize n
size_is n h = grind (arith, nat_tests)

sized_length : (ds es : List Data) → sized ds ≡ Some es → IsSize (length es)
sized_length ds es h = elim (cases_Bool (is_size (length ds))) [
  | inl is_so ↦ rw (← same_Some ds es (rw is_so at h)) (size_is (length ds) is_so)
  | inr is_not ↦ absurd (none-some es (rw is_not at h))
]

pub machines_size : (d : Data) (ds : List Data) → machines_of d ≡ Some ds → IsSize (length ds)
machines_size d ds h = from (as_array d) h where
  from : (o : Option Items) → option_and_then (λ items. sized (items_in items)) o ≡ Some ds → IsSize (length ds)
  from None e = absurd (none-some ds e)
  from (Some items) e = sized_length (items_in items) ds e

length_behind : {B : Type 0} (y : B) (o : Option (List B)) (ys : List B) → option_map (λ more. y ∷ more) o ≡ Some ys → (n : ℕ) → ((more : List B) → o ≡ Some more → length more ≡ n) → length ys ≡ suc n
length_behind y None ys e n h = absurd (none-some ys e)
length_behind y (Some more) ys e n h = ap length (sym (same_Some (y ∷ more) ys e)) ∙ ap suc (h more refl)

length_from : {A B : Type 0} (f : A → Option B) (xs : List A) (ys : List B) (o : Option B) → option_and_then (λ y. option_map (λ more. y ∷ more) (all_of f xs)) o ≡ Some ys
    → ((more : List B) → all_of f xs ≡ Some more → length more ≡ length xs) → length ys ≡ suc (length xs)
length_from f xs ys None e h = absurd (none-some ys e)
length_from f xs ys (Some y) e h = length_behind y (all_of f xs) ys e (length xs) h

-- as many are given as were read
pub all_length : {A B : Type 0} (f : A → Option B) (xs : List A) (ys : List B) → all_of f xs ≡ Some ys → length ys ≡ length xs
all_length f [] ys e = ap length (sym (same_Some [] ys e))
all_length f (x ∷ xs) ys e = length_from f xs ys (f x) e (λ more. all_length f xs more)

-- what gives a table is one
pub table_is : (d : Data) (m : Members) → as_table d ≡ Some m → d ≡ table m
table_is (table n) m h = ap table (same_Some n m h)
table_is (string x) m h = absurd (none-some m h)
table_is (integer x) m h = absurd (none-some m h)
table_is (float x) m h = absurd (none-some m h)
table_is (boolean x) m h = absurd (none-some m h)
table_is (datetime x) m h = absurd (none-some m h)
table_is (array x) m h = absurd (none-some m h)
