-- What each of a list gives, told one after another.
use Rattle.std.proofs.Common.{◌≡◌, ◌+◌, ◌<◌, ◌≤◌, ℕ, zero, suc, List, [], ◌∷◌, ◌++◌, length, drop, get_or, map, Option, Some, None, refl, sym, ap, ◌∙◌, append_assoc, append-nil}
use Rattle.std.proofs.lemmas.List.{drop_more, drop_all}
use Rattle.std.specs.Prelude.{option_map, option_and_then}
use Rattle.serde_json.specs.Data.{Data}
use Rattle.serde_json.specs.View.{view, items_of}
use Rattle.serde_json.specs.declared.value.Value.{Value}
use Rattle.std.proofs.lemmas.List.{length-map}
use Rattle.plc_json.specs.Commands.{all_of, items_in}

-- what is told, and behind it what the rest gives
abbrev pub behind : {A B : Type 0} → (A → Option B) → List B → List A → Option (List B)
behind f told rest = option_map (λ ys. told ++ ys) (all_of f rest)

same_option : {B : Type 0} (o : Option (List B)) → option_map (λ ys. [] ++ ys) o ≡ o
same_option None = refl
same_option (Some ys) = refl

pub at_first : {A B : Type 0} (f : A → Option B) (xs : List A) → behind f [] xs ≡ all_of f xs
at_first f xs = same_option (all_of f xs)

one_told : {B : Type 0} (told : List B) (y : B) (o : Option (List B)) → option_map (λ ys. told ++ ys) (option_map (λ ys. y ∷ ys) o) ≡ option_map (λ ys. (told ++ y ∷ []) ++ ys) o
one_told told y None = refl
one_told told y (Some ys) = ap Some (sym (append_assoc told (y ∷ []) ys))

module _ {A B : Type 0} (f : A → Option B) (told : List B) (xs : List A) (i : ℕ) (x : A) where
  -- one more
  pub one_more : (y : B) → i < length xs → x ≡ get_or xs i x → f x ≡ Some y → behind f told (drop i xs) ≡ behind f (told ++ y ∷ []) (drop (i + 1) xs)
  one_more y lt is gives =
      ap (behind f told) (drop_more xs i x lt ∙ ap (λ z. z ∷ drop (i + 1) xs) (sym is))
      ∙ ap (λ o. option_map (λ ys. told ++ ys) (option_and_then (λ z. option_map (λ ys. z ∷ ys) (all_of f (drop (i + 1) xs))) o)) gives
      ∙ one_told told y (all_of f (drop (i + 1) xs))

  -- one that gives nothing
  pub none_more : i < length xs → x ≡ get_or xs i x → f x ≡ None → behind f told (drop i xs) ≡ None
  none_more lt is gives =
      ap (behind f told) (drop_more xs i x lt ∙ ap (λ z. z ∷ drop (i + 1) xs) (sym is))
      ∙ ap (λ o. option_map (λ ys. told ++ ys) (option_and_then (λ z. option_map (λ ys. z ∷ ys) (all_of f (drop (i + 1) xs))) o)) gives

-- all are told
pub at_last : {A B : Type 0} (f : A → Option B) (told : List B) (xs : List A) (i : ℕ) → length xs ≤ i → behind f told (drop i xs) ≡ Some told
at_last f told xs i le = ap (behind f told) (drop_all i xs le) ∙ ap Some (append-nil told)

pub items_again : (ds : List Data) → items_in (items_of ds) ≡ ds
items_again [] = refl
items_again (d ∷ ds) = ap (λ more. d ∷ more) (items_again ds)

get_map : (vs : List Value) (i : ℕ) (v : Value) → get_or (map view vs) i (view v) ≡ view (get_or vs i v)
get_map [] i v = refl
get_map (x ∷ vs) zero v = refl
get_map (x ∷ vs) (suc i) v = get_map vs i v

-- the same over values, seen as data
module _ {B : Type 0} (f : Data → Option B) (told : List B) (vs : List Value) (i : ℕ) (v : Value) (lt : i < length vs) (is : v ≡ get_or vs i v) where
  within : i < length (map view vs)
  within = rw (length-map vs view) lt

  seen : view v ≡ get_or (map view vs) i (view v)
  seen = ap view is ∙ sym (get_map vs i v)

  pub tells : (y : B) → f (view v) ≡ Some y → behind f told (drop i (map view vs)) ≡ behind f (told ++ y ∷ []) (drop (i + 1) (map view vs))
  tells y gives = one_more f told (map view vs) i (view v) y within seen gives

  pub tells_none : f (view v) ≡ None → behind f told (drop i (map view vs)) ≡ None
  tells_none gives = none_more f told (map view vs) i (view v) within seen gives

pub tells_all : {B : Type 0} (f : Data → Option B) (told : List B) (vs : List Value) (i : ℕ) → length vs ≤ i → behind f told (drop i (map view vs)) ≡ Some told
tells_all f told vs i le = at_last f told (map view vs) i (rw (length-map vs view) le)
