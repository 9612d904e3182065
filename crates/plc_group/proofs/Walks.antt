-- Walks over machines and their addresses.
use Rattle.std.proofs.Common.{◌≡◌, ◌+◌, ◌<◌, ◌≤◌, ℕ, zero, suc, Bool, true, false, List, [], ◌∷◌, ◌++◌, length, take, drop, get_or, map, Option, Some, None, refl, sym, ap, ◌∙◌, append_assoc, append-nil}
use Rattle.std.proofs.lemmas.List.{drop_more, drop_all, take_more, length-map}
use Rattle.std.specs.Prelude.{option_map, option_and_then}
use Rattle.std.specs.List.{flat_map, enumerate_from}
use Rattle.toml.specs.Data.{Data}
use Rattle.toml.specs.View.{view}
use Rattle.toml.specs.declared.value.Value.{Value}
use Rattle.plc_group.specs.declared.fault.GroupFault.{GroupFault}
use Rattle.plc_group.specs.declared.group.Machine.{Machine}
use Rattle.plc_group.specs.declared.machines.Place.{Place}
use Rattle.plc_group.specs.Faults.{Fault, IsFirst, first, again, each_faults, machine_faults, places_in, places_of, stands_in, twice_after}
use Rattle.plc_group.specs.Values.{all_of, machine_of}
use Rattle.plc_group.proofs.Firsts.{told_front}

-- ---- what each of a list gives

-- what is given, and behind it what the rest gives
abbrev pub behind : {A B : Type 0} → (A → Option B) → List B → List A → Option (List B)
behind f given rest = option_map (λ ys. given ++ ys) (all_of f rest)

same_option : {B : Type 0} (o : Option (List B)) → option_map (λ ys. [] ++ ys) o ≡ o
same_option None = refl
same_option (Some ys) = refl

pub at_first : {A B : Type 0} (f : A → Option B) (xs : List A) → behind f [] xs ≡ all_of f xs
at_first f xs = same_option (all_of f xs)

one_given : {B : Type 0} (given : List B) (y : B) (o : Option (List B)) → option_map (λ ys. given ++ ys) (option_map (λ ys. y ∷ ys) o) ≡ option_map (λ ys. (given ++ y ∷ []) ++ ys) o
one_given given y None = refl
one_given given y (Some ys) = ap Some (sym (append_assoc given (y ∷ []) ys))

pub one_more : {A B : Type 0} (f : A → Option B) (given : List B) (x : A) (xs : List A) (y : B) → f x ≡ Some y → behind f given (x ∷ xs) ≡ behind f (given ++ y ∷ []) xs
one_more f given x xs y gives =
    ap (λ o. option_map (λ ys. given ++ ys) (option_and_then (λ z. option_map (λ ys. z ∷ ys) (all_of f xs)) o)) gives
    ∙ one_given given y (all_of f xs)

-- ---- numbered items

-- what each of a list gives with its number, from i on
abbrev pub from : {A B : Type 0} → (ℕ → A → List B) → ℕ → List A → List B
from f i xs = flat_map (λ p. f p.0 p.1) (enumerate_from i xs)

get_map : (vs : List Value) (i : ℕ) (v : Value) → get_or (map view vs) i (view v) ≡ view (get_or vs i v)
get_map [] i v = refl
get_map (x ∷ vs) zero v = refl
get_map (x ∷ vs) (suc i) v = get_map vs i v

-- values, seen as data, from one on
pub drop_view : (vs : List Value) (i : ℕ) (v : Value) → i < length vs → v ≡ get_or vs i v → drop i (map view vs) ≡ view v ∷ drop (i + 1) (map view vs)
drop_view vs i v lt is =
    drop_more (map view vs) i (view v) (rw (length-map vs view) lt)
    ∙ ap (λ d. d ∷ drop (i + 1) (map view vs)) (get_map vs i v ∙ ap view (sym is))

pub drop_one : {A : Type 0} (xs : List A) (i : ℕ) (x : A) → i < length xs → x ≡ get_or xs i x → drop i xs ≡ x ∷ drop (i + 1) xs
drop_one xs i x lt is = drop_more xs i x lt ∙ ap (λ y. y ∷ drop (i + 1) xs) (sym is)

pub told_here : (f : ℕ → Data → List Fault) (i : ℕ) (d : Data) (rest : List Data) (e : GroupFault) → IsFirst (f i d) e → IsFirst (from f i (d ∷ rest)) e
told_here f i d rest e h = told_front (f i d) (from f (i + 1) rest) e h

pub none_here : (f : ℕ → Data → List Fault) (i : ℕ) (d : Data) (rest : List Data) → f i d ≡ [] → from f i (d ∷ rest) ≡ from f (i + 1) rest
none_here f i d rest none = rw none refl

-- ---- addresses that stand twice

pub twice_here : (places : List Place) (i : ℕ) (place : Place) → i < length places → place ≡ get_or places i place → stands_in (take i places) place ≡ true
    → first (twice_after (take i places) (drop i places)) ≡ Some (again place)
twice_here places i place lt is stands = rw (drop_one places i place lt is, stands) refl

pub twice_later : (places : List Place) (i : ℕ) (place : Place) → i < length places → place ≡ get_or places i place → stands_in (take i places) place ≡ false
    → twice_after (take i places) (drop i places) ≡ twice_after (take (i + 1) places) (drop (i + 1) places)
twice_later places i place lt is stands =
    ap (twice_after (take i places)) (drop_one places i place lt is)
    ∙ rw stands (ap (λ before. twice_after before (drop (i + 1) places)) (ap (λ p. take i places ++ p ∷ []) is ∙ sym (take_more places i place lt)))
