-- The values of an array nest less deep than it.
use Rattle.std.proofs.Common.{◌≡◌, ◌<◌, ◌≤◌, ℕ, zero, suc, List, [], ◌∷◌, length, get_or, map, Option, Some, None, sym, ap, subst, arith}
use Rattle.serde_json.specs.Data.{Data, null, boolean, number, string, array, object, Items, no_items, items_depth, depth}
use Rattle.serde_json.specs.Find.{as_array}
use Rattle.serde_json.specs.Read.{max_depth}
use Rattle.serde_json.specs.View.{view, items_of, items_view}
use Rattle.serde_json.specs.declared.value.Value.{Value}
use Rattle.plc_json.specs.Asking.{NestWithin}

items_nest : (ds : List Data) → items_depth (items_of ds) ≤ max_depth → NestWithin ds
items_nest [] le = tt
items_nest (d ∷ ds) le = (omega (arith, le), items_nest ds (omega (arith, le)))

abbrev items_told : Option Items → Items
items_told None = no_items
items_told (Some items) = items

array_nests : (items : Items) (vs : List Value) → Some (items_view vs) ≡ Some items → depth (array items) ≤ max_depth → NestWithin (map view vs)
array_nests items vs is le =
    let same : items ≡ items_view vs = sym (ap items_told is) in
    items_nest (map view vs) (let within : items_depth (items_view vs) ≤ max_depth = subst (λ (i : Items). items_depth i ≤ max_depth) same (omega (arith, le)) in within)

pub all_nest : (d : Data) (vs : List Value) → Some (items_view vs) ≡ as_array d → depth d ≤ max_depth → NestWithin (map view vs)
all_nest (array items) vs is le = array_nests items vs is le
all_nest null vs is le = absurd cc
all_nest (boolean b) vs is le = absurd cc
all_nest (number n) vs is le = absurd cc
all_nest (string s) vs is le = absurd cc
all_nest (object ms) vs is le = absurd cc

pub nests_at : (vs : List Value) (i : ℕ) (v : Value) → NestWithin (map view vs) → i < length vs → v ≡ get_or vs i v → depth (view v) ≤ max_depth
nests_at [] i v all lt is = absurd (omega arith)
nests_at (x ∷ vs) zero v all lt is = subst (λ (w : Value). depth (view w) ≤ max_depth) (sym is) all.0
nests_at (x ∷ vs) (suc i) v all lt is = nests_at vs i v all.1 (omega arith) is
