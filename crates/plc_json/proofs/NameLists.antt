-- The names of a list.
use Rattle.std.proofs.Common.{◌≡◌, ℕ, List, map, Option, Some, Result, Ok, Err, IfOk, Vec, Global, String, sym, ap, ◌∙◌}
use Rattle.std.specs.Prelude.{option_map, option_and_then}
use Rattle.std.specs.declared.alloc.AllocError.{AllocError}
use Rattle.serde_json.specs.Data.{Data}
use Rattle.serde_json.specs.Find.{as_array, as_str}
use Rattle.serde_json.specs.View.{view, items_view}
use Rattle.serde_json.specs.declared.value.Value.{Value}
use Rattle.plc_json.specs.Asking.{names_in, spelled_names}
use Rattle.plc_json.specs.Commands.{all_of, items_in}
use Rattle.plc_json.proofs.Each.{items_again}

are_names : (d : Data) (vs : List Value) → Some (items_view vs) ≡ as_array d → all_of as_str (map view vs) ≡ names_in d
are_names d vs array = ap (all_of as_str) (sym (items_again (map view vs))) ∙ ap (option_and_then (λ items. all_of as_str (items_in items))) array

pub listed_names : (d : Data) (vs : List Value) (r : Result (Option (Vec (String Global) Global)) AllocError) → Some (items_view vs) ≡ as_array d → IfOk r (λ o. option_map spelled_names o ≡ all_of as_str (map view vs)) → IfOk r (λ o. option_map spelled_names o ≡ names_in d)
listed_names d vs (Ok o) array is = is ∙ are_names d vs array
listed_names d vs (Err e) array is = tt
