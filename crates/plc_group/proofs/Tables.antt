-- The keys of a table, as its map has them.
use Rattle.std.proofs.Common.{◌≡◌, ℕ, List, [], ◌∷◌, map, Option, Some, None, option_map, String, BTreeMap, Global, string_bytes, refl, ap, ◌∙◌}
use Rattle.std.specs.List.{find}
use Rattle.std.specs.Map.{keys_of}
use Rattle.std.specs.BTreeMap.{keys}
use Rattle.toml.specs.View.{members_view, table_view}
use Rattle.toml.specs.declared.value.Value.{Value}
use Rattle.plc_group.specs.declared.key.Key.{Key}
use Rattle.plc_group.specs.Faults.{is_unknown, keys_in}
use Rattle.plc_group.proofs.Firsts.{find-map}

pub keys_in-view : (es : List (String Global × Value)) → keys_in (members_view es) ≡ map string_bytes (keys_of es)
keys_in-view [] = refl
keys_in-view (e ∷ es) = ap (λ ks. string_bytes e.0 ∷ ks) (keys_in-view es)

-- a word that's found in the map is the key that's found in the table
pub found_key : (m : BTreeMap (String Global) Value) (known : List Key) (o : Option (String Global)) → o ≡ find (λ word. is_unknown known (string_bytes word)) (keys m)
    → option_map string_bytes o ≡ find (is_unknown known) (keys_in (table_view m))
found_key m known o h =
    ap (option_map string_bytes) h
    ∙ rw (keys_in-view m.entries, find-map string_bytes (is_unknown known) (keys_of m.entries)) refl
