use Rattle.std.proofs.Common.{◌≡◌, ℕ, ◌+◌, ◌-◌, ◌≤◌, zero, suc, Bool, true, false, refl, ap, ◌∙◌, sym, arith, cond}
use Rattle.std.specs.Prelude.{List, [], ◌∷◌, map, None, slice_get, option_map, nat_lt}
use Rattle.std.proofs.Math.ListN.{drop}
use Rattle.std.proofs.lemmas.Option.{slice_get-map}
use Rattle.std.proofs.lemmas.Bool.{ltb-false}
use Rattle.il_values.specs.declared.value.Ty.{Ty}
use Rattle.il_values.specs.declared.value.Value.{Value}
use Rattle.il_model.specs.declared.kind.Field.{Field}
use Rattle.il_model.specs.Kinds.{kind_fields, field_type}
use Rattle.il_values.specs.Values.{ty_of}
use Rattle.ctl_blocks.specs.declared.block.Block.{Block}
use Rattle.ctl_blocks.specs.declared.block.Block.TheVariants as blocks
use Rattle.ctl_blocks.specs.Blocks.{kind_of, outputs_of, output_field, output_value}

get_past : {X : Type 0} (k : ℕ) (xs : List X) (m : ℕ) → slice_get (drop k xs) m ≡ slice_get xs (k + m)
get_past zero xs m = let e : m ≡ 0 + m = omega arith in ap (slice_get xs) e
get_past (suc k) [] m = refl
get_past (suc k) (x ∷ xs) m = let e : suc (k + m) ≡ suc k + m = omega arith in get_past k xs m ∙ ap (slice_get (x ∷ xs)) e

put_back : (n k : ℕ) → k ≤ n → k + (n - k) ≡ n
put_back n k le = omega arith

-- where the values behind the first k fields have the fields' types, so has each
typed_from : (k n : ℕ) (b : Bool) → nat_lt n k ≡ b → (values : List Value) (fields : List Field) → map ty_of values ≡ map field_type (drop k fields) → option_map ty_of (cond b None (slice_get values (n - k))) ≡ option_map field_type (cond b None (slice_get fields n))
typed_from k n true e values fields same = refl
typed_from k n false e values fields same =
    let at : slice_get (drop k fields) (n - k) ≡ slice_get fields n = get_past k fields (n - k) ∙ ap (slice_get fields) (put_back n k (ltb-false n k e)) in
    sym (slice_get-map ty_of values (n - k)) ∙ ap (λ (types : List Ty). slice_get types (n - k)) same ∙ slice_get-map field_type (drop k fields) (n - k) ∙ ap (option_map field_type) at

-- an output has its field's type
pub output_typed : (b : Block) (n : ℕ) → option_map ty_of (output_value b n) ≡ option_map field_type (output_field (kind_of b) n)
output_typed (blocks.Sr s) n = typed_from 2 n (nat_lt n 2) refl (outputs_of (blocks.Sr s)) (kind_fields (kind_of (blocks.Sr s))) refl
output_typed (blocks.Rs s) n = typed_from 2 n (nat_lt n 2) refl (outputs_of (blocks.Rs s)) (kind_fields (kind_of (blocks.Rs s))) refl
output_typed (blocks.RTrig s) n = typed_from 1 n (nat_lt n 1) refl (outputs_of (blocks.RTrig s)) (kind_fields (kind_of (blocks.RTrig s))) refl
output_typed (blocks.FTrig s) n = typed_from 1 n (nat_lt n 1) refl (outputs_of (blocks.FTrig s)) (kind_fields (kind_of (blocks.FTrig s))) refl
output_typed (blocks.Ctu s) n = typed_from 3 n (nat_lt n 3) refl (outputs_of (blocks.Ctu s)) (kind_fields (kind_of (blocks.Ctu s))) refl
output_typed (blocks.Ctd s) n = typed_from 3 n (nat_lt n 3) refl (outputs_of (blocks.Ctd s)) (kind_fields (kind_of (blocks.Ctd s))) refl
output_typed (blocks.Ctud s) n = typed_from 5 n (nat_lt n 5) refl (outputs_of (blocks.Ctud s)) (kind_fields (kind_of (blocks.Ctud s))) refl
output_typed (blocks.Tp s) n = typed_from 2 n (nat_lt n 2) refl (outputs_of (blocks.Tp s)) (kind_fields (kind_of (blocks.Tp s))) refl
output_typed (blocks.Ton s) n = typed_from 2 n (nat_lt n 2) refl (outputs_of (blocks.Ton s)) (kind_fields (kind_of (blocks.Ton s))) refl
output_typed (blocks.Tof s) n = typed_from 2 n (nat_lt n 2) refl (outputs_of (blocks.Tof s)) (kind_fields (kind_of (blocks.Tof s))) refl
