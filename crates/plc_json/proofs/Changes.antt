-- The command of a change's hex digits.
use Rattle.std.proofs.Common.{◌≡◌, ◌≤◌, ℕ, List, length, Bool, false, Option, Some, None, Result, Ok, Err, IfOk, true, String, Global, string_bytes, refl, sym, ap, subst, ◌∙◌, arith}
use Rattle.std.specs.Prelude.{option_map, codes}
use Rattle.std.specs.declared.alloc.AllocError.{AllocError}
use Rattle.std.proofs.lemmas.Bool.{le-leb, cond-true}
use Rattle.hex.specs.Hex.{IsBytes, decode_of, encode_lower}
use Rattle.hex.proofs.HexLemmas.{decode_of-encode_lower}
use Rattle.il_model.specs.declared.limits.TheConstants.{MOST_IMAGE_BYTES}
use Rattle.il_model.specs.declared.command.Command.TheVariants.{Change}
use Rattle.il_model.specs.Limits.{is_short_image, is_long_image}
use Rattle.serde_json.specs.Data.{Data, depth}
use Rattle.serde_json.specs.Read.{max_depth}
use Rattle.serde_json.specs.View.{view}
use Rattle.serde_json.specs.declared.value.Value.{Value}
use Rattle.plc_json.specs.Commands.{Plain, bytes_of, command_of, image_bytes}
use Rattle.plc_json.specs.Asking.{digits_data}

bytes_back : (may : List ℕ → Bool) (image digits : List ℕ) → decode_of digits ≡ Ok image → may image ≡ true → bytes_of may digits ≡ Some image
bytes_back may image digits back is = ap (image_bytes may) back ∙ cond-true (may image) (Some image) None is

-- by each of the two keys
short_says : (image digits : List ℕ) → decode_of digits ≡ Ok image → is_short_image image ≡ true → command_of (digits_data (codes "change") digits) ≡ Some (Plain (Change image))
short_says image digits back is = ap (λ (o : Option (List ℕ)). option_map Plain (option_map Change o)) (bytes_back is_short_image image digits back is)

long_says : (image digits : List ℕ) → decode_of digits ≡ Ok image → is_long_image image ≡ true → command_of (digits_data (codes "long_change") digits) ≡ Some (Plain (Change image))
long_says image digits back is = ap (λ (o : Option (List ℕ)). option_map Plain (option_map Change o)) (bytes_back is_long_image image digits back is)

pub says_short : (image digits : List ℕ) (r : Result Value AllocError) → decode_of digits ≡ Ok image → is_short_image image ≡ true → IfOk r (λ v. view v ≡ digits_data (codes "change") digits) → IfOk r (λ v. command_of (view v) ≡ Some (Plain (Change image)))
says_short image digits (Ok v) back short is = ap command_of is ∙ short_says image digits back short
says_short image digits (Err e) back short is = tt

pub says_long : (image digits : List ℕ) (r : Result Value AllocError) → decode_of digits ≡ Ok image → is_short_image image ≡ false → length image ≤ MOST_IMAGE_BYTES → IfOk r (λ v. view v ≡ digits_data (codes "long_change") digits) → IfOk r (λ v. command_of (view v) ≡ Some (Plain (Change image)))
says_long image digits (Ok v) back long most is =
    let may : is_long_image image ≡ true = rw (long, le-leb (length image) MOST_IMAGE_BYTES most) refl in
    ap command_of is ∙ long_says image digits back may
says_long image digits (Err e) back long most is = tt

pub nests : (key digits : List ℕ) (r : Result Value AllocError) → IfOk r (λ v. view v ≡ digits_data key digits) → IfOk r (λ v. depth (view v) ≤ max_depth)
nests key digits (Ok v) is = subst (λ (d : Data). depth d ≤ max_depth) (sym is) (omega arith)
nests key digits (Err e) is = tt

-- digits are those of the bytes
pub digits_back : (bytes : List ℕ) (r : Result (String Global) AllocError) → IsBytes bytes → IfOk r (λ s. string_bytes s ≡ encode_lower bytes) → IfOk r (λ s. decode_of (string_bytes s) ≡ Ok bytes)
digits_back bytes (Ok s) fits is = ap decode_of is ∙ decode_of-encode_lower bytes fits
digits_back bytes (Err e) fits is = tt
