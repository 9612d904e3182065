-- What a text has, by the values of its array; the inputs of a scan, by those of its two.
use Rattle.std.proofs.Common.{◌≡◌, ℕ, ℤ, Bool, List, map, Option, Some, None, Result, Ok, Err, IfOk, IfErr, IsErrAnd, Vec, Global, refl, sym, ap, ◌∙◌}
use Rattle.std.specs.Prelude.{option_and_then, IsUtf8}
use Rattle.serde_json.specs.Data.{Data}
use Rattle.serde_json.specs.Find.{as_array}
use Rattle.serde_json.specs.Read.{read as read_text}
use Rattle.serde_json.specs.View.{view, items_view}
use Rattle.serde_json.specs.declared.value.Value.{Value}
use Rattle.plc_json.specs.Commands.{items_in, all_of, each_of, each_in, bits_of, words_of, image_of, image_with}
use Rattle.plc_json.specs.declared.command.JsonFault.{JsonFault}
use Rattle.plc_json.specs.declared.command.JsonFault.TheVariants.{Shape}
use Rattle.plc_json.proofs.Each.{items_again}

module _ {A B : Type 0} (f : Data → Option B) (seen : A → B) (text : List ℕ) (d : Data) (vs : List Value) (is : read_text text ≡ Some d) (array : Some (items_view vs) ≡ as_array d) where
  pub each_are : each_in f text ≡ all_of f (map view vs)
  each_are = ap (option_and_then (each_of f)) is ∙ ap (option_and_then (λ ds. all_of f (items_in ds))) (sym array) ∙ ap (all_of f) (items_again (map view vs))

  pub has_each : (r : Result (Vec A Global) JsonFault) → IsUtf8 text → IfOk r (λ v. all_of f (map view vs) ≡ Some (map seen v.items)) → IfOk r (λ v. IsUtf8 text × (each_in f text ≡ Some (map seen v.items)))
  has_each (Ok v) utf8 found = (utf8, each_are ∙ found)
  has_each (Err e) utf8 found = tt

  pub has_none : (r : Result (Vec A Global) JsonFault) → IfErr r (λ e. e ≡ Shape → all_of f (map view vs) ≡ None) → IfErr r (λ e. e ≡ Shape → IsUtf8 text → each_in f text ≡ None)
  has_none (Ok v) none = tt
  has_none (Err e) none = λ shape utf8. each_are ∙ none shape

-- what `?` hands on
pub handed : {A P : Type 0} (r : Result A JsonFault) (e : JsonFault) → IsErrAnd r (λ x. x ≡ e) → (e ≡ Shape → P) → IfErr r (λ x. x ≡ Shape → P)
handed (Ok a) e wrong h = tt
handed (Err x) e is h = λ shape. h (sym is ∙ shape)

module _ (d e : Data) (vs ws : List Value) (array : Some (items_view vs) ≡ as_array d) where
  pub no_bits : None ≡ bits_of (map view vs) → image_of d e ≡ None
  no_bits none = rw (sym array, items_again (map view vs), sym none) refl

  module _ (bits : List Bool) (are : Some bits ≡ bits_of (map view vs)) (other : Some (items_view ws) ≡ as_array e) where
    pub no_words : None ≡ words_of (map view ws) → image_of d e ≡ None
    no_words none = rw (sym array, items_again (map view vs), sym are, sym other, items_again (map view ws), sym none) refl

    pub the_image : (words : List ℤ) → Some words ≡ words_of (map view ws) → image_of d e ≡ Some (image_with bits words)
    the_image words is = rw (sym array, items_again (map view vs), sym are, sym other, items_again (map view ws), sym is) refl
