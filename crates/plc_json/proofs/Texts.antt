-- The texts of what is asked, one after another.
use Rattle.std.proofs.Common.{◌≡◌, ◌≤◌, ℕ, List, [], ◌∷◌, ◌++◌, length, drop, map, Option, Some, None, Result, Ok, Err, IfOk, IfErr, Vec, Global, refl, sym, ap, ◌∙◌}
use Rattle.std.specs.Prelude.{option_map, option_and_then, IsUtf8}
use Rattle.serde_json.specs.Data.{Data}
use Rattle.serde_json.specs.Find.{as_array}
use Rattle.serde_json.specs.Read.{read as read_text}
use Rattle.serde_json.specs.View.{view, items_view}
use Rattle.serde_json.specs.declared.value.Value.{Value}
use Rattle.plc_json.specs.Asking.{Asking, Do, asking_in, asking_of, SayAskings, HasNoAskings, HasTexts, bytes_of}
use Rattle.plc_json.specs.Commands.{Read, all_of}
use Rattle.plc_json.specs.declared.command.JsonFault.{JsonFault}
use Rattle.plc_json.specs.declared.command.JsonFault.TheVariants.{Shape}
use Rattle.plc_json.proofs.Each.{behind, at_first, tells_all}
use Rattle.plc_json.proofs.Whole.{each_are, has_none}

-- what was told so far: these texts ask this, and behind them the rest is to come
pub record Told (all rest : List Data) (texts : List (List ℕ)) : Type 0 where
  pub told : List Asking
  pub behind_is : behind asking_of told rest ≡ all_of asking_of all
  pub texts_are : all_of asking_in texts ≡ Some told

abbrev listed : {B : Type 0} → Option (List B) → List B
listed None = []
listed (Some ys) = ys

-- what a first one and others give
parts : {B : Type 0} (o : Option B) (rest : Option (List B)) (ys : List B) → option_and_then (λ z. option_map (λ zs. z ∷ zs) rest) o ≡ Some ys → (z : B) × (zs : List B) × (o ≡ Some z) × (rest ≡ Some zs) × (ys ≡ z ∷ zs)
parts None rest ys is = absurd cc
parts (Some z) None ys is = absurd cc
parts (Some z) (Some zs) ys is = (z, zs, refl, refl, sym (ap listed is))

made : {B : Type 0} (o : Option B) (rest : Option (List B)) (z : B) (zs : List B) → o ≡ Some z → rest ≡ Some zs → option_and_then (λ z. option_map (λ zs. z ∷ zs) rest) o ≡ Some (z ∷ zs)
made o rest z zs one more = rw (one, more) refl

first_one : {A B : Type 0} (f : A → Option B) (x : A) (ys : List B) (y : B) → ys ≡ [] → f x ≡ Some y → all_of f (x ∷ []) ≡ Some (ys ++ y ∷ [])
first_one f x ys y none one = rw (one, none) refl

-- one more at the end
pub all_more : {A B : Type 0} (f : A → Option B) (xs : List A) (x : A) (ys : List B) (y : B) → all_of f xs ≡ Some ys → f x ≡ Some y → all_of f (xs ++ x ∷ []) ≡ Some (ys ++ y ∷ [])
all_more f [] x ys y all one = first_one f x ys y (sym (ap listed all)) one
all_more {B = B} f (w ∷ xs) x ys y all one =
    let first = parts (f w) (all_of f xs) ys all in
    let more = all_more f xs x first.1 y first.3 one in
    made (f w) (all_of f (xs ++ x ∷ [])) first.0 (first.1 ++ y ∷ []) first.2 more ∙ ap (λ (l : List B). Some (l ++ y ∷ [])) (sym first.4)

pub told_none : (all : List Data) → Told all all []
told_none all = record { told = []; behind_is = at_first asking_of all; texts_are = refl }

-- all were told
pub told_all : (vs : List Value) (i : ℕ) (texts : List (List ℕ)) → length vs ≤ i → Told (map view vs) (drop i (map view vs)) texts → SayAskings (map view vs) texts
told_all vs i texts le h = (h.told, sym h.behind_is ∙ tells_all asking_of h.told vs i le, h.texts_are)

told_by : Vec ℕ Global → Asking
told_by v = Do (Read v.items)

module _ (text : List ℕ) (d : Data) (vs : List Value) (is : read_text text ≡ Some d) (array : Some (items_view vs) ≡ as_array d) where
  pub has_texts : (r : Result (Vec (Vec ℕ Global) Global) JsonFault) → IsUtf8 text → IfOk r (λ v. SayAskings (map view vs) (map bytes_of v.items)) → IfOk r (λ v. HasTexts text (map bytes_of v.items))
  has_texts (Ok v) utf8 found = (utf8, found.0, each_are asking_of told_by text d vs is array ∙ found.1, found.2)
  has_texts (Err e) utf8 found = tt

  pub no_texts : (r : Result (Vec (Vec ℕ Global) Global) JsonFault) → IfErr r (λ e. e ≡ Shape → all_of asking_of (map view vs) ≡ None) → IfErr r (λ e. e ≡ Shape → HasNoAskings text)
  no_texts r none = has_none asking_of told_by text d vs is array r none
