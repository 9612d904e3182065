-- Lists of other lengths are no pairs, no single members and no three.
use Rattle.std.proofs.Common.{◌≡◌, List, [], ◌∷◌, Option, Some, None, true, false, length, refl, ap, sym, ◌∙◌, String, Global, string_bytes, arith}
use Rattle.std.specs.Prelude.{option_and_then, option_map, slice_get, if◌then◌else◌}
use Rattle.serde_json.specs.Data.{Data, Items}
use Rattle.std.proofs.lemmas.Bool.{cond-true, cond-false}
use Rattle.serde_json.specs.Find.{as_array, as_object}
use Rattle.serde_json.specs.View.{view, items_view, members_view}
use Rattle.serde_json.specs.declared.value.Value.{Value}
use Rattle.plc_json.specs.Commands.{two, pair_at, only_member, has_three, scan_with, scan_of}

not_two : (vs : List Value) → (length vs ≡ 2 → ⊥) → two (items_view vs) ≡ None
not_two [] other = refl
not_two (a ∷ []) other = refl
not_two (a ∷ (b ∷ [])) other = absurd (other refl)
not_two (a ∷ (b ∷ (c ∷ more))) other = refl

pub no_pair : {B : Type 0} (of : Data × Data → Option B) (d : Data) (vs : List Value) → Some (items_view vs) ≡ as_array d → (length vs ≡ 2 → ⊥) → None ≡ option_and_then of (pair_at d)
no_pair of d vs is other = sym (ap (λ (o : Option Items). option_and_then of (option_and_then two o)) (sym is) ∙ ap (option_and_then of) (not_two vs other))

pub not_one : (es : List (String Global × Value)) → (length es ≡ 1 → ⊥) → None ≡ only_member (members_view es)
not_one [] other = refl
not_one (e ∷ []) other = absurd (other refl)
not_one (e ∷ (f ∷ more)) other = refl

pub the_one : (es : List (String Global × Value)) (k : String Global) (v : Value) → length es ≡ 1 → slice_get es 0 ≡ Some (k, v) → Some (string_bytes k, view v) ≡ only_member (members_view es)
the_one [] k v one is = absurd (omega (arith, one))
the_one (e ∷ []) k v one is = ap (option_map (λ (p : String Global × Value). (string_bytes p.0, view p.1))) (sym is)
the_one (e ∷ (f ∷ more)) k v one is = absurd (omega (arith, one))

pub not_three : (es : List (String Global × Value)) → (length es ≡ 3 → ⊥) → has_three (members_view es) ≡ false
not_three [] other = refl
not_three (a ∷ []) other = refl
not_three (a ∷ (b ∷ [])) other = refl
not_three (a ∷ (b ∷ (c ∷ []))) other = absurd (other refl)
not_three (a ∷ (b ∷ (c ∷ (d ∷ more)))) other = refl

pub three : (es : List (String Global × Value)) → length es ≡ 3 → has_three (members_view es) ≡ true
three [] is = absurd (omega (arith, is))
three (a ∷ []) is = absurd (omega (arith, is))
three (a ∷ (b ∷ [])) is = absurd (omega (arith, is))
three (a ∷ (b ∷ (c ∷ []))) is = refl
three (a ∷ (b ∷ (c ∷ (d ∷ more)))) is = absurd (omega (arith, is))

pub no_scan : (d : Data) (es : List (String Global × Value)) → Some (members_view es) ≡ as_object d → (length es ≡ 3 → ⊥) → None ≡ scan_of d
no_scan d es is other = sym (ap (option_and_then (λ ms. if has_three ms then scan_with d else None)) (sym is) ∙ cond-false _ _ _ (not_three es other))

pub the_scan : (d : Data) (es : List (String Global × Value)) → Some (members_view es) ≡ as_object d → length es ≡ 3 → scan_with d ≡ scan_of d
the_scan d es is len = sym (ap (option_and_then (λ ms. if has_three ms then scan_with d else None)) (sym is) ∙ cond-true _ _ _ (three es len))
