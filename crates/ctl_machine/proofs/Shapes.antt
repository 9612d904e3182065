-- The tests of a snapshot's shape, item by item.
use Rattle.std.proofs.Common.{◌≡◌, ◌≤◌, ◌<◌, ◌+◌, ◌∙◌, sym, take, get_or, ℕ, zero, suc, Bool, true, false, List, [], ◌∷◌, length, drop, map, refl, ap, arith}
use Rattle.std.specs.Prelude.{◌&&◌, ◌==◌, filter}
use Rattle.std.proofs.Math.Dec.{eqb-suc-zero}
use Rattle.il_model.specs.declared.kind.Field.{Field}
use Rattle.il_model.specs.Kinds.{field_type, is_input}
use Rattle.il_values.specs.declared.value.Value.{Value}
use Rattle.il_model.specs.declared.program.Variable.{Variable}
use Rattle.il_model.specs.declared.program.Instance.{Instance}
use Rattle.il_model.specs.declared.fetched.Deferred.{Deferred}
use Rattle.il_model.specs.declared.typing.Held.{Held}
use Rattle.il_model.specs.Snapshots.{SavedBlock}
use Rattle.ctl_model.specs.Suits.{held_of}
use Rattle.ctl_model.specs.Snapshots.{own_types, are_types, fits_instance, fit_instances, same_held, all_held}
use Rattle.ctl_machine.proofs.Zipped.{zipped, zipped_at, zipped_next}

pub instances_zipped : (ds : List Instance) (xs : List SavedBlock) → fit_instances ds xs ≡ zipped fits_instance ds xs
instances_zipped [] [] = refl
instances_zipped [] (x ∷ xs) = refl
instances_zipped (d ∷ ds) [] = refl
instances_zipped (d ∷ ds) (x ∷ xs) = ap (λ b. fits_instance d x && b) (instances_zipped ds xs)

abbrev pub is_held : Deferred → Held → Bool
is_held d h = same_held (held_of d) h

pub held_zipped : (ds : List Deferred) (hs : List Held) → all_held (map held_of ds) hs ≡ zipped is_held ds hs
held_zipped [] [] = refl
held_zipped [] (h ∷ hs) = refl
held_zipped (d ∷ ds) [] = refl
held_zipped (d ∷ ds) (h ∷ hs) = ap (λ b. same_held (held_of d) h && b) (held_zipped ds hs)

pub held_no : (ds : List Deferred) (hs : List Held) (i : ℕ) (d : Deferred) (h : Held) → i < length ds → length ds ≡ length hs → d ≡ get_or ds i d → is_held d (get_or hs i h) ≡ false → zipped is_held ds hs ≡ false
held_no ds hs i d h lt same e f = zipped_at is_held ds hs i d h lt same (ap (λ (x : Deferred). is_held x (get_or hs i h)) (sym e) ∙ f)

pub held_yes : (ds : List Deferred) (hs : List Held) (i : ℕ) (d : Deferred) (h : Held) → i < length ds → length ds ≡ length hs → d ≡ get_or ds i d → is_held d (get_or hs i h) ≡ true → zipped is_held (take i ds) (take i hs) ≡ true → zipped is_held (take (i + 1) ds) (take (i + 1) hs) ≡ true
held_yes ds hs i d h lt same e f so = zipped_next is_held ds hs i d h lt same (ap (λ (x : Deferred). is_held x (get_or hs i h)) (sym e) ∙ f) so

none_left : (vs : List Value) → are_types vs [] ≡ (length vs == 0)
none_left [] = refl
none_left (v ∷ vs) = sym (eqb-suc-zero (length vs))

drop_all : {A : Type 0} (xs : List A) (n : ℕ) → length xs ≤ n → drop n xs ≡ []
drop_all [] zero le = refl
drop_all [] (suc n) le = refl
drop_all (x ∷ xs) zero le = absurd (omega (arith, le))
drop_all (x ∷ xs) (suc n) le = drop_all xs n (omega (arith, le))

-- past a kind's last field no value may be left
pub inputs_end : (vs : List Value) (fs : List Field) (n : ℕ) → length fs ≤ n → are_types vs (map field_type (filter is_input (drop n fs))) ≡ (length vs == 0)
inputs_end vs fs n le = ap (λ gs. are_types vs (map field_type (filter is_input gs))) (drop_all fs n le) ∙ none_left vs

pub zipped_no : (ds : List Instance) (xs : List SavedBlock) (i : ℕ) (d : Instance) (x : SavedBlock) → i < length ds → length ds ≡ length xs → d ≡ get_or ds i d → x ≡ get_or xs i x → fits_instance d x ≡ false → false ≡ fit_instances ds xs
zipped_no ds xs i d x lt same e f h =
    let here = ap (λ (y : Instance). fits_instance y (get_or xs i x)) (sym e) ∙ ap (fits_instance d) (sym f) ∙ h in
    sym (instances_zipped ds xs ∙ zipped_at fits_instance ds xs i d x lt same here)

pub zipped_yes : (ds : List Instance) (xs : List SavedBlock) (i : ℕ) (d : Instance) (x : SavedBlock) → i < length ds → length ds ≡ length xs → d ≡ get_or ds i d → x ≡ get_or xs i x → fits_instance d x ≡ true → zipped fits_instance (take i ds) (take i xs) ≡ true → zipped fits_instance (take (i + 1) ds) (take (i + 1) xs) ≡ true
zipped_yes ds xs i d x lt same e f h so =
    let here = ap (λ (y : Instance). fits_instance y (get_or xs i x)) (sym e) ∙ ap (fits_instance d) (sym f) ∙ h in
    zipped_next fits_instance ds xs i d x lt same here so

-- past the last variable no value may be left
pub variables_end : (own : List Value) (vs : List Variable) (n : ℕ) → length vs ≤ n → are_types own (own_types (drop n vs)) ≡ (length own == 0)
variables_end own vs n le = ap (λ ws. are_types own (own_types ws)) (drop_all vs n le) ∙ none_left own
