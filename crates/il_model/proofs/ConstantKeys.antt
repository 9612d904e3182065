-- A table that has each constant's number, and one more.
use Rattle.std.proofs.Common.{◌≡◌, ℕ, ◌<◌, Bool, true, false, cond, List, [], ◌∷◌, ◌++◌, length, Option, Some, None, refl, sym, ap, ◌∙◌, arith}
use Rattle.std.specs.Prelude.{ℤ, pos, nat_abs, is_some, IfSome, ◌^◌}
use Rattle.std.specs.List.{position}
use Rattle.std.specs.Ordering.{nat_cmp, int_cmp, ordering_then, is_eq}
use Rattle.std.proofs.lemmas.Cmp.{int_ranked}
use Rattle.std.proofs.lemmas.Int.{ints}
use Rattle.std.proofs.lemmas.List.Quantifiers.{position-Some}
use Rattle.std.specs.BTreeMap as tree
use Rattle.std.specs.BTreeMap.{BTreeMap}
use Rattle.il_values.specs.declared.value.Value.{Value}
use Rattle.il_values.specs.declared.value.Value.TheVariants as values
use Rattle.il_values.specs.Operators.{same_number}
use Rattle.il_model.specs.Constants.{same_value}
use Rattle.il_model.specs.Tables.{key_of, key_cmp, place_in, IsConstantTable}
use Rattle.il_values.proofs.RealValues.{real_same}
use Rattle.il_model.proofs.Positions.{position_behind, position_past, position_kept}

number_key : (a b : ℤ) → is_eq (int_cmp a b) ≡ same_number b a
number_key a b = grind (arith, ints, int_ranked a b (int_cmp a b) refl)

key_same : (v w : Value) → is_eq (ordering_then (nat_cmp (key_of v).0 (key_of w).0) (int_cmp (key_of v).1 (key_of w).1)) ≡ same_value w v
key_same (values.Bool true) (values.Bool true) = refl
key_same (values.Bool true) (values.Bool false) = refl
key_same (values.Bool false) (values.Bool true) = refl
key_same (values.Bool false) (values.Bool false) = refl
key_same (values.Int a) (values.Int b) = number_key a b
key_same (values.Dint a) (values.Dint b) = number_key a b
key_same (values.Lint a) (values.Lint b) = number_key a b
key_same (values.Time a) (values.Time b) = number_key a b
key_same (values.Real a) (values.Real b) = number_key (pos a.pattern) (pos b.pattern)
key_same (values.Word a) (values.Word b) = number_key (pos a) (pos b)
key_same (values.Dword a) (values.Dword b) = number_key (pos a) (pos b)
key_same _ _ = refl

number_same : (a b : ℤ) → same_number a b ≡ true → a ≡ b
number_same a b e = grind (arith, ints)

value_same : (v w : Value) → same_value v w ≡ true → v ≡ w
value_same (values.Bool true) (values.Bool true) e = refl
value_same (values.Bool true) (values.Bool false) e = absurd cc
value_same (values.Bool false) (values.Bool true) e = absurd cc
value_same (values.Bool false) (values.Bool false) e = refl
value_same (values.Int a) (values.Int b) e = ap values.Int (number_same a b e)
value_same (values.Dint a) (values.Dint b) e = ap values.Dint (number_same a b e)
value_same (values.Lint a) (values.Lint b) e = ap values.Lint (number_same a b e)
value_same (values.Time a) (values.Time b) e = ap values.Time (number_same a b e)
value_same (values.Real a) (values.Real b) e = real_same a b (number_same (pos a.pattern) (pos b.pattern) e)
value_same (values.Word a) (values.Word b) e = ap (λ (z : ℤ). values.Word (nat_abs z)) (number_same (pos a) (pos b) e)
value_same (values.Dword a) (values.Dword b) e = ap (λ (z : ℤ). values.Dword (nat_abs z)) (number_same (pos a) (pos b) e)
value_same _ _ e = absurd cc

-- ---- a constant behind the others

none_of : (o : Option ℕ) → is_some o ≡ false → o ≡ None
none_of None e = refl
none_of (Some k) e = absurd cc

put_by : (found : List Value) (v w : Value) (o : Option ℕ) (b : Bool) → same_value w v ≡ b → is_some (position (same_value v) found) ≡ false → o ≡ position (same_value w) found
    → cond b (Some (length found)) o ≡ position (same_value w) (found ++ v ∷ [])
put_by found v w o true has free is =
    let same : w ≡ v = value_same w v has in
    let gone : position (same_value w) found ≡ None = ap (λ (x : Value). position (same_value x) found) same ∙ none_of (position (same_value v) found) free in
    sym (position_behind (same_value w) found v [] gone has)
put_by found v w o false has free is = is ∙ sym (position_past (same_value w) found v has)

-- one that is new
pub put_place : (m n : BTreeMap (ℕ × ℤ) ℕ) (found : List Value) (v : Value) (key : ℕ × ℤ) → IsConstantTable found m → is_some (place_in m v) ≡ false
    → key ≡ key_of v → tree.UpdatesBy key_cmp (key_cmp key) m n (Some (length found)) → IsConstantTable (found ++ v ∷ []) n
put_place m n found v key table free key-is updates w =
    updates.0 (key_of w)
    ∙ ap (λ (x : ℕ × ℤ). cond (is_eq (key_cmp x (key_of w))) (Some (length found)) (place_in m w)) key-is
    ∙ ap (λ (b : Bool). cond b (Some (length found)) (place_in m w)) (key_same v w)
    ∙ put_by found v w (place_in m w) (same_value w v) refl (ap is_some (sym (table v)) ∙ free) (table w)

keep_by : (found : List Value) (v w : Value) (b : Bool) → same_value w v ≡ b → is_some (position (same_value v) found) ≡ true → position (same_value w) found ≡ position (same_value w) (found ++ v ∷ [])
keep_by found v w true has known =
    let same : w ≡ v = value_same w v has in
    sym (position_kept (same_value w) found (v ∷ []) (ap (λ (x : Value). is_some (position (same_value x) found)) same ∙ known))
keep_by found v w false has known = sym (position_past (same_value w) found v has)

-- one that stood before
pub keep_place : (m : BTreeMap (ℕ × ℤ) ℕ) (found : List Value) (v : Value) → IsConstantTable found m → is_some (place_in m v) ≡ true → IsConstantTable (found ++ v ∷ []) m
keep_place m found v table known w = table w ∙ keep_by found v w (same_value w v) refl (ap is_some (sym (table v)) ∙ known)

pub small_place : (v : Value) (found : List Value) (o : Option ℕ) → o ≡ position (same_value v) found → length found < 2 ^ 63 → IfSome o (λ k. k < 2 ^ 63)
small_place v found None e lt = tt
small_place v found (Some k) e lt = let r = position-Some (same_value v) found k v (sym e) in omega (arith, r.0)
