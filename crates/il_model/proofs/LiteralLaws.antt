-- The values of literals and of initial values are in their ranges.
use Rattle.std.proofs.Common.{◌≡◌, ℕ, ◌+◌, ◌^◌, Bool, true, false, cond, ltb, List, length, take, drop, Option, Some, None, refl, subst, ◌||◌, codes}
use Rattle.std.specs.Prelude.{ℤ, pos, negsuc, option_map}
use Rattle.std.specs.Option.{option_and_then}
use Rattle.il_values.specs.declared.value.Ty.{Ty}
use Rattle.il_values.specs.declared.value.Ty.TheVariants as types
use Rattle.il_values.specs.declared.value.Value.{Value}
use Rattle.il_values.specs.declared.value.Value.TheVariants as values
use Rattle.il_model.specs.declared.program.Loc.{Loc}
use Rattle.il_model.specs.declared.literal.Literal.{Literal}
use Rattle.il_model.specs.declared.literal.Literal.TheVariants.{Bare, Typed}
use Rattle.il_values.specs.Values.{ty_of, number_of, is_within, truth_made, typed_value}
use Rattle.il_values.specs.Spelled.{spells}
use Rattle.il_model.specs.Codes.{may_start_with, initial_of}
use Rattle.il_values.proofs.RealValues.{real_is, real_again}
use Rattle.il_values.proofs.BitValues.{bits_are, bits_again}
use Rattle.il_model.specs.declared.dialect.Dialect.{Dialect}
use Rattle.il_model.specs.declared.dialect.Dialect.TheVariants as dialects
use Rattle.il_model.specs.Dialects.{literal_in}
use Rattle.il_model.specs.Literals.{integer_of, hash_at, signed_by, based_by, whole_by, time_by, truth_literal}
use Rattle.il_model.specs.Literals.{typed_literal, bare_literal, prefixed_literal, is_word, literal_of, has_point, typed_real}
use Rattle.il_model.specs.Literals.{extended_prefixed, extended_plain, extended_literal_of}
use Rattle.il_real.specs.declared.real.Real.{Real}
use Rattle.il_real.specs.Literals.{real_literal}

-- a value of its type's range
abbrev pub IsValue : Value → Type 0
IsValue v = typed_value (ty_of v) (number_of v) ≡ Some v

abbrev pub IsInRange : Option Literal → Type 0
IsInRange None = Unit {0}
IsInRange (Some (Bare z)) = is_within (2 ^ 31) z ≡ true
IsInRange (Some (Typed v)) = IsValue v

record Good (o : Option Literal) : Type 0 where
  good : IsInRange o

either : (b : Bool) (p q : Option Literal) → Good p → Good q → Good (cond b p q)
either true p q x y = x
either false p q x y = y

truth_good : (bytes : List ℕ) → Good (truth_literal bytes)
truth_good bytes = either (spells (codes "TRUE") bytes || spells (codes "1") bytes) (Some (Typed (values.Bool true))) _ (record { good = refl }) (either (spells (codes "FALSE") bytes || spells (codes "0") bytes) (Some (Typed (values.Bool false))) None (record { good = refl }) (record { good = tt }))

int_good : (b : Bool) (z : ℤ) → is_within (2 ^ 15) z ≡ b → Good (option_map Typed (cond b (Some (values.Int z)) None))
int_good true z e = record { good = rw e refl }
int_good false z e = record { good = tt }

dint_good : (b : Bool) (z : ℤ) → is_within (2 ^ 31) z ≡ b → Good (option_map Typed (cond b (Some (values.Dint z)) None))
dint_good true z e = record { good = rw e refl }
dint_good false z e = record { good = tt }

lint_good : (b : Bool) (z : ℤ) → is_within (2 ^ 63) z ≡ b → Good (option_map Typed (cond b (Some (values.Lint z)) None))
lint_good true z e = record { good = rw e refl }
lint_good false z e = record { good = tt }

time_good : (b : Bool) (z : ℤ) → is_within (2 ^ 31) z ≡ b → Good (option_map Typed (cond b (Some (values.Time z)) None))
time_good true z e = record { good = rw e refl }
time_good false z e = record { good = tt }

int_typed : (o : Option ℤ) → Good (typed_literal types.Int o)
int_typed None = record { good = tt }
int_typed (Some z) = int_good (is_within (2 ^ 15) z) z refl

dint_typed : (o : Option ℤ) → Good (typed_literal types.Dint o)
dint_typed None = record { good = tt }
dint_typed (Some z) = dint_good (is_within (2 ^ 31) z) z refl

lint_typed : (o : Option ℤ) → Good (typed_literal types.Lint o)
lint_typed None = record { good = tt }
lint_typed (Some z) = lint_good (is_within (2 ^ 63) z) z refl

time_typed : (o : Option ℤ) → Good (typed_literal types.Time o)
time_typed None = record { good = tt }
time_typed (Some z) = time_good (is_within (2 ^ 31) z) z refl

bare_by : (b : Bool) (z : ℤ) → is_within (2 ^ 31) z ≡ b → Good (cond b (Some (Bare z)) None)
bare_by true z e = record { good = e }
bare_by false z e = record { good = tt }

bare_good : (o : Option ℤ) → Good (option_and_then bare_literal o)
bare_good None = record { good = tt }
bare_good (Some z) = bare_by (is_within (2 ^ 31) z) z refl

prefixed_good : (word bytes : List ℕ) → Good (prefixed_literal integer_of word bytes)
prefixed_good word bytes =
    either (spells (codes "BOOL") word) (truth_literal bytes) _ (truth_good bytes)
    (either (spells (codes "INT") word) (typed_literal types.Int (whole_by integer_of bytes)) _ (int_typed (whole_by integer_of bytes))
    (either (spells (codes "DINT") word) (typed_literal types.Dint (whole_by integer_of bytes)) _ (dint_typed (whole_by integer_of bytes))
    (either (spells (codes "LINT") word) (typed_literal types.Lint (whole_by integer_of bytes)) _ (lint_typed (whole_by integer_of bytes))
    (either (spells (codes "T") word || spells (codes "TIME") word) (typed_literal types.Time (time_by integer_of bytes)) (option_and_then bare_literal (based_by integer_of word bytes)) (time_typed (time_by integer_of bytes)) (bare_good (based_by integer_of word bytes))))))

good_literal : (bytes : List ℕ) → Good (literal_of bytes)
unfolding literal_of
good_literal bytes =
    either (ltb (hash_at bytes) (length bytes)) (prefixed_literal integer_of (take (hash_at bytes) bytes) (drop (hash_at bytes + 1) bytes)) _ (prefixed_good (take (hash_at bytes) bytes) (drop (hash_at bytes + 1) bytes))
    (either (is_word bytes) (truth_literal bytes) (option_and_then bare_literal (signed_by integer_of bytes)) (truth_good bytes) (bare_good (signed_by integer_of bytes)))

pub literal_good : (bytes : List ℕ) → IsInRange (literal_of bytes)
literal_good bytes = (good_literal bytes).good

-- ---- literals of extended texts

real_good : (o : Option Real) → Good (typed_real o)
real_good None = record { good = tt }
real_good (Some r) = record { good = real_again r }

word_typed : (o : Option ℤ) → Good (typed_literal types.Word o)
word_typed None = record { good = tt }
word_typed (Some z) = by_value (typed_value types.Word z) refl
  where
    by_value : (v : Option Value) → typed_value types.Word z ≡ v → Good (option_map Typed v)
    by_value None e = record { good = tt }
    by_value (Some v) e = let m = bits_are (2 ^ 16) values.Word z v e in record { good = subst IsValue m.is (bits_again (2 ^ 16) values.Word m.pattern m.small) }

double_word_typed : (o : Option ℤ) → Good (typed_literal types.Dword o)
double_word_typed None = record { good = tt }
double_word_typed (Some z) = by_value (typed_value types.Dword z) refl
  where
    by_value : (v : Option Value) → typed_value types.Dword z ≡ v → Good (option_map Typed v)
    by_value None e = record { good = tt }
    by_value (Some v) e = let m = bits_are (2 ^ 32) values.Dword z v e in record { good = subst IsValue m.is (bits_again (2 ^ 32) values.Dword m.pattern m.small) }

behind_word : (word rest bytes : List ℕ) → Good (extended_prefixed word rest bytes)
behind_word word rest bytes =
    either (spells (codes "REAL") word) (typed_real (real_literal rest)) _ (real_good (real_literal rest))
    (either (spells (codes "WORD") word) (typed_literal types.Word (whole_by integer_of rest)) _ (word_typed (whole_by integer_of rest))
    (either (spells (codes "DWORD") word) (typed_literal types.Dword (whole_by integer_of rest)) (literal_of bytes) (double_word_typed (whole_by integer_of rest)) (good_literal bytes)))

pub extended_good : (bytes : List ℕ) → IsInRange (extended_literal_of bytes)
extended_good bytes =
    (either (ltb (hash_at bytes) (length bytes)) (extended_prefixed (take (hash_at bytes) bytes) (drop (hash_at bytes + 1) bytes) bytes) (extended_plain bytes)
    (behind_word (take (hash_at bytes) bytes) (drop (hash_at bytes + 1) bytes) bytes)
    (either (has_point bytes) (typed_real (real_literal bytes)) (literal_of bytes) (real_good (real_literal bytes)) (good_literal bytes))).good

-- ---- initial values

abbrev one_value : Value → Option Value
one_value v = Some v

value_is : (x y : Value) → one_value x ≡ one_value y → x ≡ y
value_is x y e = cc

some_of : (b : Bool) (x v : Value) → cond b (Some x) None ≡ one_value v → (b ≡ true) × (x ≡ v)
some_of true x v e = (refl, value_is x v e)
some_of false x v e = absurd cc

record IsMade (type : Ty) (v : Value) : Type 0 where
  again : typed_value type (number_of v) ≡ Some v

truth_by : (a b : Bool) (v : Value) → cond a (Some (values.Bool false)) (cond b (Some (values.Bool true)) None) ≡ one_value v → IsMade types.Bool v
truth_by true b v e = subst (IsMade types.Bool) (value_is (values.Bool false) v e) (record { again = refl })
truth_by false true v e = subst (IsMade types.Bool) (value_is (values.Bool true) v e) (record { again = refl })
truth_by false false v e = absurd cc

truth_is : (z : ℤ) (v : Value) → truth_made z ≡ Some v → IsMade types.Bool v
truth_is (pos n) v e = truth_by (ltb n 1) (ltb n 2) v e
truth_is (negsuc n) v e = absurd cc

made_is : (type : Ty) (z : ℤ) (v : Value) → typed_value type z ≡ Some v → IsMade type v
made_is types.Bool z v e = truth_is z v e
made_is types.Int z v e =
    let m = some_of (is_within (2 ^ 15) z) (values.Int z) v e in
    subst (IsMade types.Int) m.1 (record { again = rw m.0 refl })
made_is types.Dint z v e =
    let m = some_of (is_within (2 ^ 31) z) (values.Dint z) v e in
    subst (IsMade types.Dint) m.1 (record { again = rw m.0 refl })
made_is types.Lint z v e =
    let m = some_of (is_within (2 ^ 63) z) (values.Lint z) v e in
    subst (IsMade types.Lint) m.1 (record { again = rw m.0 refl })
made_is types.Time z v e =
    let m = some_of (is_within (2 ^ 31) z) (values.Time z) v e in
    subst (IsMade types.Time) m.1 (record { again = rw m.0 refl })
made_is types.Real z v e = let m = real_is z v e in subst (IsMade types.Real) m.1 (record { again = real_again m.0 })
made_is types.Word z v e = let m = bits_are (2 ^ 16) values.Word z v e in subst (IsMade types.Word) m.is (record { again = bits_again (2 ^ 16) values.Word m.pattern m.small })
made_is types.Dword z v e = let m = bits_are (2 ^ 32) values.Dword z v e in subst (IsMade types.Dword) m.is (record { again = bits_again (2 ^ 32) values.Dword m.pattern m.small })

-- an initial value is made again of its number
pub start_again : (type : Ty) (loc : Option Loc) (z : ℤ) (v : Value) → typed_value type z ≡ Some v → may_start_with loc v ≡ true → initial_of type loc (number_of v) ≡ Some v
start_again type loc z v e may =
    let m = made_is type z v e in
    rw (m.again, may) refl

-- the literal that a text is, by its dialect
pub literal_in_good : (dialect : Dialect) (bytes : List ℕ) → IsInRange (literal_in dialect bytes)
literal_in_good dialects.Plain bytes = literal_good bytes
literal_in_good dialects.Extended bytes = extended_good bytes
