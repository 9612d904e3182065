-- The programs that have an image are the well-formed ones, and the loader's reading is one of images.
use Rattle.il_model.specs.declared.codes.Version.TheVariants as versions
use Rattle.std.proofs.Common.{◌≡◌, ℕ, zero, suc, ◌+◌, ◌<◌, ◌≤◌, ◌^◌, Bool, true, false, cond, ltb, List, [], ◌∷◌, ◌++◌, length, map, Option, Some, None, Ok, refl, sym, ap, subst, ◌∙◌, arith}
use Rattle.std.specs.Prelude.{ℤ, pos, negsuc, nat_abs, slice_get, is_some, is_none, not, nat_eq, ◌&&◌, ◌||◌}
use Rattle.std.specs.List.{position, AllByRecursion, filter_map, cons_option, flat_map, list_any}
use Rattle.std.specs.Option.{option_map, option_and_then}
use Rattle.std.proofs.lemmas.Bool.{ltb-true, ltb-false, lt-ltb, eqb-true, eq-eqb, false_from_ne_true, le-leb}
use Rattle.std.proofs.lemmas.Slice.Eq.{bytes_eq-Decides}
use Rattle.il_values.specs.declared.value.Ty.{Ty}
use Rattle.il_values.specs.declared.value.Ty.TheVariants as types
use Rattle.il_values.specs.declared.value.Value.{Value}
use Rattle.il_values.specs.declared.value.Value.TheVariants as values
use Rattle.il_values.specs.declared.op.Op.{Op}
use Rattle.il_values.specs.declared.op.Op.TheVariants as ops
use Rattle.il_model.specs.declared.kind.BlockKind.{BlockKind}
use Rattle.il_model.specs.declared.kind.Field.{Field}
use Rattle.il_model.specs.declared.program.Area.{Area}
use Rattle.il_model.specs.declared.program.Loc.{Loc}
use Rattle.il_model.specs.declared.program.Loc.TheVariants.{Bit, Word, Pattern, Double}
use Rattle.il_model.specs.declared.program.DoubleType.{DoubleType}
use Rattle.il_model.specs.declared.program.DoubleType.TheVariants as doubles
use Rattle.il_model.specs.declared.program.Side.{Side}
use Rattle.il_model.specs.declared.program.Side.TheVariants as sides
use Rattle.il_model.specs.declared.program.Variable.{Variable}
use Rattle.il_model.specs.declared.program.Instance.{Instance}
use Rattle.il_model.specs.declared.program.Argument.{Argument}
use Rattle.il_model.specs.declared.program.Operand.{Operand}
use Rattle.il_model.specs.declared.program.Operand.TheVariants as operands
use Rattle.il_model.specs.declared.program.Instr.{Instr}
use Rattle.il_model.specs.declared.fetched.Source.{Source}
use Rattle.il_model.specs.declared.fetched.Source.TheVariants as sources
use Rattle.il_model.specs.declared.typing.OperandKind.{OperandKind}
use Rattle.il_model.specs.declared.typing.OperandKind.TheVariants as kinds
use Rattle.il_model.specs.declared.codes.OperandForm.TheVariants as forms
use Rattle.il_model.specs.declared.coded_operand.CodedOperand.{CodedOperand}
use Rattle.il_model.specs.declared.coded_operand.CodedOperand.TheVariants as coded
use Rattle.il_values.specs.Values.{ty_of, zero_of, number_of, typed_value}
use Rattle.il_values.specs.Operators.{is_zero}
use Rattle.il_values.proofs.RealValues.{real_same}
use Rattle.il_real.specs.Reals.{zero_real}
use Rattle.il_model.specs.Words.{AreDistinct, same_name, is_lawful_name}
use Rattle.il_model.specs.Locations.{area_of, begins_double, parts_of, is_nameable}
use Rattle.il_model.specs.Doubles.{double_type}
use Rattle.il_model.specs.Row.{same_type}
use Rattle.il_model.specs.Kinds.{kind_fields, field_name, field_type}
use Rattle.il_model.specs.Program.{Program, Declarations, declared_by}
use Rattle.il_model.specs.Resolved.{variable_place, place_of, variable_number, instance_in, instance_number, numbered_field, field_of, target_of, source_of, called_kind}
use Rattle.il_model.specs.Typing.{loc_type, is_writable_area}
use Rattle.il_model.specs.Checking.{source_kind, passing_fault, arguments_fault}
use Rattle.il_model.specs.Marks.{Mark, with_mark, word_count, marks_from}
use Rattle.il_model.specs.Constants.{constants_of}
use Rattle.il_model.specs.CodedOperands.{loc_code, IsCell, any_loc, HasOwnCode, with_code}
use Rattle.il_model.specs.Image.{location_code, modifier_code, operand_code}
use Rattle.il_model.specs.Codes.{if_passes, length_in, has_under, is_number, is_new_name, is_type, has_code, is_taken, is_overlapped, is_free, free_loc, coded_location, may_start_with, initial_of, is_known, usage_of, allowed_by, formed_by, has_form, modifier_of, variable_named, instance_named, field_named, named_operand, value_operand, label_there, target_name, is_jump, is_call, numbered_operand, is_empty}
use Rattle.il_model.specs.Fits as fitting
use Rattle.il_model.specs.Fits.{AreItems, IsMark, IsConstant, IsPassing, IsWord, IsImage}
use Rattle.il_model.specs.Lawful as lawful
use Rattle.il_model.proofs.Positions.{position_first, position_later, not_in_front, found_last, position_past}
use Rattle.il_model.proofs.CodedOperands.{loc_again, loc_small, coded_back, located_again}
use Rattle.il_model.proofs.Declared.{map_some}
use Rattle.il_model.proofs.LocationLaws.{double_fits}
use Rattle.il_model.proofs.RowTypes.{same_type_is}
use Rattle.il_model.proofs.Versions.{made_type, made_value}
use Rattle.il_model.proofs.TypedLines.{IsArgumentOf, arguments_typed, no_arguments}
use Rattle.il_model.proofs.Calls.{IsTypedLine, typed_lines}
use Rattle.il_model.proofs.Judged.{faultless}
use Rattle.il_model.proofs.Lawful.{type_again, lawful_image}
use Rattle.il_loader.specs.Judging.{image_of}
use Rattle.il_loader.specs.Images.{IsName, IsInRange, MayLieAt, IsVariable, IsOperand, IsInstruction, IsWellFormed, Reading, AreBytes, ReadsImages}
use Rattle.il_loader.proofs.Fields.{length_below, tested_some}
use Rattle.il_loader.proofs.Images.{image_takes, image_again}

-- ---- tests

both_true : (a b : Bool) → (a && b) ≡ true → (a ≡ true) × (b ≡ true)
both_true true b e = (refl, e)
both_true false b e = absurd cc

true_both : (a b : Bool) → a ≡ true → b ≡ true → (a && b) ≡ true
true_both true b e h = h
true_both false b e h = absurd cc

not_true : (b : Bool) → not b ≡ true → b ≡ false
not_true true e = absurd cc
not_true false e = refl

true_not : (b : Bool) → b ≡ false → not b ≡ true
true_not true e = absurd cc
true_not false e = refl

clash : (b : Bool) → b ≡ true → b ≡ false → ⊥
clash true e h = cc
clash false e h = cc

some_is : {A : Type 0} (x y : A) → (let o : Option A = Some x in o ≡ Some y) → x ≡ y
some_is x y e = cc

passes : {A : Type 0} (b : Bool) (x y : A) → (let o : Option A = cond b (Some x) None in o ≡ Some y) → (b ≡ true) × (x ≡ y)
passes true x y e = (refl, some_is x y e)
passes false x y e = absurd cc

-- what is there and passes
again : {A : Type 0} (test : A → Bool) (o : Option A) (x : A) → o ≡ Some x → test x ≡ true → option_and_then (if_passes test) o ≡ Some x
again test o x e h = rw (e, h) refl

-- ---- lists

all_map : {X : Type 0} (P Q : X → Type 0) → ((x : X) → P x → Q x) → (xs : List X) → AllByRecursion P xs → AllByRecursion Q xs
all_map P Q each [] all = tt
all_map P Q each (x ∷ xs) all = (each x all.0, all_map P Q each xs all.1)

all_there : {X : Type 0} (P : X → Type 0) (xs : List X) (n : ℕ) (x : X) → slice_get xs n ≡ Some x → AllByRecursion P xs → P x
all_there P [] n x e all = absurd cc
all_there P (y ∷ ys) zero x e all = subst P (some_is y x e) all.0
all_there P (y ∷ ys) (suc n) x e all = all_there P ys n x e all.1

items_all : {X : Type 0} (I : List X → X → Type 0) (P : X → Type 0) → ((seen : List X) (x : X) → I seen x → P x) → (seen xs : List X) → AreItems I seen xs → AllByRecursion P xs
items_all I P each seen [] are = tt
items_all I P each seen (x ∷ xs) are = (each seen x are.0, items_all I P each (seen ++ x ∷ []) xs are.1)

-- each of them differs from those behind it
abbrev Apart : {X : Type 0} → (X → X → Type 0) → List X → Type 0
Apart Differs [] = Unit {0}
Apart Differs (x ∷ xs) = AllByRecursion (Differs x) xs × Apart Differs xs

module _ {X : Type 0} (I : List X → X → Type 0) (P : X → Type 0) (Fresh : List X → X → Type 0) (Differs : X → X → Type 0) where
  fresh_next : ((seen : List X) (y x : X) → P y → P x → Fresh seen x → Differs y x → Fresh (seen ++ y ∷ []) x)
      → (seen : List X) (y : X) (xs : List X) → P y → AllByRecursion P xs → AllByRecursion (Fresh seen) xs → AllByRecursion (Differs y) xs → AllByRecursion (Fresh (seen ++ y ∷ [])) xs
  fresh_next next seen y [] is all fresh differ = tt
  fresh_next next seen y (x ∷ xs) is all fresh differ = (next seen y x is all.0 fresh.0 differ.0, fresh_next next seen y xs is all.1 fresh.1 differ.1)

  -- items that differ from one another and from those before them are each new where they stand
  are_items : ((seen : List X) (x : X) → P x → Fresh seen x → I seen x) → ((seen : List X) (y x : X) → P y → P x → Fresh seen x → Differs y x → Fresh (seen ++ y ∷ []) x)
      → (seen xs : List X) → AllByRecursion P xs → AllByRecursion (Fresh seen) xs → Apart Differs xs → AreItems I seen xs
  are_items make next seen [] all fresh apart = tt
  are_items make next seen (x ∷ xs) all fresh apart =
      (make seen x all.0 fresh.0, are_items make next (seen ++ x ∷ []) xs all.1 (fresh_next next seen x xs all.0 all.1 fresh.1 apart.0) apart.1)

  -- and the other way round
  are_apart : ((seen : List X) (x : X) → I seen x → Fresh seen x) → ((seen : List X) (y x : X) → Fresh (seen ++ y ∷ []) x → Fresh seen x × Differs y x)
      → (seen xs : List X) → AreItems I seen xs → AllByRecursion (Fresh seen) xs × Apart Differs xs
  are_apart new back seen [] are = (tt, tt)
  are_apart new back seen (x ∷ xs) are =
      let more = are_apart new back (seen ++ x ∷ []) xs are.1 in
      ((new seen x are.0, all_map (Fresh (seen ++ x ∷ [])) (Fresh seen) (λ y fresh. (back seen x y fresh).0) xs more.0), (all_map (Fresh (seen ++ x ∷ [])) (Differs x) (λ y fresh. (back seen x y fresh).1) xs more.0, more.1))

-- what passes for none of them isn't found
none_found : {X : Type 0} (p : X → Bool) (xs : List X) → AllByRecursion (λ x. p x ≡ false) xs → is_some (position p xs) ≡ false
none_found p [] all = refl
none_found p (x ∷ xs) all = ap is_some (position_later p x xs all.0) ∙ later (position p xs) (none_found p xs all.1)
  where
    later : (o : Option ℕ) → is_some o ≡ false → is_some (option_map suc o) ≡ false
    later None e = refl
    later (Some k) e = absurd cc

found_none : {X : Type 0} (p : X → Bool) (xs : List X) → is_some (position p xs) ≡ false → AllByRecursion (λ x. p x ≡ false) xs
found_none p [] e = tt
found_none {X} p (x ∷ xs) e = by_test (p x) refl (λ h. found_none p xs h)
  where
    later : (o : Option ℕ) → is_some (option_map suc o) ≡ false → is_some o ≡ false
    later None e = refl
    later (Some k) e = absurd cc

    by_test : (b : Bool) → p x ≡ b → (is_some (position p xs) ≡ false → AllByRecursion (λ (y : X). p y ≡ false) xs) → AllByRecursion (λ (y : X). p y ≡ false) (x ∷ xs)
    by_test true h more = absurd (clash (is_some (position p (x ∷ xs))) (ap is_some (position_first p x xs h)) e)
    by_test false h more = (h, more (later (position p xs) (ap is_some (sym (position_later p x xs h)) ∙ e)))

-- the last of them isn't found either
last_not : {X : Type 0} (p : X → Bool) (seen : List X) (y : X) → is_some (position p (seen ++ y ∷ [])) ≡ false → p y ≡ false
last_not p seen y e = false_from_ne_true (p y) (λ h. clash (is_some (position p (seen ++ y ∷ []))) (found_last p seen y h) e)

-- ---- lists without an item twice

abbrev IsNot : {X : Type 0} → X → X → Type 0
IsNot x y = x ≡ y → ⊥

all_front : {X : Type 0} (P : X → Type 0) (xs ys : List X) → AllByRecursion P (xs ++ ys) → AllByRecursion P xs × AllByRecursion P ys
all_front P [] ys all = (tt, all)
all_front P (x ∷ xs) ys all = let more = all_front P xs ys all.1 in ((all.0, more.0), more.1)

all_both : {X : Type 0} (P : X → Type 0) (xs ys : List X) → AllByRecursion P xs → AllByRecursion P ys → AllByRecursion P (xs ++ ys)
all_both P [] ys all more = more
all_both P (x ∷ xs) ys all more = (all.0, all_both P xs ys all.1 more)

-- of two lists, one behind the other
record AreDistinctBoth {X : Type 0} (xs ys : List X) : Type 0 where
  first : AreDistinct xs
  second : AreDistinct ys
  across : AllByRecursion (λ x. AllByRecursion (IsNot x) ys) xs

distinct_parts : {X : Type 0} (xs ys : List X) → AreDistinct (xs ++ ys) → AreDistinctBoth xs ys
distinct_parts [] ys are = record { first = tt; second = are; across = tt }
distinct_parts (x ∷ xs) ys are =
    let here = all_front (IsNot x) xs ys are.0 in
    let more = distinct_parts xs ys are.1 in
    record { first = (here.0, more.first); second = more.second; across = (here.1, more.across) }

parts_distinct : {X : Type 0} (xs ys : List X) → AreDistinctBoth xs ys → AreDistinct (xs ++ ys)
parts_distinct [] ys are = are.second
parts_distinct (x ∷ xs) ys are = (all_both (IsNot x) xs ys are.first.0 are.across.0, parts_distinct xs ys (record { first = are.first.1; second = are.second; across = are.across.1 }))

-- ---- names

name_is : (name : List ℕ) → length_in versions.Three (length name) ≡ Some (length name) → is_lawful_name name ≡ true → IsName name
name_is name e l =
    let lt = length_below (length name) (length name) e in
    let le : length name ≤ 96 = omega (arith, lt) in
    record { lawful = l; short = le }

length_again : (name : List ℕ) → IsName name → length_in versions.Three (length name) ≡ Some (length name)
length_again [] is = absurd (let e = is.lawful in cc)
length_again (b ∷ bs) is =
    let le : length (b ∷ bs) ≤ 96 = is.short in
    rw (lt-ltb 0 (length (b ∷ bs)) (omega arith), le-leb (length (b ∷ bs)) 96 le) refl

same_is : (a b : List ℕ) → same_name a b ≡ true → a ≡ b
same_is a b e = (bytes_eq-Decides a b).0 e

other_name : (a b : List ℕ) → (a ≡ b → ⊥) → same_name a b ≡ false
other_name a b differ = false_from_ne_true (same_name a b) (λ e. differ (same_is a b e))

not_same : (a b : List ℕ) → same_name a b ≡ false → a ≡ b → ⊥
not_same a b e is = clash (same_name a b) ((bytes_eq-Decides a b).1 is) e

-- ---- locations

-- a location of this type is one that is there
record IsThere (t : Ty) (loc : Loc) : Type 0 where
  cell : IsCell loc
  suits : is_type t (loc_type loc) ≡ true

bit_there : (b : Bool) (area : Area) (n : ℕ) (t : Ty) → ltb n 512 ≡ b → cond b (Some types.Bool) None ≡ Some t → IsThere t (Bit area n)
bit_there true area n t h e =
    let is : types.Bool ≡ t = some_is types.Bool t e in
    subst (λ (u : Ty). IsThere u (Bit area n)) is (record { cell = ltb-true n 512 h; suits = rw h refl })
bit_there false area n t h e = absurd cc

word_there : (b : Bool) (area : Area) (n : ℕ) (t : Ty) → ltb n 64 ≡ b → cond b (Some types.Int) None ≡ Some t → IsThere t (Word area n)
word_there true area n t h e =
    let is : types.Int ≡ t = some_is types.Int t e in
    subst (λ (u : Ty). IsThere u (Word area n)) is (record { cell = ltb-true n 64 h; suits = rw h refl })
word_there false area n t h e = absurd cc

pattern_there : (b : Bool) (area : Area) (n : ℕ) (t : Ty) → ltb n 64 ≡ b → cond b (Some types.Word) None ≡ Some t → IsThere t (Pattern area n)
pattern_there true area n t h e =
    let is : types.Word ≡ t = some_is types.Word t e in
    subst (λ (u : Ty). IsThere u (Pattern area n)) is (record { cell = ltb-true n 64 h; suits = rw h refl })
pattern_there false area n t h e = absurd cc

own_type : (d : DoubleType) → same_type (double_type d) (double_type d) ≡ true
own_type doubles.Dint = refl
own_type doubles.Time = refl
own_type doubles.Real = refl
own_type doubles.Dword = refl

double_there : (b : Bool) (area : Area) (n : ℕ) (d : DoubleType) (t : Ty) → begins_double n ≡ b → cond b (Some (double_type d)) None ≡ Some t → IsThere t (Double area n d)
double_there true area n d t h e =
    let is : double_type d ≡ t = some_is (double_type d) t e in
    subst (λ (u : Ty). IsThere u (Double area n d)) is (record { cell = h; suits = rw h (own_type d) })
double_there false area n d t h e = absurd cc

there : (loc : Loc) (t : Ty) → loc_type loc ≡ Some t → IsThere t loc
there (Bit area n) t e = bit_there (ltb n 512) area n t refl e
there (Word area n) t e = word_there (ltb n 64) area n t refl e
there (Pattern area n) t e = pattern_there (ltb n 64) area n t refl e
there (Double area n d) t e = double_there (begins_double n) area n d t refl e

cell_by : (o : Option Ty) (loc : Loc) → loc_type loc ≡ o → is_some o ≡ true → IsCell loc
cell_by None loc e h = absurd cc
cell_by (Some t) loc e h = (there loc t e).cell

cell_of : (loc : Loc) → is_some (loc_type loc) ≡ true → IsCell loc
cell_of loc h = cell_by (loc_type loc) loc refl h

typed_cell : (loc : Loc) → IsCell loc → is_some (loc_type loc) ≡ true
typed_cell (Bit area n) lt = rw (lt-ltb n 512 lt) refl
typed_cell (Word area n) lt = rw (lt-ltb n 64 lt) refl
typed_cell (Pattern area n) lt = rw (lt-ltb n 64 lt) refl
typed_cell (Double area n d) cell = rw cell refl

suits_is : (t : Ty) (o : Option Ty) → is_type t o ≡ true → o ≡ Some t
suits_is t (Some u) e = ap (λ (x : Ty). Some x) (sym (same_type_is t u e))
suits_is t None e = absurd cc

same_cell : (l loc : Loc) → IsCell l → IsCell loc → loc_code l ≡ loc_code loc → l ≡ loc
same_cell l loc cell other e = some_is l loc (sym (loc_again l cell) ∙ ap any_loc e ∙ loc_again loc other)

-- what a location of an image is
record IsLocated (seen : List Variable) (t : Ty) (loc : Loc) : Type 0 where
  type : loc_type loc ≡ Some t
  free : is_overlapped seen loc ≡ false

located_by : (seen : List Variable) (t : Ty) (x : CodedOperand) (loc : Loc) → free_loc seen t x ≡ Some (Some loc) → IsLocated seen t loc
located_by seen t (coded.Location l) loc e =
    let m = passes (is_free seen t l) (Some l) (Some loc) e in
    let a = both_true (is_type t (loc_type l)) (not (is_overlapped seen l)) m.0 in
    subst (IsLocated seen t) (some_is l loc m.1) (record { type = suits_is t (loc_type l) a.0; free = not_true (is_overlapped seen l) a.1 })
located_by seen t (coded.Variable i) loc e = absurd cc
located_by seen t (coded.Field i n) loc e = absurd cc
located_by seen t (coded.Constant k) loc e = absurd cc
located_by seen t coded.Unused loc e = absurd cc

located_is : (seen : List Variable) (t : Ty) (loc : Loc) → coded_location seen t (loc_code loc) ≡ Some (Some loc) → IsLocated seen t loc
located_is seen t loc e = by_code (with_code (loc_code loc)) e
  where
    by_code : (o : Option CodedOperand) → option_and_then (free_loc seen t) o ≡ Some (Some loc) → IsLocated seen t loc
    by_code None h = absurd cc
    by_code (Some x) h = located_by seen t x loc h

-- ---- first values

zero_is : (t : Ty) → is_zero (number_of (zero_of t)) ≡ true
zero_is types.Bool = refl
zero_is types.Int = refl
zero_is types.Dint = refl
zero_is types.Time = refl
zero_is types.Lint = refl
zero_is types.Real = refl
zero_is types.Word = refl
zero_is types.Dword = refl

start_by : (b : Bool) (v : Value) (t : Ty) → (b ≡ false → v ≡ zero_of t) → (b || is_zero (number_of v)) ≡ true
start_by true v t start = refl
start_by false v t start = ap (λ (x : Value). is_zero (number_of x)) (start refl) ∙ zero_is t

may_start : (v : Variable) (o : Option Loc) → ((loc : Loc) → o ≡ Some loc → MayLieAt v loc) → may_start_with o v.initial ≡ true
may_start v None each = refl
may_start v (Some loc) each = start_by (is_writable_area (area_of loc)) v.initial v.ty (each loc refl).start

zero_number : (z : ℤ) → is_zero z ≡ true → z ≡ pos 0
zero_number (pos n) e =
    let h = both_true (not (ltb n 0)) (not (ltb 0 n)) e in
    let le = ltb-false 0 n (not_true (ltb 0 n) h.1) in
    let is : n ≡ 0 = omega (arith, le) in
    ap pos is
zero_number (negsuc n) e = absurd cc

zero_value : (v : Value) → is_zero (number_of v) ≡ true → v ≡ zero_of (ty_of v)
zero_value (values.Bool true) e = absurd cc
zero_value (values.Bool false) e = refl
zero_value (values.Int z) e = ap values.Int (zero_number z e)
zero_value (values.Dint z) e = ap values.Dint (zero_number z e)
zero_value (values.Time z) e = ap values.Time (zero_number z e)
zero_value (values.Lint z) e = ap values.Lint (zero_number z e)
zero_value (values.Real r) e = real_same r zero_real (zero_number (pos r.pattern) e)
zero_value (values.Word n) e = ap (λ (z : ℤ). values.Word (nat_abs z)) (zero_number (pos n) e)
zero_value (values.Dword n) e = ap (λ (z : ℤ). values.Dword (nat_abs z)) (zero_number (pos n) e)

-- the first value of a variable of an image
record StartsSo (t : Ty) (o : Option Loc) (v : Value) : Type 0 where
  made : typed_value t (number_of v) ≡ Some v
  may : may_start_with o v ≡ true

starts_so : (t : Ty) (o : Option Loc) (v : Value) → initial_of t o (number_of v) ≡ Some v → StartsSo t o v
starts_so t o v e = let m = tested_some (may_start_with o) (typed_value t (number_of v)) v e in record { made = m.0; may = m.1 }

no_start : (b : Bool) (v : Value) (t : Ty) → ty_of v ≡ t → (b || is_zero (number_of v)) ≡ true → b ≡ false → v ≡ zero_of t
no_start true v t is e h = absurd cc
no_start false v t is e h = zero_value v e ∙ ap zero_of is

-- ---- variables

-- the bits and words at which a variable lies
abbrev parts_at : Option Loc → List Loc
parts_at None = []
parts_at (Some loc) = parts_of loc

-- none of them is one of the others
abbrev AreDisjoint : List Loc → List Loc → Type 0
AreDisjoint xs ys = AllByRecursion (λ x. AllByRecursion (IsNot x) ys) xs

-- no variable lies at one of them
abbrev AreUntaken : List Variable → List Loc → Type 0
AreUntaken seen parts = AllByRecursion (λ (part : Loc). is_taken seen (loc_code part) ≡ false) parts

-- no variable before has its name, or lies where it does
record IsFreeVariable (seen : List Variable) (v : Variable) : Type 0 where
  name : is_some (is_number seen v.name) ≡ false
  location : AreUntaken seen (parts_at v.location)

-- two variables have neither one name nor one bit or word
record AreOther (v w : Variable) : Type 0 where
  names : v.name ≡ w.name → ⊥
  locations : AreDisjoint (parts_at v.location) (parts_at w.location)

any_false : {X : Type 0} (p : X → Bool) (xs : List X) → AllByRecursion (λ x. p x ≡ false) xs → list_any p xs ≡ false
any_false p [] all = refl
any_false p (x ∷ xs) all = rw all.0 (any_false p xs all.1)

neither : (a b : Bool) → (a || b) ≡ false → (a ≡ false) × (b ≡ false)
neither true b e = absurd cc
neither false b e = (refl, e)

false_any : {X : Type 0} (p : X → Bool) (xs : List X) → list_any p xs ≡ false → AllByRecursion (λ x. p x ≡ false) xs
false_any p [] e = tt
false_any p (x ∷ xs) e = let m = neither (p x) (list_any p xs) e in (m.0, false_any p xs m.1)

abbrev is_called : List ℕ → Variable → Bool
is_called name v = same_name v.name name

abbrev lies_at : ℕ → Variable → Bool
lies_at n v = has_code n v.location

located_again_by : (seen : List Variable) (v : Variable) (o : Option Loc) → v.location ≡ o → IsVariable v → IsFreeVariable seen v → (coded_location seen v.ty (location_code o) ≡ Some o) × (location_code o < 2 ^ 16)
located_again_by seen v None e is free = (refl, omega arith)
located_again_by seen v (Some loc) e is free =
    let at = there loc v.ty (is.location loc e).type in
    let untaken : AreUntaken seen (parts_of loc) = subst (λ (o : Option Loc). AreUntaken seen (parts_at o)) e free.location in
    (located_again seen v.ty loc at.cell at.suits (any_false (λ (part : Loc). is_taken seen (loc_code part)) (parts_of loc) untaken), omega (arith, loc_small loc at.cell))

variable_new : (seen : List Variable) (v : Variable) → IsVariable v → IsFreeVariable seen v → fitting.IsVariable seen v
variable_new seen v is free =
    let at = located_again_by seen v v.location refl is free in
    let made : typed_value v.ty (number_of v.initial) ≡ Some v.initial = subst (λ (t : Ty). typed_value t (number_of v.initial) ≡ Some v.initial) is.type is.range in
    record {
      length = length_again v.name is.name;
      name = true_both (is_lawful_name v.name) (not (is_some (is_number seen v.name))) is.name.lawful (true_not (is_some (is_number seen v.name)) free.name);
      type = type_again v.ty;
      location = at.0;
      location_small = at.1;
      initial = again (may_start_with v.location) (typed_value v.ty (number_of v.initial)) v.initial made (may_start v v.location is.location);
    }

has_code_parts : (n : ℕ) (o : Option Loc) → has_code n o ≡ list_any (λ (part : Loc). nat_eq (loc_code part) n) (parts_at o)
has_code_parts n None = refl
has_code_parts n (Some loc) = refl

no_code_in : (qs : List Loc) (part : Loc) → IsCell part → AllByRecursion IsCell qs → AllByRecursion (λ (q : Loc). q ≡ part → ⊥) qs → AllByRecursion (λ (q : Loc). nat_eq (loc_code q) (loc_code part) ≡ false) qs
no_code_in [] part cell cells other = tt
no_code_in (q ∷ qs) part cell cells other =
    (false_from_ne_true (nat_eq (loc_code q) (loc_code part)) (λ e. other.0 (same_cell q part cells.0 cell (eqb-true (loc_code q) (loc_code part) e))), no_code_in qs part cell cells.1 other.1)

no_code : (o : Option Loc) (part : Loc) → IsCell part → AllByRecursion IsCell (parts_at o) → AllByRecursion (λ (q : Loc). q ≡ part → ⊥) (parts_at o) → has_code (loc_code part) o ≡ false
no_code o part cell cells other = has_code_parts (loc_code part) o ∙ any_false (λ (q : Loc). nat_eq (loc_code q) (loc_code part)) (parts_at o) (no_code_in (parts_at o) part cell cells other)

parts_cells : (loc : Loc) → IsCell loc → AllByRecursion IsCell (parts_of loc)
parts_cells (Bit a n) lt = (lt, tt)
parts_cells (Word a n) lt = (lt, tt)
parts_cells (Pattern a n) lt = (lt, tt)
parts_cells (Double a n d) cell = let lt = double_fits n cell in (omega (arith, lt), (lt, tt))

cells_by : (o : Option Loc) → ((loc : Loc) → o ≡ Some loc → IsCell loc) → AllByRecursion IsCell (parts_at o)
cells_by None cells = tt
cells_by (Some loc) cells = parts_cells loc (cells loc refl)

cells_at : (v : Variable) → IsVariable v → AllByRecursion IsCell (parts_at v.location)
cells_at v is = cells_by v.location (λ loc e. (there loc v.ty (is.location loc e).type).cell)

still_untaken : (seen : List Variable) (y : Variable) (ps : List Loc) → AllByRecursion IsCell ps → AllByRecursion IsCell (parts_at y.location) → AreUntaken seen ps → AreDisjoint (parts_at y.location) ps → AreUntaken (seen ++ y ∷ []) ps
still_untaken seen y [] cells y-cells free apart = tt
still_untaken seen y (p ∷ ps) cells y-cells free apart = (
  ap is_some (position_past (lies_at (loc_code p)) seen y (no_code y.location p cells.0 y-cells (all_map (λ (q : Loc). AllByRecursion (IsNot q) (p ∷ ps)) (λ (q : Loc). q ≡ p → ⊥) (λ q h. h.0) (parts_at y.location) apart))) ∙ free.0,
  still_untaken seen y ps cells.1 y-cells free.1 (all_map (λ (q : Loc). AllByRecursion (IsNot q) (p ∷ ps)) (λ (q : Loc). AllByRecursion (IsNot q) ps) (λ q h. h.1) (parts_at y.location) apart),
)

-- a variable that differs from one more before it
variable_next : (seen : List Variable) (y v : Variable) → IsVariable y → IsVariable v → IsFreeVariable seen v → AreOther y v → IsFreeVariable (seen ++ y ∷ []) v
variable_next seen y v is-y is free other = record {
  name = ap is_some (position_past (is_called v.name) seen y (other_name y.name v.name other.names)) ∙ free.name;
  location = still_untaken seen y (parts_at v.location) (cells_at v is) (cells_at y is-y) free.location other.locations;
}

variable_free : (seen : List Variable) (v : Variable) → fitting.IsVariable seen v → IsFreeVariable seen v
variable_free seen v is = record {
  name = not_true (is_some (is_number seen v.name)) (both_true (is_lawful_name v.name) (not (is_some (is_number seen v.name))) is.name).1;
  location = free_by v.location refl;
}
  where
    free_by : (o : Option Loc) → v.location ≡ o → AreUntaken seen (parts_at o)
    free_by None e = tt
    free_by (Some loc) e = false_any (λ (part : Loc). is_taken seen (loc_code part)) (parts_of loc) (located_is seen v.ty loc (subst (λ (o : Option Loc). coded_location seen v.ty (location_code o) ≡ Some o) e is.location)).free

-- what holds of each pair
transposed : {X Y : Type 0} (R : X → Y → Type 0) (xs : List X) (ys : List Y) → AllByRecursion (λ (y : Y). AllByRecursion (λ (x : X). R x y) xs) ys → AllByRecursion (λ (x : X). AllByRecursion (λ (y : Y). R x y) ys) xs
transposed R [] ys all = tt
transposed {X} {Y} R (x ∷ xs) ys all = (
  all_map (λ (y : Y). AllByRecursion (λ (z : X). R z y) (x ∷ xs)) (λ (y : Y). R x y) (λ y h. h.0) ys all,
  transposed R xs ys (all_map (λ (y : Y). AllByRecursion (λ (z : X). R z y) (x ∷ xs)) (λ (y : Y). AllByRecursion (λ (z : X). R z y) xs) (λ y h. h.1) ys all),
)

-- no part of y is the part, where y doesn't lie at its code
not_there : (y : Variable) (part : Loc) → has_code (loc_code part) y.location ≡ false → AllByRecursion (λ (q : Loc). q ≡ part → ⊥) (parts_at y.location)
not_there y part e =
    let none = false_any (λ (q : Loc). nat_eq (loc_code q) (loc_code part)) (parts_at y.location) (sym (has_code_parts (loc_code part) y.location) ∙ e) in
    all_map (λ (q : Loc). nat_eq (loc_code q) (loc_code part) ≡ false) (λ (q : Loc). q ≡ part → ⊥) (λ q h is. clash (nat_eq (loc_code q) (loc_code part)) (eq-eqb (loc_code q) (loc_code part) (ap loc_code is)) h) (parts_at y.location) none

variable_back : (seen : List Variable) (y v : Variable) → IsFreeVariable (seen ++ y ∷ []) v → IsFreeVariable seen v × AreOther y v
variable_back seen y v free = (
  record {
    name = not_in_front (is_called v.name) seen (y ∷ []) free.name;
    location = all_map (λ (part : Loc). is_taken (seen ++ y ∷ []) (loc_code part) ≡ false) (λ (part : Loc). is_taken seen (loc_code part) ≡ false) (λ part h. not_in_front (lies_at (loc_code part)) seen (y ∷ []) h) (parts_at v.location) free.location;
  },
  record {
    names = not_same y.name v.name (last_not (is_called v.name) seen y free.name);
    locations = transposed (λ (q part : Loc). q ≡ part → ⊥) (parts_at y.location) (parts_at v.location)
        (all_map (λ (part : Loc). is_taken (seen ++ y ∷ []) (loc_code part) ≡ false) (λ (part : Loc). AllByRecursion (λ (q : Loc). q ≡ part → ⊥) (parts_at y.location)) (λ part h. not_there y part (last_not (lies_at (loc_code part)) seen y h)) (parts_at v.location) free.location);
  },
)

variable_is : (seen : List Variable) (v : Variable) → fitting.IsVariable seen v → IsVariable v
variable_is seen v is =
    let first = starts_so v.ty v.location v.initial is.initial in
    let type = made_type v.ty (number_of v.initial) v.initial first.made in
    record {
      name = name_is v.name is.length (both_true (is_lawful_name v.name) (not (is_some (is_number seen v.name))) is.name).0;
      type = type;
      range = made_value v.ty (number_of v.initial) v.initial first.made;
      location = λ loc e. record {
        type = (located_is seen v.ty loc (subst (λ (o : Option Loc). coded_location seen v.ty (location_code o) ≡ Some o) e is.location)).type;
        start = no_start (is_writable_area (area_of loc)) v.initial v.ty type (subst (λ (o : Option Loc). may_start_with o v.initial ≡ true) e first.may);
      };
    }

-- ---- the names and the locations of variables

abbrev name_of : Variable → List ℕ
name_of v = v.name

abbrev location_of : Variable → Option Loc
location_of v = v.location

-- the bits and words of all
abbrev all_parts : List Variable → List Loc
all_parts vs = flat_map parts_of (filter_map location_of vs)

parts_first : (o : Option Loc) (locs : List Loc) → flat_map parts_of (cons_option o locs) ≡ parts_at o ++ flat_map parts_of locs
parts_first None locs = refl
parts_first (Some loc) locs = refl

disjoint_front : (xs ys zs : List Loc) → AreDisjoint xs (ys ++ zs) → AreDisjoint xs ys × AreDisjoint xs zs
disjoint_front xs ys zs all = (
  all_map (λ (x : Loc). AllByRecursion (IsNot x) (ys ++ zs)) (λ (x : Loc). AllByRecursion (IsNot x) ys) (λ x h. (all_front (IsNot x) ys zs h).0) xs all,
  all_map (λ (x : Loc). AllByRecursion (IsNot x) (ys ++ zs)) (λ (x : Loc). AllByRecursion (IsNot x) zs) (λ x h. (all_front (IsNot x) ys zs h).1) xs all,
)

disjoint_both : (xs ys zs : List Loc) → AreDisjoint xs ys → AreDisjoint xs zs → AreDisjoint xs (ys ++ zs)
disjoint_both [] ys zs a b = tt
disjoint_both (x ∷ xs) ys zs a b = (all_both (IsNot x) ys zs a.0 b.0, disjoint_both xs ys zs a.1 b.1)

disjoint_none : (xs : List Loc) → AreDisjoint xs []
disjoint_none [] = tt
disjoint_none (x ∷ xs) = (tt, disjoint_none xs)

others_apart : (v : Variable) (vs : List Variable) → AllByRecursion (IsNot v.name) (map name_of vs) → AreDisjoint (parts_at v.location) (all_parts vs) → AllByRecursion (AreOther v) vs
others_apart v [] names apart = tt
others_apart v (w ∷ vs) names apart =
    let split = disjoint_front (parts_at v.location) (parts_at w.location) (all_parts vs) (subst (AreDisjoint (parts_at v.location)) (parts_first w.location (filter_map location_of vs)) apart) in
    (record { names = names.0; locations = split.0 }, others_apart v vs names.1 split.1)

variables_apart : (vs : List Variable) → AreDistinct (map name_of vs) → AreDistinct (all_parts vs) → Apart AreOther vs
variables_apart [] names locations = tt
variables_apart (v ∷ vs) names locations =
    let split = distinct_parts (parts_at v.location) (all_parts vs) (subst (λ (parts : List Loc). AreDistinct parts) (parts_first v.location (filter_map location_of vs)) locations) in
    (others_apart v vs names.0 split.across, variables_apart vs names.1 split.second)

names_apart : (v : Variable) (vs : List Variable) → AllByRecursion (AreOther v) vs → AllByRecursion (IsNot v.name) (map name_of vs)
names_apart v [] all = tt
names_apart v (w ∷ vs) all = (all.0.names, names_apart v vs all.1)

apart_names : (vs : List Variable) → Apart AreOther vs → AreDistinct (map name_of vs)
apart_names [] are = tt
apart_names (v ∷ vs) are = (names_apart v vs are.0, apart_names vs are.1)

locations_apart : (v : Variable) (vs : List Variable) → AllByRecursion (AreOther v) vs → AreDisjoint (parts_at v.location) (all_parts vs)
locations_apart v [] all = disjoint_none (parts_at v.location)
locations_apart v (w ∷ vs) all =
    subst (AreDisjoint (parts_at v.location)) (sym (parts_first w.location (filter_map location_of vs)))
    (disjoint_both (parts_at v.location) (parts_at w.location) (all_parts vs) all.0.locations (locations_apart v vs all.1))

-- the number of a location
abbrev number_at : Loc → ℕ
number_at (Bit a n) = n
number_at (Word a n) = n
number_at (Pattern a n) = n
number_at (Double a n d) = n

-- a double word is two words
two_words : (a : Area) (n : ℕ) → IsNot (Word a n) (Word a (suc n))
two_words a n e = let is : n ≡ suc n = ap number_at e in absurd (omega (arith, is))

own_distinct : (o : Option Loc) → AreDistinct (parts_at o)
own_distinct None = tt
own_distinct (Some (Bit a n)) = (tt, tt)
own_distinct (Some (Word a n)) = (tt, tt)
own_distinct (Some (Pattern a n)) = (tt, tt)
own_distinct (Some (Double a n d)) = ((two_words a n, tt), (tt, tt))

apart_locations : (vs : List Variable) → Apart AreOther vs → AreDistinct (all_parts vs)
apart_locations [] are = tt
apart_locations (v ∷ vs) are =
    subst (λ (parts : List Loc). AreDistinct parts) (sym (parts_first v.location (filter_map location_of vs)))
    (parts_distinct (parts_at v.location) (all_parts vs) (record { first = own_distinct v.location; second = apart_locations vs are.1; across = locations_apart v vs are.0 }))

untaken_none : (ps : List Loc) → AreUntaken [] ps
untaken_none [] = tt
untaken_none (p ∷ ps) = (refl, untaken_none ps)

none_free : (vs : List Variable) → AllByRecursion (IsFreeVariable []) vs
none_free [] = tt
none_free (v ∷ vs) = (record { name = refl; location = untaken_none (parts_at v.location) }, none_free vs)

-- ---- instances

-- no instance before has its name
abbrev IsFreeInstance : List Instance → Instance → Type 0
IsFreeInstance seen x = is_some (instance_in seen x.name) ≡ false

abbrev AreOtherInstances : Instance → Instance → Type 0
AreOtherInstances x y = x.name ≡ y.name → ⊥

abbrev has_name : List ℕ → Instance → Bool
has_name name x = same_name x.name name

-- its name is none of a variable, and none stands under it
record IsOwnName (vs : List Variable) (x : Instance) : Type 0 where
  name : IsName x.name
  own : is_some (is_number vs x.name) ≡ false
  apart : has_under vs x.name ≡ false

instance_new : (vs : List Variable) (seen : List Instance) (x : Instance) → IsOwnName vs x → IsFreeInstance seen x → fitting.IsInstance vs seen x
instance_new vs seen x is free =
    let lawful = true_both (is_lawful_name x.name) (not (is_some (is_number vs x.name))) is.name.lawful (true_not (is_some (is_number vs x.name)) is.own) in
    let new = true_both (is_new_name vs x.name) (not (is_some (instance_in seen x.name))) lawful (true_not (is_some (instance_in seen x.name)) free) in
    record {
      length = length_again x.name is.name;
      name = true_both (is_new_name vs x.name && not (is_some (instance_in seen x.name))) (not (has_under vs x.name)) new (true_not (has_under vs x.name) is.apart);
    }

instance_next : (vs : List Variable) (seen : List Instance) (y x : Instance) → IsOwnName vs y → IsOwnName vs x → IsFreeInstance seen x → AreOtherInstances y x → IsFreeInstance (seen ++ y ∷ []) x
instance_next vs seen y x is-y is free other = ap is_some (position_past (has_name x.name) seen y (other_name y.name x.name other)) ∙ free

instance_own : (vs : List Variable) (seen : List Instance) (x : Instance) → fitting.IsInstance vs seen x → IsOwnName vs x
instance_own vs seen x is =
    let all = both_true (is_new_name vs x.name && not (is_some (instance_in seen x.name))) (not (has_under vs x.name)) is.name in
    let new = both_true (is_new_name vs x.name) (not (is_some (instance_in seen x.name))) all.0 in
    let own = both_true (is_lawful_name x.name) (not (is_some (is_number vs x.name))) new.0 in
    record { name = name_is x.name is.length own.0; own = not_true (is_some (is_number vs x.name)) own.1; apart = not_true (has_under vs x.name) all.1 }

instance_free : (vs : List Variable) (seen : List Instance) (x : Instance) → fitting.IsInstance vs seen x → IsFreeInstance seen x
instance_free vs seen x is =
    let all = both_true (is_new_name vs x.name && not (is_some (instance_in seen x.name))) (not (has_under vs x.name)) is.name in
    not_true (is_some (instance_in seen x.name)) (both_true (is_new_name vs x.name) (not (is_some (instance_in seen x.name))) all.0).1

instance_back : (seen : List Instance) (y x : Instance) → IsFreeInstance (seen ++ y ∷ []) x → IsFreeInstance seen x × AreOtherInstances y x
instance_back seen y x free = (not_in_front (has_name x.name) seen (y ∷ []) free, not_same y.name x.name (last_not (has_name x.name) seen y free))

abbrev instance_name : Instance → List ℕ
instance_name x = x.name

-- a property of the names of a list
named_all : {X : Type 0} (name : X → List ℕ) (P : List ℕ → Type 0) (xs : List X) → AllByRecursion P (map name xs) → AllByRecursion (λ x. P (name x)) xs
named_all name P [] all = tt
named_all name P (x ∷ xs) all = (all.0, named_all name P xs all.1)

all_named : {X : Type 0} (name : X → List ℕ) (P : List ℕ → Type 0) (xs : List X) → AllByRecursion (λ x. P (name x)) xs → AllByRecursion P (map name xs)
all_named name P [] all = tt
all_named name P (x ∷ xs) all = (all.0, all_named name P xs all.1)

instances_apart : (xs : List Instance) → AreDistinct (map instance_name xs) → Apart AreOtherInstances xs
instances_apart [] are = tt
instances_apart (x ∷ xs) are = (named_all instance_name (IsNot x.name) xs are.0, instances_apart xs are.1)

apart_instances : (xs : List Instance) → Apart AreOtherInstances xs → AreDistinct (map instance_name xs)
apart_instances [] are = tt
apart_instances (x ∷ xs) are = (all_named instance_name (IsNot x.name) xs are.0, apart_instances xs are.1)

no_instances : (xs : List Instance) → AllByRecursion (IsFreeInstance []) xs
no_instances [] = tt
no_instances (x ∷ xs) = (refl, no_instances xs)

-- the name is that of no variable
no_variable : (vs : List Variable) (name : List ℕ) → AllByRecursion (λ (v : Variable). v.name ≡ name → ⊥) vs → is_some (is_number vs name) ≡ false
no_variable vs name all = none_found (is_called name) vs (all_map (λ (v : Variable). v.name ≡ name → ⊥) (λ (v : Variable). is_called name v ≡ false) (λ v differ. other_name v.name name differ) vs all)

-- names of one list that are none of another
across : (vs : List Variable) (x : List ℕ) (xs : List (List ℕ)) → AllByRecursion (λ (n : List ℕ). AllByRecursion (IsNot n) (x ∷ xs)) (map name_of vs)
    → AllByRecursion (λ (v : Variable). v.name ≡ x → ⊥) vs × AllByRecursion (λ (n : List ℕ). AllByRecursion (IsNot n) xs) (map name_of vs)
across [] x xs all = (tt, tt)
across (v ∷ vs) x xs all = let more = across vs x xs all.1 in ((all.0.0, more.0), (all.0.1, more.1))

own_names : (vs : List Variable) (xs : List Instance) → AllByRecursion (λ (x : Instance). IsName x.name) xs → AllByRecursion (λ (n : List ℕ). AllByRecursion (IsNot n) (map instance_name xs)) (map name_of vs)
    → AllByRecursion (λ (x : Instance). has_under vs x.name ≡ false) xs → AllByRecursion (IsOwnName vs) xs
own_names vs [] names apart free = tt
own_names vs (x ∷ xs) names apart free =
    let more = across vs x.name (map instance_name xs) apart in
    (record { name = names.0; own = no_variable vs x.name more.0; apart = free.0 }, own_names vs xs names.1 more.1 free.1)

-- the name of each variable differs from those of all instances
name_across : (vs : List Variable) (v : Variable) (xs : List Instance) → AllByRecursion (λ (x : Instance). same_name v.name x.name ≡ false) xs → AllByRecursion (IsNot v.name) (map instance_name xs)
name_across vs v [] all = tt
name_across vs v (x ∷ xs) all = (not_same v.name x.name all.0, name_across vs v xs all.1)

not_called : (vs : List Variable) (xs : List Instance) → AllByRecursion (λ (x : Instance). AllByRecursion (λ (v : Variable). is_called x.name v ≡ false) vs) xs
    → AllByRecursion (λ (n : List ℕ). AllByRecursion (IsNot n) (map instance_name xs)) (map name_of vs)
not_called [] xs all = tt
not_called (v ∷ vs) xs all = (
  name_across vs v xs (all_map (λ (x : Instance). AllByRecursion (λ (w : Variable). is_called x.name w ≡ false) (v ∷ vs)) (λ (x : Instance). same_name v.name x.name ≡ false) (λ x is. is.0) xs all),
  not_called vs xs (all_map (λ (x : Instance). AllByRecursion (λ (w : Variable). is_called x.name w ≡ false) (v ∷ vs)) (λ (x : Instance). AllByRecursion (λ (w : Variable). is_called x.name w ≡ false) vs) (λ x is. is.1) xs all),
)

names_across : (vs : List Variable) (xs : List Instance) → AllByRecursion (IsOwnName vs) xs → AllByRecursion (λ (n : List ℕ). AllByRecursion (IsNot n) (map instance_name xs)) (map name_of vs)
names_across vs xs own = not_called vs xs (all_map (IsOwnName vs) (λ (x : Instance). AllByRecursion (λ (v : Variable). is_called x.name v ≡ false) vs) (λ x is. found_none (is_called x.name) vs is.own) xs own)

-- ---- operands of well-formed programs are lawful

bound_some : {A B : Type 0} (o : Option A) (f : A → Option B) (y : B) → option_and_then f o ≡ Some y → is_some o ≡ true
bound_some None f y e = absurd cc
bound_some (Some x) f y e = refl

mapped_some : {A B : Type 0} (o : Option A) (f : A → B) (y : B) → option_map f o ≡ Some y → is_some o ≡ true
mapped_some None f y e = absurd cc
mapped_some (Some x) f y e = refl

-- an operand that stands for something
operand_lawful : (Q : Program) (o : Operand) (src : Source) → IsOperand o → source_of Q o ≡ Some src → lawful.IsOperand (declared_by Q) o
operand_lawful Q operands.Absent src is e = tt
operand_lawful Q (operands.Literal v) src is e = is
operand_lawful Q (operands.Bare z) src is e = tt
operand_lawful Q (operands.Variable name) src is e =
    let place = map_some (place_of Q name) sources.Of src e in
    bound_some (variable_number Q name) (λ i. option_map (variable_place i) (slice_get Q.variables i)) place.0 place.1
operand_lawful Q (operands.Direct loc) src is e = (cell_of loc is.0, is.1)
operand_lawful Q (operands.Label name) src is e = tt
operand_lawful Q (operands.Field name field) src is e =
    let place = map_some (field_of Q name field) sources.Of src e in
    bound_some (instance_in Q.instances name) (λ i. option_and_then (numbered_field i field) (slice_get Q.instances i)) place.0 place.1
operand_lawful Q (operands.Instance name) src is e = mapped_some (instance_number Q name) sources.Instance src e

passes_no : (side : Side) (t : Ty) (kind : OperandKind) → passing_fault side t kind ≡ None → (kind ≡ kinds.Absent → ⊥) × (kind ≡ kinds.Target → ⊥) × (kind ≡ kinds.Instance → ⊥)
passes_no side t kind e = (
  λ is. absent side t (ap (passing_fault side t) (sym is) ∙ e),
  λ is. target side t (ap (passing_fault side t) (sym is) ∙ e),
  λ is. called side t (ap (passing_fault side t) (sym is) ∙ e),
)
  where
    absent : (side : Side) (t : Ty) → passing_fault side t kinds.Absent ≡ None → ⊥
    absent sides.Input t e = cc
    absent sides.Output t e = cc

    target : (side : Side) (t : Ty) → passing_fault side t kinds.Target ≡ None → ⊥
    target sides.Input t e = cc
    target sides.Output t e = cc

    called : (side : Side) (t : Ty) → passing_fault side t kinds.Instance ≡ None → ⊥
    called sides.Input t e = cc
    called sides.Output t e = cc

target_kind : (Q : Program) (o : Option ℕ) (src : Source) → option_map sources.Target o ≡ Some src → source_kind Q src ≡ kinds.Target
target_kind Q None src e = absurd cc
target_kind Q (Some n) src e = ap (source_kind Q) (sym (some_is (sources.Target n) src e))

instance_kind : (Q : Program) (o : Option ℕ) (src : Source) → option_map sources.Instance o ≡ Some src → source_kind Q src ≡ kinds.Instance
instance_kind Q None src e = absurd cc
instance_kind Q (Some n) src e = ap (source_kind Q) (sym (some_is (sources.Instance n) src e))

-- what is passed is a value or a place
passed_form : (Q : Program) (o : Operand) (src : Source) (side : Side) (t : Ty) → source_of Q o ≡ Some src → passing_fault side t (source_kind Q src) ≡ None → has_form forms.Value false o ≡ true
passed_form Q operands.Absent src side t e passed = absurd ((passes_no side t (source_kind Q src) passed).0 (ap (source_kind Q) (sym (some_is sources.Absent src e))))
passed_form Q (operands.Literal v) src side t e passed = refl
passed_form Q (operands.Bare z) src side t e passed = absurd cc
passed_form Q (operands.Variable name) src side t e passed = refl
passed_form Q (operands.Direct loc) src side t e passed = refl
passed_form Q (operands.Label name) src side t e passed = absurd ((passes_no side t (source_kind Q src) passed).1 (target_kind Q (target_of Q name) src e))
passed_form Q (operands.Field name field) src side t e passed = refl
passed_form Q (operands.Instance name) src side t e passed = absurd ((passes_no side t (source_kind Q src) passed).2 (instance_kind Q (instance_number Q name) src e))

arguments_passed : (Q : Program) (k : BlockKind) (args : List Argument) → AllByRecursion (IsArgumentOf Q k) args → AllByRecursion IsOperand (map (λ (a : Argument). a.operand) args) → AllByRecursion (lawful.IsPassed (declared_by Q)) args
arguments_passed Q k [] typed all = tt
arguments_passed Q k (a ∷ args) typed all = (
  record { form = passed_form Q a.operand typed.0.source a.side (field_type typed.0.field) typed.0.sourced typed.0.passes; operand = operand_lawful Q a.operand typed.0.source all.0 typed.0.sourced },
  arguments_passed Q k args typed.1 all.1,
)

arguments_lawful : (kind : Option BlockKind) (Q : Program) (args : List Argument) → arguments_fault Q kind [] args ≡ None → AllByRecursion IsOperand (map (λ (a : Argument). a.operand) args) → AllByRecursion (lawful.IsPassed (declared_by Q)) args
arguments_lawful None Q args e all = subst (AllByRecursion (lawful.IsPassed (declared_by Q))) (sym (no_arguments Q [] args e)) tt
arguments_lawful (Some k) Q args e all = arguments_passed Q k args (arguments_typed Q k [] args e) all

-- ---- instructions of well-formed programs are lawful

label_lawful : (o : Option (List ℕ)) → ((name : List ℕ) → o ≡ Some name → IsName name) → lawful.IsLabel o
label_lawful None each = tt
label_lawful (Some name) each = (length_again name (each name refl), (each name refl).lawful)

pointed : (op : Op) (o : Option (List ℕ)) → (op ≡ ops.Empty → is_some o ≡ true) → (is_empty op && is_none o) ≡ false
pointed ops.Empty None has = absurd (let e = has refl in cc)
pointed ops.Empty (Some name) has = refl
pointed _ o has = refl

line_lawful : (Q : Program) (line : Instr) → IsInstruction line → IsTypedLine Q line → lawful.IsLawful (declared_by Q) line
line_lawful Q line is typed = record {
  letters = is.letters;
  form = is.form;
  operand = operand_lawful Q line.operand typed.source is.operands.0 typed.sourced;
  arguments = arguments_lawful (called_kind Q line.operand) Q line.arguments typed.arguments is.operands.1;
  label = label_lawful line.label is.label;
  labelled = pointed line.op line.label is.labelled;
}

lines_lawful : (Q : Program) (code : List Instr) → AllByRecursion IsInstruction code → AllByRecursion (IsTypedLine Q) code → lawful.AreLawful (declared_by Q) code
lines_lawful Q [] all typed = tt
lines_lawful Q (line ∷ code) all typed = (line_lawful Q line all.0 typed.0, lines_lawful Q code all.1 typed.1)

-- a well-formed program has an image
pub has_image : (Q : Program) → IsWellFormed Q → IsImage Q
has_image Q is =
    let parts = distinct_parts (map name_of Q.variables) (map instance_name Q.instances) is.names in
    let variables = are_items fitting.IsVariable IsVariable IsFreeVariable AreOther variable_new variable_next [] Q.variables is.variables (none_free Q.variables) (variables_apart Q.variables parts.first is.locations) in
    let own = own_names Q.variables Q.instances is.instances parts.across is.apart in
    let instances = are_items (fitting.IsInstance Q.variables) (IsOwnName Q.variables) IsFreeInstance AreOtherInstances (instance_new Q.variables) (instance_next Q.variables) [] Q.instances own (no_instances Q.instances) (instances_apart Q.instances parts.second) in
    lawful_image Q variables instances is.small (lines_lawful Q Q.code is.code (typed_lines Q (faultless Q is.typed))) is.typed

-- ---- what is read of an image is lawful

constant_ranged : (seen : List Value) (v : Value) → IsConstant seen v → IsInRange v
constant_ranged seen v is = (tested_some (λ w. not (is_known seen w)) (typed_value (ty_of v) (number_of v)) v is.value).0

variable_read : (x : Option Variable) (o : Operand) → variable_named x ≡ Some o → IsOperand o
variable_read None o e = absurd cc
variable_read (Some v) o e = subst IsOperand (some_is (operands.Variable v.name) o e) tt

instance_read : (x : Option Instance) (o : Operand) → instance_named x ≡ Some o → IsOperand o
instance_read None o e = absurd cc
instance_read (Some x) o e = subst IsOperand (some_is (operands.Instance x.name) o e) tt

mapped_is : {A B : Type 0} (P : B → Type 0) (o : Option A) (f : A → B) (y : B) → ((x : A) → o ≡ Some x → P (f x)) → option_map f o ≡ Some y → P y
mapped_is P None f y each e = absurd cc
mapped_is P (Some x) f y each e = subst P (some_is (f x) y e) (each x refl)

field_read : (x : Option Instance) (n : ℕ) (o : Operand) → field_named x n ≡ Some o → IsOperand o
field_read None n o e = absurd cc
field_read (Some x) n o e = mapped_is IsOperand (slice_get (kind_fields x.kind) n) (λ (f : Field). operands.Field x.name (field_name f)) o (λ f there. tt) e

named_read : (ds : Declarations) (constants : List Value) (x : CodedOperand) (o : Operand) → AllByRecursion IsInRange constants → HasOwnCode x → named_operand ds constants x ≡ Some o → IsOperand o
named_read ds constants (coded.Location loc) o all own e =
    let m = passes (is_nameable loc) (operands.Direct loc) o e in
    subst IsOperand m.1 (typed_cell loc own, m.0)
named_read ds constants (coded.Variable i) o all own e = variable_read (slice_get ds.variables i) o e
named_read ds constants (coded.Field i n) o all own e = field_read (slice_get ds.instances i) n o e
named_read ds constants (coded.Constant k) o all own e = mapped_is IsOperand (slice_get constants k) operands.Literal o (λ v there. all_there IsInRange constants k v there all) e
named_read ds constants coded.Unused o all own e = subst IsOperand (some_is operands.Absent o e) tt

value_read : (ds : Declarations) (constants : List Value) (n : ℕ) (o : Operand) → AllByRecursion IsInRange constants → value_operand ds constants n ≡ Some o → IsOperand o
value_read ds constants n o all e = by_code (with_code n) refl e
  where
    by_code : (x : Option CodedOperand) → with_code n ≡ x → option_and_then (named_operand ds constants) x ≡ Some o → IsOperand o
    by_code None f h = absurd cc
    by_code (Some x) f h = named_read ds constants x o all (coded_back n x f).own h

word_read : (ds : Declarations) (marks : List Mark) (constants : List Value) (op : Op) (n : ℕ) (o : Operand) → AllByRecursion IsInRange constants → numbered_operand ds marks constants op n ≡ Some o → IsOperand o
word_read ds marks constants op n o all e = by_tests (is_jump op) (is_call op) e
  where
    by_tests : (p q : Bool) → cond p (Some (operands.Label (target_name (label_there marks n)))) (cond q (instance_named (slice_get ds.instances n)) (value_operand ds constants n)) ≡ Some o → IsOperand o
    by_tests true q h = subst IsOperand (some_is (operands.Label (target_name (label_there marks n))) o h) tt
    by_tests false true h = instance_read (slice_get ds.instances n) o h
    by_tests false false h = value_read ds constants n o all h

arguments_read : (Q : Program) (kind : Option BlockKind) (args : List Argument) → AllByRecursion IsInRange (constants_of Q) → AllByRecursion (IsPassing Q kind) args → AllByRecursion IsOperand (map (λ (a : Argument). a.operand) args)
arguments_read Q kind [] all passed = tt
arguments_read Q kind (a ∷ args) all passed =
    let cs = constants_of Q in
    let code = operand_code Q cs a.operand in
    (value_read (declared_by Q) cs code a.operand all (tested_some (has_form forms.Value false) (value_operand (declared_by Q) cs code) a.operand passed.0.operand_read).0, arguments_read Q kind args all passed.1)

labelled_by : (o : Option (List ℕ)) → is_none o ≡ false → is_some o ≡ true
labelled_by None e = absurd cc
labelled_by (Some name) e = refl

-- a label of an instruction that is a name
abbrev HasName : Instr → Type 0
HasName line = (name : List ℕ) → line.label ≡ Some name → IsName name

line_read : (Q : Program) (line : Instr) → AllByRecursion IsInRange (constants_of Q) → HasName line → IsWord Q line → IsInstruction line
line_read Q line all label is =
    let cs = constants_of Q in
    let code = operand_code Q cs line.operand in
    let marks = marks_from 0 Q.code in
    let operand = tested_some (formed_by (usage_of line.op) line.modifier) (numbered_operand (declared_by Q) marks cs line.op code) line.operand is.coded.operand_read in
    record {
      label = label;
      letters = (tested_some (allowed_by (usage_of line.op)) (modifier_of (modifier_code line.modifier)) line.modifier is.coded.letters).1;
      form = operand.1;
      operands = (word_read (declared_by Q) marks cs line.op code line.operand all operand.0, arguments_read Q (called_kind Q line.operand) line.arguments all is.arguments);
      labelled = λ e. labelled_by line.label (ap (λ (op : Op). is_empty op && is_none line.label) (sym e) ∙ is.labelled);
    }

lines_read : (Q : Program) (code : List Instr) → AllByRecursion IsInRange (constants_of Q) → AllByRecursion HasName code → AllByRecursion (IsWord Q) code → AllByRecursion IsInstruction code
lines_read Q [] all labels words = tt
lines_read Q (line ∷ code) all labels words = (line_read Q line all labels.0 words.0, lines_read Q code all labels.1 words.1)

mark_named : (seen : List Mark) (m : Mark) → IsMark seen m → IsName m.name
mark_named seen m is = name_is m.name is.length (both_true (is_lawful_name m.name) (not (is_some (position (λ (k : Mark). same_name k.name m.name) seen))) is.name).0

labels_named : (n : ℕ) (code : List Instr) → AllByRecursion (λ (m : Mark). IsName m.name) (marks_from n code) → AllByRecursion HasName code
labels_named n [] all = tt
labels_named n (line ∷ code) all =
    let more = by_label line.label all in
    (more.0, labels_named (n + word_count line) code more.1)
  where
    by_label : (o : Option (List ℕ)) → AllByRecursion (λ (m : Mark). IsName m.name) (with_mark n o (marks_from (n + word_count line) code))
        → ((name : List ℕ) → o ≡ Some name → IsName name) × AllByRecursion (λ (m : Mark). IsName m.name) (marks_from (n + word_count line) code)
    by_label None all = ((λ name e. absurd cc), all)
    by_label (Some label) all = ((λ name e. subst IsName (some_is label name e) all.0), all.1)

-- what has an image is well-formed
pub well_formed : (Q : Program) → IsImage Q → IsWellFormed Q
well_formed Q is =
    let text = is.text in
    let variables = are_apart fitting.IsVariable IsVariable IsFreeVariable AreOther variable_free variable_back [] Q.variables text.variables in
    let instances = are_apart (fitting.IsInstance Q.variables) (IsOwnName Q.variables) IsFreeInstance AreOtherInstances (instance_free Q.variables) instance_back [] Q.instances text.instances in
    let own = items_all (fitting.IsInstance Q.variables) (IsOwnName Q.variables) (instance_own Q.variables) [] Q.instances text.instances in
    let values = items_all IsConstant IsInRange constant_ranged [] (constants_of Q) text.constants in
    let labels = labels_named 0 Q.code (items_all IsMark (λ (m : Mark). IsName m.name) mark_named [] (marks_from 0 Q.code) text.labels) in
    let words = items_all (λ seen. IsWord Q) (IsWord Q) (λ seen line w. w) [] Q.code text.words in
    record {
      small = record { variables = text.variables_few; instances = text.instances_few; code = is.short; words = is.uncrowded };
      variables = items_all fitting.IsVariable IsVariable variable_is [] Q.variables text.variables;
      instances = all_map (IsOwnName Q.variables) (λ (x : Instance). IsName x.name) (λ x own. own.name) Q.instances own;
      names = parts_distinct (map name_of Q.variables) (map instance_name Q.instances) (record { first = apart_names Q.variables variables.1; second = apart_instances Q.instances instances.1; across = names_across Q.variables Q.instances own });
      apart = all_map (IsOwnName Q.variables) (λ (x : Instance). has_under Q.variables x.name ≡ false) (λ x own. own.apart) Q.instances own;
      locations = apart_locations Q.variables variables.1;
      code = lines_read Q Q.code values labels words;
      typed = is.typed;
    }

-- ---- readings

-- the reading from left to right is one of images
pub loader_reads : ReadsImages image_of
loader_reads = record {
  read = λ Q is. image_again Q (has_image Q is);
  only = λ bytes Q fits e. let is = image_takes bytes Q fits e in (well_formed Q is.0, is.1);
}

-- what one reading reads of bytes, each does
pub readings_agree : (reading other : Reading) → ReadsImages reading → ReadsImages other → (bytes : List ℕ) (Q : Program) → AreBytes bytes → reading bytes ≡ Ok Q → other bytes ≡ Ok Q
readings_agree reading other is so bytes Q fits e = let image = is.only bytes Q fits e in ap other image.1 ∙ so.read Q image.0
