-- Numbers, types and operators of an image of a version read back.
use Rattle.std.proofs.Common.{◌≡◌, ℕ, ◌<◌, ◌≤◌, ◌^◌, Bool, true, false, cond, ltb, List, map, length, [], ◌∷◌, ◌++◌, Option, Some, None, refl, sym, ap, subst, arith}
use Rattle.std.specs.Prelude.{ℤ, pos, negsuc, not, nat_eq, zero, suc}
use Rattle.std.specs.List.{list_all, AllByRecursion}
use Rattle.std.specs.Option.{option_and_then}
use Rattle.std.specs.Int.{w32, w64, cast_signed, cast_unsigned}
use Rattle.std.proofs.lemmas.Bool.{ltb-true, lt-ltb}
use Rattle.std.proofs.lemmas.Int.{ints, to_z-of_z}
use Rattle.il_values.specs.declared.value.Ty.{Ty}
use Rattle.il_values.specs.declared.value.Ty.TheVariants as types
use Rattle.il_values.specs.declared.value.Value.{Value}
use Rattle.il_values.specs.declared.value.Value.TheVariants as values
use Rattle.il_values.specs.declared.op.Op.{Op}
use Rattle.il_model.specs.declared.codes.Version.{Version}
use Rattle.il_model.specs.declared.codes.Version.TheVariants as versions
use Rattle.il_model.specs.declared.program.Loc.{Loc}
use Rattle.il_model.specs.declared.program.Variable.{Variable}
use Rattle.il_model.specs.declared.program.Instance.{Instance}
use Rattle.il_model.specs.declared.program.Instr.{Instr}
use Rattle.il_values.specs.Values.{ty_of, number_of, is_within, truth_made, typed_value}
use Rattle.il_model.specs.Image.{type_code, version_number, number_width, type_version, value_version, op_version, may_have, may_lie, may_call, may_label, may_declare, may_instantiate, may_keep, may_name, may_write, may_have_all, suffices, version_with, version_of}
use Rattle.il_values.specs.OpCodes.{op_code}
use Rattle.il_model.specs.Constants.{operands_in, constants_of}
use Rattle.il_model.specs.Codes.{if_passes, may_start_with, type_of, type_in, op_in, version_numbered, initial_of, is_known}
use Rattle.il_values.specs.OpCodes.{op_of}
use Rattle.il_model.specs.Codes.{coded_location, coded_location_in, word_operand, word_operand_in, argument_operand, argument_operand_in}
use Rattle.il_model.specs.Program.{Program, Declarations}
use Rattle.il_model.specs.Limits.{most_instructions, most_constants, has_room}
use Rattle.il_model.specs.Marks.{Mark}
use Rattle.il_values.specs.declared.op.Modifier.{Modifier}
use Rattle.il_model.specs.declared.program.Operand.{Operand}
use Rattle.il_model.specs.declared.program.Argument.{Argument}
use Rattle.std.proofs.lemmas.List.Folds.{list_all-map}
use Rattle.il_model.specs.Fits.{IsVariable, IsConstant, AreItems, IsImage}
use Rattle.il_model.proofs.LiteralLaws.{IsValue}
use Rattle.il_model.proofs.Lawful.{listed, type_again, five_at_most}
use Rattle.il_model.proofs.Sizes.{IsWithin, within_room, room_within}
use Rattle.il_model.proofs.SettledPrograms.{made_number}
use Rattle.il_values.proofs.RealValues.{real_is}
use Rattle.il_values.proofs.BitValues.{bits_are, bits_small}
use Rattle.il_model.proofs.RowTypes.{and_yes}
use Rattle.il_real.proofs.Values.{real_small}

-- ---- numbers

abbrev pub number_limit : Version → ℕ
number_limit versions.One = 2 ^ 32
number_limit versions.Two = 2 ^ 64
number_limit versions.Three = 2 ^ 64

-- a number that an image of this version keeps
pub record IsKept (version : Version) (z : ℤ) : Type 0 where
  pub back : cast_signed (number_width version) (cast_unsigned (number_width version) z) ≡ z
  pub small : cast_unsigned (number_width version) z < number_limit version

short_number : (z : ℤ) → is_within (2 ^ 31) z ≡ true → IsKept versions.One z
short_number (pos n) e = let lt = ltb-true n (2 ^ 31) e in record { back = to_z-of_z w32 (pos n) (search (arith, ints)); small = omega (arith, ints) }
short_number (negsuc n) e = let lt = ltb-true n (2 ^ 31) e in record { back = to_z-of_z w32 (negsuc n) (search (arith, ints)); small = omega (arith, ints) }

long_number : (z : ℤ) → is_within (2 ^ 63) z ≡ true → IsKept versions.Two z
long_number (pos n) e = let lt = ltb-true n (2 ^ 63) e in record { back = to_z-of_z w64 (pos n) (search (arith, ints)); small = omega (arith, ints) }
long_number (negsuc n) e = let lt = ltb-true n (2 ^ 63) e in record { back = to_z-of_z w64 (negsuc n) (search (arith, ints)); small = omega (arith, ints) }

wider : (a b : ℕ) (z : ℤ) → a ≤ b → is_within a z ≡ true → is_within b z ≡ true
wider a b (pos n) le e = let lt = ltb-true n a e in lt-ltb n b (omega (arith, lt, le))
wider a b (negsuc n) le e = let lt = ltb-true n a e in lt-ltb n b (omega (arith, lt, le))

within_by : (b : Bool) (x v : Value) → cond b (Some x) None ≡ Some v → b ≡ true
within_by true x v e = refl
within_by false x v e = absurd cc

long_kept : (v : Value) → IsValue v → IsKept versions.Two (number_of v)
long_kept (values.Bool true) is = long_number (pos 1) refl
long_kept (values.Bool false) is = long_number (pos 0) refl
long_kept (values.Int z) is = long_number z (wider (2 ^ 15) (2 ^ 63) z (omega arith) (within_by (is_within (2 ^ 15) z) (values.Int z) (values.Int z) is))
long_kept (values.Dint z) is = long_number z (wider (2 ^ 31) (2 ^ 63) z (omega arith) (within_by (is_within (2 ^ 31) z) (values.Dint z) (values.Dint z) is))
long_kept (values.Time z) is = long_number z (wider (2 ^ 31) (2 ^ 63) z (omega arith) (within_by (is_within (2 ^ 31) z) (values.Time z) (values.Time z) is))
long_kept (values.Lint z) is = long_number z (within_by (is_within (2 ^ 63) z) (values.Lint z) (values.Lint z) is)
long_kept (values.Real r) is = long_number (pos r.pattern) (lt-ltb r.pattern (2 ^ 63) (omega (arith, real_small r)))
long_kept (values.Word n) is = let lt = bits_small (2 ^ 16) values.Word n (values.Word n) is in long_number (pos n) (lt-ltb n (2 ^ 63) (omega (arith, lt)))
long_kept (values.Dword n) is = let lt = bits_small (2 ^ 32) values.Dword n (values.Dword n) is in long_number (pos n) (lt-ltb n (2 ^ 63) (omega (arith, lt)))

short_kept : (v : Value) → IsValue v → may_have versions.One (value_version v) ≡ true → IsKept versions.One (number_of v)
short_kept (values.Bool true) is e = short_number (pos 1) refl
short_kept (values.Bool false) is e = short_number (pos 0) refl
short_kept (values.Int z) is e = short_number z (wider (2 ^ 15) (2 ^ 31) z (omega arith) (within_by (is_within (2 ^ 15) z) (values.Int z) (values.Int z) is))
short_kept (values.Dint z) is e = short_number z (within_by (is_within (2 ^ 31) z) (values.Dint z) (values.Dint z) is)
short_kept (values.Time z) is e = short_number z (within_by (is_within (2 ^ 31) z) (values.Time z) (values.Time z) is)
short_kept (values.Lint z) is e = absurd cc
short_kept (values.Real r) is e = absurd cc
short_kept (values.Word n) is e = absurd cc
short_kept (values.Dword n) is e = absurd cc

-- a value that this version may have
pub number_back : (version : Version) (v : Value) → IsValue v → may_keep version v ≡ true → IsKept version (number_of v)
number_back versions.One v is may = short_kept v is may
number_back versions.Two v is may = long_kept v is
number_back versions.Three v is may = let kept = long_kept v is in record { back = kept.back; small = kept.small }

-- ---- values that were made of a type and a number

made_by : (b : Bool) (x v : Value) → cond b (Some x) None ≡ Some v → x ≡ v
made_by true x v e = cc
made_by false x v e = absurd cc

truth_by : (a b : Bool) (v : Value) → cond a (Some (values.Bool false)) (cond b (Some (values.Bool true)) None) ≡ Some v → ty_of v ≡ types.Bool
truth_by true b v e = let is : values.Bool false ≡ v = cc in sym (ap ty_of is)
truth_by false true v e = let is : values.Bool true ≡ v = cc in sym (ap ty_of is)
truth_by false false v e = absurd cc

truth_type : (z : ℤ) (v : Value) → truth_made z ≡ Some v → ty_of v ≡ types.Bool
truth_type (pos n) v e = truth_by (ltb n 1) (ltb n 2) v e
truth_type (negsuc n) v e = absurd cc

pub made_type : (t : Ty) (z : ℤ) (v : Value) → typed_value t z ≡ Some v → ty_of v ≡ t
made_type types.Bool z v e = truth_type z v e
made_type types.Int z v e = sym (ap ty_of (made_by (is_within (2 ^ 15) z) (values.Int z) v e))
made_type types.Dint z v e = sym (ap ty_of (made_by (is_within (2 ^ 31) z) (values.Dint z) v e))
made_type types.Time z v e = sym (ap ty_of (made_by (is_within (2 ^ 31) z) (values.Time z) v e))
made_type types.Lint z v e = sym (ap ty_of (made_by (is_within (2 ^ 63) z) (values.Lint z) v e))
made_type types.Real z v e = sym (ap ty_of (real_is z v e).1)
made_type types.Word z v e = sym (ap ty_of (bits_are (2 ^ 16) values.Word z v e).is)
made_type types.Dword z v e = sym (ap ty_of (bits_are (2 ^ 32) values.Dword z v e).is)

pub made_value : (t : Ty) (z : ℤ) (v : Value) → typed_value t z ≡ Some v → IsValue v
made_value t z v e = rw (made_type t z v e, made_number t z v e) e

passed_by : {A : Type 0} (test : A → Bool) (b : Bool) (x v : A) → test x ≡ b → (let o : Option A = cond b (Some x) None in o ≡ Some v) → (let o : Option A = Some x in o ≡ Some v) × (test v ≡ true)
passed_by test true x v h e = let is : x ≡ v = cc in (ap (λ y. Some y) is, subst (λ y. test y ≡ true) is h)
passed_by test false x v h e = absurd cc

pub passed : {A : Type 0} (test : A → Bool) (o : Option A) (v : A) → option_and_then (if_passes test) o ≡ Some v → (o ≡ Some v) × (test v ≡ true)
passed test None v e = absurd cc
passed test (Some x) v e = passed_by test (test x) x v refl e

pub initial_made : (t : Ty) (loc : Option Loc) (z : ℤ) (v : Value) → initial_of t loc z ≡ Some v → typed_value t z ≡ Some v
initial_made t loc z v e = (passed (may_start_with loc) (typed_value t z) v e).0

-- ---- what a version may have

all_yes : {A : Type 0} (may : A → Bool) → ((x : A) → may x ≡ true) → (xs : List A) → list_all may xs ≡ true
all_yes may each [] = refl
all_yes may each (x ∷ xs) = rw (each x) (all_yes may each xs)

label_three : (o : Option (List ℕ)) → may_label versions.Three o ≡ true
label_three None = refl
label_three (Some name) = refl

-- the third version may have everything
three_may : (variables : List Variable) (instances : List Instance) (constants : List Value) (code : List Instr) → may_have_all versions.Three variables instances constants code ≡ true
three_may variables instances constants code =
    rw (all_yes (may_declare versions.Three) (λ v. refl) variables, all_yes (may_instantiate versions.Three) (λ x. refl) instances, all_yes (may_keep versions.Three) (λ v. refl) constants) (all_yes (may_write versions.Three) (λ line. rw (label_three line.label) (all_yes (may_name versions.Three) (λ x. refl) (operands_in line))) code)

first_may : (variables : List Variable) (instances : List Instance) (constants : List Value) (code : List Instr) (a b : Bool) → suffices versions.One variables instances constants code ≡ a → suffices versions.Two variables instances constants code ≡ b
    → let version : Version = cond a versions.One (cond b versions.Two versions.Three) in may_have_all version variables instances constants code ≡ true
first_may variables instances constants code true b e f = (and_yes (has_room versions.One variables instances code) (may_have_all versions.One variables instances constants code) e).1
first_may variables instances constants code false true e f = (and_yes (has_room versions.Two variables instances code) (may_have_all versions.Two variables instances constants code) f).1
first_may variables instances constants code false false e f = three_may variables instances constants code

first_room : (variables : List Variable) (instances : List Instance) (constants : List Value) (code : List Instr) (a b : Bool) → has_room versions.Three variables instances code ≡ true → suffices versions.One variables instances constants code ≡ a → suffices versions.Two variables instances constants code ≡ b
    → let version : Version = cond a versions.One (cond b versions.Two versions.Three) in has_room version variables instances code ≡ true
first_room variables instances constants code true b room e f = (and_yes (has_room versions.One variables instances code) (may_have_all versions.One variables instances constants code) e).0
first_room variables instances constants code false true room e f = (and_yes (has_room versions.Two variables instances code) (may_have_all versions.Two variables instances constants code) f).0
first_room variables instances constants code false false room e f = room

-- the version of a program may have what the program has
pub version_may : (variables : List Variable) (instances : List Instance) (constants : List Value) (code : List Instr)
    → let version = version_with variables instances constants code in (list_all (may_declare version) variables ≡ true) × (list_all (may_instantiate version) instances ≡ true) × (list_all (may_keep version) constants ≡ true) × (list_all (may_write version) code ≡ true)
version_may variables instances constants code =
    let version = version_with variables instances constants code in
    let all = first_may variables instances constants code (suffices versions.One variables instances constants code) (suffices versions.Two variables instances constants code) refl refl in
    let first = and_yes (list_all (may_declare version) variables) _ all in
    let next = and_yes (list_all (may_instantiate version) instances) _ first.1 in
    let rest = and_yes (list_all (may_keep version) constants) (list_all (may_write version) code) next.1 in
    (first.0, next.0, rest.0, rest.1)

-- a version has room for what a program of it has
pub version_within : (Q : Program) → IsImage Q → IsWithin (version_of Q) Q.variables Q.instances Q.code
version_within Q is =
    let cs = constants_of Q in
    let room = room_within versions.Three Q.variables Q.instances Q.code (record { variables = is.text.variables_few; instances = is.text.instances_few; code = is.short; words = is.uncrowded }) in
    within_room (version_of Q) Q.variables Q.instances Q.code
    (first_room Q.variables Q.instances cs Q.code (suffices versions.One Q.variables Q.instances cs Q.code) (suffices versions.Two Q.variables Q.instances cs Q.code) room refl refl)

constants_within : (version : Version) (Q : Program) → IsImage Q → length Q.code ≤ most_instructions version → length (constants_of Q) ≤ most_constants version
constants_within versions.One Q is few = let all = five_at_most Q is in omega (arith, all, few)
constants_within versions.Two Q is few = let all = five_at_most Q is in omega (arith, all, few)
constants_within versions.Three Q is few = is.text.constants_few

-- and for its constants
pub version_constants : (Q : Program) → IsImage Q → length (constants_of Q) ≤ most_constants (version_of Q)
version_constants Q is = constants_within (version_of Q) Q is (version_within Q is).code

pub any_may : {A : Type 0} (may : A → Bool) (xs : List A) → list_all may xs ≡ true → AllByRecursion (λ x. may x ≡ true) xs
any_may may [] e = tt
any_may may (x ∷ xs) e = let m = and_yes (may x) (list_all may xs) e in (m.0, any_may may xs m.1)

pub items_may : {A : Type 0} (IsItem : List A → A → Type 0) (may : A → Bool) (seen xs : List A) → AreItems IsItem seen xs → list_all may xs ≡ true → AreItems (λ s x. IsItem s x × (may x ≡ true)) seen xs
items_may IsItem may seen [] are e = tt
items_may IsItem may seen (x ∷ xs) are e = let m = and_yes (may x) (list_all may xs) e in ((are.0, m.0), items_may IsItem may (seen ++ x ∷ []) xs are.1 m.1)

pub variable_kept : (version : Version) (seen : List Variable) (v : Variable) → IsVariable seen v → may_declare version v ≡ true → IsKept version (number_of v.initial)
variable_kept version seen v is may =
    let made = initial_made v.ty v.location (number_of v.initial) v.initial is.initial in
    number_back version v.initial (made_value v.ty (number_of v.initial) v.initial made) (and_yes (may_have version (value_version v.initial)) _ (and_yes (may_have version (type_version v.ty)) _ (and_yes (may_call version v.name) _ may).1).1).0

pub constant_kept : (version : Version) (seen : List Value) (v : Value) → IsConstant seen v → may_keep version v ≡ true → IsKept version (number_of v)
constant_kept version seen v is may = number_back version v (passed (λ x. not (is_known seen x)) (typed_value (ty_of v) (number_of v)) v is.value).0 may

-- ---- codes

pub version_again : (version : Version) → version_numbered (version_number version) ≡ Some version
version_again versions.One = refl
version_again versions.Two = refl
version_again versions.Three = refl

pub version_is : (n : ℕ) (version : Version) → version_numbered n ≡ Some version → version_number version ≡ n
version_is zero version e = absurd cc
version_is (suc zero) versions.One e = refl
version_is (suc zero) versions.Two e = absurd cc
version_is (suc zero) versions.Three e = absurd cc
version_is (suc (suc zero)) versions.One e = absurd cc
version_is (suc (suc zero)) versions.Two e = refl
version_is (suc (suc zero)) versions.Three e = absurd cc
version_is (suc (suc (suc zero))) versions.One e = absurd cc
version_is (suc (suc (suc zero))) versions.Two e = absurd cc
version_is (suc (suc (suc zero))) versions.Three e = refl
version_is (suc (suc (suc (suc n)))) version e = absurd cc

pub same_version : (a b : Version) → nat_eq (version_number a) (version_number b) ≡ true → a ≡ b
same_version versions.One versions.One e = refl
same_version versions.Two versions.Two e = refl
same_version versions.Three versions.Three e = refl
same_version versions.One versions.Two e = absurd cc
same_version versions.One versions.Three e = absurd cc
same_version versions.Two versions.One e = absurd cc
same_version versions.Two versions.Three e = absurd cc
same_version versions.Three versions.One e = absurd cc
same_version versions.Three versions.Two e = absurd cc

pub type_in_again : (version : Version) (t : Ty) → may_have version (type_version t) ≡ true → type_in version (type_code t) ≡ Some t
type_in_again version t e = rw (type_again t, e) refl

pub type_in_is : (version : Version) (n : ℕ) (t : Ty) → type_in version n ≡ Some t → (type_of n ≡ Some t) × (may_have version (type_version t) ≡ true)
type_in_is version n t e = passed (λ t. may_have version (type_version t)) (type_of n) t e

pub op_in_again : (version : Version) (op : Op) → may_have version (op_version op) ≡ true → op_in version (op_code op) ≡ Some op
op_in_again version op e = rw (listed op, e) refl

pub op_in_is : (version : Version) (n : ℕ) (op : Op) → op_in version n ≡ Some op → (op_of n ≡ Some op) × (may_have version (op_version op) ≡ true)
op_in_is version n op e = passed (λ op. may_have version (op_version op)) (op_of n) op e

-- ---- places and operands

pub place_in_again : (version : Version) (seen : List Variable) (t : Ty) (n : ℕ) (place : Option Loc) → coded_location seen t n ≡ Some place → may_lie version place ≡ true → coded_location_in version seen t n ≡ Some place
place_in_again version seen t n place read may = rw (read, may) refl

pub place_in_is : (version : Version) (seen : List Variable) (t : Ty) (n : ℕ) (place : Option Loc) → coded_location_in version seen t n ≡ Some place → (coded_location seen t n ≡ Some place) × (may_lie version place ≡ true)
place_in_is version seen t n place e = passed (may_lie version) (coded_location seen t n) place e

pub operand_in_again : (version : Version) (ds : Declarations) (marks : List Mark) (constants : List Value) (op : Op) (m : Modifier) (n : ℕ) (x : Operand)
    → word_operand ds marks constants op m n ≡ Some x → may_name version x ≡ true → word_operand_in version ds marks constants op m n ≡ Some x
operand_in_again version ds marks constants op m n x read may = rw (read, may) refl

pub operand_in_is : (version : Version) (ds : Declarations) (marks : List Mark) (constants : List Value) (op : Op) (m : Modifier) (n : ℕ) (x : Operand)
    → word_operand_in version ds marks constants op m n ≡ Some x → (word_operand ds marks constants op m n ≡ Some x) × (may_name version x ≡ true)
operand_in_is version ds marks constants op m n x e = passed (may_name version) (word_operand ds marks constants op m n) x e

pub argument_in_again : (version : Version) (ds : Declarations) (constants : List Value) (n : ℕ) (x : Operand) → argument_operand ds constants n ≡ Some x → may_name version x ≡ true → argument_operand_in version ds constants n ≡ Some x
argument_in_again version ds constants n x read may = rw (read, may) refl

pub argument_in_is : (version : Version) (ds : Declarations) (constants : List Value) (n : ℕ) (x : Operand) → argument_operand_in version ds constants n ≡ Some x → (argument_operand ds constants n ≡ Some x) × (may_name version x ≡ true)
argument_in_is version ds constants n x e = passed (may_name version) (argument_operand ds constants n) x e

-- the operands of arguments
pub all_passed : (version : Version) (xs : List Argument) → list_all (may_name version) (map (λ (a : Argument). a.operand) xs) ≡ list_all (λ (a : Argument). may_name version a.operand) xs
all_passed version xs = list_all-map (may_name version) (λ (a : Argument). a.operand) xs
