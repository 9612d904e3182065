-- What a program that has an image is made of, as far as its listing goes: names, values and places that are there, and operators that take what they are given.
use Rattle.std.proofs.Common.{◌≡◌, ℕ, zero, suc, ◌+◌, Bool, true, false, cond, ltb, List, [], ◌∷◌, ◌++◌, length, Option, Some, None, refl, sym, ap, ◌∙◌, subst, ◌||◌, ◌&&◌, not}
use Rattle.std.specs.Prelude.{is_some, slice_get, nat_eq, ◌^◌, ℤ, pos, negsuc, map}
use Rattle.std.specs.List.{AllByRecursion, list_all, position}
use Rattle.std.specs.Option.{option_map, option_and_then}
use Rattle.std.proofs.lemmas.Slice.Eq.{bytes_eq-Decides}
use Rattle.il_model.specs.Dialects.{newest}
use Rattle.il_model.specs.declared.dialect.Dialect.{Dialect}
use Rattle.il_values.specs.declared.value.Ty.{Ty}
use Rattle.il_values.specs.declared.value.Ty.TheVariants as types
use Rattle.il_values.specs.declared.value.Value.{Value}
use Rattle.il_values.specs.declared.value.Value.TheVariants as values
use Rattle.il_values.specs.declared.op.Op.{Op}
use Rattle.il_model.specs.declared.program.Place.TheVariants as places
use Rattle.il_model.specs.declared.program.Variable.{Variable}
use Rattle.il_model.specs.declared.program.Instance.{Instance}
use Rattle.il_model.specs.declared.kind.BlockKind.{BlockKind}
use Rattle.il_model.specs.declared.kind.Field.{Field}
use Rattle.il_model.specs.declared.program.Argument.{Argument}
use Rattle.il_model.specs.declared.program.Operand.{Operand}
use Rattle.il_model.specs.declared.program.Operand.TheVariants as operands
use Rattle.il_model.specs.declared.program.Instr.{Instr}
use Rattle.il_model.specs.declared.codes.OperandForm.TheVariants as forms
use Rattle.il_model.specs.declared.fetched.Source.{Source}
use Rattle.il_model.specs.declared.fetched.Source.TheVariants as sources
use Rattle.il_model.specs.Program.{Program, Declarations, declared_by}
use Rattle.il_values.specs.Values.{ty_of, number_of, is_within, truth_made, typed_value}
use Rattle.il_model.specs.Words.{same_name, under, stands_under, is_lawful_name}
use Rattle.il_model.specs.Kinds.{kind_fields, field_name, field_number}
use Rattle.il_model.specs.Resolved.{variable_place, place_of, source_of, instance_in, numbered_field, field_of, has_label, target_of, called_kind}
use Rattle.il_model.specs.Checking.{arguments_fault}
use Rattle.il_model.specs.Marks.{Mark, with_mark, marks_from, word_count}
use Rattle.il_model.specs.Constants.{constants_of, operands_in}
use Rattle.il_model.specs.Image.{modifier_code, operand_code, type_version, value_version, op_version, may_have, may_lie, may_retain, may_call, may_label, may_declare, may_instantiate, may_keep, may_name, may_write}
use Rattle.il_model.specs.Locations.{is_nameable}
use Rattle.il_model.specs.declared.coded_operand.CodedOperand.{CodedOperand}
use Rattle.il_model.specs.declared.coded_operand.CodedOperand.TheVariants as coded
use Rattle.il_model.specs.CodedOperands.{IsCell, HasOwnCode, with_code}
use Rattle.il_model.proofs.CodedOperands.{coded_back}
use Rattle.il_model.specs.Codes.{if_passes, is_new_name, is_number, has_under, usage_of, has_form, allowed_by, formed_by, is_jump, is_call, modifier_of, variable_named, instance_named, field_named, named_operand, value_operand, numbered_operand, is_pointless, is_known, target_name, label_there}
use Rattle.il_model.specs.Fits.{IsVariable, IsInstance, IsMark, IsConstant, IsPassing, IsWord, AreItems}
use Rattle.il_model.proofs.Positions.{position_later}
use Rattle.il_model.proofs.Declared.{field_so}
use Rattle.il_model.proofs.TypedLines.{IsArgumentOf, arguments_typed, no_arguments}
use Rattle.il_model.proofs.Calls.{IsTypedLine, typed_lines}
use Rattle.il_model.proofs.Judged.{faultless}
use Rattle.il_declarations.specs.Walk.{has_name, has_instance}
use Rattle.laws_listing.proofs.Fronts.{both_true, not_true}
use Rattle.il_model.proofs.LiteralLaws.{IsValue}
use Rattle.il_values.proofs.BitValues.{bits_are, bits_again}
use Rattle.il_values.proofs.RealValues.{real_is, real_again}
use Rattle.laws_listing.proofs.Sayable.{IsSayable, IsSayablePlace, IsSayableProgram}
use Rattle.laws_listing.proofs.NameRuns.{both_false, is_under}
use Rattle.laws_listing.proofs.NameTexts.{IsFreeName, IsFieldName, IsLawful, lawful_free, field_is}

-- ---- what is listed

-- a value that can be said, or a place that is there
abbrev pub IsValueOperand : (dialect : Dialect) → Declarations → Operand → Type 0
IsValueOperand dialect ds (operands.Literal v) = IsSayable dialect v
IsValueOperand dialect ds (operands.Variable name) = IsFreeName dialect name × (has_name ds name ≡ true)
IsValueOperand dialect ds (operands.Direct loc) = IsSayablePlace dialect loc
IsValueOperand dialect ds (operands.Field name field) = IsFreeName dialect name × IsFieldName field × (has_instance ds name ≡ true) × (has_name ds (under name field) ≡ false)
IsValueOperand dialect ds operand = ⊥

-- or none, a label or an instance
abbrev pub IsListedOperand : (dialect : Dialect) → Declarations → Operand → Type 0
IsListedOperand dialect ds operands.Absent = Unit {0}
IsListedOperand dialect ds (operands.Label name) = IsFreeName dialect name
IsListedOperand dialect ds (operands.Instance name) = IsFreeName dialect name × (has_instance ds name ≡ true)
IsListedOperand dialect ds operand = IsValueOperand dialect ds operand

pub record IsListedArgument (dialect : Dialect) (ds : Declarations) (a : Argument) : Type 0 where
  pub field : IsFieldName a.field
  pub operand : IsValueOperand dialect ds a.operand

abbrev pub IsListedLabel : Dialect → Option (List ℕ) → Type 0
IsListedLabel dialect None = Unit {0}
IsListedLabel dialect (Some name) = IsFreeName dialect name

pub record IsListedLine (dialect : Dialect) (ds : Declarations) (line : Instr) : Type 0 where
  pub label : IsListedLabel dialect line.label
  pub known : may_have (newest dialect) (op_version line.op) ≡ true
  pub letters : allowed_by (usage_of line.op) line.modifier ≡ true
  pub form : formed_by (usage_of line.op) line.modifier line.operand ≡ true
  pub operand : IsListedOperand dialect ds line.operand
  pub arguments : AllByRecursion (IsListedArgument dialect ds) line.arguments
  pub called : (is_call line.op || nat_eq (length line.arguments) 0) ≡ true
  pub labelled : is_pointless line ≡ false

-- ---- options

abbrev pub some : {A : Type 0} → A → Option A
some x = Some x

pub some_is : {A : Type 0} (x y : A) → some x ≡ some y → x ≡ y
some_is x y e = cc

and_then_is : {A B : Type 0} (o : Option A) (f : A → Option B) (y : B) → option_and_then f o ≡ Some y → (x : A) × (o ≡ Some x) × (f x ≡ Some y)
and_then_is None f y e = absurd cc
and_then_is (Some x) f y e = (x, refl, e)

map_is : {A B : Type 0} (o : Option A) (f : A → B) (y : B) → option_map f o ≡ Some y → (x : A) × (o ≡ Some x) × (f x ≡ y)
map_is None f y e = absurd cc
map_is (Some x) f y e = (x, refl, some_is (f x) y e)

-- what passed a test is what was there
pub tested_is : {A : Type 0} (test : A → Bool) (o : Option A) (x : A) → option_and_then (if_passes test) o ≡ Some x → (o ≡ Some x) × (test x ≡ true)
tested_is test None x e = absurd cc
tested_is {A} test (Some y) x e = by_test (test y) refl e
  where
    by_test : (b : Bool) → test y ≡ b → cond b (Some y) None ≡ Some x → (Some y ≡ Some x) × (test x ≡ true)
    by_test true f h = (h, sym (ap test (some_is y x h)) ∙ f)
    by_test false f h = absurd cc

-- ---- lists

pub items_all : {X : Type 0} (I : List X → X → Type 0) (F : X → Type 0) → ((seen : List X) (x : X) → I seen x → F x) → (seen xs : List X) → AreItems I seen xs → AllByRecursion F xs
items_all I F each seen [] all = tt
items_all I F each seen (x ∷ xs) all = (each seen x all.0, items_all I F each (seen ++ x ∷ []) xs all.1)

-- items that have two properties have what follows from both
pub all_of_both : {A : Type 0} (F G H : A → Type 0) → ((x : A) → F x → G x → H x) → (xs : List A) → AllByRecursion F xs → AllByRecursion G xs → AllByRecursion H xs
all_of_both F G H both [] fs gs = tt
all_of_both F G H both (x ∷ xs) fs gs = (both x fs.0 gs.0, all_of_both F G H both xs fs.1 gs.1)

all_there : {X : Type 0} (F : X → Type 0) (xs : List X) (n : ℕ) (x : X) → slice_get xs n ≡ Some x → AllByRecursion F xs → F x
all_there F [] n x e all = absurd cc
all_there F (y ∷ ys) zero x e all = subst F (some_is y x e) all.0
all_there F (y ∷ ys) (suc n) x e all = all_there F ys n x e all.1

same_is : (a b : List ℕ) → same_name a b ≡ true → a ≡ b
same_is a b e = (bytes_eq-Decides a b).0 e

-- the name that a thing of a list is found by is that thing's
found_name : {X : Type 0} (F : List ℕ → Type 0) (named : X → List ℕ) (xs : List X) (name : List ℕ) (i : ℕ) → position (λ (x : X). same_name (named x) name) xs ≡ Some i → AllByRecursion (λ (x : X). F (named x)) xs → F name
found_name F named [] name i e all = absurd cc
found_name {X} F named (x ∷ xs) name i e all = by_test (same_name (named x) name) refl (λ k f. found_name F named xs name k f all.1)
  where
    by_rest : (o : Option ℕ) → position (λ (y : X). same_name (named y) name) xs ≡ o → option_map suc o ≡ Some i → ((k : ℕ) → position (λ (y : X). same_name (named y) name) xs ≡ Some k → F name) → F name
    by_rest None f h again = absurd cc
    by_rest (Some k) f h again = again k f

    by_test : (b : Bool) → same_name (named x) name ≡ b → ((k : ℕ) → position (λ (y : X). same_name (named y) name) xs ≡ Some k → F name) → F name
    by_test true f again = subst F (same_is (named x) name f) all.0
    by_test false f again = by_rest (position (λ (y : X). same_name (named y) name) xs) refl (sym (position_later (λ (y : X). same_name (named y) name) x xs f) ∙ e) again

found_label : (dialect : Dialect) (code : List Instr) (name : List ℕ) (i : ℕ) → position (has_label name) code ≡ Some i → AllByRecursion (λ (line : Instr). IsListedLabel dialect line.label) code → IsFreeName dialect name
found_label dialect [] name i e all = absurd cc
found_label dialect (line ∷ code) name i e all = by_test (has_label name line) refl (λ k f. found_label dialect code name k f all.1)
  where
    by_label : (o : Option (List ℕ)) → elim o [ Some label ↦ same_name label name | None ↦ false ] ≡ true → IsListedLabel dialect o → IsFreeName dialect name
    by_label None f is = absurd cc
    by_label (Some label) f is = subst (IsFreeName dialect) (same_is label name f) is

    by_rest : (o : Option ℕ) → position (has_label name) code ≡ o → option_map suc o ≡ Some i → ((k : ℕ) → position (has_label name) code ≡ Some k → IsFreeName dialect name) → IsFreeName dialect name
    by_rest None f h again = absurd cc
    by_rest (Some k) f h again = again k f

    by_test : (b : Bool) → has_label name line ≡ b → ((k : ℕ) → position (has_label name) code ≡ Some k → IsFreeName dialect name) → IsFreeName dialect name
    by_test true f again = by_label line.label f all.0
    by_test false f again = by_rest (position (has_label name) code) refl (sym (position_later (has_label name) line code f) ∙ e) again

-- no name that stands under another is a variable's, where no variable's stands there
none_under : (vs : List Variable) (name field : List ℕ) → has_under vs name ≡ false → is_some (is_number vs (under name field)) ≡ false
none_under [] name field e = refl
none_under (v ∷ vs) name field e =
    let h = both_false (stands_under name v.name) (has_under vs name) e in
    by_test (same_name v.name (under name field)) refl h.0 (none_under vs name field h.1)
  where
    by_rest : (o : Option ℕ) → is_some o ≡ false → is_some (option_map suc o) ≡ false
    by_rest None f = refl
    by_rest (Some k) f = absurd cc

    by_test : (b : Bool) → same_name v.name (under name field) ≡ b → stands_under name v.name ≡ false → is_some (is_number vs (under name field)) ≡ false → is_some (is_number (v ∷ vs) (under name field)) ≡ false
    by_test true f apart again =
        let clash : false ≡ true = sym apart ∙ ap (stands_under name) (same_is v.name (under name field) f) ∙ is_under name field in
        absurd cc
    by_test false f apart again = ap is_some (position_later (λ (y : Variable). same_name y.name (under name field)) v vs f) ∙ by_rest (is_number vs (under name field)) again

-- ---- places and values

-- what is read from a number has a value that can be said, or a place that is there
abbrev IsRead : (dialect : Dialect) → Operand → Type 0
IsRead dialect (operands.Literal v) = IsSayable dialect v
IsRead dialect (operands.Direct loc) = IsCell loc × (is_nameable loc ≡ true)
IsRead dialect operand = Unit {0}

variable_read : (dialect : Dialect) (x : Option Variable) (o : Operand) → variable_named x ≡ Some o → IsRead dialect o
variable_read dialect None o e = absurd cc
variable_read dialect (Some v) o e = subst (IsRead dialect) (some_is (operands.Variable v.name) o e) tt

instance_read : (dialect : Dialect) (x : Option Instance) (o : Operand) → instance_named x ≡ Some o → IsRead dialect o
instance_read dialect None o e = absurd cc
instance_read dialect (Some x) o e = subst (IsRead dialect) (some_is (operands.Instance x.name) o e) tt

field_read : (dialect : Dialect) (x : Option Instance) (n : ℕ) (o : Operand) → field_named x n ≡ Some o → IsRead dialect o
field_read dialect None n o e = absurd cc
field_read dialect (Some x) n o e =
    let m = map_is (slice_get (kind_fields x.kind) n) (λ (f : Field). operands.Field x.name (field_name f)) o e in
    subst (IsRead dialect) m.2 tt

literal_read : (dialect : Dialect) (v : Option Value) (o : Operand) → ((w : Value) → v ≡ Some w → IsSayable dialect w) → option_map operands.Literal v ≡ Some o → IsRead dialect o
literal_read dialect v o all e =
    let m = map_is v operands.Literal o e in
    subst (IsRead dialect) m.2 (all m.0 m.1)

if_named : (b : Bool) (x y : Operand) → (let o : Option Operand = cond b (Some x) None in o ≡ Some y) → (b ≡ true) × (x ≡ y)
if_named true x y e = (refl, some_is x y e)
if_named false x y e = absurd cc

named_read : (dialect : Dialect) (ds : Declarations) (constants : List Value) (x : CodedOperand) (o : Operand) → AllByRecursion (IsSayable dialect) constants → HasOwnCode x → named_operand ds constants x ≡ Some o → IsRead dialect o
named_read dialect ds constants (coded.Location loc) o all own e =
    let m = if_named (is_nameable loc) (operands.Direct loc) o e in
    subst (IsRead dialect) m.1 (own, m.0)
named_read dialect ds constants (coded.Variable i) o all own e = variable_read dialect (slice_get ds.variables i) o e
named_read dialect ds constants (coded.Field i n) o all own e = field_read dialect (slice_get ds.instances i) n o e
named_read dialect ds constants (coded.Constant k) o all own e = literal_read dialect (slice_get constants k) o (λ w there. all_there (IsSayable dialect) constants k w there all) e
named_read dialect ds constants coded.Unused o all own e = subst (IsRead dialect) (some_is operands.Absent o e) tt

value_read : (dialect : Dialect) (ds : Declarations) (constants : List Value) (n : ℕ) (o : Operand) → AllByRecursion (IsSayable dialect) constants → value_operand ds constants n ≡ Some o → IsRead dialect o
value_read dialect ds constants n o all e = by_code (with_code n) refl e
  where
    by_code : (x : Option CodedOperand) → with_code n ≡ x → option_and_then (named_operand ds constants) x ≡ Some o → IsRead dialect o
    by_code None f h = absurd cc
    by_code (Some x) f h = named_read dialect ds constants x o all (coded_back n x f).own h

word_read : (dialect : Dialect) (ds : Declarations) (marks : List Mark) (constants : List Value) (op : Op) (n : ℕ) (o : Operand) → AllByRecursion (IsSayable dialect) constants → numbered_operand ds marks constants op n ≡ Some o → IsRead dialect o
word_read dialect ds marks constants op n o all e = by_tests (is_jump op) (is_call op) e
  where
    by_tests : (p q : Bool) → cond p (Some (operands.Label (target_name (label_there marks n)))) (cond q (instance_named (slice_get ds.instances n)) (value_operand ds constants n)) ≡ Some o → IsRead dialect o
    by_tests true q h = subst (IsRead dialect) (some_is (operands.Label (target_name (label_there marks n))) o h) tt
    by_tests false true h = instance_read dialect (slice_get ds.instances n) o h
    by_tests false false h = value_read dialect ds constants n o all h

-- ---- names that are declared

pub record HasNames (dialect : Dialect) (Q : Program) : Type 0 where
  pub variables : AllByRecursion (λ (v : Variable). IsFreeName dialect v.name) Q.variables
  pub instances : AllByRecursion (λ (x : Instance). IsFreeName dialect x.name) Q.instances
  pub apart : AllByRecursion (λ (x : Instance). has_under Q.variables x.name ≡ false) Q.instances
  pub labels : AllByRecursion (λ (line : Instr). IsListedLabel dialect line.label) Q.code

pub variable_lawful : (seen : List Variable) (v : Variable) → IsVariable seen v → IsLawful v.name
variable_lawful seen v is = record { length = is.length; lawful = (both_true (is_lawful_name v.name) (not (is_some (is_number seen v.name))) is.name).0 }

-- what the declarations before an instance say of its name
pub record IsApart (vs : List Variable) (seen : List Instance) (name : List ℕ) : Type 0 where
  pub lawful : IsLawful name
  pub no_variable : is_some (is_number vs name) ≡ false
  pub no_instance : is_some (instance_in seen name) ≡ false
  pub apart : has_under vs name ≡ false

pub instance_apart : (vs : List Variable) (seen : List Instance) (x : Instance) → IsInstance vs seen x → IsApart vs seen x.name
instance_apart vs seen x is =
    let u = both_true (is_new_name vs x.name && not (is_some (instance_in seen x.name))) (not (has_under vs x.name)) is.name in
    let n = both_true (is_new_name vs x.name) (not (is_some (instance_in seen x.name))) u.0 in
    let l = both_true (is_lawful_name x.name) (not (is_some (is_number vs x.name))) n.0 in
    record {
      lawful = record { length = is.length; lawful = l.0 };
      no_variable = not_true (is_some (is_number vs x.name)) l.1;
      no_instance = not_true (is_some (instance_in seen x.name)) n.1;
      apart = not_true (has_under vs x.name) u.1;
    }

mark_lawful : (seen : List Mark) (m : Mark) → IsMark seen m → IsLawful m.name
mark_lawful seen m is = record { length = is.length; lawful = (both_true (is_lawful_name m.name) (not (is_some (position (λ (k : Mark). same_name k.name m.name) seen))) is.name).0 }

abbrev IsLawfulLabel : Option (List ℕ) → Type 0
IsLawfulLabel None = Unit {0}
IsLawfulLabel (Some name) = IsLawful name

labels_lawful : (n : ℕ) (code : List Instr) → AllByRecursion (λ (m : Mark). IsLawful m.name) (marks_from n code) → AllByRecursion (λ (line : Instr). IsLawfulLabel line.label) code
labels_lawful n [] all = tt
labels_lawful n (line ∷ code) all = by_label line.label all (λ h. labels_lawful (n + word_count line) code h)
  where
    by_label : (o : Option (List ℕ)) → AllByRecursion (λ (m : Mark). IsLawful m.name) (with_mark n o (marks_from (n + word_count line) code))
        → (AllByRecursion (λ (m : Mark). IsLawful m.name) (marks_from (n + word_count line) code) → AllByRecursion (λ (l : Instr). IsLawfulLabel l.label) code) → IsLawfulLabel o × AllByRecursion (λ (l : Instr). IsLawfulLabel l.label) code
    by_label None h again = (tt, again h)
    by_label (Some name) h again = (h.0, again h.1)

label_said : (dialect : Dialect) (o : Option (List ℕ)) → IsLawfulLabel o → may_label (newest dialect) o ≡ true → IsListedLabel dialect o
label_said dialect None lawful may = tt
label_said dialect (Some name) lawful may = lawful_free dialect name lawful may

pub variable_name : (dialect : Dialect) (v : Variable) → may_declare (newest dialect) v ≡ true → may_call (newest dialect) v.name ≡ true
variable_name dialect v may =
    let last = newest dialect in
    (both_true (may_call last v.name) (may_have last (type_version v.ty) && (may_have last (value_version v.initial) && (may_lie last v.location && may_retain last v.retained))) may).0

pub instance_name : (dialect : Dialect) (x : Instance) → may_instantiate (newest dialect) x ≡ true → may_call (newest dialect) x.name ≡ true
instance_name dialect x may = (both_true (may_call (newest dialect) x.name) (may_retain (newest dialect) x.retained) may).0

line_label : (dialect : Dialect) (line : Instr) → may_write (newest dialect) line ≡ true → may_label (newest dialect) line.label ≡ true
line_label dialect line may =
    let last = newest dialect in
    (both_true (may_label last line.label) (may_have last (op_version line.op) && list_all (may_name last) (operands_in line)) may).0

pub names_of : (dialect : Dialect) (Q : Program) → IsSayableProgram dialect Q → HasNames dialect Q
names_of dialect Q is =
    let text = is.image.text in
    let last = newest dialect in
    record {
      variables = all_of_both (λ (v : Variable). IsLawful v.name) (λ (v : Variable). may_declare last v ≡ true) (λ (v : Variable). IsFreeName dialect v.name) (λ v lawful may. lawful_free dialect v.name lawful (variable_name dialect v may)) Q.variables
          (items_all IsVariable (λ (v : Variable). IsLawful v.name) variable_lawful [] Q.variables text.variables) is.variables;
      instances = all_of_both (λ (x : Instance). IsLawful x.name) (λ (x : Instance). may_instantiate last x ≡ true) (λ (x : Instance). IsFreeName dialect x.name) (λ x lawful may. lawful_free dialect x.name lawful (instance_name dialect x may)) Q.instances
          (items_all (IsInstance Q.variables) (λ (x : Instance). IsLawful x.name) (λ seen x i. (instance_apart Q.variables seen x i).lawful) [] Q.instances text.instances) is.instances;
      apart = items_all (IsInstance Q.variables) (λ (x : Instance). has_under Q.variables x.name ≡ false) (λ seen x i. (instance_apart Q.variables seen x i).apart) [] Q.instances text.instances;
      labels = all_of_both (λ (line : Instr). IsLawfulLabel line.label) (λ (line : Instr). may_write last line ≡ true) (λ (line : Instr). IsListedLabel dialect line.label) (λ line lawful may. label_said dialect line.label lawful (line_label dialect line may)) Q.code
          (labels_lawful 0 Q.code (items_all IsMark (λ (m : Mark). IsLawful m.name) mark_lawful [] (marks_from 0 Q.code) text.labels)) is.code;
    }

-- ---- operands

found_some : (o : Option ℕ) (i : ℕ) → o ≡ Some i → is_some o ≡ true
found_some o i e = ap is_some e

-- a variable, an instance or a label that an operand stands for is declared
abbrev IsNamed : Dialect → Declarations → Operand → Type 0
IsNamed dialect ds (operands.Variable name) = IsFreeName dialect name × (has_name ds name ≡ true)
IsNamed dialect ds (operands.Field name field) = IsFreeName dialect name × IsFieldName field × (has_instance ds name ≡ true) × (has_name ds (under name field) ≡ false)
IsNamed dialect ds (operands.Label name) = IsFreeName dialect name
IsNamed dialect ds (operands.Instance name) = IsFreeName dialect name × (has_instance ds name ≡ true)
IsNamed dialect ds (operands.Bare z) = ⊥
IsNamed dialect ds operand = Unit {0}

field_named_so : (a b : List ℕ) → a ≡ b → IsFieldName a → IsFieldName b
field_named_so a b e is = subst IsFieldName e is

stands_for : (dialect : Dialect) (Q : Program) (o : Operand) (src : Source) → HasNames dialect Q → source_of Q o ≡ Some src → IsNamed dialect (declared_by Q) o
stands_for dialect Q operands.Absent src has e = tt
stands_for dialect Q (operands.Literal v) src has e = tt
stands_for dialect Q (operands.Bare z) src has e = absurd cc
stands_for dialect Q (operands.Variable name) src has e =
    let m = map_is (place_of Q name) sources.Of src e in
    let i = and_then_is (is_number Q.variables name) (λ i. option_map (variable_place i) (slice_get Q.variables i)) m.0 m.1 in
    (found_name (IsFreeName dialect) (λ (v : Variable). v.name) Q.variables name i.0 i.1 has.variables, found_some (is_number Q.variables name) i.0 i.1)
stands_for dialect Q (operands.Direct loc) src has e = tt
stands_for dialect Q (operands.Label name) src has e =
    let m = map_is (target_of Q name) sources.Target src e in
    found_label dialect Q.code name m.0 m.1 has.labels
stands_for dialect Q (operands.Field name field) src has e =
    let m = map_is (field_of Q name field) sources.Of src e in
    let i = and_then_is (instance_in Q.instances name) (λ i. option_and_then (numbered_field i field) (slice_get Q.instances i)) m.0 m.1 in
    let x = and_then_is (slice_get Q.instances i.0) (numbered_field i.0 field) m.0 i.2 in
    let n = map_is (field_number x.0.kind field) (places.Field i.0) m.0 x.2 in
    let f = field_so x.0.kind field n.0 n.1 in (
      found_name (IsFreeName dialect) (λ (y : Instance). y.name) Q.instances name i.0 i.1 has.instances,
      field_named_so (field_name f.field) field f.named (field_is f.field),
      found_some (instance_in Q.instances name) i.0 i.1,
      none_under Q.variables name field (found_name (λ (w : List ℕ). has_under Q.variables w ≡ false) (λ (y : Instance). y.name) Q.instances name i.0 i.1 has.apart),
    )
stands_for dialect Q (operands.Instance name) src has e =
    let m = map_is (instance_in Q.instances name) sources.Instance src e in
    (found_name (IsFreeName dialect) (λ (y : Instance). y.name) Q.instances name m.0 m.1 has.instances, found_some (instance_in Q.instances name) m.0 m.1)

value_listed : (dialect : Dialect) (ds : Declarations) (o : Operand) → has_form forms.Value false o ≡ true → may_name (newest dialect) o ≡ true → IsNamed dialect ds o → IsRead dialect o → IsValueOperand dialect ds o
value_listed dialect ds operands.Absent form may named read = absurd cc
value_listed dialect ds (operands.Literal v) form may named read = read
value_listed dialect ds (operands.Bare z) form may named read = named
value_listed dialect ds (operands.Variable name) form may named read = named
value_listed dialect ds (operands.Direct loc) form may named read = (read.0, read.1, may)
value_listed dialect ds (operands.Label name) form may named read = absurd cc
value_listed dialect ds (operands.Field name field) form may named read = named
value_listed dialect ds (operands.Instance name) form may named read = absurd cc

operand_listed : (dialect : Dialect) (ds : Declarations) (o : Operand) → may_name (newest dialect) o ≡ true → IsNamed dialect ds o → IsRead dialect o → IsListedOperand dialect ds o
operand_listed dialect ds operands.Absent may named read = tt
operand_listed dialect ds (operands.Literal v) may named read = read
operand_listed dialect ds (operands.Bare z) may named read = named
operand_listed dialect ds (operands.Variable name) may named read = named
operand_listed dialect ds (operands.Direct loc) may named read = (read.0, read.1, may)
operand_listed dialect ds (operands.Label name) may named read = named
operand_listed dialect ds (operands.Field name field) may named read = named
operand_listed dialect ds (operands.Instance name) may named read = named

-- ---- arguments

passed_listed : (dialect : Dialect) (Q : Program) (kind : Option BlockKind) (k : BlockKind) (a : Argument) → HasNames dialect Q → AllByRecursion (IsSayable dialect) (constants_of Q) → may_name (newest dialect) a.operand ≡ true → IsPassing Q kind a → IsArgumentOf Q k a → IsListedArgument dialect (declared_by Q) a
passed_listed dialect Q kind k a has values may is typed =
    let t = tested_is (has_form forms.Value false) (value_operand (declared_by Q) (constants_of Q) (operand_code Q (constants_of Q) a.operand)) a.operand is.operand_read in
    let read = value_read dialect (declared_by Q) (constants_of Q) (operand_code Q (constants_of Q) a.operand) a.operand values t.0 in
    let f = field_so k a.field typed.number typed.numbered in
    record {
      field = subst IsFieldName f.named (field_is f.field);
      operand = value_listed dialect (declared_by Q) a.operand t.1 may (stands_for dialect Q a.operand typed.source has typed.sourced) read;
    }

all_passed : (dialect : Dialect) (Q : Program) (kind : Option BlockKind) (k : BlockKind) (args : List Argument) → HasNames dialect Q → AllByRecursion (IsSayable dialect) (constants_of Q) → list_all (may_name (newest dialect)) (map (λ (a : Argument). a.operand) args) ≡ true → AllByRecursion (IsPassing Q kind) args → AllByRecursion (IsArgumentOf Q k) args
    → AllByRecursion (IsListedArgument dialect (declared_by Q)) args
all_passed dialect Q kind k [] has values may is typed = tt
all_passed dialect Q kind k (a ∷ args) has values may is typed =
    let m = both_true (may_name (newest dialect) a.operand) (list_all (may_name (newest dialect)) (map (λ (b : Argument). b.operand) args)) may in
    (passed_listed dialect Q kind k a has values m.0 is.0 typed.0, all_passed dialect Q kind k args has values m.1 is.1 typed.1)

arguments_listed : (dialect : Dialect) (Q : Program) (kind own : Option BlockKind) (args : List Argument) → HasNames dialect Q → AllByRecursion (IsSayable dialect) (constants_of Q) → list_all (may_name (newest dialect)) (map (λ (a : Argument). a.operand) args) ≡ true → AllByRecursion (IsPassing Q own) args → arguments_fault Q kind [] args ≡ None
    → AllByRecursion (IsListedArgument dialect (declared_by Q)) args
arguments_listed dialect Q None own args has values may is e = subst (λ (xs : List Argument). AllByRecursion (IsListedArgument dialect (declared_by Q)) xs) (sym (no_arguments Q [] args e)) tt
arguments_listed dialect Q (Some k) own args has values may is e = all_passed dialect Q own k args has values may is (arguments_typed Q k [] args e)

-- ---- lines

line_listed : (dialect : Dialect) (Q : Program) (line : Instr) → HasNames dialect Q → AllByRecursion (IsSayable dialect) (constants_of Q) → IsListedLabel dialect line.label → may_write (newest dialect) line ≡ true → IsWord Q line → IsTypedLine Q line → IsListedLine dialect (declared_by Q) line
line_listed dialect Q line has values label known is typed =
    let code = operand_code Q (constants_of Q) line.operand in
    let marks = marks_from 0 Q.code in
    let t = tested_is (formed_by (usage_of line.op) line.modifier) (numbered_operand (declared_by Q) marks (constants_of Q) line.op code) line.operand is.coded.operand_read in
    let l = tested_is (allowed_by (usage_of line.op)) (modifier_of (modifier_code line.modifier)) line.modifier is.coded.letters in
    let w = both_true (may_label (newest dialect) line.label) (may_have (newest dialect) (op_version line.op) && list_all (may_name (newest dialect)) (operands_in line)) known in
    let m = both_true (may_have (newest dialect) (op_version line.op)) (list_all (may_name (newest dialect)) (operands_in line)) w.1 in
    let n = both_true (may_name (newest dialect) line.operand) (list_all (may_name (newest dialect)) (map (λ (a : Argument). a.operand) line.arguments)) m.1 in
    record {
      label = label;
      known = m.0;
      letters = l.1;
      form = t.1;
      operand = operand_listed dialect (declared_by Q) line.operand n.0 (stands_for dialect Q line.operand typed.source has typed.sourced) (word_read dialect (declared_by Q) marks (constants_of Q) line.op code line.operand values t.0);
      arguments = arguments_listed dialect Q (called_kind Q line.operand) (called_kind Q line.operand) line.arguments has values n.1 is.arguments typed.arguments;
      called = is.called;
      labelled = is.labelled;
    }

all_lines : (dialect : Dialect) (Q : Program) (code : List Instr) → HasNames dialect Q → AllByRecursion (IsSayable dialect) (constants_of Q) → AllByRecursion (λ (line : Instr). IsListedLabel dialect line.label) code → AllByRecursion (λ (line : Instr). may_write (newest dialect) line ≡ true) code
    → AllByRecursion (IsWord Q) code → AllByRecursion (IsTypedLine Q) code → AllByRecursion (IsListedLine dialect (declared_by Q)) code
all_lines dialect Q [] has values labels known words typed = tt
all_lines dialect Q (line ∷ code) has values labels known words typed = (line_listed dialect Q line has values labels.0 known.0 words.0 typed.0, all_lines dialect Q code has values labels.1 known.1 words.1 typed.1)

-- ---- values

-- a value of a type, within its range
pub record IsOfType (type : Ty) (v : Value) : Type 0 where
  pub is : ty_of v ≡ type
  pub made_again : typed_value type (number_of v) ≡ Some v

pub if_some : {A : Type 0} (b : Bool) (x y : A) → cond b (Some x) None ≡ Some y → (b ≡ true) × (x ≡ y)
if_some true x y e = (refl, some_is x y e)
if_some false x y e = absurd cc

truth_of_type : (z : ℤ) (v : Value) → truth_made z ≡ Some v → IsOfType types.Bool v
truth_of_type (negsuc n) v e = absurd cc
truth_of_type (pos n) v e = by_tests (ltb n 1) (ltb n 2) e
  where
    by_tests : (p q : Bool) → cond p (Some (values.Bool false)) (cond q (Some (values.Bool true)) None) ≡ Some v → IsOfType types.Bool v
    by_tests true q h = subst (IsOfType types.Bool) (some_is (values.Bool false) v h) (record { is = refl; made_again = refl })
    by_tests false true h = subst (IsOfType types.Bool) (some_is (values.Bool true) v h) (record { is = refl; made_again = refl })
    by_tests false false h = absurd cc

pub of_type : (type : Ty) (z : ℤ) (v : Value) → typed_value type z ≡ Some v → IsOfType type v
of_type types.Bool z v e = truth_of_type z v e
of_type types.Int z v e =
    let m = if_some (is_within (2 ^ 15) z) (values.Int z) v e in
    subst (IsOfType types.Int) m.1 (record { is = refl; made_again = rw m.0 refl })
of_type types.Dint z v e =
    let m = if_some (is_within (2 ^ 31) z) (values.Dint z) v e in
    subst (IsOfType types.Dint) m.1 (record { is = refl; made_again = rw m.0 refl })
of_type types.Time z v e =
    let m = if_some (is_within (2 ^ 31) z) (values.Time z) v e in
    subst (IsOfType types.Time) m.1 (record { is = refl; made_again = rw m.0 refl })
of_type types.Lint z v e =
    let m = if_some (is_within (2 ^ 63) z) (values.Lint z) v e in
    subst (IsOfType types.Lint) m.1 (record { is = refl; made_again = rw m.0 refl })
of_type types.Real z v e =
    let m = real_is z v e in
    subst (IsOfType types.Real) m.1 (record { is = refl; made_again = real_again m.0 })
of_type types.Word z v e =
    let m = bits_are (2 ^ 16) values.Word z v e in
    subst (IsOfType types.Word) m.is (record { is = refl; made_again = bits_again (2 ^ 16) values.Word m.pattern m.small })
of_type types.Dword z v e =
    let m = bits_are (2 ^ 32) values.Dword z v e in
    subst (IsOfType types.Dword) m.is (record { is = refl; made_again = bits_again (2 ^ 32) values.Dword m.pattern m.small })

constant_value : (seen : List Value) (v : Value) → IsConstant seen v → IsValue v
constant_value seen v is =
    let t = tested_is (λ w. not (is_known seen w)) (typed_value (ty_of v) (number_of v)) v is.value in
    (of_type (ty_of v) (number_of v) v t.0).made_again

-- ---- the whole

pub record IsListable (dialect : Dialect) (Q : Program) : Type 0 where
  pub names : HasNames dialect Q
  pub lines : AllByRecursion (IsListedLine dialect (declared_by Q)) Q.code

constants_said : (dialect : Dialect) (Q : Program) → IsSayableProgram dialect Q → AllByRecursion (IsSayable dialect) (constants_of Q)
constants_said dialect Q is =
    all_of_both IsValue (λ (v : Value). may_keep (newest dialect) v ≡ true) (IsSayable dialect) (λ v value known. record { value = value; known = known }) (constants_of Q)
    (items_all IsConstant IsValue constant_value [] (constants_of Q) is.image.text.constants) is.constants

pub listable : (dialect : Dialect) (Q : Program) → IsSayableProgram dialect Q → IsListable dialect Q
listable dialect Q is =
    let has = names_of dialect Q is in
    let words = items_all (λ seen. IsWord Q) (IsWord Q) (λ seen line w. w) [] Q.code is.image.text.words in
    record { names = has; lines = all_lines dialect Q Q.code has (constants_said dialect Q is) has.labels is.code words (typed_lines Q (faultless Q is.image.typed)) }
