-- What a text declares has lawful forms: names, locations, initial values, operators with their letters, operands and arguments.
use Rattle.std.proofs.Common.{◌≡◌, ℕ, suc, ◌+◌, ◌<◌, ◌≤◌, Bool, true, false, cond, ltb, List, [], ◌∷◌, ◌++◌, length, Option, Some, None, Result, Ok, Err, refl, sym, ap, subst, ◌∙◌, arith, ◌&&◌, ◌||◌, not, append_assoc, map}
use Rattle.std.specs.Prelude.{ℤ, pos, is_some}
use Rattle.std.specs.List.{AllByRecursion, list_all, list_any, position}
use Rattle.std.specs.Option.{option_map, option_and_then}
use Rattle.std.specs.Cmp.Lexicographic.{nat_list_eq_equiv}
use Rattle.std.proofs.lemmas.List.{length-append, append-nil}
use Rattle.std.proofs.lemmas.Bool.{lt-ltb, ltb-false, le-leb, leb-false, cond-true}
use Rattle.il_model.specs.declared.dialect.Dialect.{Dialect}
use Rattle.il_model.specs.declared.dialect.Dialect.TheVariants as dialects
use Rattle.il_values.specs.declared.function.Function.{Function}
use Rattle.il_values.specs.Functions.{function_named}
use Rattle.il_model.specs.Dialects.{applied, or_function, or_extended, operator_in, literal_in, location_in, newest}
use Rattle.il_model.specs.Limits.{most_variables, most_instances, most_instructions, is_crowded, has_room}
use Rattle.il_model.specs.Marks.{word_count, words_in}
use Rattle.il_model.proofs.Marks.{words_in-append}
use Rattle.il_model.proofs.Sizes.{room_within, variables_most, instances_most, instructions_most}
use Rattle.il_model.specs.Program.{program_of, Program, Declarations}
use Rattle.il_model.specs.declared.codes.Version.TheVariants as versions
use Rattle.il_values.specs.declared.value.Ty.{Ty}
use Rattle.il_values.specs.declared.value.Ty.TheVariants as types
use Rattle.il_values.specs.declared.value.Value.{Value}
use Rattle.il_values.specs.declared.value.Value.TheVariants as values
use Rattle.il_model.specs.declared.literal.Literal.{Literal}
use Rattle.il_model.specs.declared.literal.Literal.TheVariants.{Bare, Typed}
use Rattle.il_values.specs.declared.op.Op.{Op}
use Rattle.il_values.specs.declared.op.Op.TheVariants as ops
use Rattle.il_values.specs.declared.op.Modifier.{Modifier}
use Rattle.il_model.specs.declared.words.Mnemonic.{Mnemonic}
use Rattle.il_model.specs.declared.program.Loc.{Loc}
use Rattle.il_model.specs.declared.program.Variable.{Variable}
use Rattle.il_model.specs.declared.program.Instance.{Instance}
use Rattle.il_model.specs.declared.program.Argument.{Argument}
use Rattle.il_model.specs.declared.kind.BlockKind.{BlockKind}
use Rattle.il_model.specs.declared.program.Operand.{Operand}
use Rattle.il_model.specs.declared.program.Operand.TheVariants as operands
use Rattle.il_model.specs.declared.program.Instr.{Instr}
use Rattle.il_model.specs.declared.codes.Usage.{Usage}
use Rattle.il_model.specs.declared.codes.OperandForm as usage
use Rattle.il_model.specs.declared.codes.OperandForm.TheVariants as usages
use Rattle.il_values.specs.Values.{ty_of, number_of, typed_value, zero_of}
use Rattle.il_model.specs.Words.{same_name, stands_under, split_last, is_reserved, is_lawful_name, look, mnemonic_of, mnemonic_table, extended_mnemonic_of, extended_mnemonic_table}
use Rattle.il_values.specs.Spelled.{spells}
use Rattle.il_model.specs.Resolved.{instance_in}
use Rattle.il_model.specs.CodedOperands.{loc_code, IsCell}
use Rattle.il_model.specs.Image.{type_code}
use Rattle.il_model.specs.declared.program.Area.{Area}
use Rattle.il_model.specs.Locations.{area_of, seen_as}
use Rattle.il_model.specs.Typing.{loc_type, is_writable_area}
use Rattle.il_model.specs.Codes as codes_of
use Rattle.il_values.specs.Operators.{is_zero}
use Rattle.il_model.specs.Codes.{if_passes, is_new_name, is_taken, is_overlapped, is_type, is_number, has_under, length_in, may_start_with, initial_of, usage_of, has_form, allowed_by, formed_by, is_empty}
use Rattle.il_model.specs.Fits.{IsVariable, IsInstance, AreItems}
use Rattle.il_model.specs.Lawful.{IsLabel}
use Rattle.il_model.specs.Declarable.{IsOperand, as_value, IsArgument, IsInstruction, IsDeclared}
use Rattle.il_model.proofs.LiteralLaws.{IsInRange, literal_in_good, start_again}
use Rattle.il_values.proofs.RealValues.{bare_made, real_again}
use Rattle.il_model.proofs.Positions.{position_first, position_later, position_past}
use Rattle.il_reader.specs.declared.contents.Operator.{Operator}
use Rattle.il_reader.specs.declared.operations.Form.{Form}
use Rattle.il_reader.specs.declared.operations.Form.TheVariants as forms
use Rattle.il_reader.specs.declared.lexeme.Sign.TheVariants as signs
use Rattle.il_reader.specs.Tokens.{Token}
use Rattle.il_reader.specs.Front.{is_sign}
use Rattle.il_reader.specs.Grammar.{BlockText, is_retained, OperandText, Constant, Direct, Named, Field, ArgumentText, arguments_of, BehindText, Nothing, Given, Target, Opened, Called, OperationText, LineText, Labelled, Plain, NamesText, Located, More, DeclarationText, ProgramText, form_of, closing, operator_of, operator_from}
use Rattle.il_reader.specs.Spelling.{accepts, accepting, operator_before}
use Rattle.il_reader.specs.Words.{IsName, AreNames, IsNamedDeclaration, IsOperation, IsOptionalOperation, IsOperator, AreWords}
use Rattle.il_declarations.specs.declared.fault.DeclKind.TheVariants as kinds
use Rattle.il_declarations.specs.declared.fault.FaultAt.{FaultAt}
use Rattle.il_declarations.specs.declared.variables.Plan.{Plan}
use Rattle.il_declarations.specs.declared.variables.DeclaredType.{DeclaredType}
use Rattle.il_declarations.specs.declared.variables.DeclaredType.TheVariants.{Elementary, Block}
use Rattle.il_declarations.specs.Resolution.{capitals, declared_type, suits, place_as, variable, same_type, fitting, is_input, written_value, opens, with_opening, are_too_many}
use Rattle.il_declarations.specs.Declaring.{BlockDeclaration, in_block, declarations_in, arguments_behind, operation_words}
use Rattle.il_declarations.specs.Walk.{◌>>=◌, each, refused, nothing, has_name, has_instance, is_full, is_shadowed, new_name, free_loc, free_location, found_type, known_type, fitted, elementary_value, first_value, planned_value, with_declared, declare_name, declare_located, declare_listed, declare_by, declare, declare_block, direct, constant, field_named, argument_of, pushed_argument, behind_arguments, behind_of, instruction_of, room, label_of, instruct_labelled, instruct_plain, instruct}
use Rattle.il_declarations.specs.Resolution as resolution
use Rattle.il_declarations.specs.Walk as walk
use Rattle.il_declarations.proofs.Capitals.{capitals_lawful, capitals_length}
use Rattle.il_model.proofs.CodedOperands.{loc_small, located_again}
use Rattle.il_model.proofs.WrittenLocations.{location_named, cell_seen, parts_seen, area_seen}

abbrev done : {A : Type 0} → A → Result A FaultAt
done x = Ok x

ok_is : {A : Type 0} (x y : A) → done x ≡ done y → x ≡ y
ok_is x y e = cc

-- the value of a step that did not fail
bind_ok : {A B : Type 0} (r : Result A FaultAt) (f : A → Result B FaultAt) (y : B) → (r >>= f) ≡ Ok y → (x : A) × (r ≡ Ok x) × (f x ≡ Ok y)
bind_ok (Ok x) f y e = (x, refl, e)
bind_ok (Err d) f y e = absurd cc

-- what each step keeps, all keep
each_keeps : {X Y : Type 0} (P : Y → Type 0) (Q : X → Type 0) (step : Y → X → Result Y FaultAt) → ((y : Y) (x : X) (z : Y) → P y → Q x → step y x ≡ Ok z → P z)
    → (y : Y) (xs : List X) (z : Y) → P y → AllByRecursion Q xs → each step y xs ≡ Ok z → P z
unfolding each
each_keeps P Q step keeps y [] z p q e = subst P (ok_is y z e) p
each_keeps P Q step keeps y (x ∷ xs) z p q e =
    let m = bind_ok (step y x) (λ w. each step w xs) z e in
    each_keeps P Q step keeps m.0 xs z (keeps y x m.0 p q.0 m.1) q.1 m.2

items_push : {X : Type 0} (I : List X → X → Type 0) (seen xs : List X) (x : X) → AreItems I seen xs → I (seen ++ xs) x → AreItems I seen (xs ++ x ∷ [])
items_push {X} I seen [] x all here = (subst (λ (s : List X). I s x) (append-nil seen) here, tt)
items_push {X} I seen (y ∷ ys) x all here = (all.0, items_push I (seen ++ y ∷ []) ys x all.1 (subst (λ (s : List X). I s x) (sym (append_assoc seen (y ∷ []) ys)) here))

-- ---- variables and instances

pub record Fine (known : Declarations) : Type 0 where
  pub variables : AreItems IsVariable [] known.variables
  pub variables_few : length known.variables ≤ 4096
  pub instances : AreItems (IsInstance known.variables) [] known.instances
  pub instances_few : length known.instances ≤ 1024

-- what a name is that was not refused
record IsNew (dialect : Dialect) (type : Option DeclaredType) (known : Declarations) (t : Token) (name : List ℕ) : Type 0 where
  is : capitals t.text ≡ name
  no_variable : has_name known (capitals t.text) ≡ false
  no_instance : has_instance known (capitals t.text) ≡ false
  apart : is_shadowed type known (capitals t.text) ≡ false
  free : is_reserved (capitals t.text) ≡ false
  room : is_full dialect type known ≡ false

new_is : (dialect : Dialect) (type : Option DeclaredType) (known : Declarations) (t : Token) (name : List ℕ) → new_name dialect type known t ≡ Ok name → IsNew dialect type known t name
unfolding new_name
new_is dialect type known t name e = chosen (has_name known (capitals t.text)) (has_instance known (capitals t.text)) (is_shadowed type known (capitals t.text)) (is_reserved (capitals t.text)) (is_full dialect type known) refl refl refl refl refl e
  where
    chosen : (a i s b c : Bool) → has_name known (capitals t.text) ≡ a → has_instance known (capitals t.text) ≡ i → is_shadowed type known (capitals t.text) ≡ s → is_reserved (capitals t.text) ≡ b → is_full dialect type known ≡ c
        → cond ((a || i) || s) (refused kinds.Duplicate t) (cond b (refused kinds.ReservedName t) (cond c (refused kinds.TooMany t) (Ok (capitals t.text)))) ≡ Ok name → IsNew dialect type known t name
    chosen true i s b c f j k g h e = absurd cc
    chosen false true s b c f j k g h e = absurd cc
    chosen false false true b c f j k g h e = absurd cc
    chosen false false false true c f j k g h e = absurd cc
    chosen false false false false true f j k g h e = absurd cc
    chosen false false false false false f j k g h e = record { is = ok_is (capitals t.text) name e; no_variable = f; no_instance = j; apart = k; free = g; room = h }

more_variables : (dialect : Dialect) (type : Ty) (known : Declarations) → is_full dialect (Some (Elementary type)) known ≡ false → length known.variables < 4096
more_variables dialect type known e =
    let below = leb-false (most_variables (newest dialect)) (length known.variables) e in
    omega (arith, below, variables_most (newest dialect))

more_instances : (dialect : Dialect) (kind : BlockKind) (known : Declarations) → is_full dialect (Some (Block kind)) known ≡ false → length known.instances < 1024
more_instances dialect kind known e =
    let below = leb-false (most_instances (newest dialect)) (length known.instances) e in
    omega (arith, below, instances_most (newest dialect))

type_again : (type : Ty) → codes_of.type_of (type_code type) ≡ Some type
type_again types.Bool = refl
type_again types.Int = refl
type_again types.Dint = refl
type_again types.Time = refl
type_again types.Lint = refl
type_again types.Real = refl
type_again types.Word = refl
type_again types.Dword = refl

-- a value that is made again of its own number at that place
abbrev IsStart : Ty → Option Loc → Value → Type 0
IsStart type loc v = initial_of type loc (number_of v) ≡ Some v

-- a location of that type
abbrev IsOf : DeclaredType → Loc → Type 0
IsOf (Elementary type) loc = is_type type (loc_type loc) ≡ true
IsOf (Block kind) loc = ⊥

record IsFreePlace (type : DeclaredType) (known : Declarations) (loc : Loc) : Type 0 where
  place : IsCell loc
  suits : IsOf type loc
  free : is_overlapped known.variables loc ≡ false

long_enough : (dialect : Dialect) (t : Token) → IsName dialect t → length_in versions.Three (length (capitals t.text)) ≡ Some (length (capitals t.text))
long_enough dialect t word = let l = capitals_length dialect t.text word in rw (lt-ltb 0 (length (capitals t.text)) l.0, le-leb (length (capitals t.text)) 96 l.1) refl

-- a lawful name at a place that none has, with a first value
variable_fits : (dialect : Dialect) (r : Bool) (known : Declarations) (t : Token) (name : List ℕ) (type : Ty) (o : Option Loc) (v : Value) → IsName dialect t → IsNew dialect (Some (Elementary type)) known t name
    → ((loc : Loc) → o ≡ Some loc → IsFreePlace (Elementary type) known loc) → IsStart type o v → IsVariable known.variables (variable r name type o v)
variable_fits dialect r known t name type o v word new place start =
    subst (λ (n : List ℕ). IsVariable known.variables (variable r n type o v)) new.is (by_place o place start)
  where
    lawful : is_lawful_name (capitals t.text) ≡ true
    lawful = capitals_lawful dialect t.text word new.free

    fresh : is_new_name known.variables (capitals t.text) ≡ true
    fresh = rw (lawful, new.no_variable) refl

    by_place : (o : Option Loc) → ((loc : Loc) → o ≡ Some loc → IsFreePlace (Elementary type) known loc) → IsStart type o v → IsVariable known.variables (variable r (capitals t.text) type o v)
    by_place None place start = record { length = long_enough dialect t word; name = fresh; type = type_again type; location = refl; location_small = omega arith; initial = start }
    by_place (Some loc) place start =
        let p = place loc refl in
        record { length = long_enough dialect t word; name = fresh; type = type_again type; location = located_again known.variables type loc p.place p.suits p.free; location_small = omega (arith, loc_small loc p.place); initial = start }

abbrev instance : Bool → List ℕ → BlockKind → Instance
instance r name kind = record { name = name; kind = kind; retained = r }

-- a lawful name that no variable and no instance has, and under which no variable stands
instance_fits : (dialect : Dialect) (r : Bool) (known : Declarations) (t : Token) (name : List ℕ) (kind : BlockKind) → IsName dialect t → IsNew dialect (Some (Block kind)) known t name → IsInstance known.variables known.instances (instance r name kind)
instance_fits dialect r known t name kind word new =
    let lawful = capitals_lawful dialect t.text word new.free in
    subst (λ (n : List ℕ). IsInstance known.variables known.instances (instance r n kind)) new.is (record { length = long_enough dialect t word; name = rw (lawful, new.no_variable, new.no_instance, new.apart) refl })

-- what is found nowhere isn't the first, nor behind it
not_found : {X : Type 0} (p : X → Bool) (x : X) (xs : List X) → is_some (position p (x ∷ xs)) ≡ false → (p x ≡ false) × (is_some (position p xs) ≡ false)
not_found p x xs e = by_test (p x) refl
  where
    none_later : (o : Option ℕ) → is_some (option_map suc o) ≡ false → is_some o ≡ false
    none_later None h = refl
    none_later (Some k) h = absurd cc

    by_test : (b : Bool) → p x ≡ b → (p x ≡ false) × (is_some (position p xs) ≡ false)
    by_test true f = let found : true ≡ false = ap is_some (sym (position_first p x xs f)) ∙ e in absurd cc
    by_test false f = (f, none_later (position p xs) (ap is_some (sym (position_later p x xs f)) ∙ e))

-- one variable more that doesn't stand under the name
under_past : (vs : List Variable) (v : Variable) (name : List ℕ) → stands_under name v.name ≡ false → has_under (vs ++ v ∷ []) name ≡ has_under vs name
under_past [] v name e = rw e refl
under_past (w ∷ vs) v name e = ap (λ (b : Bool). stands_under name w.name || b) (under_past vs v name e)

-- an instance stays new beside one variable more, which has another name and doesn't stand under it
instance_stays : (vs : List Variable) (v : Variable) (seen : List Instance) (x : Instance) → same_name x.name v.name ≡ false → stands_under x.name v.name ≡ false → IsInstance vs seen x → IsInstance (vs ++ v ∷ []) seen x
instance_stays vs v seen x differs apart is =
    let other : same_name v.name x.name ≡ false = nat_list_eq_equiv.symm v.name x.name ∙ differs in
    record {
      length = is.length;
      name = ap (λ (b : Bool). ((is_lawful_name x.name && not (is_some (is_number (vs ++ v ∷ []) x.name))) && not (is_some (instance_in seen x.name))) && not b) (under_past vs v x.name apart)
          ∙ ap (λ (o : Option ℕ). ((is_lawful_name x.name && not (is_some o)) && not (is_some (instance_in seen x.name))) && not (has_under vs x.name)) (position_past (λ (w : Variable). same_name w.name x.name) vs v other)
          ∙ is.name;
    }

or_false : (a b : Bool) → (a || b) ≡ false → (a ≡ false) × (b ≡ false)
or_false true b e = absurd cc
or_false false b e = (refl, e)

instances_stay : (vs : List Variable) (v : Variable) (seen xs : List Instance) → is_some (instance_in xs v.name) ≡ false → list_any (λ (w : Instance). stands_under w.name v.name) xs ≡ false → AreItems (IsInstance vs) seen xs → AreItems (IsInstance (vs ++ v ∷ [])) seen xs
instances_stay vs v seen [] none apart all = tt
instances_stay vs v seen (x ∷ xs) none apart all =
    let other = not_found (λ (w : Instance). same_name w.name v.name) x xs none in
    let under = or_false (stands_under x.name v.name) (list_any (λ (w : Instance). stands_under w.name v.name) xs) apart in
    (instance_stays vs v seen x other.0 under.0 all.0, instances_stay vs v (seen ++ x ∷ []) xs other.1 under.1 all.1)

abbrev nowhere : Option Loc
nowhere = None

abbrev somewhere : Loc → Option Loc
somewhere loc = Some loc

same_loc : (x y : Loc) → somewhere x ≡ somewhere y → x ≡ y
same_loc x y e = cc

no_place : (loc : Loc) → nowhere ≡ somewhere loc → ⊥
no_place loc e = absurd cc

-- ---- initial values

or_true : (b : Bool) → (b || true) ≡ true
or_true true = refl
or_true false = refl

not_false : (b : Bool) → not b ≡ false → b ≡ true
not_false true e = refl
not_false false e = absurd cc

real_zero : (v : Value) → ty_of v ≡ types.Real → typed_value types.Real (number_of v) ≡ Some v
real_zero (values.Real r) e = real_again r
real_zero v e = absurd cc

zero_made : (type : Ty) → typed_value type (pos 0) ≡ Some (zero_of type)
zero_made types.Bool = refl
zero_made types.Int = refl
zero_made types.Dint = refl
zero_made types.Time = refl
zero_made types.Lint = refl
zero_made types.Real = real_zero (zero_of types.Real) refl
zero_made types.Word = refl
zero_made types.Dword = refl

zero_may : (type : Ty) (loc : Option Loc) → may_start_with loc (zero_of type) ≡ true
zero_may type None = refl
zero_may types.Bool (Some loc) = or_true (is_writable_area (area_of loc))
zero_may types.Int (Some loc) = or_true (is_writable_area (area_of loc))
zero_may types.Dint (Some loc) = or_true (is_writable_area (area_of loc))
zero_may types.Time (Some loc) = or_true (is_writable_area (area_of loc))
zero_may types.Lint (Some loc) = or_true (is_writable_area (area_of loc))
zero_may types.Real (Some loc) = or_true (is_writable_area (area_of loc))
zero_may types.Word (Some loc) = or_true (is_writable_area (area_of loc))
zero_may types.Dword (Some loc) = or_true (is_writable_area (area_of loc))

abbrev one_value : Value → Option Value
one_value v = Some v

value_is : (x y : Value) → one_value x ≡ one_value y → x ≡ y
value_is x y e = cc

fitting_made : (type : Ty) (o : Option Literal) (v : Value) → fitting type o ≡ Some v → (z : ℤ) × (typed_value type z ≡ Some v)
fitting_made type None v e = absurd cc
fitting_made type (Some (Bare z)) v e = (z, bare_made type z v e)
fitting_made type (Some (Typed w)) v e = chosen (same_type (ty_of w) type) e
  where
    chosen : (b : Bool) → cond b (typed_value type (number_of w)) None ≡ Some v → (z : ℤ) × (typed_value type z ≡ Some v)
    chosen true h = (number_of w, h)
    chosen false h = absurd cc

may_written : (loc : Option Loc) (v : Value) → is_input loc ≡ false → may_start_with loc v ≡ true
may_written None v e = refl
may_written (Some loc) v e = rw (not_false (is_writable_area (area_of loc)) e) refl

written_start : (dialect : Dialect) → (type : Ty) (loc : Option Loc) (t : Token) (v : Value) → written_value dialect type loc t ≡ Some v → IsStart type loc v
written_start dialect type loc t v e = chosen (is_input loc) refl e
  where
    chosen : (b : Bool) → is_input loc ≡ b → cond b None (fitting type (literal_in dialect t.text)) ≡ Some v → IsStart type loc v
    chosen true f h = absurd cc
    chosen false f h = let m = fitting_made type (literal_in dialect t.text) v h in start_again type loc m.0 v m.1 (may_written loc v f)

fitted_is : (t : Token) (o : Option Value) (v : Value) → fitted t o ≡ Ok v → o ≡ Some v
fitted_is t None v e = absurd cc
fitted_is t (Some x) v e = ap one_value (ok_is x v e)

elementary_start : (dialect : Dialect) → (type : Ty) (loc : Option Loc) (o : Option Token) (v : Value) → elementary_value dialect type loc o ≡ Ok v → IsStart type loc v
elementary_start dialect type loc None v e = subst (IsStart type loc) (ok_is (zero_of type) v e) (start_again type loc (pos 0) (zero_of type) (zero_made type) (zero_may type loc))
elementary_start dialect type loc (Some t) v e = written_start dialect type loc t v (fitted_is t (written_value dialect type loc t) v e)

-- what a variable may start with; an instance starts with nothing
abbrev Starts : DeclaredType → Option Loc → Value → Type 0
Starts (Elementary type) loc v = IsStart type loc v
Starts (Block kind) loc v = Unit {0}

first_start : (dialect : Dialect) → (type : DeclaredType) (loc : Option Loc) (o : Option Token) (v : Value) → first_value dialect type loc o ≡ Ok v → Starts type loc v
first_start dialect (Elementary type) loc o v e = elementary_start dialect type loc o v e
first_start dialect (Block kind) loc o v e = tt

start_seen : (type : Ty) (loc : Loc) (v : Value) → IsStart type (Some loc) v → IsStart type (Some (seen_as type loc)) v
start_seen type loc v e = ap (λ (a : Area). option_and_then (if_passes (λ (x : Value). is_writable_area a || is_zero (number_of x))) (typed_value type (number_of v))) (area_seen type loc) ∙ e

first_start_seen : (dialect : Dialect) (type : DeclaredType) (loc : Loc) (o : Option Token) (v : Value) → first_value dialect type (Some loc) o ≡ Ok v → Starts type (Some (place_as type loc)) v
first_start_seen dialect (Elementary type) loc o v e = start_seen type loc v (elementary_start dialect type (Some loc) o v e)
first_start_seen dialect (Block kind) loc o v e = tt

-- the value that was planned is the first value
planned_is : (dialect : Dialect) → (type : Ty) (o : Option Token) (v : Value) → elementary_value dialect type None o ≡ Ok v → planned_value dialect (Some (Elementary type)) o ≡ v
planned_is dialect type None v e = ok_is (zero_of type) v e
planned_is dialect type (Some t) v e = rw (fitted_is t (written_value dialect type None t) v e) refl

planned_start : (dialect : Dialect) → (type : DeclaredType) (o : Option Token) (v : Value) → first_value dialect type None o ≡ Ok v → Starts type None (planned_value dialect (Some type) o)
planned_start dialect (Elementary type) o v e = subst (IsStart type None) (sym (planned_is dialect type o v e)) (elementary_start dialect type None o v e)
planned_start dialect (Block kind) o v e = tt

-- ---- declarations

abbrev plan : Bool → Option DeclaredType → Value → Plan
plan r type v = record { ty = type; initial = v; retained = r }

declared_fine : (dialect : Dialect) (r : Bool) (type : DeclaredType) (v : Value) (known : Declarations) (t : Token) (name : List ℕ) (loc : Option Loc) → Fine known → IsName dialect t → IsNew dialect (Some type) known t name
    → ((l : Loc) → loc ≡ Some l → IsFreePlace type known l) → Starts type loc v → Fine (with_declared (plan r (Some type) v) known name loc (Some type))
declared_fine dialect r (Elementary type) v known t name loc fine word new place start =
    let more = more_variables dialect type known new.room in
    let none : is_some (instance_in known.instances name) ≡ false = subst (λ (n : List ℕ). is_some (instance_in known.instances n) ≡ false) new.is new.no_instance in
    let apart : list_any (λ (w : Instance). stands_under w.name name) known.instances ≡ false = subst (λ (n : List ℕ). list_any (λ (w : Instance). stands_under w.name n) known.instances ≡ false) new.is new.apart in
    record {
      variables = items_push IsVariable [] known.variables (variable r name type loc v) fine.variables (variable_fits dialect r known t name type loc v word new place start);
      variables_few = omega (arith, more, length-append known.variables (variable r name type loc v ∷ []));
      instances = instances_stay known.variables (variable r name type loc v) [] known.instances none apart fine.instances;
      instances_few = fine.instances_few;
    }
declared_fine dialect r (Block kind) v known t name loc fine word new place start =
    let more = more_instances dialect kind known new.room in
    record {
      variables = fine.variables;
      variables_few = fine.variables_few;
      instances = items_push (IsInstance known.variables) [] known.instances (instance r name kind) fine.instances (instance_fits dialect r known t name kind word new);
      instances_few = omega (arith, more, length-append known.instances (instance r name kind ∷ []));
    }

name_keeps : (dialect : Dialect) (r : Bool) (type : DeclaredType) (v : Value) (known : Declarations) (t : Token) (z : Declarations) → Starts type None v → Fine known → IsName dialect t → declare_name dialect (plan r (Some type) v) known t ≡ Ok z → Fine z
unfolding declare_name
name_keeps dialect r type v known t z start fine word e =
    let m = bind_ok (new_name dialect (Some type) known t) (λ name. Ok (with_declared (plan r (Some type) v) known name None (Some type))) z e in
    subst Fine (ok_is (with_declared (plan r (Some type) v) known m.0 None (Some type)) z m.2)
    (declared_fine dialect r type v known t m.0 None fine word (new_is dialect (Some type) known t m.0 m.1) (λ loc none. absurd (no_place loc none)) start)

type_is : (dialect : Dialect) → (t : Token) (type : DeclaredType) → known_type dialect t ≡ Ok type → declared_type dialect t.text ≡ Some type
type_is dialect t type e = found (declared_type dialect t.text) e
  where
    found : (o : Option DeclaredType) → found_type t o ≡ Ok type → o ≡ Some type
    found None h = absurd cc
    found (Some x) h = ap (λ (y : DeclaredType). Some y) (ok_is x type h)

-- a variable of the type lies there
seen_place : (type : DeclaredType) (known : Declarations) (loc : Loc) → IsCell loc → suits (Some type) loc ≡ true → is_overlapped known.variables loc ≡ false → IsFreePlace type known (place_as type loc)
seen_place (Elementary type) known loc cell g k = record {
  place = cell_seen type loc cell;
  suits = g;
  free = ap (λ (parts : List Loc). list_any (λ (part : Loc). is_taken known.variables (loc_code part)) parts) (parts_seen type loc) ∙ k;
}
seen_place (Block kind) known loc cell g k = absurd cc

place_is : (dialect : Dialect) (type : DeclaredType) (known : Declarations) (t : Token) (loc : Loc) → free_location dialect (Some type) known t ≡ Ok loc → IsFreePlace type known (place_as type loc)
place_is dialect type known t loc e = by_location (location_in dialect t.text) refl e
  where
    by_location : (o : Option Loc) → location_in dialect t.text ≡ o → free_loc (Some type) known t o ≡ Ok loc → IsFreePlace type known (place_as type loc)
    by_location None f h = absurd cc
    by_location (Some x) f h = chosen (suits (Some type) x) (is_overlapped known.variables x) refl refl h
      where
        chosen : (a b : Bool) → suits (Some type) x ≡ a → is_overlapped known.variables x ≡ b → cond a (cond b (refused kinds.Overlap t) (Ok x)) (refused kinds.BadLocation t) ≡ Ok loc → IsFreePlace type known (place_as type loc)
        chosen false b g k h = absurd cc
        chosen true true g k h = absurd cc
        chosen true false g k h = subst (λ (l : Loc). IsFreePlace type known (place_as type l)) (ok_is x loc h) (seen_place type known x (location_named dialect t.text x f).0 g k)

becomes : (z known : Declarations) → done known ≡ done z → Fine known → Fine z
becomes z known e fine = subst Fine (ok_is known z e) fine

abbrev located : Bool → Declarations → List ℕ → Loc → DeclaredType → Value → Declarations
located r known name loc type v = with_declared (plan r (Some type) v) known name (Some (place_as type loc)) (Some type)

located_fine : (dialect : Dialect) → (known : Declarations) (d : BlockDeclaration) (at : Token) (name : List ℕ) (loc : Loc) (type : DeclaredType) (v : Value) → Fine known → IsName dialect d.text.name → new_name dialect (declared_type dialect d.text.ty.text) known d.text.name ≡ Ok name
    → free_location dialect (declared_type dialect d.text.ty.text) known at ≡ Ok loc → known_type dialect d.text.ty ≡ Ok type → first_value dialect type (Some loc) d.text.initial ≡ Ok v → Fine (located d.retained known name loc type v)
located_fine dialect known d at name loc type v fine word named free typed first =
    let known-type = type_is dialect d.text.ty type typed in
    let new = new_is dialect (Some type) known d.text.name name (subst (λ (o : Option DeclaredType). new_name dialect o known d.text.name ≡ Ok name) known-type named) in
    let place = place_is dialect type known at loc (subst (λ (o : Option DeclaredType). free_location dialect o known at ≡ Ok loc) known-type free) in
    declared_fine dialect d.retained type v known d.text.name name (Some (place_as type loc)) fine word new (λ l is. subst (IsFreePlace type known) (same_loc (place_as type loc) l is) place) (first_start_seen dialect type loc d.text.initial v first)

located_keeps : (dialect : Dialect) → (known : Declarations) (d : BlockDeclaration) (at : Token) (z : Declarations) → Fine known → IsName dialect d.text.name → declare_located dialect known d at ≡ Ok z → Fine z
unfolding declare_located
located_keeps dialect known d at z fine word e =
    let a = bind_ok (new_name dialect (declared_type dialect d.text.ty.text) known d.text.name) (λ name. free_location dialect (declared_type dialect d.text.ty.text) known at >>= λ loc. known_type dialect d.text.ty >>= λ type. first_value dialect type (Some loc) d.text.initial >>= λ v. Ok (located d.retained known name loc type v)) z e in
    let b = bind_ok (free_location dialect (declared_type dialect d.text.ty.text) known at) (λ loc. known_type dialect d.text.ty >>= λ type. first_value dialect type (Some loc) d.text.initial >>= λ v. Ok (located d.retained known a.0 loc type v)) z a.2 in
    let c = bind_ok (known_type dialect d.text.ty) (λ type. first_value dialect type (Some b.0) d.text.initial >>= λ v. Ok (located d.retained known a.0 b.0 type v)) z b.2 in
    let f = bind_ok (first_value dialect c.0 (Some b.0) d.text.initial) (λ v. Ok (located d.retained known a.0 b.0 c.0 v)) z c.2 in
    becomes z (located d.retained known a.0 b.0 c.0 f.0) f.2 (located_fine dialect known d at a.0 b.0 c.0 f.0 fine word a.1 b.1 c.1 f.1)

listed_keeps : (dialect : Dialect) → (known : Declarations) (d : BlockDeclaration) (more : List Token) (z : Declarations) → Fine known → IsName dialect d.text.name → AllByRecursion (IsName dialect) more → declare_listed dialect known d more ≡ Ok z → Fine z
unfolding declare_listed
listed_keeps dialect known d more z fine word words e =
    let typed_value : Option DeclaredType → Plan = λ o. plan d.retained o (planned_value dialect o d.text.initial) in
    let a = bind_ok (declare_name dialect (typed_value (declared_type dialect d.text.ty.text)) known d.text.name) (λ first. each (declare_name dialect (typed_value (declared_type dialect d.text.ty.text))) first more >>= λ named. known_type dialect d.text.ty >>= λ type. first_value dialect type None d.text.initial >>= λ v. Ok named) z e in
    let b = bind_ok (each (declare_name dialect (typed_value (declared_type dialect d.text.ty.text))) a.0 more) (λ named. known_type dialect d.text.ty >>= λ type. first_value dialect type None d.text.initial >>= λ v. Ok named) z a.2 in
    let c = bind_ok (known_type dialect d.text.ty) (λ type. first_value dialect type None d.text.initial >>= λ v. Ok b.0) z b.2 in
    let f = bind_ok (first_value dialect c.0 None d.text.initial) (λ v. Ok b.0) z c.2 in
    let type = type_is dialect d.text.ty c.0 c.1 in
    let v = planned_value dialect (Some c.0) d.text.initial in
    let start : Starts c.0 None v = planned_start dialect c.0 d.text.initial f.0 f.1 in
    let first : Fine a.0 = name_keeps dialect d.retained c.0 v known d.text.name a.0 start fine word (subst (λ (o : Option DeclaredType). declare_name dialect (typed_value o) known d.text.name ≡ Ok a.0) type a.1) in
    let rest : Fine b.0 = each_keeps Fine (IsName dialect) (declare_name dialect (typed_value (Some c.0))) (λ y t w p q h. name_keeps dialect d.retained c.0 v y t w start p q h) a.0 more b.0 first words (subst (λ (o : Option DeclaredType). each (declare_name dialect (typed_value o)) a.0 more ≡ Ok b.0) type b.1) in
    subst Fine (ok_is b.0 z f.2) rest

by_names : (dialect : Dialect) → (known : Declarations) (d : BlockDeclaration) (x : NamesText) (z : Declarations) → Fine known → IsName dialect d.text.name → AreNames dialect x → declare_by dialect known d x ≡ Ok z → Fine z
by_names dialect known d (Located at) z fine word words e = located_keeps dialect known d at z fine word e
by_names dialect known d (More more) z fine word words e = listed_keeps dialect known d more z fine word words e

declare_keeps : (dialect : Dialect) → (known : Declarations) (d : BlockDeclaration) (z : Declarations) → Fine known → IsNamedDeclaration dialect d.text → declare dialect known d ≡ Ok z → Fine z
declare_keeps dialect known d z fine words e = by_names dialect known d d.text.names z fine words.name words.names e

block_words : (dialect : Dialect) (r : Bool) (ds : List DeclarationText) → AllByRecursion (IsNamedDeclaration dialect) ds → AllByRecursion (λ (d : BlockDeclaration). IsNamedDeclaration dialect d.text) (map (in_block r) ds)
block_words dialect r [] words = tt
block_words dialect r (d ∷ ds) words = (words.0, block_words dialect r ds words.1)

block_keeps : (dialect : Dialect) → (known : Declarations) (b : BlockText) (z : Declarations) → Fine known → AllByRecursion (IsNamedDeclaration dialect) b.declarations → declare_block dialect known b ≡ Ok z → Fine z
block_keeps dialect known b z fine words e = each_keeps Fine (λ (d : BlockDeclaration). IsNamedDeclaration dialect d.text) (declare dialect) (declare_keeps dialect) known (declarations_in b) z fine (block_words dialect (is_retained b) b.declarations words) e

pub blocks_fine : (dialect : Dialect) → (bs : List BlockText) (z : Declarations) → AllByRecursion (λ (b : BlockText). AllByRecursion (IsNamedDeclaration dialect) b.declarations) bs → each (declare_block dialect) nothing bs ≡ Ok z → Fine z
blocks_fine dialect bs z words e = each_keeps Fine (λ (b : BlockText). AllByRecursion (IsNamedDeclaration dialect) b.declarations) (declare_block dialect) (block_keeps dialect) nothing bs z (record { variables = tt; variables_few = omega arith; instances = tt; instances_few = omega arith }) words e

-- ---- operators

abbrev value_operand : Operand
value_operand = operands.Literal (values.Bool false)

-- an operator of this form, with its letters, with and without a parenthesis
abbrev takes : Form → Op → Modifier → Bool
takes forms.Operand op m = allowed_by (usage_of op) (with_opening false m) && formed_by (usage_of op) (with_opening false m) value_operand
takes forms.Nothing op m = allowed_by (usage_of op) (with_opening false m) && formed_by (usage_of op) (with_opening false m) operands.Absent
takes forms.Label op m = allowed_by (usage_of op) (with_opening false m) && formed_by (usage_of op) (with_opening false m) (operands.Label [])
takes forms.Either op m = (allowed_by (usage_of op) (with_opening false m) && formed_by (usage_of op) (with_opening false m) value_operand) && (allowed_by (usage_of op) (with_opening true m) && (formed_by (usage_of op) (with_opening true m) value_operand && formed_by (usage_of op) (with_opening true m) operands.Absent))
takes forms.Call op m = allowed_by (usage_of op) (with_opening false m) && formed_by (usage_of op) (with_opening false m) (operands.Instance [])

abbrev fits : Op → Modifier → Bool
fits op m = not (is_empty op) && takes (form_of op) op m

abbrev row_fits : List ℕ × Op × Modifier → Bool
row_fits e = fits e.1 e.2

abbrev some_mnemonic : Mnemonic → Option Mnemonic
some_mnemonic m = Some m

some_is : (x y : Mnemonic) → some_mnemonic x ≡ some_mnemonic y → x ≡ y
some_is x y e = cc

abbrev some_operator : Operator → Option Operator
some_operator x = Some x

operator_is : (x y : Operator) → some_operator x ≡ some_operator y → x ≡ y
operator_is x y e = cc

look_fits : (es : List (List ℕ × Op × Modifier)) (w : List ℕ) (m : Mnemonic) → list_all row_fits es ≡ true → look es w ≡ Some m → fits m.op m.modifier ≡ true
unfolding look
look_fits [] w m all e = absurd cc
look_fits (r ∷ es) w m all e = chosen (spells r.0 w) (row_fits r) refl (look_fits es w m) e all
  where
    chosen : (s f : Bool) → row_fits r ≡ f → (list_all row_fits es ≡ true → look es w ≡ Some m → fits m.op m.modifier ≡ true)
        → cond s (Some (record { op = r.1; modifier = r.2 })) (look es w) ≡ Some m → (f && list_all row_fits es) ≡ true → fits m.op m.modifier ≡ true
    chosen s false is more h g = absurd cc
    chosen true true is more h g = subst (λ (x : Mnemonic). fits x.op x.modifier ≡ true) (some_is (record { op = r.1; modifier = r.2 }) m h) is
    chosen false true is more h g = more g h

plain_fits : (w : List ℕ) (m : Mnemonic) → mnemonic_of w ≡ Some m → fits m.op m.modifier ≡ true
unfolding mnemonic_of
plain_fits w m e = look_fits mnemonic_table w m refl e

applied_fits : (o : Option Function) (m : Mnemonic) → applied o ≡ Some m → fits m.op m.modifier ≡ true
applied_fits None m e = absurd cc
applied_fits (Some f) m e = subst (λ (x : Mnemonic). fits x.op x.modifier ≡ true) (some_is (record { op = ops.Apply f; modifier = resolution.plain }) m e) refl

function_fits : (w : List ℕ) (o : Option Mnemonic) (m : Mnemonic) → (o ≡ Some m → fits m.op m.modifier ≡ true) → or_function w o ≡ Some m → fits m.op m.modifier ≡ true
function_fits w None m own e = applied_fits (function_named w) m e
function_fits w (Some x) m own e = own e

more_fits : (w : List ℕ) (m : Mnemonic) → extended_mnemonic_of w ≡ Some m → fits m.op m.modifier ≡ true
unfolding extended_mnemonic_of
more_fits w m e = look_fits extended_mnemonic_table w m refl e

extended_fits : (w : List ℕ) (o : Option Mnemonic) (m : Mnemonic) → (o ≡ Some m → fits m.op m.modifier ≡ true) → or_extended w o ≡ Some m → fits m.op m.modifier ≡ true
extended_fits w None m own e = function_fits w (extended_mnemonic_of w) m (more_fits w m) e
extended_fits w (Some x) m own e = own e

mnemonic_fits : (dialect : Dialect) → (w : List ℕ) (m : Mnemonic) → operator_in dialect w ≡ Some m → fits m.op m.modifier ≡ true
mnemonic_fits dialects.Plain w m e = plain_fits w m e
mnemonic_fits dialects.Extended w m e = extended_fits w (mnemonic_of w) m (plain_fits w m) e

operator_fits : (dialect : Dialect) → (t : Token) (x : Operator) → operator_of dialect t ≡ Some x → fits x.mnemonic.op x.mnemonic.modifier ≡ true
unfolding operator_of
operator_fits dialect t x e = chosen (is_sign signs.Name t || is_sign signs.Ampersand t) (is_sign signs.Close t) e
  where
    by_mnemonic : (o : Option Mnemonic) → operator_in dialect t.text ≡ o → operator_from t.left o ≡ Some x → fits x.mnemonic.op x.mnemonic.modifier ≡ true
    by_mnemonic None f h = absurd cc
    by_mnemonic (Some m) f h = subst (λ (y : Operator). fits y.mnemonic.op y.mnemonic.modifier ≡ true) (operator_is (record { mnemonic = m; left = t.left }) x h) (mnemonic_fits dialect t.text m f)

    chosen : (b c : Bool) → cond b (operator_from t.left (operator_in dialect t.text)) (cond c (Some (record { mnemonic = closing; left = t.left })) None) ≡ Some x → fits x.mnemonic.op x.mnemonic.modifier ≡ true
    chosen true c h = by_mnemonic (operator_in dialect t.text) refl h
    chosen false true h = subst (λ (y : Operator). fits y.mnemonic.op y.mnemonic.modifier ≡ true) (operator_is (record { mnemonic = closing; left = t.left }) x h) refl
    chosen false false h = absurd cc

-- an operator that takes what stands behind it
record IsTaken (b : BehindText) (x : Operator) : Type 0 where
  takes : accepts (form_of x.mnemonic.op) b ≡ true
  fits : fits x.mnemonic.op x.mnemonic.modifier ≡ true

taken : (dialect : Dialect) → (b : BehindText) (t : Token) (x : Operator) → operator_before dialect b t ≡ Some x → IsTaken b x
taken dialect b t x e = found (operator_of dialect t) refl e
  where
    found : (o : Option Operator) → operator_of dialect t ≡ o → accepting b o ≡ Some x → IsTaken b x
    found None f h = absurd cc
    found (Some y) f h = chosen (accepts (form_of y.mnemonic.op) b) refl h
      where
        chosen : (a : Bool) → accepts (form_of y.mnemonic.op) b ≡ a → cond a (Some y) None ≡ Some x → IsTaken b x
        chosen true g k = subst (IsTaken b) (operator_is y x k) (record { takes = g; fits = operator_fits dialect t y f })
        chosen false g k = absurd cc

-- ---- operands

and_both : (a b : Bool) → (a && b) ≡ true → (a ≡ true) × (b ≡ true)
and_both true b e = (refl, e)
and_both false b e = absurd cc

not_true : (b : Bool) → not b ≡ true → b ≡ false
not_true true e = absurd cc
not_true false e = refl

-- a value, a bare number, a variable, a location or a field
abbrev is_value : Operand → Bool
is_value (operands.Literal v) = true
is_value (operands.Bare z) = true
is_value (operands.Variable name) = true
is_value (operands.Direct loc) = true
is_value (operands.Field name field) = true
is_value operand = false

value_form : (o : Bool) (x : Operand) → is_value x ≡ true → has_form usages.Value o (as_value x) ≡ true
value_form true (operands.Literal v) e = refl
value_form false (operands.Literal v) e = refl
value_form true (operands.Bare z) e = refl
value_form false (operands.Bare z) e = refl
value_form true (operands.Variable name) e = refl
value_form false (operands.Variable name) e = refl
value_form true (operands.Direct loc) e = refl
value_form false (operands.Direct loc) e = refl
value_form true (operands.Field name field) e = refl
value_form false (operands.Field name field) e = refl
value_form o operands.Absent e = absurd cc
value_form o (operands.Label name) e = absurd cc
value_form o (operands.Instance name) e = absurd cc

any_value : (f : usage.OperandForm) (o : Bool) (x : Operand) → is_value x ≡ true → has_form f o value_operand ≡ true → has_form f o (as_value x) ≡ true
any_value usages.Absent true x v e = absurd cc
any_value usages.Absent false x v e = absurd cc
any_value usages.Value o x v e = value_form o x v
any_value usages.Label true x v e = absurd cc
any_value usages.Label false x v e = absurd cc
any_value usages.Instance true x v e = absurd cc
any_value usages.Instance false x v e = absurd cc

any_label : (f : usage.OperandForm) (o : Bool) (name : List ℕ) → has_form f o (operands.Label []) ≡ true → has_form f o (operands.Label name) ≡ true
any_label usages.Absent true name e = absurd cc
any_label usages.Absent false name e = absurd cc
any_label usages.Value true name e = absurd cc
any_label usages.Value false name e = absurd cc
any_label usages.Label true name e = refl
any_label usages.Label false name e = refl
any_label usages.Instance true name e = absurd cc
any_label usages.Instance false name e = absurd cc

any_instance : (f : usage.OperandForm) (o : Bool) (name : List ℕ) → has_form f o (operands.Instance []) ≡ true → has_form f o (operands.Instance name) ≡ true
any_instance usages.Absent true name e = absurd cc
any_instance usages.Absent false name e = absurd cc
any_instance usages.Value true name e = absurd cc
any_instance usages.Value false name e = absurd cc
any_instance usages.Label true name e = absurd cc
any_instance usages.Label false name e = absurd cc
any_instance usages.Instance true name e = refl
any_instance usages.Instance false name e = refl

value_formed : (u : Usage) (m : Modifier) (x : Operand) → is_value x ≡ true → formed_by u m value_operand ≡ true → formed_by u m (as_value x) ≡ true
value_formed u m x v e = any_value u.form m.opens x v e

label_formed : (u : Usage) (m : Modifier) (name : List ℕ) → formed_by u m (operands.Label []) ≡ true → formed_by u m (operands.Label name) ≡ true
label_formed u m name e = any_label u.form m.opens name e

instance_formed : (u : Usage) (m : Modifier) (name : List ℕ) → formed_by u m (operands.Instance []) ≡ true → formed_by u m (operands.Instance name) ≡ true
instance_formed u m name e = any_instance u.form m.opens name e

record IsGiven (ds : Declarations) (x : Operand) : Type 0 where
  value : is_value x ≡ true
  lawful : IsOperand ds x

given_is : (dialect : Dialect) → (ds : Declarations) (y : OperandText) (x : Operand) → walk.operand_of dialect ds y ≡ Ok x → IsGiven ds x
given_is dialect ds (Constant t) x e = by_literal (literal_in dialect t.text) (literal_in_good dialect t.text) e
  where
    by_literal : (o : Option Literal) → IsInRange o → constant t o ≡ Ok x → IsGiven ds x
    by_literal None r h = absurd cc
    by_literal (Some (Bare z)) r h = subst (IsGiven ds) (ok_is (operands.Bare z) x h) (record { value = refl; lawful = r })
    by_literal (Some (Typed v)) r h = subst (IsGiven ds) (ok_is (operands.Literal v) x h) (record { value = refl; lawful = r })
given_is dialect ds (Direct t) x e = by_location (location_in dialect t.text) refl e
  where
    by_location : (o : Option Loc) → location_in dialect t.text ≡ o → direct t o ≡ Ok x → IsGiven ds x
    by_location None f h = absurd cc
    by_location (Some loc) f h =
        let p = location_named dialect t.text loc f in
        subst (IsGiven ds) (ok_is (operands.Direct loc) x h) (record { value = refl; lawful = p })
given_is dialect ds (Named t) x e = chosen (has_name ds (capitals t.text)) refl e
  where
    by_field : (y field : List ℕ) (b : Bool) → has_instance ds y ≡ b → cond b (Ok (operands.Field y field)) (refused kinds.UnknownName t) ≡ Ok x → IsGiven ds x
    by_field y field true f h = subst (IsGiven ds) (ok_is (operands.Field y field) x h) (record { value = refl; lawful = f })
    by_field y field false f h = absurd cc

    by_split : (o : Option (List ℕ × List ℕ)) → field_named ds t o ≡ Ok x → IsGiven ds x
    by_split None h = absurd cc
    by_split (Some (y, field)) h = by_field y field (has_instance ds y) refl h

    chosen : (b : Bool) → has_name ds (capitals t.text) ≡ b → cond b (Ok (operands.Variable (capitals t.text))) (field_named ds t (split_last (capitals t.text))) ≡ Ok x → IsGiven ds x
    chosen true f h = subst (IsGiven ds) (ok_is (operands.Variable (capitals t.text)) x h) (record { value = refl; lawful = f })
    chosen false f h = by_split (split_last (capitals t.text)) h
given_is dialect ds (Field t f) x e = chosen (has_instance ds (capitals t.text)) refl e
  where
    chosen : (b : Bool) → has_instance ds (capitals t.text) ≡ b → cond b (Ok (operands.Field (capitals t.text) (capitals f.text))) (refused kinds.UnknownName t) ≡ Ok x → IsGiven ds x
    chosen true g h = subst (IsGiven ds) (ok_is (operands.Field (capitals t.text) (capitals f.text)) x h) (record { value = refl; lawful = g })
    chosen false g h = absurd cc

-- what an operator takes, with its letters
record IsBehind (ds : Declarations) (op : Op) (m : Modifier) (x : Operand) : Type 0 where
  letters : allowed_by (usage_of op) m ≡ true
  formed : formed_by (usage_of op) m (as_value x) ≡ true
  lawful : IsOperand ds x

behind_is : (dialect : Dialect) → (ds : Declarations) (f : Form) (op : Op) (m : Modifier) (b : BehindText) (x : Operand) → accepts f b ≡ true → takes f op m ≡ true → behind_of dialect ds b ≡ Ok x → IsBehind ds op (with_opening (opens b) m) x
behind_is dialect ds forms.Operand op m (Given y) x a k e =
    let g = given_is dialect ds y x e in
    let p = and_both _ _ k in
    record { letters = p.0; formed = value_formed (usage_of op) (with_opening false m) x g.value p.1; lawful = g.lawful }
behind_is dialect ds forms.Nothing op m Nothing x a k e =
    let p = and_both _ _ k in
    subst (IsBehind ds op (with_opening false m)) (ok_is operands.Absent x e) (record { letters = p.0; formed = p.1; lawful = tt })
behind_is dialect ds forms.Label op m (Target t) x a k e =
    let p = and_both _ _ k in
    subst (IsBehind ds op (with_opening false m)) (ok_is (operands.Label (capitals t.text)) x e) (record { letters = p.0; formed = label_formed (usage_of op) (with_opening false m) (capitals t.text) p.1; lawful = tt })
behind_is dialect ds forms.Either op m (Given y) x a k e =
    let g = given_is dialect ds y x e in
    let p = and_both _ _ (and_both _ _ k).0 in
    record { letters = p.0; formed = value_formed (usage_of op) (with_opening false m) x g.value p.1; lawful = g.lawful }
behind_is dialect ds forms.Either op m (Opened None) x a k e =
    let p = and_both _ _ (and_both _ _ k).1 in
    let q = and_both _ _ p.1 in
    subst (IsBehind ds op (with_opening true m)) (ok_is operands.Absent x e) (record { letters = p.0; formed = q.1; lawful = tt })
behind_is dialect ds forms.Either op m (Opened (Some y)) x a k e =
    let g = given_is dialect ds y x e in
    let p = and_both _ _ (and_both _ _ k).1 in
    let q = and_both _ _ p.1 in
    record { letters = p.0; formed = value_formed (usage_of op) (with_opening true m) x g.value q.0; lawful = g.lawful }
behind_is dialect ds forms.Call op m (Called c) x a k e = chosen (has_instance ds (capitals c.instance.text)) refl e
  where
    chosen : (b : Bool) → has_instance ds (capitals c.instance.text) ≡ b → cond b (Ok (operands.Instance (capitals c.instance.text))) (refused kinds.UnknownName c.instance) ≡ Ok x → IsBehind ds op (with_opening false m) x
    chosen true f h =
        let p = and_both _ _ k in
        subst (IsBehind ds op (with_opening false m)) (ok_is (operands.Instance (capitals c.instance.text)) x h)
        (record { letters = p.0; formed = instance_formed (usage_of op) (with_opening false m) (capitals c.instance.text) p.1; lawful = f })
    chosen false f h = absurd cc
behind_is dialect ds f op m b x a k e = absurd cc

-- ---- arguments

all_push : {X : Type 0} (F : X → Type 0) (xs : List X) (x : X) → AllByRecursion F xs → F x → AllByRecursion F (xs ++ x ∷ [])
all_push F [] x all here = (here, tt)
all_push F (y ∷ ys) x all here = (all.0, all_push F ys x all.1 here)

abbrev Anything : ArgumentText → Type 0
Anything a = Unit {0}

all_anything : (xs : List ArgumentText) → AllByRecursion Anything xs
all_anything [] = tt
all_anything (x ∷ xs) = (tt, all_anything xs)

abbrev argument : ArgumentText → Operand → Argument
argument a x = record { field = capitals a.field.text; side = a.side; operand = x }

argument_is : (dialect : Dialect) → (ds : Declarations) (a : ArgumentText) (x : Argument) → argument_of dialect ds a ≡ Ok x → IsArgument ds x
unfolding argument_of
argument_is dialect ds a x e =
    let m = bind_ok (walk.operand_of dialect ds a.operand) (λ o. Ok (argument a o)) x e in
    let g = given_is dialect ds a.operand m.0 m.1 in
    subst (IsArgument ds) (ok_is (argument a m.0) x m.2) (record { operand = g.lawful; formed = value_form false m.0 g.value })

argument_keeps : (dialect : Dialect) → (ds : Declarations) (found : List Argument) (a : ArgumentText) (z : List Argument) → AllByRecursion (IsArgument ds) found → Anything a → pushed_argument dialect ds found a ≡ Ok z → AllByRecursion (IsArgument ds) z
argument_keeps dialect ds found a z all any e =
    let m = bind_ok (argument_of dialect ds a) (λ x. Ok (found ++ x ∷ [])) z e in
    subst (λ (xs : List Argument). AllByRecursion (IsArgument ds) xs) (ok_is (found ++ m.0 ∷ []) z m.2) (all_push (IsArgument ds) found m.0 all (argument_is dialect ds a m.0 m.1))

arguments_are : (dialect : Dialect) → (ds : Declarations) (b : BehindText) (xs : List Argument) → behind_arguments dialect ds b ≡ Ok xs → AllByRecursion (IsArgument ds) xs
arguments_are dialect ds (Called c) xs e = each_keeps (λ (found : List Argument). AllByRecursion (IsArgument ds) found) Anything (pushed_argument dialect ds) (argument_keeps dialect ds) [] (arguments_of c) xs tt (all_anything (arguments_of c)) e
arguments_are dialect ds b xs e = subst (λ (found : List Argument). AllByRecursion (IsArgument ds) found) (ok_is [] xs e) tt

-- ---- lines

label_is : (dialect : Dialect) (t : Token) (name : List ℕ) → IsName dialect t → label_of t ≡ Ok name → IsLabel (Some name)
label_is dialect t name word e = chosen (is_reserved (capitals t.text)) refl e
  where
    chosen : (b : Bool) → is_reserved (capitals t.text) ≡ b → cond b (refused kinds.ReservedName t) (Ok (capitals t.text)) ≡ Ok name → IsLabel (Some name)
    chosen true f h = absurd cc
    chosen false f h =
        subst (λ (n : List ℕ). IsLabel (Some n)) (ok_is (capitals t.text) name h) (long_enough dialect t word, capitals_lawful dialect t.text word f)

abbrev instruction : Option (List ℕ) → Op → Modifier → Operand → List Argument → Instr
instruction label op m x arguments = record { label = label; op = op; modifier = m; operand = x; arguments = arguments }

abbrev operated : Option (List ℕ) → OperationText → Operand → List Argument → Instr
operated label o x arguments = instruction label o.operator.mnemonic.op (with_opening (opens o.behind) o.operator.mnemonic.modifier) x arguments

operation_is : (dialect : Dialect) → (ds : Declarations) (label : Option (List ℕ)) (o : OperationText) (line : Instr) → IsLabel label → IsOperation dialect o → instruction_of dialect ds label (Some o) ≡ Ok line → IsInstruction ds line
unfolding instruction_of
operation_is dialect ds label o line labelled is e =
    let op = o.operator.mnemonic.op in
    let m = o.operator.mnemonic.modifier in
    let a = bind_ok (behind_of dialect ds o.behind) (λ x. behind_arguments dialect ds o.behind >>= λ arguments. Ok (operated label o x arguments)) line e in
    let c = bind_ok (behind_arguments dialect ds o.behind) (λ arguments. Ok (operated label o a.0 arguments)) line a.2 in
    let t = taken dialect o.behind is.0 o.operator is.1 in
    let p = and_both _ _ t.fits in
    let b = behind_is dialect ds (form_of op) op m o.behind a.0 t.takes p.1 a.1 in
    let full : is_empty op ≡ false = not_true (is_empty op) p.0 in
    subst (IsInstruction ds) (ok_is (operated label o a.0 c.0) line c.2)
    (record { label = labelled; letters = b.letters; operand = b.lawful; formed = b.formed; arguments = arguments_are dialect ds o.behind c.0 c.1; placed = rw full refl })

optional_is : (dialect : Dialect) → (ds : Declarations) (name : List ℕ) (o : Option OperationText) (line : Instr) → IsLabel (Some name) → IsOptionalOperation dialect o → instruction_of dialect ds (Some name) o ≡ Ok line → IsInstruction ds line
unfolding instruction_of
optional_is dialect ds name None line labelled is e =
    subst (IsInstruction ds) (ok_is (instruction (Some name) ops.Empty resolution.plain operands.Absent []) line e)
    (record { label = labelled; letters = refl; operand = tt; formed = refl; arguments = tt; placed = refl })
optional_is dialect ds name (Some o) line labelled is e = operation_is dialect ds (Some name) o line labelled is e

-- ---- the words of an instruction

pushed_all : (dialect : Dialect) (ds : Declarations) (found : List Argument) (given : List ArgumentText) (z : List Argument) → each (pushed_argument dialect ds) found given ≡ Ok z → length z ≡ length found + length given
unfolding each
pushed_all dialect ds found [] z e = omega (arith, ap length (ok_is found z e))
pushed_all dialect ds found (a ∷ given) z e =
    let b = bind_ok (pushed_argument dialect ds found a) (λ more. each (pushed_argument dialect ds) more given) z e in
    let c = bind_ok (argument_of dialect ds a) (λ x. Ok (found ++ x ∷ [])) b.0 b.1 in
    let one : length (found ++ c.0 ∷ []) ≡ length b.0 = ap length (ok_is (found ++ c.0 ∷ []) b.0 c.2) in
    let rest = pushed_all dialect ds b.0 given z b.2 in
    omega (arith, one, rest, length-append found (c.0 ∷ []))

arguments_long : (dialect : Dialect) (ds : Declarations) (b : BehindText) (z : List Argument) → behind_arguments dialect ds b ≡ Ok z → length z ≡ length (arguments_behind b)
arguments_long dialect ds Nothing z e = ap length (sym (ok_is [] z e))
arguments_long dialect ds (Given x) z e = ap length (sym (ok_is [] z e))
arguments_long dialect ds (Target t) z e = ap length (sym (ok_is [] z e))
arguments_long dialect ds (Opened o) z e = ap length (sym (ok_is [] z e))
arguments_long dialect ds (Called c) z e = (let long = pushed_all dialect ds [] (arguments_of c) z e in omega (arith, long))

pub instruction_words : (dialect : Dialect) (ds : Declarations) (label : Option (List ℕ)) (o : Option OperationText) (line : Instr) → instruction_of dialect ds label o ≡ Ok line → word_count line ≡ operation_words o
unfolding instruction_of
instruction_words dialect ds label None line e = ap word_count (sym (ok_is (instruction label ops.Empty resolution.plain operands.Absent []) line e))
instruction_words dialect ds label (Some o) line e =
    let a = bind_ok (behind_of dialect ds o.behind) (λ x. behind_arguments dialect ds o.behind >>= λ arguments. Ok (operated label o x arguments)) line e in
    let c = bind_ok (behind_arguments dialect ds o.behind) (λ arguments. Ok (operated label o a.0 arguments)) line a.2 in
    let same : word_count (operated label o a.0 c.0) ≡ word_count line = ap word_count (ok_is (operated label o a.0 c.0) line c.2) in
    omega (arith, same, arguments_long dialect ds o.behind c.0 c.1)

pub record FineCode (ds : Declarations) (code : List Instr) : Type 0 where
  pub all : AllByRecursion (IsInstruction ds) code
  pub few : length code ≤ 16384
  pub uncrowded : is_crowded (length code) (words_in code) ≡ false

no_more : (dialect : Dialect) (n words left : ℕ) (u : Unit {0}) (t : Bool) → are_too_many dialect n words ≡ t → cond {A = Result (Unit {0}) FaultAt} t (Err (record { kind = kinds.TooMany; left = left })) (Ok tt) ≡ Ok u → are_too_many dialect n words ≡ false
no_more dialect n words left u true f h = absurd cc
no_more dialect n words left u false f h = f

neither : (a b : Bool) → (a || b) ≡ false → (a ≡ false) × (b ≡ false)
neither true b e = absurd cc
neither false b e = (refl, e)

code_push : (dialect : Dialect) (ds : Declarations) (code : List Instr) (line : Instr) (words left : ℕ) (u : Unit {0}) → FineCode ds code → room dialect code words left ≡ Ok u → word_count line ≡ words → IsInstruction ds line → FineCode ds (code ++ line ∷ [])
code_push dialect ds code line words left u fine free long is =
    let n : ℕ = suc (length code) in
    let all : ℕ = words_in code + words in
    let none = no_more dialect n all left u (are_too_many dialect n all) refl free in
    let both = neither (ltb (most_instructions (newest dialect)) n) (is_crowded n all) none in
    let within : n ≤ most_instructions (newest dialect) = ltb-false (most_instructions (newest dialect)) n both.0 in
    let count : n ≡ length (code ++ line ∷ []) = omega (arith, length-append code (line ∷ [])) in
    let sum : all ≡ words_in (code ++ line ∷ []) = omega (arith, long, words_in-append code (line ∷ [])) in
    record {
      all = all_push (IsInstruction ds) code line fine.all is;
      few = omega (arith, within, count, instructions_most (newest dialect));
      uncrowded = ap (λ (k : ℕ). is_crowded k (words_in (code ++ line ∷ []))) (sym count) ∙ ap (is_crowded n) (sym sum) ∙ both.1;
    }

labelled_keeps : (dialect : Dialect) → (ds : Declarations) (code : List Instr) (t : Token) (o : Option OperationText) (z : List Instr) → FineCode ds code → IsName dialect t → IsOptionalOperation dialect o → instruct_labelled dialect ds code t o ≡ Ok z → FineCode ds z
unfolding instruct_labelled
labelled_keeps dialect ds code t o z fine word is e =
    let a = bind_ok (label_of t) (λ label. room dialect code (operation_words o) t.left >>= λ here. instruction_of dialect ds (Some label) o >>= λ line. Ok (code ++ line ∷ [])) z e in
    let b = bind_ok (room dialect code (operation_words o) t.left) (λ here. instruction_of dialect ds (Some a.0) o >>= λ line. Ok (code ++ line ∷ [])) z a.2 in
    let c = bind_ok (instruction_of dialect ds (Some a.0) o) (λ line. Ok (code ++ line ∷ [])) z b.2 in
    subst (FineCode ds) (ok_is (code ++ c.0 ∷ []) z c.2) (code_push dialect ds code c.0 (operation_words o) t.left b.0 fine b.1 (instruction_words dialect ds (Some a.0) o c.0 c.1) (optional_is dialect ds a.0 o c.0 (label_is dialect t a.0 word a.1) is c.1))

plain_keeps : (dialect : Dialect) → (ds : Declarations) (code : List Instr) (o : OperationText) (z : List Instr) → FineCode ds code → IsOperation dialect o → instruct_plain dialect ds code o ≡ Ok z → FineCode ds z
unfolding instruct_plain
plain_keeps dialect ds code o z fine is e =
    let b = bind_ok (room dialect code (operation_words (Some o)) o.operator.left) (λ here. instruction_of dialect ds None (Some o) >>= λ line. Ok (code ++ line ∷ [])) z e in
    let c = bind_ok (instruction_of dialect ds None (Some o)) (λ line. Ok (code ++ line ∷ [])) z b.2 in
    subst (FineCode ds) (ok_is (code ++ c.0 ∷ []) z c.2) (code_push dialect ds code c.0 (operation_words (Some o)) o.operator.left b.0 fine b.1 (instruction_words dialect ds None (Some o) c.0 c.1) (operation_is dialect ds None o c.0 tt is c.1))

line_keeps : (dialect : Dialect) → (ds : Declarations) (code : List Instr) (l : LineText) (z : List Instr) → FineCode ds code → IsOperator dialect l → instruct dialect ds code l ≡ Ok z → FineCode ds z
line_keeps dialect ds code (Labelled t o) z fine is e = labelled_keeps dialect ds code t o z fine is.0 is.1 e
line_keeps dialect ds code (Plain o) z fine is e = plain_keeps dialect ds code o z fine is e

pub lines_fine : (dialect : Dialect) → (ds : Declarations) (ls : List LineText) (z : List Instr) → AllByRecursion (IsOperator dialect) ls → each (instruct dialect ds) [] ls ≡ Ok z → FineCode ds z
lines_fine dialect ds ls z words e = each_keeps (FineCode ds) (IsOperator dialect) (instruct dialect ds) (line_keeps dialect ds) [] ls z (record { all = tt; few = omega arith; uncrowded = refl }) words e

-- ---- the whole

-- the parts that a text's program is made of
pub parts_fit : (dialect : Dialect) → (p : ProgramText) (bs : List BlockText) (ls : List LineText) (known : Declarations) (vs : List Variable) (xs : List Instance) (code : List Instr) → AreWords dialect p → bs ≡ p.blocks → ls ≡ p.lines
    → vs ≡ known.variables → xs ≡ known.instances → each (declare_block dialect) nothing bs ≡ Ok known → each (instruct dialect known) [] ls ≡ Ok code → IsDeclared (record { variables = vs; instances = xs; code = code })
parts_fit dialect p bs ls known vs xs code words b l v x e f =
    let declared = blocks_fine dialect p.blocks known words.blocks (subst (λ (y : List BlockText). each (declare_block dialect) nothing y ≡ Ok known) b e) in
    let lines = lines_fine dialect known p.lines code words.lines (subst (λ (y : List LineText). each (instruct dialect known) [] y ≡ Ok code) l f) in
    subst (λ (ws : List Variable). IsDeclared (record { variables = ws; instances = xs; code = code })) (sym v)
    (subst (λ (ys : List Instance). IsDeclared (record { variables = known.variables; instances = ys; code = code })) (sym x)
    (record { variables = declared.variables; variables_few = declared.variables_few; instances = declared.instances; instances_few = declared.instances_few; lines = lines.all; lines_few = lines.few; uncrowded = lines.uncrowded }))

abbrev pub some_text : Program → Option Program
some_text Q = Some Q

text_is : (P Q : Program) → some_text P ≡ some_text Q → P ≡ Q
text_is P Q e = cc

pub is_made : (Q : Program) (r : Option Program) → IsDeclared Q → r ≡ program_of versions.Three Q.variables Q.instances Q.code → r ≡ Some Q
is_made Q r is e =
    let room = room_within versions.Three Q.variables Q.instances Q.code (record { variables = is.variables_few; instances = is.instances_few; code = is.lines_few; words = is.uncrowded }) in
    e ∙ cond-true (has_room versions.Three Q.variables Q.instances Q.code) (Some Q) None room

pub never_none : (Q : Program) (r : Option Program) → IsDeclared Q → r ≡ program_of versions.Three Q.variables Q.instances Q.code → r ≡ None → ⊥
never_none Q r is e none = let f : None ≡ some_text Q = sym none ∙ is_made Q r is e in absurd cc

pub is_text : (Q P : Program) (r : Option Program) → IsDeclared Q → r ≡ program_of versions.Three Q.variables Q.instances Q.code → r ≡ Some P → IsDeclared P
is_text Q P r is e some = subst IsDeclared (text_is Q P (sym (is_made Q r is e) ∙ some)) is
