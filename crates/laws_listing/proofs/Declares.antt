-- The listing's declarations are resolved to the program's own.
use Rattle.std.proofs.Common.{◌≡◌, ℕ, ◌+◌, ◌<◌, ◌≤◌, Bool, true, false, cond, ltb, List, [], ◌∷◌, ◌++◌, length, Option, Some, None, Result, Ok, refl, sym, ap, ◌∙◌, subst, arith, ◌||◌, ◌&&◌, not, append_assoc}
use Rattle.std.specs.Prelude.{is_some, ℤ, pos, negsuc, nat_abs, map}
use Rattle.std.specs.List.{AllByRecursion, flat_map, list_any}
use Rattle.std.proofs.lemmas.List.{length-append, append-nil}
use Rattle.std.proofs.lemmas.Bool.{lt-leb, ltb-false}
use Rattle.il_model.specs.Dialects.{newest}
use Rattle.il_model.specs.Limits.{most_variables, most_instances, most_instructions}
use Rattle.il_model.specs.Marks.{words_in}
use Rattle.il_model.proofs.Sizes.{crowded_less}
use Rattle.il_model.specs.declared.dialect.Dialect.{Dialect}
use Rattle.il_model.specs.declared.dialect.Dialect.TheVariants as dialects
use Rattle.il_real.specs.Reals.{zero_real}
use Rattle.il_values.specs.declared.value.Ty.{Ty}
use Rattle.il_values.specs.declared.value.Ty.TheVariants as types
use Rattle.il_values.specs.declared.value.Value.{Value}
use Rattle.il_values.specs.declared.value.Value.TheVariants as values
use Rattle.il_model.specs.declared.program.Loc.{Loc}
use Rattle.il_model.specs.declared.program.Variable.{Variable}
use Rattle.il_model.specs.declared.program.Instance.{Instance}
use Rattle.il_model.specs.declared.kind.BlockKind.{BlockKind}
use Rattle.il_model.specs.declared.kind.BlockKind.TheVariants as kinds
use Rattle.il_model.specs.Program.{Program, Declarations, declared_by}
use Rattle.il_values.specs.Values.{ty_of, zero_of, number_of, typed_value}
use Rattle.il_values.specs.Operators.{is_zero}
use Rattle.il_model.specs.Words.{is_lawful_name}
use Rattle.il_values.specs.Spelled.{spells}
use Rattle.il_model.specs.Kinds.{kind_name}
use Rattle.il_model.specs.declared.program.Area.{Area}
use Rattle.il_model.specs.Locations.{area_of, seen_as}
use Rattle.il_model.proofs.WrittenLocations.{text_loc, seen_again, parts_in_text, area_in_text}
use Rattle.std.specs.Option.{option_and_then}
use Rattle.il_model.specs.declared.coded_operand.CodedOperand.{CodedOperand}
use Rattle.il_model.specs.declared.coded_operand.CodedOperand.TheVariants as coded
use Rattle.il_model.specs.CodedOperands.{loc_code, IsCell, HasOwnCode, with_code}
use Rattle.il_model.proofs.CodedOperands.{coded_back}
use Rattle.il_model.specs.Image.{location_code, type_version, value_version, location_version, may_have, may_lie, may_retain, may_call, may_declare, may_instantiate}
use Rattle.il_model.specs.Typing.{loc_type, is_writable_area}
use Rattle.il_model.specs.Codes.{is_number, is_taken, is_overlapped, is_type, is_free, may_start_with}
use Rattle.il_model.specs.Codes as codes_of
use Rattle.il_model.specs.Fits.{IsVariable, IsInstance, AreItems}
use Rattle.il_values.proofs.RealValues.{real_same}
use Rattle.il_reader.specs.Grammar.{DeclarationText, BlockText, says_retained, dialect_of}
use Rattle.il_reader.specs.declared.lexeme.Sign.TheVariants as signs
use Rattle.il_declarations.specs.declared.fault.FaultAt.{FaultAt}
use Rattle.il_declarations.specs.declared.variables.DeclaredType.{DeclaredType}
use Rattle.il_declarations.specs.declared.variables.DeclaredType.TheVariants.{Elementary, Block}
use Rattle.il_declarations.specs.Resolution.{declared_type, same_type, is_input, written_value, variable}
use Rattle.il_declarations.specs.Declaring.{BlockDeclaration, in_block, declarations_in}
use Rattle.il_declarations.proofs.Agreeing.{each_flat}
use Rattle.il_declarations.specs.Walk.{each, nothing, has_name, has_instance, is_shadowed, is_full, new_name, free_location, elementary_value, planned_value, with_variable, with_instance, declare_name, declare_located, declare_listed, declare, declare_block, program_at, told, resolution_of}
use Rattle.il_reader.specs.declared.contents.Qualifier.TheVariants as qualifiers
use Rattle.il_lister.specs.Listing.{location_text, type_name, reads_as_qualifier, first_retained, first_name}
use Rattle.laws_listing.proofs.Fronts.{both_true, not_true}
use Rattle.laws_listing.proofs.Sayable.{IsSayable, IsSayableProgram}
use Rattle.laws_listing.proofs.LiteralTexts.{literal_again}
use Rattle.laws_listing.proofs.LocationTexts.{location_again}
use Rattle.laws_listing.proofs.NameTexts.{IsFreeName, lawful_free, capital}
use Rattle.laws_listing.proofs.Listable.{variable_lawful, instance_apart, instance_name, items_all, some_is, if_some, tested_is, IsOfType, of_type, all_of_both, listable}
use Rattle.laws_listing.proofs.Written.{token_at, literal_at, written_initial, written_variable, written_instance, Declared, retained_of, name_of, written_declared, of_instances, all_declared, both_alike, declared_text, written_qualifier, written_open, written_sections, end_text, declared_of, begins_retained, first_qualifier, written_blocks, written}
use Rattle.laws_listing.proofs.Resolves.{lines_back}

-- ---- first values

pub zero_number : (z : ℤ) → is_zero z ≡ true → z ≡ pos 0
zero_number (pos n) e =
    let h = both_true (not (ltb n 0)) (not (ltb 0 n)) e in
    let l = ltb-false 0 n (not_true (ltb 0 n) h.1) in
    let z : n ≡ 0 = omega (arith, l) in
    ap pos z
zero_number (negsuc n) e = absurd cc

zero_value : (v : Value) → is_zero (number_of v) ≡ true → zero_of (ty_of v) ≡ v
zero_value (values.Bool true) e = absurd cc
zero_value (values.Bool false) e = refl
zero_value (values.Int z) e = ap values.Int (sym (zero_number z e))
zero_value (values.Dint z) e = ap values.Dint (sym (zero_number z e))
zero_value (values.Time z) e = ap values.Time (sym (zero_number z e))
zero_value (values.Lint z) e = ap values.Lint (sym (zero_number z e))
zero_value (values.Real r) e = real_same zero_real r (sym (zero_number (pos r.pattern) e))
zero_value (values.Word n) e = ap (λ (z : ℤ). values.Word (nat_abs z)) (sym (zero_number (pos n) e))
zero_value (values.Dword n) e = ap (λ (z : ℤ). values.Dword (nat_abs z)) (sym (zero_number (pos n) e))

zero_of_type : (type : Ty) (v : Value) → IsOfType type v → is_zero (number_of v) ≡ true → zero_of type ≡ v
zero_of_type type v of e = ap zero_of (sym of.is) ∙ zero_value v e

-- a first value of a type that the dialect has, which the location allows
record IsFirst (dialect : Dialect) (type : Ty) (loc : Option Loc) (v : Value) : Type 0 where
  of : IsOfType type v
  known : may_have (newest dialect) (type_version type) ≡ true
  may : may_start_with loc v ≡ true

first_is : (dialect : Dialect) (type : Ty) (loc : Option Loc) (v : Value) → codes_of.initial_of type loc (number_of v) ≡ Some v → may_have (newest dialect) (type_version type) ≡ true → IsFirst dialect type loc v
first_is dialect type loc v e known =
    let t = tested_is (may_start_with loc) (typed_value type (number_of v)) v e in
    record { of = of_type type (number_of v) v t.0; known = known; may = t.1 }

same_self : (type : Ty) → same_type type type ≡ true
same_self types.Bool = refl
same_self types.Int = refl
same_self types.Dint = refl
same_self types.Time = refl
same_self types.Lint = refl
same_self types.Real = refl
same_self types.Word = refl
same_self types.Dword = refl

no_input : (loc : Option Loc) (v : Value) → may_start_with loc v ≡ true → is_zero (number_of v) ≡ false → is_input loc ≡ false
no_input None v may some = refl
no_input (Some loc) v may some = by_area (is_writable_area (area_of loc)) (is_zero (number_of v)) some may
  where
    by_area : (p q : Bool) → q ≡ false → (p || q) ≡ true → not p ≡ false
    by_area true q e h = refl
    by_area false q e h = let clash : false ≡ true = sym e ∙ h in absurd cc

first_said : (dialect : Dialect) (type : Ty) (loc : Option Loc) (v : Value) → IsFirst dialect type loc v → IsSayable dialect v
first_said dialect type loc v first = record {
  value = subst (λ (t : Ty). typed_value t (number_of v) ≡ Some v) (sym first.of.is) first.of.made_again;
  known = subst (λ (t : Ty). may_have (newest dialect) (type_version t) ≡ true) (sym first.of.is) first.known;
}

written_back : (dialect : Dialect) (type : Ty) (loc : Option Loc) (v : Value) (rest : List ℕ) → IsFirst dialect type loc v → is_zero (number_of v) ≡ false → written_value dialect type loc (literal_at v rest) ≡ Some v
written_back dialect type loc v rest first some =
    let same : same_type (ty_of v) type ≡ true = subst (λ (t : Ty). same_type (ty_of v) t ≡ true) first.of.is (same_self (ty_of v)) in
    rw (no_input loc v first.may some, literal_again dialect v (first_said dialect type loc v first), same, first.of.made_again) refl

initial_back : (dialect : Dialect) (type : Ty) (loc : Option Loc) (v : Value) (rest : List ℕ) → IsFirst dialect type loc v → elementary_value dialect type loc (written_initial v rest) ≡ Ok v
initial_back dialect type loc v rest first = by_test (is_zero (number_of v)) refl
  where
    by_test : (b : Bool) → is_zero (number_of v) ≡ b → elementary_value dialect type loc (cond b None (Some (literal_at v rest))) ≡ Ok v
    by_test true e = ap (λ (w : Value). let r : Result Value FaultAt = Ok w in r) (zero_of_type type v first.of e)
    by_test false e = rw (written_back dialect type loc v rest first e) refl

planned_back : (dialect : Dialect) (type : Ty) (v : Value) (rest : List ℕ) → IsFirst dialect type None v → planned_value dialect (Some (Elementary type)) (written_initial v rest) ≡ v
planned_back dialect type v rest first = by_test (is_zero (number_of v)) refl
  where
    by_test : (b : Bool) → is_zero (number_of v) ≡ b → planned_value dialect (Some (Elementary type)) (cond b None (Some (literal_at v rest))) ≡ v
    by_test true e = zero_of_type type v first.of e
    by_test false e = rw (written_back dialect type None v rest first e) refl

-- ---- names, types and locations

-- a name that may be declared behind what is known
record IsNew (dialect : Dialect) (type : Option DeclaredType) (known : Declarations) (name : List ℕ) : Type 0 where
  free : IsFreeName dialect name
  no_variable : has_name known name ≡ false
  no_instance : has_instance known name ≡ false
  apart : is_shadowed type known name ≡ false

new_back : (dialect : Dialect) (type : Option DeclaredType) (known : Declarations) (name rest : List ℕ) → IsNew dialect type known name → is_full dialect type known ≡ false
    → new_name dialect type known (token_at signs.Name name rest) ≡ Ok name
unfolding new_name
new_back dialect type known name rest is few = rw (capital dialect name is.free.name, is.no_variable, is.no_instance, is.apart, is.free.free, few) refl

type_back : (dialect : Dialect) (type : Ty) → may_have (newest dialect) (type_version type) ≡ true → declared_type dialect (type_name type) ≡ Some (Elementary type)
unfolding spells
type_back dialect types.Bool known = refl
type_back dialect types.Int known = refl
type_back dialect types.Dint known = refl
type_back dialect types.Time known = refl
type_back dialect types.Lint known = refl
type_back dialects.Plain types.Real known = absurd cc
type_back dialects.Extended types.Real known = refl
type_back dialects.Plain types.Word known = absurd cc
type_back dialects.Extended types.Word known = refl
type_back dialects.Plain types.Dword known = absurd cc
type_back dialects.Extended types.Dword known = refl

-- a kind is no type
plain_kind : (kind : BlockKind) → declared_type dialects.Plain (kind_name kind) ≡ Some (Block kind)
unfolding spells
plain_kind kinds.Sr = refl
plain_kind kinds.Rs = refl
plain_kind kinds.RTrig = refl
plain_kind kinds.FTrig = refl
plain_kind kinds.Ctu = refl
plain_kind kinds.Ctd = refl
plain_kind kinds.Ctud = refl
plain_kind kinds.Tp = refl
plain_kind kinds.Ton = refl
plain_kind kinds.Tof = refl

extended_kind : (kind : BlockKind) → declared_type dialects.Extended (kind_name kind) ≡ Some (Block kind)
unfolding spells
extended_kind kinds.Sr = refl
extended_kind kinds.Rs = refl
extended_kind kinds.RTrig = refl
extended_kind kinds.FTrig = refl
extended_kind kinds.Ctu = refl
extended_kind kinds.Ctd = refl
extended_kind kinds.Ctud = refl
extended_kind kinds.Tp = refl
extended_kind kinds.Ton = refl
extended_kind kinds.Tof = refl

kind_back : (dialect : Dialect) (kind : BlockKind) → declared_type dialect (kind_name kind) ≡ Some (Block kind)
kind_back dialects.Plain kind = plain_kind kind
kind_back dialects.Extended kind = extended_kind kind

record IsLocated (seen : List Variable) (type : Ty) (loc : Loc) : Type 0 where
  place : IsCell loc
  suits : is_type type (loc_type loc) ≡ true
  free : is_overlapped seen loc ≡ false

located_is : (seen : List Variable) (type : Ty) (loc : Loc) → codes_of.coded_location seen type (loc_code loc) ≡ Some (Some loc) → IsLocated seen type loc
located_is seen type loc e = by_code (with_code (loc_code loc)) refl e
  where
    by_operand : (x : CodedOperand) → HasOwnCode x → codes_of.free_loc seen type x ≡ Some (Some loc) → IsLocated seen type loc
    by_operand (coded.Location l) own h =
        let m = if_some (is_free seen type l) (Some l) (Some loc) h in
        let same : l ≡ loc = some_is l loc m.1 in
        let free : is_free seen type loc ≡ true = subst (λ (k : Loc). is_free seen type k ≡ true) same m.0 in
        let a = both_true (is_type type (loc_type loc)) (not (is_overlapped seen loc)) free in
        record { place = subst IsCell same own; suits = a.0; free = not_true (is_overlapped seen loc) a.1 }
    by_operand (coded.Variable i) own h = absurd cc
    by_operand (coded.Field i n) own h = absurd cc
    by_operand (coded.Constant k) own h = absurd cc
    by_operand coded.Unused own h = absurd cc

    by_code : (o : Option CodedOperand) → with_code (loc_code loc) ≡ o → option_and_then (codes_of.free_loc seen type) o ≡ Some (Some loc) → IsLocated seen type loc
    by_code None f h = absurd cc
    by_code (Some x) f h = by_operand x (coded_back (loc_code loc) x f).own h

-- a word is read as INT, a double word as DINT, and the declaration makes it the variable's type
location_back : (dialect : Dialect) (known : Declarations) (type : Ty) (loc : Loc) (rest : List ℕ) → IsLocated known.variables type loc → may_have (newest dialect) (location_version loc) ≡ true
    → free_location dialect (Some (Elementary type)) known (token_at signs.Address (location_text loc) rest) ≡ Ok (text_loc loc)
location_back dialect known type loc rest is may =
    let suits : is_type type (loc_type (seen_as type (text_loc loc))) ≡ true = ap (λ (l : Loc). is_type type (loc_type l)) (seen_again type loc is.suits) ∙ is.suits in
    let free : is_overlapped known.variables (text_loc loc) ≡ false = ap (λ (parts : List Loc). list_any (λ (part : Loc). is_taken known.variables (loc_code part)) parts) (parts_in_text loc) ∙ is.free in
    rw (location_again dialect loc is.place may, suits, free) refl

first_seen : (dialect : Dialect) (type : Ty) (loc : Loc) (v : Value) → IsFirst dialect type (Some loc) v → IsFirst dialect type (Some (text_loc loc)) v
first_seen dialect type loc v first = record {
  of = first.of;
  known = first.known;
  may = ap (λ (a : Area). is_writable_area a || is_zero (number_of v)) (area_in_text loc) ∙ first.may;
}

-- ---- variables and instances

located_back : (dialect : Dialect) (retained : Bool) (known : Declarations) (name : List ℕ) (type : Ty) (loc : Loc) (v : Value) (rest : List ℕ) → IsNew dialect (Some (Elementary type)) known name → is_full dialect (Some (Elementary type)) known ≡ false → IsLocated known.variables type loc → may_have (newest dialect) (location_version loc) ≡ true → IsFirst dialect type (Some loc) v
    → declare dialect known (in_block retained (written_variable (variable retained name type (Some loc) v) rest)) ≡ Ok (with_variable known (variable retained name type (Some loc) v))
unfolding declare_located
located_back dialect retained known name type loc v rest new few at may first =
    rw (type_back dialect type first.known, new_back dialect (Some (Elementary type)) known name _ new few, location_back dialect known type loc _ at may, initial_back dialect type (Some (text_loc loc)) v _ (first_seen dialect type loc v first), seen_again type loc at.suits) refl

listed_back : (dialect : Dialect) (retained : Bool) (known : Declarations) (name : List ℕ) (type : Ty) (v : Value) (rest : List ℕ) → IsNew dialect (Some (Elementary type)) known name → is_full dialect (Some (Elementary type)) known ≡ false → IsFirst dialect type None v
    → declare dialect known (in_block retained (written_variable (variable retained name type None v) rest)) ≡ Ok (with_variable known (variable retained name type None v))
unfolding declare_listed declare_name each
listed_back dialect retained known name type v rest new few first =
    rw (type_back dialect type first.known, new_back dialect (Some (Elementary type)) known name _ new few, initial_back dialect type None v _ first, planned_back dialect type v _ first) refl

instance_back : (dialect : Dialect) (known : Declarations) (x : Instance) (rest : List ℕ) → IsNew dialect (Some (Block x.kind)) known x.name → is_full dialect (Some (Block x.kind)) known ≡ false → declare dialect known (in_block x.retained (written_instance x rest)) ≡ Ok (with_instance known x)
unfolding declare_listed declare_name each
instance_back dialect known x rest new few =
    rw (kind_back dialect x.kind, new_back dialect (Some (Block x.kind)) known x.name _ new few) refl

-- a declared variable: a name, a value that can be said, a location that is there, and a dialect in which it may be retained
pub record IsListedVariable (dialect : Dialect) (v : Variable) : Type 0 where
  pub name : IsFreeName dialect v.name
  pub value : IsSayable dialect v.initial
  pub place : (loc : Loc) → v.location ≡ Some loc → IsCell loc
  pub retained : may_retain (newest dialect) v.retained ≡ true

-- what a version may have of a variable
record IsHad (dialect : Dialect) (v : Variable) : Type 0 where
  name : may_call (newest dialect) v.name ≡ true
  type : may_have (newest dialect) (type_version v.ty) ≡ true
  place : may_lie (newest dialect) v.location ≡ true
  retained : may_retain (newest dialect) v.retained ≡ true

had : (dialect : Dialect) (v : Variable) → may_declare (newest dialect) v ≡ true → IsHad dialect v
had dialect v may =
    let lies = may_lie (newest dialect) v.location in
    let retained = may_retain (newest dialect) v.retained in
    let n = both_true (may_call (newest dialect) v.name) (may_have (newest dialect) (type_version v.ty) && (may_have (newest dialect) (value_version v.initial) && (lies && retained))) may in
    let a = both_true (may_have (newest dialect) (type_version v.ty)) (may_have (newest dialect) (value_version v.initial) && (lies && retained)) n.1 in
    let b = both_true (may_have (newest dialect) (value_version v.initial)) (lies && retained) a.1 in
    let c = both_true lies retained b.1 in
    record { name = n.0; type = a.0; place = c.0; retained = c.1 }

variable_listed : (dialect : Dialect) (seen : List Variable) (v : Variable) → IsVariable seen v → may_declare (newest dialect) v ≡ true → IsListedVariable dialect v
variable_listed dialect seen v is may = record {
  name = lawful_free dialect v.name (variable_lawful seen v is) (had dialect v may).name;
  value = first_said dialect v.ty v.location v.initial (first_is dialect v.ty v.location v.initial is.initial (had dialect v may).type);
  place = by_location v.location is.location;
  retained = (had dialect v may).retained;
}
  where
    by_location : (o : Option Loc) → codes_of.coded_location seen v.ty (location_code o) ≡ Some o → (loc : Loc) → o ≡ Some loc → IsCell loc
    by_location None e loc none = absurd cc
    by_location (Some l) e loc some = subst IsCell (some_is l loc some) (located_is seen v.ty l e).place

pub variables_listed : (dialect : Dialect) (Q : Program) → IsSayableProgram dialect Q → AllByRecursion (IsListedVariable dialect) Q.variables
variables_listed dialect Q is =
    let may = λ (v : Variable). may_declare (newest dialect) v ≡ true in
    all_of_both (λ (v : Variable). may v → IsListedVariable dialect v) may (IsListedVariable dialect) (λ v listed known. listed known) Q.variables
    (items_all IsVariable (λ (v : Variable). may v → IsListedVariable dialect v) (variable_listed dialect) [] Q.variables is.image.text.variables) is.variables

-- ---- all of them

abbrev known_as : List Variable → List Instance → Declarations
known_as vs xs = record { variables = vs; instances = xs }

new_variable : (dialect : Dialect) (seen : List Variable) (v : Variable) → IsVariable seen v → may_call (newest dialect) v.name ≡ true → IsNew dialect (Some (Elementary v.ty)) (known_as seen []) v.name
new_variable dialect seen v is may =
    let h = both_true (is_lawful_name v.name) (not (is_some (is_number seen v.name))) is.name in
    record { free = lawful_free dialect v.name (variable_lawful seen v is) may; no_variable = not_true (is_some (is_number seen v.name)) h.1; no_instance = refl; apart = refl }

-- the declarations that the listing writes, each with what its block says
abbrev written_in_blocks : List Declared → List ℕ → List BlockDeclaration
written_in_blocks [] rest = []
written_in_blocks (d ∷ ds) rest = in_block (retained_of d) (written_declared d (declared_text (retained_of d) ds rest)) ∷ written_in_blocks ds rest

variable_by : (dialect : Dialect) (seen : List Variable) (retained : Bool) (name : List ℕ) (type : Ty) (o : Option Loc) (v : Value) (rest : List ℕ) → IsVariable seen (variable retained name type o v) → may_call (newest dialect) name ≡ true → may_have (newest dialect) (type_version type) ≡ true → may_lie (newest dialect) o ≡ true → length seen < most_variables (newest dialect)
    → declare dialect (known_as seen []) (in_block retained (written_variable (variable retained name type o v) rest)) ≡ Ok (known_as (seen ++ variable retained name type o v ∷ []) [])
variable_by dialect seen retained name type None v rest is called known lies few =
    listed_back dialect retained (known_as seen []) name type v rest (new_variable dialect seen (variable retained name type None v) is called) (lt-leb (most_variables (newest dialect)) (length seen) few) (first_is dialect type None v is.initial known)
variable_by dialect seen retained name type (Some loc) v rest is called known lies few =
    located_back dialect retained (known_as seen []) name type loc v rest (new_variable dialect seen (variable retained name type (Some loc) v) is called) (lt-leb (most_variables (newest dialect)) (length seen) few) (located_is seen type loc is.location) lies (first_is dialect type (Some loc) v is.initial known)

variables_back : (dialect : Dialect) (seen vs : List Variable) (xs : List Instance) (rest : List ℕ) → AreItems IsVariable seen vs → AllByRecursion (λ (v : Variable). may_declare (newest dialect) v ≡ true) vs → length seen + length vs ≤ most_variables (newest dialect)
    → each (declare dialect) (known_as seen []) (written_in_blocks (all_declared vs xs) rest) ≡ each (declare dialect) (known_as (seen ++ vs) []) (written_in_blocks (of_instances xs) rest)
unfolding each
variables_back dialect seen [] xs rest all known few = rw (append-nil seen) refl
variables_back dialect seen (v ∷ vs) xs rest all known few =
    let has = had dialect v known.0 in
    rw (variable_by dialect seen v.retained v.name v.ty v.location v.initial (declared_text v.retained (all_declared vs xs) rest) all.0 has.name has.type has.place (omega (arith, few)))
    (variables_back dialect (seen ++ v ∷ []) vs xs rest all.1 known.1 (omega (arith, few, length-append seen (v ∷ []))) ∙ rw (append_assoc seen (v ∷ []) vs) refl)

new_instance : (dialect : Dialect) (vs : List Variable) (seen : List Instance) (x : Instance) → IsInstance vs seen x → may_instantiate (newest dialect) x ≡ true → IsNew dialect (Some (Block x.kind)) (known_as vs seen) x.name
new_instance dialect vs seen x is may =
    let a = instance_apart vs seen x is in
    record { free = lawful_free dialect x.name a.lawful (instance_name dialect x may); no_variable = a.no_variable; no_instance = a.no_instance; apart = a.apart }

instances_back : (dialect : Dialect) (vs : List Variable) (seen xs : List Instance) (rest : List ℕ) → AreItems (IsInstance vs) seen xs → AllByRecursion (λ (x : Instance). may_instantiate (newest dialect) x ≡ true) xs → length seen + length xs ≤ most_instances (newest dialect) → each (declare dialect) (known_as vs seen) (written_in_blocks (of_instances xs) rest) ≡ Ok (known_as vs (seen ++ xs))
unfolding each
instances_back dialect vs seen [] rest all may few = rw (append-nil seen) refl
instances_back dialect vs seen (x ∷ xs) rest all may few =
    rw (instance_back dialect (known_as vs seen) x (declared_text x.retained (of_instances xs) rest) (new_instance dialect vs seen x all.0 may.0) (lt-leb (most_instances (newest dialect)) (length seen) (omega (arith, few))))
    (instances_back dialect vs (seen ++ x ∷ []) xs rest all.1 may.1 (omega (arith, few, length-append seen (x ∷ []))) ∙ rw (append_assoc seen (x ∷ []) xs) refl)

-- ---- by blocks

said_by : (b : Bool) → says_retained (cond b (Some qualifiers.NonRetain) None) ≡ false
said_by true = refl
said_by false = refl

qualifier_says : (retained : Bool) (name : List ℕ) → says_retained (written_qualifier retained name) ≡ retained
qualifier_says true name = refl
qualifier_says false name = said_by (reads_as_qualifier name)

-- the open section's, and those of the sections behind it
abbrev in_sections : Bool → List DeclarationText → List BlockText → List BlockDeclaration
in_sections before ds bs = map (in_block before) ds ++ flat_map declarations_in bs

turn_said : (before retained : Bool) (name : List ℕ) (d : DeclarationText) (ds : List DeclarationText) (bs : List BlockText)
    → in_sections before (cond (both_alike before retained) (d ∷ ds) []) (cond (both_alike before retained) bs (record { qualifier = written_qualifier retained name; declarations = d ∷ ds } ∷ bs)) ≡ in_block retained d ∷ in_sections retained ds bs
turn_said true true name d ds bs = refl
turn_said false false name d ds bs = refl
turn_said true false name d ds bs = ap (λ (b : Bool). map (in_block b) (d ∷ ds) ++ flat_map declarations_in bs) (qualifier_says false name)
turn_said false true name d ds bs = refl

sections_said : (before : Bool) (ds : List Declared) (rest : List ℕ) → in_sections before (written_open before ds rest) (written_sections before ds rest) ≡ written_in_blocks ds rest
sections_said before [] rest = refl
sections_said before (d ∷ ds) rest =
    let r = retained_of d in
    let x = written_declared d (declared_text r ds rest) in
    turn_said before r (name_of d) x (written_open r ds rest) (written_sections r ds rest) ∙ ap (λ (xs : List BlockDeclaration). in_block r x ∷ xs) (sections_said r ds rest)

instances_plain : (xs : List Instance) → AllByRecursion (λ (x : Instance). may_instantiate (newest dialects.Plain) x ≡ true) xs → first_retained [] xs ≡ false
instances_plain [] may = refl
instances_plain (x ∷ xs) may = plain_so x.retained (both_true (may_call (newest dialects.Plain) x.name) (may_retain (newest dialects.Plain) x.retained) may.0).1
  where
    plain_so : (b : Bool) → may_retain (newest dialects.Plain) b ≡ true → b ≡ false
    plain_so true e = absurd cc
    plain_so false e = refl

all_plain : (vs : List Variable) (xs : List Instance) → AllByRecursion (λ (v : Variable). may_declare (newest dialects.Plain) v ≡ true) vs → AllByRecursion (λ (x : Instance). may_instantiate (newest dialects.Plain) x ≡ true) xs → first_retained vs xs ≡ false
all_plain [] xs known may = instances_plain xs may
all_plain (v ∷ vs) xs known may = plain_so v.retained (had dialects.Plain v known.0).retained
  where
    plain_so : (b : Bool) → may_retain (newest dialects.Plain) b ≡ true → b ≡ false
    plain_so true e = absurd cc
    plain_so false e = refl

first_says : (dialect : Dialect) (Q : Program) → IsSayableProgram dialect Q → says_retained (first_qualifier dialect Q) ≡ begins_retained Q
first_says dialects.Plain Q is = sym (all_plain Q.variables Q.instances is.variables is.instances)
first_says dialects.Extended Q is = qualifier_says (begins_retained Q) (first_name Q.variables Q.instances)

blocks_said : (dialect : Dialect) (Q : Program) → IsSayableProgram dialect Q → flat_map declarations_in (written_blocks dialect Q) ≡ written_in_blocks (declared_of Q) (end_text Q)
blocks_said dialect Q is =
    let b = begins_retained Q in
    let ds = written_open b (declared_of Q) (end_text Q) in
    let bs = written_sections b (declared_of Q) (end_text Q) in
    ap (λ (r : Bool). in_sections r ds bs) (first_says dialect Q is) ∙ sections_said b (declared_of Q) (end_text Q)

blocks_back : (dialect : Dialect) (Q : Program) → IsSayableProgram dialect Q → each (declare_block dialect) nothing (written_blocks dialect Q) ≡ Ok (declared_by Q)
blocks_back dialect Q is =
    let text = is.image.text in
    let within = is.within in
    let first = variables_back dialect [] Q.variables Q.instances (end_text Q) text.variables is.variables (let few = within.variables in omega (arith, few)) in
    let second = instances_back dialect Q.variables [] Q.instances (end_text Q) text.instances is.instances (let few = within.instances in omega (arith, few)) in
    each_flat (declare dialect) declarations_in nothing (written_blocks dialect Q)
    ∙ ap (each (declare dialect) nothing) (blocks_said dialect Q is)
    ∙ first ∙ second

program_back : (dialect : Dialect) (Q : Program) → IsSayableProgram dialect Q → program_at dialect (written dialect Q) ≡ Ok Q
unfolding program_at
program_back dialect Q is =
    let lines = listable dialect Q is in
    let within = is.within in
    let few : 0 + length Q.code ≤ most_instructions (newest dialect) = (let few = within.code in omega (arith, few)) in
    let uncrowded = crowded_less (length Q.code) (0 + length Q.code) (words_in Q.code) (0 + words_in Q.code) (omega arith) (omega arith) within.words in
    rw (blocks_back dialect Q is, lines_back dialect (declared_by Q) [] Q.code lines.lines few uncrowded) refl

-- whatever the text is that says so in that dialect
pub resolves : (dialect : Dialect) (Q : Program) (text : List ℕ) → dialect_of text ≡ dialect → IsSayableProgram dialect Q → resolution_of (record { text = text; says = written dialect Q }) ≡ Ok Q
resolves dialect Q text told_so is = ap (λ (d : Dialect). told text (program_at d (written dialect Q))) told_so ∙ ap (told text) (program_back dialect Q is)
