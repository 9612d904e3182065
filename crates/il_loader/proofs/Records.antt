-- What is read is spelled so, and what is spelled so is read: records and tables.
use Rattle.il_model.specs.Resolved.{instance_in}
use Rattle.il_model.specs.Words.{is_lawful_name}
use Rattle.il_model.specs.declared.codes.Version.TheVariants as versions
use Rattle.std.proofs.Common.{◌≡◌, ℕ, zero, suc, ◌-◌, ◌^◌, ◌<◌, ◌≤◌, Bool, true, false, cond, ltb, eqb, List, [], ◌∷◌, ◌++◌, length, take, drop, Option, Some, None, Result, Ok, Err, refl, sym, ap, subst, ◌∙◌, append_assoc, arith, not}
use Rattle.std.specs.Prelude.{ℤ, nat_eq, find, ◌&&◌, is_some}
use Rattle.std.specs.List.{flat_map}
use Rattle.std.specs.Int.{w8, w16, to_be_bytes}
use Rattle.std.proofs.lemmas.Bool.{ltb-false, ltb-true, lt-ltb, le-ltb, eqb-true}
use Rattle.std.proofs.lemmas.List.{take_at, drop_at, take-append-drop, length-append, length-take, append-nil}
use Rattle.std.proofs.lemmas.List.Concat.{flat_map-cons}
use Rattle.il_values.specs.declared.value.Ty.{Ty}
use Rattle.il_values.specs.declared.value.Ty.TheVariants as types
use Rattle.il_values.specs.declared.value.Value.{Value}
use Rattle.il_values.specs.declared.op.Op.{Op}
use Rattle.il_values.specs.declared.op.Op.TheVariants as ops
use Rattle.il_values.specs.declared.function.Function.TheVariants as functions
use Rattle.il_values.specs.declared.shift.Shift.TheVariants as shifts
use Rattle.il_values.specs.declared.op.Modifier.{Modifier}
use Rattle.il_model.specs.declared.codes.Version.{Version}
use Rattle.il_model.specs.declared.kind.BlockKind.{BlockKind}
use Rattle.il_model.specs.declared.kind.BlockKind.TheVariants as kinds
use Rattle.il_model.specs.declared.program.Loc.{Loc}
use Rattle.il_model.specs.declared.program.Variable.{Variable}
use Rattle.il_model.specs.declared.program.Instance.{Instance}
use Rattle.il_model.specs.declared.program.Side.{Side}
use Rattle.il_model.specs.declared.program.Side.TheVariants as sides
use Rattle.il_model.specs.declared.program.Operand.{Operand}
use Rattle.il_model.specs.declared.program.Instr.{Instr}
use Rattle.il_values.specs.Values.{ty_of, number_of}
use Rattle.il_model.specs.Kinds.{block_kinds, kind_code, kind_of_code}
use Rattle.il_model.specs.Program.{Declarations}
use Rattle.il_model.specs.Marks.{Mark}
use Rattle.il_model.specs.Image.{type_code, location_code, name_bytes, type_version, value_version, op_version, may_have, may_lie, may_retain, may_call, may_declare, may_instantiate, declared_code, may_keep, may_name, number_bytes, variable_bytes, instance_bytes, mark_bytes, constant_bytes, modifier_code, side_code, coded_word}
use Rattle.il_values.specs.OpCodes.{op_code}
use Rattle.il_model.specs.Codes.{is_new_name, is_new_instance, is_new_label, length_in, type_of, type_in, retained_in, plain_code, coded_location, coded_location_in, initial_of, constant_of, usage_of, allowed_by, op_in, modifier_of, letters_of, label_there, word_operand, word_operand_in, side_of, argument_number, argument_operand, argument_operand_in}
use Rattle.il_values.specs.OpCodes.{op_of}
use Rattle.il_model.specs.Fits.{IsVariable, IsInstance, IsMark, IsConstant, IsCoded, AreItems}
use Rattle.il_model.proofs.BlockKinds.{kind_of_code-kind_code}
use Rattle.il_values.proofs.OpCodes.{op_is}
use Rattle.il_model.proofs.RowTypes.{and_yes}
use Rattle.il_model.proofs.NameLengths.{length_kept, length_wide}
use Rattle.il_model.proofs.Retained.{plain_again, declared_small, retained_again, code_is}
use Rattle.il_model.proofs.Versions.{IsKept, variable_kept, constant_kept, type_in_again, type_in_is, op_in_again, op_in_is, place_in_again, place_in_is, operand_in_again, operand_in_is, argument_in_again, argument_in_is}
use Rattle.il_loader.specs.declared.word.Word.{Word}
use Rattle.il_loader.specs.declared.word.Content.{Content}
use Rattle.il_loader.specs.declared.word.Content.TheVariants as contents
use Rattle.il_records.specs.declared.fault.LoadFault.{LoadFault}
use Rattle.il_records.specs.declared.fault.LoadFault.TheVariants.{Truncated, BadWord}
use Rattle.il_loader.specs.Reading.{items_from, name_at, variable_at, instance_at, mark_at, instruction_at, argument_at, word_by, word_at}
use Rattle.il_records.specs.Fields.{◌>>=◌, number_at, signed_at, lawful, agrees, spelled_name_at, first_value_at, declared_at, constant_at}
use Rattle.il_loader.proofs.Fields.{IsBytes, IsBytes-drop, bind_ok, guard_no, agrees_ok, lawful_ok, some_yes, ok_is, Takes, Takes-then, wide8, wide16, number_takes, number_again, signed_takes, signed_again, length_is, length_below, type_is, type_small, location_is, initial_is, tested_some, constant_is}

record IsName (is_new : List ℕ → Bool) (name : List ℕ) : Type 0 where
  len : length_in versions.Three (length name) ≡ Some (length name)
  new : is_new name ≡ true

length_read : (version : Version) (m b l : ℕ) → m ≡ l → b ≡ l → length_in version m ≡ Some b → length_in version l ≡ Some l
length_read version m b l m-is b-is e = ap (length_in version) (sym m-is) ∙ e ∙ ap (λ (k : ℕ). Some k) b-is

spelled_takes : (version : Version) (p : ℕ) (bytes : List ℕ) (x : List ℕ × List ℕ) → IsBytes bytes → spelled_name_at version p bytes ≡ Ok x → Takes bytes (name_bytes x.0) x.1 × (length_in version (length x.0) ≡ Some (length x.0))
unfolding spelled_name_at
spelled_takes version p bytes x fits e =
    let b_first = bind_ok (number_at w8 bytes) (λ first. lawful p (length_in version first.0) >>= λ n. cond (ltb (length first.1) n) (Err Truncated) (Ok (take n first.1, drop n first.1))) x e in
    let b_n = bind_ok (lawful p (length_in version b_first.0.0)) (λ n. cond (ltb (length b_first.0.1) n) (Err Truncated) (Ok (take n b_first.0.1, drop n b_first.0.1))) x b_first.2 in
    let m = b_first.0.0 in
    let after = b_first.0.1 in
    let n-is : m ≡ b_n.0 = length_is version m b_n.0 (lawful_ok p (length_in version m) b_n.0 b_n.1) in
    let g = guard_no (ltb (length after) b_n.0) Truncated (Ok (take b_n.0 after, drop b_n.0 after)) x b_n.2 in
    let long : b_n.0 ≤ length after = ltb-false _ _ g.0 in
    let t = number_takes w8 (2 ^ 8) wide8 bytes m after fits b_first.1 in
    let len : m ≡ length (take b_n.0 after) = omega (arith, length-take b_n.0 after) in
    let read : length_in version (length (take b_n.0 after)) ≡ Some (length (take b_n.0 after)) = length_read version m b_n.0 (length (take b_n.0 after)) len (omega (arith, length-take b_n.0 after)) (lawful_ok p (length_in version m) b_n.0 b_n.1) in
    let second : Takes after (take b_n.0 after) (drop b_n.0 after) = record { parts = sym (take-append-drop b_n.0 after); rest_fits = IsBytes-drop b_n.0 after t.0.rest_fits } in
    let both = Takes-then bytes (to_be_bytes w8 m) after (take b_n.0 after) (drop b_n.0 after) t.0 second in
    let whole : Takes bytes (name_bytes (take b_n.0 after)) (drop b_n.0 after) = subst (λ (k : ℕ). Takes bytes (to_be_bytes w8 k ++ take b_n.0 after) (drop b_n.0 after)) len both in
    subst (λ (y : List ℕ × List ℕ). Takes bytes (name_bytes y.0) y.1 × (length_in version (length y.0) ≡ Some (length y.0))) (ok_is (take b_n.0 after, drop b_n.0 after) x g.1) (whole, read)

name_takes : (version : Version) (p : ℕ) (is_new : List ℕ → Bool) (bytes : List ℕ) (x : List ℕ × List ℕ) → IsBytes bytes → name_at version p is_new bytes ≡ Ok x → Takes bytes (name_bytes x.0) x.1 × IsName is_new x.0
unfolding name_at
name_takes version p is_new bytes x fits e =
    let b_name = bind_ok (spelled_name_at version p bytes) (λ name. agrees (BadWord p) (may_call version name.0 && is_new name.0) >>= λ new. Ok name) x e in
    let b_new = bind_ok (agrees (BadWord p) (may_call version b_name.0.0 && is_new b_name.0.0)) (λ new. Ok b_name.0) x b_name.2 in
    let t = spelled_takes version p bytes b_name.0 fits b_name.1 in
    let new = (and_yes (may_call version b_name.0.0) (is_new b_name.0.0) (agrees_ok (BadWord p) (may_call version b_name.0.0 && is_new b_name.0.0) b_new.0 b_new.1)).1 in
    subst (λ (y : List ℕ × List ℕ). Takes bytes (name_bytes y.0) y.1 × IsName is_new y.0) (ok_is b_name.0 x b_new.2) (t.0, record { len = length_wide version (length b_name.0.0) t.1; new = new })

spelled_again : (version : Version) (p : ℕ) (name rest : List ℕ) → length_in version (length name) ≡ Some (length name) → spelled_name_at version p (name_bytes name ++ rest) ≡ Ok (name, rest)
unfolding spelled_name_at
spelled_again version p name rest len =
    let regrouped : name_bytes name ++ rest ≡ to_be_bytes w8 (length name) ++ (name ++ rest) = append_assoc (to_be_bytes w8 (length name)) name rest in
    let small : length name < 2 ^ 8 = omega (arith, length_below (length name) (length name) (length_wide version (length name) len)) in
    let long : ltb (length (name ++ rest)) (length name) ≡ false = le-ltb _ _ (omega (arith, length-append name rest)) in
    ap (spelled_name_at version p) regrouped ∙ rw (number_again w8 (2 ^ 8) wide8 (length name) (name ++ rest) small, len, long, take_at name rest (length name) refl, drop_at name rest (length name) refl) refl

name_again : (version : Version) (p : ℕ) (is_new : List ℕ → Bool) (name rest : List ℕ) → length_in version (length name) ≡ Some (length name) → may_call version name ≡ true → is_new name ≡ true → name_at version p is_new (name_bytes name ++ rest) ≡ Ok (name, rest)
unfolding name_at
name_again version p is_new name rest len may new = rw (spelled_again version p name rest len, may, new) refl

first_value_takes : (version : Version) (p : ℕ) (type : Ty) (loc : Option Loc) (bytes : List ℕ) (x : Value × List ℕ) → IsBytes bytes → first_value_at version p type loc bytes ≡ Ok x
    → Takes bytes (number_bytes version (number_of x.0)) x.1 × (initial_of type loc (number_of x.0) ≡ Some x.0)
unfolding first_value_at
first_value_takes version p type loc bytes x fits e =
    let b_number = bind_ok (signed_at version bytes) (λ number. lawful p (initial_of type loc number.0) >>= λ value. Ok (value, number.1)) x e in
    let z = b_number.0.0 in
    let b_value = bind_ok (lawful p (initial_of type loc z)) (λ value. Ok (value, b_number.0.1)) x b_number.2 in
    let ok = lawful_ok p (initial_of type loc z) b_value.0 b_value.1 in
    let is : z ≡ number_of b_value.0 = sym (initial_is type loc z b_value.0 ok) in
    let t = subst (λ (k : ℤ). Takes bytes (number_bytes version k) b_number.0.1) is (signed_takes version bytes z b_number.0.1 fits b_number.1) in
    subst (λ (y : Value × List ℕ). Takes bytes (number_bytes version (number_of y.0)) y.1 × (initial_of type loc (number_of y.0) ≡ Some y.0)) (ok_is (b_value.0, b_number.0.1) x b_value.2) (t, subst (λ (k : ℤ). initial_of type loc k ≡ Some b_value.0) is ok)

first_value_again : (version : Version) (p : ℕ) (type : Ty) (loc : Option Loc) (v : Value) (rest : List ℕ) → initial_of type loc (number_of v) ≡ Some v → IsKept version (number_of v)
    → first_value_at version p type loc (number_bytes version (number_of v) ++ rest) ≡ Ok (v, rest)
unfolding first_value_at
first_value_again version p type loc v rest is kept = rw (signed_again version (number_of v) rest kept, is) refl

-- the code of a declaration
declared_takes : (version : Version) (p : ℕ) (bytes : List ℕ) (x : (Bool × ℕ) × List ℕ) → IsBytes bytes → declared_at version p bytes ≡ Ok x → Takes bytes (to_be_bytes w8 (declared_code x.0.0 x.0.1)) x.1
unfolding declared_at
declared_takes version p bytes x fits e =
    let b_code = bind_ok (number_at w8 bytes) (λ code. lawful p (retained_in version code.0) >>= λ retained. Ok ((retained, plain_code code.0), code.1)) x e in
    let b_retained = bind_ok (lawful p (retained_in version b_code.0.0)) (λ retained. Ok ((retained, plain_code b_code.0.0), b_code.0.1)) x b_code.2 in
    let t = number_takes w8 (2 ^ 8) wide8 bytes b_code.0.0 b_code.0.1 fits b_code.1 in
    let is : declared_code b_retained.0 (plain_code b_code.0.0) ≡ b_code.0.0 = code_is version b_code.0.0 b_retained.0 (lawful_ok p (retained_in version b_code.0.0) b_retained.0 b_retained.1) in
    subst (λ (y : (Bool × ℕ) × List ℕ). Takes bytes (to_be_bytes w8 (declared_code y.0.0 y.0.1)) y.1) (ok_is ((b_retained.0, plain_code b_code.0.0), b_code.0.1) x b_retained.2) (subst (λ (k : ℕ). Takes bytes (to_be_bytes w8 k) b_code.0.1) (sym is) t.0)

declared_again : (version : Version) (p : ℕ) (r : Bool) (n : ℕ) (rest : List ℕ) → n < 128 → may_retain version r ≡ true → declared_at version p (to_be_bytes w8 (declared_code r n) ++ rest) ≡ Ok ((r, n), rest)
unfolding declared_at
declared_again version p r n rest small may = rw (number_again w8 (2 ^ 8) wide8 (declared_code r n) rest (declared_small r n small), retained_again version r n small may, plain_again r n small) refl

-- the parts of a variable, each with what was read of it
variable_joins : (version : Version) (seen : List Variable) (bytes r0 r1 r2 rest : List ℕ) (v : Variable) (code place : ℕ)
    → Takes bytes (name_bytes v.name) r0 → Takes r0 (to_be_bytes w8 (declared_code v.retained code)) r1 → Takes r1 (to_be_bytes w16 place) r2 → Takes r2 (number_bytes version (number_of v.initial)) rest
    → IsName (is_new_name seen) v.name → type_in version code ≡ Some v.ty → coded_location seen v.ty place ≡ Some v.location → place < 2 ^ 16 → initial_of v.ty v.location (number_of v.initial) ≡ Some v.initial
    → Takes bytes (variable_bytes version v) rest × IsVariable seen v
variable_joins version seen bytes r0 r1 r2 rest v code place t0 t1 t2 t3 name ty-in loc-ok place-lt value-ok =
    let ty-ok = (type_in_is version code v.ty ty-in).0 in
    let ty-is = sym (type_is code v.ty ty-ok) in
    let loc-is = sym (location_is seen v.ty place v.location loc-ok) in
    let s2 = subst (λ (k : ℕ). Takes r1 (to_be_bytes w16 k) r2) loc-is t2 in
    let s1 = subst (λ (k : ℕ). Takes r0 (to_be_bytes w8 (declared_code v.retained k)) r1) ty-is t1 in
    let e23 = Takes-then r1 (to_be_bytes w16 (location_code v.location)) r2 (number_bytes version (number_of v.initial)) rest s2 t3 in
    let e13 = Takes-then r0 (to_be_bytes w8 (declared_code v.retained (type_code v.ty))) r1 (to_be_bytes w16 (location_code v.location) ++ number_bytes version (number_of v.initial)) rest s1 e23 in
    let e03 = Takes-then bytes (name_bytes v.name) r0 (to_be_bytes w8 (declared_code v.retained (type_code v.ty)) ++ (to_be_bytes w16 (location_code v.location) ++ number_bytes version (number_of v.initial))) rest t0 e13 in (
      e03,
      record {
        length = name.len;
        name = name.new;
        type = subst (λ (k : ℕ). type_of k ≡ Some v.ty) ty-is ty-ok;
        location = subst (λ (k : ℕ). coded_location seen v.ty k ≡ Some v.location) loc-is loc-ok;
        location_small = subst (λ (k : ℕ). k < 2 ^ 16) loc-is place-lt;
        initial = value-ok;
      },
    )

variable_ends : (version : Version) (seen : List Variable) (bytes r0 r1 r2 rest : List ℕ) (v : Variable) (code place : ℕ) (x : Variable × List ℕ)
    → Takes bytes (name_bytes v.name) r0 → Takes r0 (to_be_bytes w8 (declared_code v.retained code)) r1 → Takes r1 (to_be_bytes w16 place) r2 → Takes r2 (number_bytes version (number_of v.initial)) rest
    → IsName (is_new_name seen) v.name → type_in version code ≡ Some v.ty → coded_location seen v.ty place ≡ Some v.location → place < 2 ^ 16 → initial_of v.ty v.location (number_of v.initial) ≡ Some v.initial
    → (let r : Result (Variable × List ℕ) LoadFault = Ok (v, rest) in r ≡ Ok x)
    → Takes bytes (variable_bytes version x.0) x.1 × IsVariable seen x.0
variable_ends version seen bytes r0 r1 r2 rest v code place x t0 t1 t2 t3 name ty-in loc-ok place-lt value-ok e =
    subst (λ (y : Variable × List ℕ). Takes bytes (variable_bytes version y.0) y.1 × IsVariable seen y.0) (ok_is (v, rest) x e) (variable_joins version seen bytes r0 r1 r2 rest v code place t0 t1 t2 t3 name ty-in loc-ok place-lt value-ok)

-- a variable behind its name and its type
variable_tail : (version : Version) (p : ℕ) (seen : List Variable) (bytes r0 r1 name : List ℕ) (retained : Bool) (code : ℕ) (type : Ty) (x : Variable × List ℕ)
    → Takes bytes (name_bytes name) r0 → IsName (is_new_name seen) name → Takes r0 (to_be_bytes w8 (declared_code retained code)) r1 → type_in version code ≡ Some type
    → (number_at w16 r1 >>= λ place. lawful p (coded_location_in version seen type place.0) >>= λ loc. first_value_at version p type loc place.1 >>= λ first. Ok (record { name = name; ty = type; location = loc; initial = first.0; retained = retained }, first.1)) ≡ Ok x
    → Takes bytes (variable_bytes version x.0) x.1 × IsVariable seen x.0
variable_tail version p seen bytes r0 r1 name retained code type x t0 named t1 ty-in e =
    let b_place = bind_ok (number_at w16 r1) (λ place. lawful p (coded_location_in version seen type place.0) >>= λ loc. first_value_at version p type loc place.1 >>= λ first. Ok (record { name = name; ty = type; location = loc; initial = first.0; retained = retained }, first.1)) x e in
    let b_loc = bind_ok (lawful p (coded_location_in version seen type b_place.0.0)) (λ loc. first_value_at version p type loc b_place.0.1 >>= λ first. Ok (record { name = name; ty = type; location = loc; initial = first.0; retained = retained }, first.1)) x b_place.2 in
    let b_first = bind_ok (first_value_at version p type b_loc.0 b_place.0.1) (λ first. Ok (record { name = name; ty = type; location = b_loc.0; initial = first.0; retained = retained }, first.1)) x b_loc.2 in
    let t2 = number_takes w16 (2 ^ 16) wide16 r1 b_place.0.0 b_place.0.1 t1.rest_fits b_place.1 in
    let t3 = first_value_takes version p type b_loc.0 b_place.0.1 b_first.0 t2.0.rest_fits b_first.1 in
    let loc-ok = (place_in_is version seen type b_place.0.0 b_loc.0 (lawful_ok p (coded_location_in version seen type b_place.0.0) b_loc.0 b_loc.1)).0 in
    variable_ends version seen bytes r0 r1 b_place.0.1 b_first.0.1 (record { name = name; ty = type; location = b_loc.0; initial = b_first.0.0; retained = retained }) code b_place.0.0 x t0 t1 t2.0 t3.0 named ty-in loc-ok t2.1 t3.1 b_first.2

pub variable_takes : (version : Version) (total : ℕ) (seen : List Variable) (bytes : List ℕ) (x : Variable × List ℕ) → IsBytes bytes → variable_at version total seen bytes ≡ Ok x → Takes bytes (variable_bytes version x.0) x.1 × IsVariable seen x.0
unfolding variable_at
variable_takes version total seen bytes x fits e =
    let p = total - length bytes in
    let b_name = bind_ok (name_at version p (is_new_name seen) bytes) (λ name. declared_at version p name.1 >>= λ code. lawful p (type_in version code.0.1) >>= λ type. number_at w16 code.1 >>= λ place. lawful p (coded_location_in version seen type place.0) >>= λ loc. first_value_at version p type loc place.1 >>= λ first. Ok (record { name = name.0; ty = type; location = loc; initial = first.0; retained = code.0.0 }, first.1)) x e in
    let b_code = bind_ok (declared_at version p b_name.0.1) (λ code. lawful p (type_in version code.0.1) >>= λ type. number_at w16 code.1 >>= λ place. lawful p (coded_location_in version seen type place.0) >>= λ loc. first_value_at version p type loc place.1 >>= λ first. Ok (record { name = b_name.0.0; ty = type; location = loc; initial = first.0; retained = code.0.0 }, first.1)) x b_name.2 in
    let b_type = bind_ok (lawful p (type_in version b_code.0.0.1)) (λ type. number_at w16 b_code.0.1 >>= λ place. lawful p (coded_location_in version seen type place.0) >>= λ loc. first_value_at version p type loc place.1 >>= λ first. Ok (record { name = b_name.0.0; ty = type; location = loc; initial = first.0; retained = b_code.0.0.0 }, first.1)) x b_code.2 in
    let t0 = name_takes version p (is_new_name seen) bytes b_name.0 fits b_name.1 in
    let t1 = declared_takes version p b_name.0.1 b_code.0 t0.0.rest_fits b_code.1 in
    let ty-in = lawful_ok p (type_in version b_code.0.0.1) b_type.0 b_type.1 in
    variable_tail version p seen bytes b_name.0.1 b_code.0.1 b_name.0.0 b_code.0.0.0 b_code.0.0.1 b_type.0 x t0.0 t0.1 t1 ty-in b_type.2

-- four parts, and what follows
regrouped_4 : (a b c d rest : List ℕ) → (a ++ (b ++ (c ++ d))) ++ rest ≡ a ++ (b ++ (c ++ (d ++ rest)))
regrouped_4 a b c d rest = append_assoc a (b ++ (c ++ d)) rest ∙ ap (λ (x : List ℕ). a ++ x) (append_assoc b (c ++ d) rest ∙ ap (λ (x : List ℕ). b ++ x) (append_assoc c d rest))

regrouped_3 : (a b c rest : List ℕ) → (a ++ (b ++ c)) ++ rest ≡ a ++ (b ++ (c ++ rest))
regrouped_3 a b c rest = append_assoc a (b ++ c) rest ∙ ap (λ (x : List ℕ). a ++ x) (append_assoc b c rest)

type_below : (t : Ty) → type_code t < 128
type_below types.Bool = omega arith
type_below types.Int = omega arith
type_below types.Dint = omega arith
type_below types.Time = omega arith
type_below types.Lint = omega arith
type_below types.Real = omega arith
type_below types.Word = omega arith
type_below types.Dword = omega arith

pub variable_again : (version : Version) (total : ℕ) (seen : List Variable) (v : Variable) (rest : List ℕ) → IsVariable seen v → may_declare version v ≡ true → variable_at version total seen (variable_bytes version v ++ rest) ≡ Ok (v, rest)
unfolding variable_at
variable_again version total seen v rest is may =
    let p = total - length (variable_bytes version v ++ rest) in
    let b1 = to_be_bytes w8 (declared_code v.retained (type_code v.ty)) in
    let b2 = to_be_bytes w16 (location_code v.location) in
    let b3 = number_bytes version (number_of v.initial) in
    let named = and_yes (may_call version v.name) _ may in
    let first = and_yes (may_have version (type_version v.ty)) _ named.1 in
    let len = length_kept version v.name is.length (and_yes (is_lawful_name v.name) _ is.name).0 named.0 in
    let rest-may = and_yes (may_have version (value_version v.initial)) _ first.1 in
    let place-may = and_yes (may_lie version v.location) (may_retain version v.retained) rest-may.1 in
    let type = type_in_again version v.ty first.0 in
    let place = place_in_again version seen v.ty (location_code v.location) v.location is.location place-may.0 in
    let h0 : name_at version p (is_new_name seen) (variable_bytes version v ++ rest) ≡ Ok (v.name, b1 ++ (b2 ++ (b3 ++ rest))) = ap (name_at version p (is_new_name seen)) (regrouped_4 (name_bytes v.name) b1 b2 b3 rest) ∙ name_again version p (is_new_name seen) v.name (b1 ++ (b2 ++ (b3 ++ rest))) len named.0 is.name in
    rw (h0, declared_again version p v.retained (type_code v.ty) (b2 ++ (b3 ++ rest)) (type_below v.ty) place-may.1, type, number_again w16 (2 ^ 16) wide16 (location_code v.location) (b3 ++ rest) is.location_small, place, first_value_again version p v.ty v.location v.initial rest is.initial (variable_kept version seen v is may)) refl

-- ---- instances

found_by : {X : Type 0} (p : X → Bool) (b : Bool) (x : X) (o : Option X) (y : X) → p x ≡ b → cond b (Some x) o ≡ Some y → (o ≡ Some y → p y ≡ true) → p y ≡ true
found_by p true x o y e h ih = let is : x ≡ y = cc in ap p (sym is) ∙ e
found_by p false x o y e h ih = ih h

-- what is found passes the test
found_passes : {X : Type 0} (p : X → Bool) (xs : List X) (y : X) → find p xs ≡ Some y → p y ≡ true
found_passes p [] y e = absurd cc
found_passes p (x ∷ xs) y e = found_by p (p x) x (find p xs) y refl e (λ h. found_passes p xs y h)

kind_is : (n : ℕ) (kind : BlockKind) → kind_of_code n ≡ Some kind → kind_code kind ≡ n
kind_is n kind e = eqb-true (kind_code kind) n (found_passes (λ (k : BlockKind). nat_eq (kind_code k) n) block_kinds kind e)

kind_below : (kind : BlockKind) → kind_code kind < 128
kind_below kinds.Sr = omega arith
kind_below kinds.Rs = omega arith
kind_below kinds.RTrig = omega arith
kind_below kinds.FTrig = omega arith
kind_below kinds.Ctu = omega arith
kind_below kinds.Ctd = omega arith
kind_below kinds.Ctud = omega arith
kind_below kinds.Tp = omega arith
kind_below kinds.Ton = omega arith
kind_below kinds.Tof = omega arith

instance_joins : (vs : List Variable) (seen : List Instance) (bytes r0 rest : List ℕ) (x : Instance) (code : ℕ) → Takes bytes (name_bytes x.name) r0 → Takes r0 (to_be_bytes w8 (declared_code x.retained code)) rest → IsName (is_new_instance vs seen) x.name → kind_of_code code ≡ Some x.kind
    → Takes bytes (instance_bytes x) rest × IsInstance vs seen x
instance_joins vs seen bytes r0 rest x code t0 t1 named kind-ok = (
  Takes-then bytes (name_bytes x.name) r0 (to_be_bytes w8 (declared_code x.retained (kind_code x.kind))) rest t0 (subst (λ (k : ℕ). Takes r0 (to_be_bytes w8 (declared_code x.retained k)) rest) (sym (kind_is code x.kind kind-ok)) t1),
  record { length = named.len; name = named.new },
)

pub instance_takes : (version : Version) (total : ℕ) (vs : List Variable) (seen : List Instance) (bytes : List ℕ) (x : Instance × List ℕ) → IsBytes bytes → instance_at version total vs seen bytes ≡ Ok x → Takes bytes (instance_bytes x.0) x.1 × IsInstance vs seen x.0
unfolding instance_at
instance_takes version total vs seen bytes x fits e =
    let p = total - length bytes in
    let b_name = bind_ok (name_at version p (is_new_instance vs seen) bytes) (λ name. declared_at version p name.1 >>= λ code. lawful p (kind_of_code code.0.1) >>= λ kind. Ok (record { name = name.0; kind = kind; retained = code.0.0 }, code.1)) x e in
    let b_code = bind_ok (declared_at version p b_name.0.1) (λ code. lawful p (kind_of_code code.0.1) >>= λ kind. Ok (record { name = b_name.0.0; kind = kind; retained = code.0.0 }, code.1)) x b_name.2 in
    let b_kind = bind_ok (lawful p (kind_of_code b_code.0.0.1)) (λ kind. Ok (record { name = b_name.0.0; kind = kind; retained = b_code.0.0.0 }, b_code.0.1)) x b_code.2 in
    let t0 = name_takes version p (is_new_instance vs seen) bytes b_name.0 fits b_name.1 in
    let t1 = declared_takes version p b_name.0.1 b_code.0 t0.0.rest_fits b_code.1 in
    let kind-ok = lawful_ok p (kind_of_code b_code.0.0.1) b_kind.0 b_kind.1 in
    let y : Instance = record { name = b_name.0.0; kind = b_kind.0; retained = b_code.0.0.0 } in
    subst (λ (z : Instance × List ℕ). Takes bytes (instance_bytes z.0) z.1 × IsInstance vs seen z.0) (ok_is (y, b_code.0.1) x b_kind.2) (instance_joins vs seen bytes b_name.0.1 b_code.0.1 y b_code.0.0.1 t0.0 t1 t0.1 kind-ok)

pub instance_again : (version : Version) (total : ℕ) (vs : List Variable) (seen : List Instance) (x : Instance) (rest : List ℕ) → IsInstance vs seen x → may_instantiate version x ≡ true → instance_at version total vs seen (instance_bytes x ++ rest) ≡ Ok (x, rest)
unfolding instance_at
instance_again version total vs seen x rest is may =
    let p = total - length (instance_bytes x ++ rest) in
    let b1 = to_be_bytes w8 (declared_code x.retained (kind_code x.kind)) in
    let named = and_yes (may_call version x.name) (may_retain version x.retained) may in
    let fresh = and_yes (is_new_name vs x.name && not (is_some (instance_in seen x.name))) _ is.name in
    let new = and_yes (is_new_name vs x.name) _ fresh.0 in
    let len = length_kept version x.name is.length (and_yes (is_lawful_name x.name) _ new.0).0 named.0 in
    let h0 : name_at version p (is_new_instance vs seen) (instance_bytes x ++ rest) ≡ Ok (x.name, b1 ++ rest) = ap (name_at version p (is_new_instance vs seen)) (append_assoc (name_bytes x.name) b1 rest) ∙ name_again version p (is_new_instance vs seen) x.name (b1 ++ rest) len named.0 is.name in
    rw (h0, declared_again version p x.retained (kind_code x.kind) rest (kind_below x.kind) named.1, kind_of_code-kind_code x.kind) refl

-- ---- labels

mark_joins : (seen : List Mark) (bytes r0 rest : List ℕ) (m : Mark) → Takes bytes (name_bytes m.name) r0 → Takes r0 (to_be_bytes w16 m.at) rest → IsName (is_new_label seen) m.name → m.at < 2 ^ 16
    → Takes bytes (mark_bytes m) rest × IsMark seen m
mark_joins seen bytes r0 rest m t0 t1 named lt = (Takes-then bytes (name_bytes m.name) r0 (to_be_bytes w16 m.at) rest t0 t1, record { length = named.len; name = named.new; small = lt })

pub mark_takes : (version : Version) (total : ℕ) (seen : List Mark) (bytes : List ℕ) (x : Mark × List ℕ) → IsBytes bytes → mark_at version total seen bytes ≡ Ok x → Takes bytes (mark_bytes x.0) x.1 × IsMark seen x.0
unfolding mark_at
mark_takes version total seen bytes x fits e =
    let p = total - length bytes in
    let b_name = bind_ok (name_at version p (is_new_label seen) bytes) (λ name. number_at w16 name.1 >>= λ address. Ok (record { name = name.0; at = address.0 }, address.1)) x e in
    let b_at = bind_ok (number_at w16 b_name.0.1) (λ address. Ok (record { name = b_name.0.0; at = address.0 }, address.1)) x b_name.2 in
    let t0 = name_takes version p (is_new_label seen) bytes b_name.0 fits b_name.1 in
    let t1 = number_takes w16 (2 ^ 16) wide16 b_name.0.1 b_at.0.0 b_at.0.1 t0.0.rest_fits b_at.1 in
    let m : Mark = record { name = b_name.0.0; at = b_at.0.0 } in
    subst (λ (y : Mark × List ℕ). Takes bytes (mark_bytes y.0) y.1 × IsMark seen y.0) (ok_is (m, b_at.0.1) x b_at.2) (mark_joins seen bytes b_name.0.1 b_at.0.1 m t0.0 t1.0 t0.1 t1.1)

pub mark_again : (version : Version) (total : ℕ) (seen : List Mark) (m : Mark) (rest : List ℕ) → IsMark seen m → may_call version m.name ≡ true → mark_at version total seen (mark_bytes m ++ rest) ≡ Ok (m, rest)
unfolding mark_at
mark_again version total seen m rest is may =
    let p = total - length (mark_bytes m ++ rest) in
    let b1 = to_be_bytes w16 m.at in
    let len = length_kept version m.name is.length (and_yes (is_lawful_name m.name) _ is.name).0 may in
    let h0 : name_at version p (is_new_label seen) (mark_bytes m ++ rest) ≡ Ok (m.name, b1 ++ rest) = ap (name_at version p (is_new_label seen)) (append_assoc (name_bytes m.name) b1 rest) ∙ name_again version p (is_new_label seen) m.name (b1 ++ rest) len may is.name in
    rw (h0, number_again w16 (2 ^ 16) wide16 m.at rest is.small) refl

-- ---- constants

constant_joins : (version : Version) (seen : List Value) (bytes r0 rest : List ℕ) (v : Value) (code : ℕ) (z : ℤ) (t : Ty) → Takes bytes (to_be_bytes w8 code) r0 → Takes r0 (number_bytes version z) rest
    → type_in version code ≡ Some t → constant_of seen t z ≡ Some v → Takes bytes (constant_bytes version v) rest × IsConstant seen v
constant_joins version seen bytes r0 rest v code z t t0 t1 ty-in value-ok =
    let ty-ok = (type_in_is version code t ty-in).0 in
    let is = constant_is seen t z v value-ok in
    let ty-is : t ≡ ty_of v = sym is.0 in
    let code-is : code ≡ type_code (ty_of v) = sym (type_is code t ty-ok) ∙ ap type_code ty-is in
    let number-is : z ≡ number_of v = sym is.1 in
    let s0 = subst (λ (k : ℕ). Takes bytes (to_be_bytes w8 k) r0) code-is t0 in
    let s1 = subst (λ (k : ℤ). Takes r0 (number_bytes version k) rest) number-is t1 in (
      Takes-then bytes (to_be_bytes w8 (type_code (ty_of v))) r0 (number_bytes version (number_of v)) rest s0 s1,
      record {
        type = subst (λ (k : ℕ). type_of k ≡ Some (ty_of v)) code-is (subst (λ (x : Ty). type_of code ≡ Some x) ty-is ty-ok);
        value = subst (λ (k : ℤ). constant_of seen (ty_of v) k ≡ Some v) number-is (subst (λ (x : Ty). constant_of seen x z ≡ Some v) ty-is value-ok);
      },
    )

pub constant_takes : (version : Version) (total : ℕ) (seen : List Value) (bytes : List ℕ) (x : Value × List ℕ) → IsBytes bytes → constant_at version total seen bytes ≡ Ok x → Takes bytes (constant_bytes version x.0) x.1 × IsConstant seen x.0
unfolding constant_at
constant_takes version total seen bytes x fits e =
    let p = total - length bytes in
    let b_code = bind_ok (number_at w8 bytes) (λ code. lawful p (type_in version code.0) >>= λ type. signed_at version code.1 >>= λ number. lawful p (constant_of seen type number.0) >>= λ value. Ok (value, number.1)) x e in
    let b_type = bind_ok (lawful p (type_in version b_code.0.0)) (λ type. signed_at version b_code.0.1 >>= λ number. lawful p (constant_of seen type number.0) >>= λ value. Ok (value, number.1)) x b_code.2 in
    let b_number = bind_ok (signed_at version b_code.0.1) (λ number. lawful p (constant_of seen b_type.0 number.0) >>= λ value. Ok (value, number.1)) x b_type.2 in
    let b_value = bind_ok (lawful p (constant_of seen b_type.0 b_number.0.0)) (λ value. Ok (value, b_number.0.1)) x b_number.2 in
    let t0 = number_takes w8 (2 ^ 8) wide8 bytes b_code.0.0 b_code.0.1 fits b_code.1 in
    let t1 = signed_takes version b_code.0.1 b_number.0.0 b_number.0.1 t0.0.rest_fits b_number.1 in
    let ty-in = lawful_ok p (type_in version b_code.0.0) b_type.0 b_type.1 in
    let value-ok = lawful_ok p (constant_of seen b_type.0 b_number.0.0) b_value.0 b_value.1 in
    subst (λ (y : Value × List ℕ). Takes bytes (constant_bytes version y.0) y.1 × IsConstant seen y.0) (ok_is (b_value.0, b_number.0.1) x b_value.2) (constant_joins version seen bytes b_code.0.1 b_number.0.1 b_value.0 b_code.0.0 b_number.0.0 b_type.0 t0.0 t1 ty-in value-ok)

pub constant_again : (version : Version) (total : ℕ) (seen : List Value) (v : Value) (rest : List ℕ) → IsConstant seen v → may_keep version v ≡ true → constant_at version total seen (constant_bytes version v ++ rest) ≡ Ok (v, rest)
unfolding constant_at
constant_again version total seen v rest is may =
    let b1 = number_bytes version (number_of v) in
    ap (constant_at version total seen) (append_assoc (to_be_bytes w8 (type_code (ty_of v))) b1 rest) ∙ rw (number_again w8 (2 ^ 8) wide8 (type_code (ty_of v)) (b1 ++ rest) (type_small (ty_of v)), type_in_again version (ty_of v) may, signed_again version (number_of v) rest (constant_kept version seen v is may), is.value) refl

-- ---- words

modifier_is : (n : ℕ) (m : Modifier) → modifier_of n ≡ Some m → modifier_code m ≡ n
modifier_is zero m e = let is : (let r : Modifier = record { negated = false; conditional = false; opens = false } in r) ≡ m = cc in sym (ap modifier_code is)
modifier_is (suc zero) m e = let is : (let r : Modifier = record { negated = true; conditional = false; opens = false } in r) ≡ m = cc in sym (ap modifier_code is)
modifier_is (suc (suc zero)) m e = let is : (let r : Modifier = record { negated = false; conditional = true; opens = false } in r) ≡ m = cc in sym (ap modifier_code is)
modifier_is (suc (suc (suc zero))) m e = let is : (let r : Modifier = record { negated = true; conditional = true; opens = false } in r) ≡ m = cc in sym (ap modifier_code is)
modifier_is (suc (suc (suc (suc zero)))) m e = let is : (let r : Modifier = record { negated = false; conditional = false; opens = true } in r) ≡ m = cc in sym (ap modifier_code is)
modifier_is (suc (suc (suc (suc (suc zero))))) m e = let is : (let r : Modifier = record { negated = true; conditional = false; opens = true } in r) ≡ m = cc in sym (ap modifier_code is)
modifier_is (suc (suc (suc (suc (suc (suc n)))))) m e = absurd cc

letters_is : (op : Op) (n : ℕ) (m : Modifier) → letters_of op n ≡ Some m → modifier_code m ≡ n
letters_is op n m e = modifier_is n m (tested_some (allowed_by (usage_of op)) (modifier_of n) m e).0

-- the code of an operator is none of an argument
no_side : (op : Op) → side_of (op_code op) ≡ None
no_side ops.Empty = refl
no_side ops.Ld = refl
no_side ops.St = refl
no_side ops.S = refl
no_side ops.R = refl
no_side ops.And = refl
no_side ops.Or = refl
no_side ops.Xor = refl
no_side ops.Not = refl
no_side ops.Add = refl
no_side ops.Sub = refl
no_side ops.Mul = refl
no_side ops.Div = refl
no_side ops.Mod = refl
no_side ops.Gt = refl
no_side ops.Ge = refl
no_side ops.Eq = refl
no_side ops.Ne = refl
no_side ops.Le = refl
no_side ops.Lt = refl
no_side ops.Jmp = refl
no_side ops.Cal = refl
no_side ops.Ret = refl
no_side ops.Close = refl
no_side ops.IntToDint = refl
no_side ops.DintToInt = refl
no_side ops.DintToLint = refl
no_side ops.LintToDint = refl
no_side ops.Min = refl
no_side ops.Max = refl
no_side (ops.Apply functions.IntToReal) = refl
no_side (ops.Apply functions.DintToReal) = refl
no_side (ops.Apply functions.LintToReal) = refl
no_side (ops.Apply functions.TimeToReal) = refl
no_side (ops.Apply functions.RealToInt) = refl
no_side (ops.Apply functions.RealToDint) = refl
no_side (ops.Apply functions.RealToLint) = refl
no_side (ops.Apply functions.RealToTime) = refl
no_side (ops.Apply functions.Trunc) = refl
no_side (ops.Apply functions.Abs) = refl
no_side (ops.Apply functions.Sqrt) = refl
no_side (ops.Apply functions.TimeToDint) = refl
no_side (ops.Apply functions.DintToTime) = refl
no_side (ops.Apply functions.Move) = refl
no_side (ops.Apply functions.WordToInt) = refl
no_side (ops.Apply functions.IntToWord) = refl
no_side (ops.Apply functions.DwordToDint) = refl
no_side (ops.Apply functions.DintToDword) = refl
no_side (ops.Apply functions.WordToDword) = refl
no_side (ops.Apply functions.DwordToWord) = refl
no_side (ops.Shift shifts.Left) = refl
no_side (ops.Shift shifts.Right) = refl
no_side (ops.Shift shifts.RotateLeft) = refl
no_side (ops.Shift shifts.RotateRight) = refl

side_by : (a b : Bool) (n : ℕ) (side : Side) → eqb n 26 ≡ a → eqb n 27 ≡ b → cond a (Some sides.Input) (cond b (Some sides.Output) None) ≡ Some side → side_code side ≡ n
side_by true b n side e f h = let is : sides.Input ≡ side = cc in sym (ap side_code is) ∙ sym (eqb-true n 26 e)
side_by false true n side e f h = let is : sides.Output ≡ side = cc in sym (ap side_code is) ∙ sym (eqb-true n 27 f)
side_by false false n side e f h = absurd cc

side_is : (n : ℕ) (side : Side) → side_of n ≡ Some side → side_code side ≡ n
side_is n side e = side_by (eqb n 26) (eqb n 27) n side refl refl e

side_again : (side : Side) → side_of (side_code side) ≡ Some side
side_again sides.Input = refl
side_again sides.Output = refl

side_small : (side : Side) → side_code side < 2 ^ 8
side_small sides.Input = omega arith
side_small sides.Output = omega arith

-- an instruction as it was read in the n-th word, without its arguments
pub record IsInstructionRead (ds : Declarations) (marks : List Mark) (constants : List Value) (n code : ℕ) (line : Instr) : Type 0 where
  pub label : line.label ≡ label_there marks n
  pub bare : line.arguments ≡ []
  pub coded : IsCoded ds marks constants line.op line.modifier line.operand code

-- an argument as it was read
pub record IsArgumentRead (ds : Declarations) (constants : List Value) (number : ℕ) (operand : Operand) (code : ℕ) : Type 0 where
  pub number_read : number < 8
  pub operand_read : argument_operand ds constants code ≡ Some operand
  pub operand_small : code < 2 ^ 16

abbrev pub IsRead : Declarations → List Mark → List Value → ℕ → ℕ → Content → Type 0
IsRead ds marks constants n code (contents.Instruction line) = IsInstructionRead ds marks constants n code line
IsRead ds marks constants n code (contents.Argument side number operand) = IsArgumentRead ds constants number operand code

abbrev pub IsNext : Declarations → List Mark → List Value → List Word → Word → Type 0
IsNext ds marks constants seen w = IsRead ds marks constants (length seen) w.code w.content

abbrev pub content_bytes : ℕ → Content → List ℕ
content_bytes code (contents.Instruction line) = coded_word (op_code line.op) (modifier_code line.modifier) code
content_bytes code (contents.Argument side number operand) = coded_word (side_code side) number code

abbrev pub read_word_bytes : Word → List ℕ
read_word_bytes w = content_bytes w.code w.content

-- the parts of an instruction, each with what was read of it
instruction_joins : (ds : Declarations) (marks : List Mark) (constants : List Value) (n : ℕ) (bytes r0 r1 rest : List ℕ) (a b : ℕ) (op : Op) (m : Modifier) (operand : Operand) (code : ℕ)
    → Takes bytes (to_be_bytes w8 a) r0 → Takes r0 (to_be_bytes w8 b) r1 → Takes r1 (to_be_bytes w16 code) rest
    → op_of a ≡ Some op → a < 2 ^ 8 → letters_of op b ≡ Some m → b < 2 ^ 8
    → word_operand ds marks constants op m code ≡ Some operand → code < 2 ^ 16
    → Takes bytes (coded_word (op_code op) (modifier_code m) code) rest × IsCoded ds marks constants op m operand code
instruction_joins ds marks constants n bytes r0 r1 rest a b op m operand code t0 t1 t2 op-ok a-lt m-ok b-lt operand-ok lt =
    let op-is = sym (op_is a op op-ok) in
    let m-is = sym (letters_is op b m m-ok) in
    let s0 = subst (λ (k : ℕ). Takes bytes (to_be_bytes w8 k) r0) op-is t0 in
    let s1 = subst (λ (k : ℕ). Takes r0 (to_be_bytes w8 k) r1) m-is t1 in
    let e12 = Takes-then r0 (to_be_bytes w8 (modifier_code m)) r1 (to_be_bytes w16 code) rest s1 t2 in (
      Takes-then bytes (to_be_bytes w8 (op_code op)) r0 (to_be_bytes w8 (modifier_code m) ++ to_be_bytes w16 code) rest s0 e12,
      record {
        op_read = subst (λ (k : ℕ). op_of k ≡ Some op) op-is op-ok;
        op_small = subst (λ (k : ℕ). k < 2 ^ 8) op-is a-lt;
        letters = subst (λ (k : ℕ). letters_of op k ≡ Some m) m-is m-ok;
        letters_small = subst (λ (k : ℕ). k < 2 ^ 8) m-is b-lt;
        operand_read = operand-ok;
        operand_small = lt;
      },
    )

-- an operator that converts to LINT or from it
-- an image of a version may have such a word
abbrev pub may_say : Version → Content → Bool
may_say version (contents.Instruction line) = may_have version (op_version line.op) && may_name version line.operand
may_say version (contents.Argument side number operand) = may_name version operand

abbrev pub may_read : Version → Word → Bool
may_read version w = may_say version w.content

-- a word that was read, and what follows it
abbrev Reads : Declarations → List Mark → List Value → ℕ → List ℕ → Word × List ℕ → Type 0
Reads ds marks constants n bytes y = Takes bytes (read_word_bytes y.0) y.1 × IsRead ds marks constants n y.0.code y.0.content

instruction_takes : (version : Version) (p : ℕ) (ds : Declarations) (marks : List Mark) (constants : List Value) (n code : ℕ) (bytes r0 : List ℕ) (x : Word × List ℕ) → Takes bytes (to_be_bytes w8 code) r0 → code < 2 ^ 8
    → instruction_at version p ds marks constants n code r0 ≡ Ok x → Reads ds marks constants n bytes x
unfolding instruction_at
instruction_takes version p ds marks constants n code bytes r0 x t0 lt e =
    let b_op = bind_ok (lawful p (op_in version code)) (λ op. number_at w8 r0 >>= λ letters. lawful p (letters_of op letters.0) >>= λ m. number_at w16 letters.1 >>= λ slot. lawful p (word_operand_in version ds marks constants op m slot.0) >>= λ operand. Ok (record { content = contents.Instruction (record { label = label_there marks n; op = op; modifier = m; operand = operand; arguments = [] }); code = slot.0 }, slot.1)) x e in
    let b_letters = bind_ok (number_at w8 r0) (λ letters. lawful p (letters_of b_op.0 letters.0) >>= λ m. number_at w16 letters.1 >>= λ slot. lawful p (word_operand_in version ds marks constants b_op.0 m slot.0) >>= λ operand. Ok (record { content = contents.Instruction (record { label = label_there marks n; op = b_op.0; modifier = m; operand = operand; arguments = [] }); code = slot.0 }, slot.1)) x b_op.2 in
    let b_m = bind_ok (lawful p (letters_of b_op.0 b_letters.0.0)) (λ m. number_at w16 b_letters.0.1 >>= λ slot. lawful p (word_operand_in version ds marks constants b_op.0 m slot.0) >>= λ operand. Ok (record { content = contents.Instruction (record { label = label_there marks n; op = b_op.0; modifier = m; operand = operand; arguments = [] }); code = slot.0 }, slot.1)) x b_letters.2 in
    let b_slot = bind_ok (number_at w16 b_letters.0.1) (λ slot. lawful p (word_operand_in version ds marks constants b_op.0 b_m.0 slot.0) >>= λ operand. Ok (record { content = contents.Instruction (record { label = label_there marks n; op = b_op.0; modifier = b_m.0; operand = operand; arguments = [] }); code = slot.0 }, slot.1)) x b_m.2 in
    let b_operand = bind_ok (lawful p (word_operand_in version ds marks constants b_op.0 b_m.0 b_slot.0.0)) (λ operand. Ok (record { content = contents.Instruction (record { label = label_there marks n; op = b_op.0; modifier = b_m.0; operand = operand; arguments = [] }); code = b_slot.0.0 }, b_slot.0.1)) x b_slot.2 in
    let t1 = number_takes w8 (2 ^ 8) wide8 r0 b_letters.0.0 b_letters.0.1 t0.rest_fits b_letters.1 in
    let t2 = number_takes w16 (2 ^ 16) wide16 b_letters.0.1 b_slot.0.0 b_slot.0.1 t1.0.rest_fits b_slot.1 in
    let op-ok = (op_in_is version code b_op.0 (lawful_ok p (op_in version code) b_op.0 b_op.1)).0 in
    let m-ok = lawful_ok p (letters_of b_op.0 b_letters.0.0) b_m.0 b_m.1 in
    let operand-ok = (operand_in_is version ds marks constants b_op.0 b_m.0 b_slot.0.0 b_operand.0 (lawful_ok p (word_operand_in version ds marks constants b_op.0 b_m.0 b_slot.0.0) b_operand.0 b_operand.1)).0 in
    let line : Instr = record { label = label_there marks n; op = b_op.0; modifier = b_m.0; operand = b_operand.0; arguments = [] } in
    let w : Word = record { content = contents.Instruction line; code = b_slot.0.0 } in
    let j = instruction_joins ds marks constants n bytes r0 b_letters.0.1 b_slot.0.1 code b_letters.0.0 b_op.0 b_m.0 b_operand.0 b_slot.0.0 t0 t1.0 t2.0 op-ok lt m-ok t1.1 operand-ok t2.1 in
    subst (Reads ds marks constants n bytes) (ok_is (w, b_slot.0.1) x b_operand.2) (j.0, record { label = refl; bare = refl; coded = j.1 })

number_of_field : (n number : ℕ) → argument_number n ≡ Some number → (number ≡ n) × (number < 8)
number_of_field n number e =
    let y = some_yes (ltb n 8) n number e in
    let is : n ≡ number = y.1 in
    let lt : n < 8 = ltb-true n 8 y.0 in
    (sym is, subst (λ (k : ℕ). k < 8) is lt)

argument_takes : (version : Version) (p : ℕ) (ds : Declarations) (marks : List Mark) (constants : List Value) (n code : ℕ) (side : Side) (bytes r0 : List ℕ) (x : Word × List ℕ) → Takes bytes (to_be_bytes w8 code) r0 → side_of code ≡ Some side
    → argument_at version p ds constants side r0 ≡ Ok x → Reads ds marks constants n bytes x
unfolding argument_at
argument_takes version p ds marks constants n code side bytes r0 x t0 side-ok e =
    let b_number = bind_ok (number_at w8 r0) (λ number. lawful p (argument_number number.0) >>= λ field. number_at w16 number.1 >>= λ slot. lawful p (argument_operand_in version ds constants slot.0) >>= λ operand. Ok (record { content = contents.Argument side field operand; code = slot.0 }, slot.1)) x e in
    let b_field = bind_ok (lawful p (argument_number b_number.0.0)) (λ field. number_at w16 b_number.0.1 >>= λ slot. lawful p (argument_operand_in version ds constants slot.0) >>= λ operand. Ok (record { content = contents.Argument side field operand; code = slot.0 }, slot.1)) x b_number.2 in
    let b_slot = bind_ok (number_at w16 b_number.0.1) (λ slot. lawful p (argument_operand_in version ds constants slot.0) >>= λ operand. Ok (record { content = contents.Argument side b_field.0 operand; code = slot.0 }, slot.1)) x b_field.2 in
    let b_operand = bind_ok (lawful p (argument_operand_in version ds constants b_slot.0.0)) (λ operand. Ok (record { content = contents.Argument side b_field.0 operand; code = b_slot.0.0 }, b_slot.0.1)) x b_slot.2 in
    let t1 = number_takes w8 (2 ^ 8) wide8 r0 b_number.0.0 b_number.0.1 t0.rest_fits b_number.1 in
    let t2 = number_takes w16 (2 ^ 16) wide16 b_number.0.1 b_slot.0.0 b_slot.0.1 t1.0.rest_fits b_slot.1 in
    let field-is = number_of_field b_number.0.0 b_field.0 (lawful_ok p (argument_number b_number.0.0) b_field.0 b_field.1) in
    let operand-ok = (argument_in_is version ds constants b_slot.0.0 b_operand.0 (lawful_ok p (argument_operand_in version ds constants b_slot.0.0) b_operand.0 b_operand.1)).0 in
    let s0 = subst (λ (k : ℕ). Takes bytes (to_be_bytes w8 k) r0) (sym (side_is code side side-ok)) t0 in
    let s1 = subst (λ (k : ℕ). Takes r0 (to_be_bytes w8 k) b_number.0.1) (sym field-is.0) t1.0 in
    let e12 = Takes-then r0 (to_be_bytes w8 b_field.0) b_number.0.1 (to_be_bytes w16 b_slot.0.0) b_slot.0.1 s1 t2.0 in
    let whole = Takes-then bytes (to_be_bytes w8 (side_code side)) r0 (to_be_bytes w8 b_field.0 ++ to_be_bytes w16 b_slot.0.0) b_slot.0.1 s0 e12 in
    let w : Word = record { content = contents.Argument side b_field.0 b_operand.0; code = b_slot.0.0 } in
    subst (Reads ds marks constants n bytes) (ok_is (w, b_slot.0.1) x b_operand.2) (whole, record { number_read = field-is.1; operand_read = operand-ok; operand_small = t2.1 })

word_takes_by : (version : Version) (p : ℕ) (ds : Declarations) (marks : List Mark) (constants : List Value) (n code : ℕ) (o : Option Side) (bytes r0 : List ℕ) (x : Word × List ℕ) → side_of code ≡ o → Takes bytes (to_be_bytes w8 code) r0 → code < 2 ^ 8
    → word_by version p ds marks constants n code o r0 ≡ Ok x → Reads ds marks constants n bytes x
word_takes_by version p ds marks constants n code None bytes r0 x is t0 lt e = instruction_takes version p ds marks constants n code bytes r0 x t0 lt e
word_takes_by version p ds marks constants n code (Some side) bytes r0 x is t0 lt e = argument_takes version p ds marks constants n code side bytes r0 x t0 is e

pub word_takes : (version : Version) (p : ℕ) (ds : Declarations) (marks : List Mark) (constants : List Value) (n : ℕ) (bytes : List ℕ) (x : Word × List ℕ) → IsBytes bytes → word_at version p ds marks constants n bytes ≡ Ok x
    → Takes bytes (read_word_bytes x.0) x.1 × IsRead ds marks constants n x.0.code x.0.content
unfolding word_at
word_takes version p ds marks constants n bytes x fits e =
    let b_code = bind_ok (number_at w8 bytes) (λ code. word_by version p ds marks constants n code.0 (side_of code.0) code.1) x e in
    let t0 = number_takes w8 (2 ^ 8) wide8 bytes b_code.0.0 b_code.0.1 fits b_code.1 in
    word_takes_by version p ds marks constants n b_code.0.0 (side_of b_code.0.0) bytes b_code.0.1 x refl t0.0 t0.1 b_code.2

instruction_again : (version : Version) (p : ℕ) (ds : Declarations) (marks : List Mark) (constants : List Value) (n code : ℕ) (line : Instr) (rest : List ℕ) → IsInstructionRead ds marks constants n code line → (may_have version (op_version line.op) && may_name version line.operand) ≡ true
    → instruction_at version p ds marks constants n (op_code line.op) (to_be_bytes w8 (modifier_code line.modifier) ++ (to_be_bytes w16 code ++ rest)) ≡ Ok (record { content = contents.Instruction line; code = code }, rest)
unfolding instruction_at
instruction_again version p ds marks constants n code line rest is may =
    let k = is.coded in
    let m = and_yes (may_have version (op_version line.op)) (may_name version line.operand) may in
    let operand = operand_in_again version ds marks constants line.op line.modifier code line.operand k.operand_read m.1 in
    rw (op_in_again version line.op m.0, number_again w8 (2 ^ 8) wide8 (modifier_code line.modifier) (to_be_bytes w16 code ++ rest) k.letters_small, k.letters, number_again w16 (2 ^ 16) wide16 code rest k.operand_small, operand, ← is.label, ← is.bare) refl

argument_again : (version : Version) (p : ℕ) (ds : Declarations) (constants : List Value) (code : ℕ) (side : Side) (number : ℕ) (operand : Operand) (rest : List ℕ) → IsArgumentRead ds constants number operand code → may_name version operand ≡ true
    → argument_at version p ds constants side (to_be_bytes w8 number ++ (to_be_bytes w16 code ++ rest)) ≡ Ok (record { content = contents.Argument side number operand; code = code }, rest)
unfolding argument_at
argument_again version p ds constants code side number operand rest is may =
    let lt = is.number_read in
    let below : ltb number 8 ≡ true = lt-ltb number 8 lt in
    rw (number_again w8 (2 ^ 8) wide8 number (to_be_bytes w16 code ++ rest) (omega arith), below, number_again w16 (2 ^ 16) wide16 code rest is.operand_small, argument_in_again version ds constants code operand is.operand_read may) refl

content_again : (version : Version) (p : ℕ) (ds : Declarations) (marks : List Mark) (constants : List Value) (n code : ℕ) (content : Content) (rest : List ℕ) → IsRead ds marks constants n code content → may_say version content ≡ true
    → word_at version p ds marks constants n (content_bytes code content ++ rest) ≡ Ok (record { content = content; code = code }, rest)
unfolding word_at
content_again version p ds marks constants n code (contents.Instruction line) rest is may =
    let b1 = to_be_bytes w8 (modifier_code line.modifier) in
    let b2 = to_be_bytes w16 code in
    ap (word_at version p ds marks constants n) (regrouped_3 (to_be_bytes w8 (op_code line.op)) b1 b2 rest) ∙ rw (number_again w8 (2 ^ 8) wide8 (op_code line.op) (b1 ++ (b2 ++ rest)) is.coded.op_small, no_side line.op) (instruction_again version p ds marks constants n code line rest is may)
content_again version p ds marks constants n code (contents.Argument side number operand) rest is may =
    let b1 = to_be_bytes w8 number in
    let b2 = to_be_bytes w16 code in
    ap (word_at version p ds marks constants n) (regrouped_3 (to_be_bytes w8 (side_code side)) b1 b2 rest) ∙ rw (number_again w8 (2 ^ 8) wide8 (side_code side) (b1 ++ (b2 ++ rest)) (side_small side), side_again side) (argument_again version p ds constants code side number operand rest is may)

pub word_again : (version : Version) (p : ℕ) (ds : Declarations) (marks : List Mark) (constants : List Value) (n : ℕ) (w : Word) (rest : List ℕ) → IsRead ds marks constants n w.code w.content → may_read version w ≡ true → word_at version p ds marks constants n (read_word_bytes w ++ rest) ≡ Ok (w, rest)
word_again version p ds marks constants n w rest is may = content_again version p ds marks constants n w.code w.content rest is may

-- ---- tables of records

pub record HasItems {X : Type 0} (spell : X → List ℕ) (IsItem : List X → X → Type 0) (n : ℕ) (seen : List X) (bytes : List ℕ) (y : List X × List ℕ) : Type 0 where
  pub new : List X
  pub all : seen ++ new ≡ y.0
  pub count : length new ≡ n
  pub takes : Takes bytes (flat_map spell new) y.1
  pub items : AreItems IsItem seen new

pub items_take : {X : Type 0} (item : List X → List ℕ → Result (X × List ℕ) LoadFault) (spell : X → List ℕ) (IsItem : List X → X → Type 0)
    → ((seen : List X) (bytes : List ℕ) (x : X × List ℕ) → IsBytes bytes → item seen bytes ≡ Ok x → Takes bytes (spell x.0) x.1 × IsItem seen x.0)
    → (n : ℕ) (seen : List X) (bytes : List ℕ) (y : List X × List ℕ) → IsBytes bytes → items_from item n seen bytes ≡ Ok y → HasItems spell IsItem n seen bytes y
unfolding items_from
items_take item spell IsItem each zero seen bytes y fits e =
    subst (HasItems spell IsItem 0 seen bytes) (ok_is (seen, bytes) y e) (record { new = []; all = append-nil seen; count = refl; takes = record { parts = refl; rest_fits = fits }; items = tt })
items_take item spell IsItem each (suc n) seen bytes y fits e =
    let b = bind_ok (item seen bytes) (λ x. items_from item n (seen ++ x.0 ∷ []) x.1) y e in
    let one = each seen bytes b.0 fits b.1 in
    let more = items_take item spell IsItem each n (seen ++ b.0.0 ∷ []) b.0.1 y one.0.rest_fits b.2 in
    let both = Takes-then bytes (spell b.0.0) b.0.1 (flat_map spell more.new) y.1 one.0 more.takes in
    record { new = b.0.0 ∷ more.new; all = sym (append_assoc seen (b.0.0 ∷ []) more.new) ∙ more.all; count = ap suc more.count; takes = rw flat_map-cons both; items = (one.1, more.items) }

pub items_again : {X : Type 0} (item : List X → List ℕ → Result (X × List ℕ) LoadFault) (spell : X → List ℕ) (IsItem : List X → X → Type 0)
    → ((seen : List X) (x : X) (rest : List ℕ) → IsItem seen x → item seen (spell x ++ rest) ≡ Ok (x, rest))
    → (xs seen : List X) (rest : List ℕ) → AreItems IsItem seen xs → items_from item (length xs) seen (flat_map spell xs ++ rest) ≡ Ok (seen ++ xs, rest)
unfolding items_from
items_again item spell IsItem each [] seen rest is = ap (λ (s : List _). Ok (s, rest)) (sym (append-nil seen))
items_again item spell IsItem each (x ∷ xs) seen rest is =
    let regrouped : flat_map spell (x ∷ xs) ++ rest ≡ spell x ++ (flat_map spell xs ++ rest) = ap (λ (b : List ℕ). b ++ rest) (flat_map-cons spell x xs) ∙ append_assoc (spell x) (flat_map spell xs) rest in
    ap (items_from item (suc (length xs)) seen) regrouped ∙ rw (each seen x (flat_map spell xs ++ rest) is.0) (items_again item spell IsItem each xs (seen ++ x ∷ []) rest is.1 ∙ ap (λ (s : List _). Ok (s, rest)) (append_assoc seen (x ∷ []) xs))
