-- What the operand of a word that was read is, and that its number is found again.
use Rattle.std.proofs.Common.{◌≡◌, ℕ, zero, suc, Bool, true, false, cond, eqb, List, [], ◌∷◌, ◌++◌, length, take, drop, Option, Some, None, refl, sym, ap, subst, ◌∙◌, append_assoc}
use Rattle.std.specs.Prelude.{slice_get, is_some, not, ◌&&◌}
use Rattle.std.specs.List.{position}
use Rattle.std.specs.Option.{option_map, option_and_then}
use Rattle.std.proofs.lemmas.Bool.{eqb-true}
use Rattle.std.proofs.lemmas.List.{append-nil}
use Rattle.std.proofs.lemmas.Slice.Eq.{bytes_eq-Decides}
use Rattle.il_model.specs.declared.codes.Version.TheVariants as versions
use Rattle.il_values.specs.declared.value.Value.{Value}
use Rattle.il_values.specs.declared.op.Op.{Op}
use Rattle.il_values.specs.declared.op.Modifier.{Modifier}
use Rattle.il_model.specs.declared.kind.BlockKind.{BlockKind}
use Rattle.il_model.specs.declared.kind.BlockKind.TheVariants as kinds
use Rattle.il_model.specs.declared.kind.Field.{Field}
use Rattle.il_model.specs.declared.program.Place.{Place}
use Rattle.il_model.specs.declared.program.Place.TheVariants as places
use Rattle.il_model.specs.declared.coded_operand.CodedOperand.{CodedOperand}
use Rattle.il_model.specs.declared.coded_operand.CodedOperand.TheVariants as coded
use Rattle.il_model.specs.declared.program.Variable.{Variable}
use Rattle.il_model.specs.declared.program.Instance.{Instance}
use Rattle.il_model.specs.declared.program.Loc.{Loc}
use Rattle.il_model.specs.declared.program.Operand.{Operand}
use Rattle.il_model.specs.declared.program.Operand.TheVariants as operands
use Rattle.il_model.specs.declared.fetched.Source.{Source}
use Rattle.il_model.specs.declared.fetched.Source.TheVariants as sources
use Rattle.il_model.specs.declared.codes.OperandForm.TheVariants as forms
use Rattle.il_model.specs.Kinds.{kind_fields, field_name, field_number}
use Rattle.il_model.specs.Words.{same_name, is_lawful_name}
use Rattle.il_model.specs.Locations.{is_nameable}
use Rattle.il_model.specs.Program.{Program, Declarations, declared_by}
use Rattle.il_model.specs.Resolved.{instance_in, field_in, target_of, source_of}
use Rattle.il_model.specs.Marks.{Mark, address_of}
use Rattle.il_model.specs.Constants.{same_value}
use Rattle.il_model.specs.Image.{numbered, coded_field, number_or_unused, operand_code}
use Rattle.il_model.specs.CodedOperands.{code_of, with_code}
use Rattle.il_model.specs.Codes.{length_in, is_number, is_new_name, variable_named, instance_named, field_named, usage_of, formed_by, has_form, named_operand, value_operand, label_there, target_name, is_jump, is_call, numbered_operand, word_operand, argument_name, argument_operand}
use Rattle.il_model.specs.Fits.{IsVariable, IsInstance, IsMark, AreItems}
use Rattle.il_model.proofs.CodedOperands.{coded_back}
use Rattle.il_model.proofs.RowTypes.{and_yes}
use Rattle.il_model.proofs.Marks.{AreLabelled, label_in}
use Rattle.il_model.proofs.ConstantLists.{AreApart, same_self}
use Rattle.il_model.proofs.Positions.{position_behind, found_last, not_in_front}
use Rattle.il_loader.proofs.Fields.{tested_some}

-- ---- operands

-- an operand that was read from a code, and what stands under that
pub record IsNamed (ds : Declarations) (cs : List Value) (n : ℕ) (o : Operand) : Type 0 where
  pub under : CodedOperand
  pub code : with_code n ≡ Some under
  pub named : named_operand ds cs under ≡ Some o

named_by : (ds : Declarations) (cs : List Value) (n : ℕ) (o : Operand) (x : Option CodedOperand) → with_code n ≡ x → option_and_then (named_operand ds cs) x ≡ Some o → IsNamed ds cs n o
named_by ds cs n o None code e = absurd cc
named_by ds cs n o (Some x) code e = record { under = x; code = code; named = e }

value_read : (ds : Declarations) (cs : List Value) (n : ℕ) (o : Operand) → value_operand ds cs n ≡ Some o → IsNamed ds cs n o
value_read ds cs n o e = named_by ds cs n o (with_code n) refl e

-- ---- constants

split_at : {X : Type 0} (xs : List X) (k : ℕ) (x : X) → slice_get xs k ≡ Some x → (xs ≡ take k xs ++ x ∷ drop (suc k) xs) × (length (take k xs) ≡ k)
split_at [] k x e = absurd cc
split_at (y ∷ xs) zero x e = let is : y ≡ x = cc in (ap (λ (z : _). z ∷ xs) is, refl)
split_at (y ∷ xs) (suc k) x e = let r = split_at xs k x e in (ap (λ (zs : List _). y ∷ zs) r.0, ap suc r.1)

none_of : (o : Option ℕ) → is_some o ≡ false → o ≡ None
none_of None e = refl
none_of (Some k) e = absurd cc

-- what none of those before passes is found where it stands
first_place : {X : Type 0} (p : X → Bool) (xs : List X) (k : ℕ) (x : X) → slice_get xs k ≡ Some x → p x ≡ true → is_some (position p (take k xs)) ≡ false → position p xs ≡ Some k
first_place p xs k x there passes fresh =
    let s = split_at xs k x there in
    ap (position p) s.0 ∙ position_behind p (take k xs) x (drop (suc k) xs) (none_of (position p (take k xs)) fresh) passes ∙ ap (λ (n : ℕ). Some n) s.1

place_again : (cs : List Value) (k : ℕ) (v : Value) → AreApart same_value cs → slice_get cs k ≡ Some v → position (same_value v) cs ≡ Some k
place_again cs k v apart there = first_place (same_value v) cs k v there (same_self v) (apart.fresh k v there)

-- ---- variables, instances and their fields

and_right : (a b : Bool) → (a && b) ≡ true → b ≡ true
and_right true b e = e
and_right false b e = absurd cc

not_true : (b : Bool) → not b ≡ true → b ≡ false
not_true true e = absurd cc
not_true false e = refl

-- where each item has a name that none before it has, the name of an item finds that item
abbrev named_before : {X : Type 0} → (X → List ℕ) → List X → List ℕ → Bool
named_before name_of seen name = is_some (position (λ y. same_name (name_of y) name) seen)

name_fresh : {X : Type 0} (IsItem : List X → X → Type 0) (name_of : X → List ℕ) → ((seen : List X) (x : X) → IsItem seen x → named_before name_of seen (name_of x) ≡ false)
    → (seen xs : List X) (k : ℕ) (x : X) → AreItems IsItem seen xs → slice_get xs k ≡ Some x → named_before name_of (seen ++ take k xs) (name_of x) ≡ false
name_fresh IsItem name_of new seen [] k x are e = absurd cc
name_fresh IsItem name_of new seen (y ∷ xs) zero x are e =
    let is : y ≡ x = cc in
    ap (λ (ys : List _). named_before name_of ys (name_of x)) (append-nil seen) ∙ ap (λ (z : _). named_before name_of seen (name_of z)) (sym is) ∙ new seen y are.0
name_fresh IsItem name_of new seen (y ∷ xs) (suc k) x are e =
    ap (λ (ys : List _). named_before name_of ys (name_of x)) (sym (append_assoc seen (y ∷ []) (take k xs))) ∙ name_fresh IsItem name_of new (seen ++ y ∷ []) xs k x are.1 e

name_found : {X : Type 0} (IsItem : List X → X → Type 0) (name_of : X → List ℕ) → ((seen : List X) (x : X) → IsItem seen x → named_before name_of seen (name_of x) ≡ false)
    → (xs : List X) (k : ℕ) (x : X) → AreItems IsItem [] xs → slice_get xs k ≡ Some x → position (λ y. same_name (name_of y) (name_of x)) xs ≡ Some k
name_found IsItem name_of new xs k x are there =
    first_place (λ y. same_name (name_of y) (name_of x)) xs k x there ((bytes_eq-Decides (name_of x) (name_of x)).1 refl) (name_fresh IsItem name_of new [] xs k x are there)

variable_new : (seen : List Variable) (v : Variable) → IsVariable seen v → named_before (λ (w : Variable). w.name) seen v.name ≡ false
variable_new seen v is = not_true (is_some (is_number seen v.name)) (and_right (is_lawful_name v.name) (not (is_some (is_number seen v.name))) is.name)

variable_place : (vs : List Variable) (k : ℕ) (v : Variable) → AreItems IsVariable [] vs → slice_get vs k ≡ Some v → position (λ (w : Variable). same_name w.name v.name) vs ≡ Some k
variable_place vs k v are there = name_found IsVariable (λ (w : Variable). w.name) variable_new vs k v are there

instance_new : (vs : List Variable) (seen : List Instance) (x : Instance) → IsInstance vs seen x → named_before (λ (y : Instance). y.name) seen x.name ≡ false
instance_new vs seen x is =
    let other = and_yes (is_new_name vs x.name && not (is_some (instance_in seen x.name))) _ is.name in
    not_true (is_some (instance_in seen x.name)) (and_right (is_new_name vs x.name) (not (is_some (instance_in seen x.name))) other.0)

instance_place : (vs : List Variable) (xs : List Instance) (k : ℕ) (x : Instance) → AreItems (IsInstance vs) [] xs → slice_get xs k ≡ Some x → instance_in xs x.name ≡ Some k
instance_place vs xs k x are there = name_found (IsInstance vs) (λ (y : Instance). y.name) (instance_new vs) xs k x are there

-- a field that a kind has is numbered by its name
pub numbered_again : (kind : BlockKind) (n : ℕ) → field_number kind (argument_name (Some kind) n) ≡ option_map (λ (f : Field). n) (slice_get (kind_fields kind) n)
numbered_again kinds.Sr zero = refl
numbered_again kinds.Sr (suc zero) = refl
numbered_again kinds.Sr (suc (suc zero)) = refl
numbered_again kinds.Sr (suc (suc (suc n))) = refl
numbered_again kinds.Rs zero = refl
numbered_again kinds.Rs (suc zero) = refl
numbered_again kinds.Rs (suc (suc zero)) = refl
numbered_again kinds.Rs (suc (suc (suc n))) = refl
numbered_again kinds.RTrig zero = refl
numbered_again kinds.RTrig (suc zero) = refl
numbered_again kinds.RTrig (suc (suc n)) = refl
numbered_again kinds.FTrig zero = refl
numbered_again kinds.FTrig (suc zero) = refl
numbered_again kinds.FTrig (suc (suc n)) = refl
numbered_again kinds.Ctu zero = refl
numbered_again kinds.Ctu (suc zero) = refl
numbered_again kinds.Ctu (suc (suc zero)) = refl
numbered_again kinds.Ctu (suc (suc (suc zero))) = refl
numbered_again kinds.Ctu (suc (suc (suc (suc zero)))) = refl
numbered_again kinds.Ctu (suc (suc (suc (suc (suc n))))) = refl
numbered_again kinds.Ctd zero = refl
numbered_again kinds.Ctd (suc zero) = refl
numbered_again kinds.Ctd (suc (suc zero)) = refl
numbered_again kinds.Ctd (suc (suc (suc zero))) = refl
numbered_again kinds.Ctd (suc (suc (suc (suc zero)))) = refl
numbered_again kinds.Ctd (suc (suc (suc (suc (suc n))))) = refl
numbered_again kinds.Ctud zero = refl
numbered_again kinds.Ctud (suc zero) = refl
numbered_again kinds.Ctud (suc (suc zero)) = refl
numbered_again kinds.Ctud (suc (suc (suc zero))) = refl
numbered_again kinds.Ctud (suc (suc (suc (suc zero)))) = refl
numbered_again kinds.Ctud (suc (suc (suc (suc (suc zero))))) = refl
numbered_again kinds.Ctud (suc (suc (suc (suc (suc (suc zero)))))) = refl
numbered_again kinds.Ctud (suc (suc (suc (suc (suc (suc (suc zero))))))) = refl
numbered_again kinds.Ctud (suc (suc (suc (suc (suc (suc (suc (suc n)))))))) = refl
numbered_again kinds.Tp zero = refl
numbered_again kinds.Tp (suc zero) = refl
numbered_again kinds.Tp (suc (suc zero)) = refl
numbered_again kinds.Tp (suc (suc (suc zero))) = refl
numbered_again kinds.Tp (suc (suc (suc (suc n)))) = refl
numbered_again kinds.Ton zero = refl
numbered_again kinds.Ton (suc zero) = refl
numbered_again kinds.Ton (suc (suc zero)) = refl
numbered_again kinds.Ton (suc (suc (suc zero))) = refl
numbered_again kinds.Ton (suc (suc (suc (suc n)))) = refl
numbered_again kinds.Tof zero = refl
numbered_again kinds.Tof (suc zero) = refl
numbered_again kinds.Tof (suc (suc zero)) = refl
numbered_again kinds.Tof (suc (suc (suc zero))) = refl
numbered_again kinds.Tof (suc (suc (suc (suc n)))) = refl

field_numbered : (kind : BlockKind) (n : ℕ) (f : Field) → slice_get (kind_fields kind) n ≡ Some f → field_number kind (field_name f) ≡ Some n
field_numbered kind n f has =
    let named : argument_name (Some kind) n ≡ field_name f = ap (λ (o : Option Field). elim o [ Some field ↦ field_name field | None ↦ [] ]) has in
    ap (field_number kind) (sym named) ∙ numbered_again kind n ∙ ap (option_map (λ (f : Field). n)) has

field_place : (vs : List Variable) (xs : List Instance) (i n : ℕ) (x : Instance) (f : Field) → AreItems (IsInstance vs) [] xs → slice_get xs i ≡ Some x → slice_get (kind_fields x.kind) n ≡ Some f
    → field_in xs x.name (field_name f) ≡ Some (places.Field i n)
field_place vs xs i n x f are there has = rw (instance_place vs xs i x are there, there, field_numbered x.kind n f has) refl

-- ---- labels

abbrev known : List Mark → List ℕ → Bool
known seen name = is_some (position (λ (m : Mark). same_name m.name name) seen)

mark_new : (seen : List Mark) (m : Mark) → IsMark seen m → known seen m.name ≡ false
mark_new seen m is = not_true (known seen m.name) (and_right (is_lawful_name m.name) (not (known seen m.name)) is.name)

label_new_by : (b : Bool) (seen : List Mark) (m : Mark) (ms : List Mark) (k : ℕ) (x : List ℕ) → eqb m.at k ≡ b → IsMark seen m → cond b (Some m.name) (label_there ms k) ≡ Some x → (label_there ms k ≡ Some x → known (seen ++ m ∷ []) x ≡ false) → known seen x ≡ false
label_new_by true seen m ms k x h is e ih = let here : m.name ≡ x = cc in ap (known seen) (sym here) ∙ mark_new seen m is
label_new_by false seen m ms k x h is e ih = not_in_front (λ (m : Mark). same_name m.name x) seen (m ∷ []) (ih e)

label_new : (seen ms : List Mark) (k : ℕ) (x : List ℕ) → AreItems IsMark seen ms → label_there ms k ≡ Some x → known seen x ≡ false
label_new seen [] k x are e = absurd cc
label_new seen (m ∷ ms) k x are e = label_new_by (eqb m.at k) seen m ms k x refl are.0 e (λ h. label_new (seen ++ m ∷ []) ms k x are.1 h)

long_by : (b : Bool) (seen : List Mark) (m : Mark) (o : Option (List ℕ)) (x : List ℕ) → IsMark seen m → cond b (Some m.name) o ≡ Some x → (o ≡ Some x → length_in versions.Three (length x) ≡ Some (length x)) → length_in versions.Three (length x) ≡ Some (length x)
long_by true seen m o x is e ih = let here : m.name ≡ x = cc in subst (λ (y : List ℕ). length_in versions.Three (length y) ≡ Some (length y)) here is.length
long_by false seen m o x is e ih = ih e

label_long : (seen ms : List Mark) (k : ℕ) (x : List ℕ) → AreItems IsMark seen ms → label_there ms k ≡ Some x → length_in versions.Three (length x) ≡ Some (length x)
label_long seen [] k x are e = absurd cc
label_long seen (m ∷ ms) k x are e = long_by (eqb m.at k) seen m (label_there ms k) x are.0 e (λ h. label_long (seen ++ m ∷ []) ms k x are.1 h)

no_two : (seen ms : List Mark) (m : Mark) (k : ℕ) (x : List ℕ) → m.name ≡ x → AreItems IsMark (seen ++ m ∷ []) ms → label_there ms k ≡ Some x → ⊥
no_two seen ms m k x here are e =
    let new : known (seen ++ m ∷ []) x ≡ false = label_new (seen ++ m ∷ []) ms k x are e in
    let old : known (seen ++ m ∷ []) x ≡ true = found_last (λ (m : Mark). same_name m.name x) seen m ((bytes_eq-Decides m.name x).1 here) in
    (let h : true ≡ false = sym old ∙ new in absurd cc)

one_by : (a b : Bool) (seen : List Mark) (m : Mark) (ms : List Mark) (j k : ℕ) (x : List ℕ) → eqb m.at j ≡ a → eqb m.at k ≡ b → AreItems IsMark (seen ++ m ∷ []) ms → cond a (Some m.name) (label_there ms j) ≡ Some x → cond b (Some m.name) (label_there ms k) ≡ Some x
    → (label_there ms j ≡ Some x → label_there ms k ≡ Some x → j ≡ k) → j ≡ k
one_by true true seen m ms j k x g h are d e ih = sym (eqb-true m.at j g) ∙ eqb-true m.at k h
one_by true false seen m ms j k x g h are d e ih = absurd (no_two seen ms m k x (let is : m.name ≡ x = cc in is) are e)
one_by false true seen m ms j k x g h are d e ih = absurd (no_two seen ms m j x (let is : m.name ≡ x = cc in is) are d)
one_by false false seen m ms j k x g h are d e ih = ih d e

-- a name stands at one address
one_place : (seen ms : List Mark) (j k : ℕ) (x : List ℕ) → AreItems IsMark seen ms → label_there ms j ≡ Some x → label_there ms k ≡ Some x → j ≡ k
one_place seen [] j k x are d e = absurd cc
one_place seen (m ∷ ms) j k x are d e = one_by (eqb m.at j) (eqb m.at k) seen m ms j k x refl refl are.1 d e (λ f g. one_place (seen ++ m ∷ []) ms j k x are.1 f g)

-- ---- the number of a word is found again

-- what is known of the tables that words point to
pub record AreKnown (Q : Program) (ms : List Mark) (cs : List Value) : Type 0 where
  pub variables : AreItems IsVariable [] Q.variables
  pub instances : AreItems (IsInstance Q.variables) [] Q.instances
  pub marks : AreItems IsMark [] ms
  pub apart : AreApart same_value cs
  pub labels : AreLabelled ms 0 Q.code

jump_by : (ms : List Mark) (a k : ℕ) (l : Option (List ℕ)) → AreItems IsMark [] ms → label_there ms a ≡ l → label_there ms k ≡ Some (target_name l) → k ≡ a
jump_by ms a k (Some name) are here found = sym (one_place [] ms a k name are here found)
jump_by ms a k None are here found = let long = label_long [] ms k [] are found in absurd cc

no_target : (o : Option ℕ) (src : Source) → option_map sources.Target o ≡ Some src → o ≡ None → ⊥
no_target None src e h = cc
no_target (Some n) src e h = cc

target_by : (Q : Program) (ms : List Mark) (a : ℕ) (src : Source) (t : Option ℕ) → AreItems IsMark [] ms → AreLabelled ms 0 Q.code → option_map sources.Target t ≡ Some src → target_of Q (target_name (label_there ms a)) ≡ t → number_or_unused (option_map (address_of Q.code) t) ≡ a
target_by Q ms a src None are labels there is = absurd (no_target None src there refl)
target_by Q ms a src (Some k) are labels there is = jump_by ms a (address_of Q.code k) (label_there ms a) are refl (label_in Q.code ms (target_name (label_there ms a)) k labels is)

variable_again : (Q : Program) (cs : List Value) (i : ℕ) (v : Option Variable) (o : Operand) → AreItems IsVariable [] Q.variables → slice_get Q.variables i ≡ v → variable_named v ≡ Some o → operand_code Q cs o ≡ code_of (coded.Variable i)
variable_again Q cs i None o are here e = absurd cc
variable_again Q cs i (Some v) o are here e =
    let is : operands.Variable v.name ≡ o = cc in
    ap (operand_code Q cs) (sym is) ∙ ap (λ (k : Option ℕ). code_of (numbered coded.Variable k)) (variable_place Q.variables i v are here)

field_again_by : (Q : Program) (cs : List Value) (i n : ℕ) (x : Instance) (f : Option Field) (o : Operand) → AreItems (IsInstance Q.variables) [] Q.instances → slice_get Q.instances i ≡ Some x → slice_get (kind_fields x.kind) n ≡ f
    → option_map (λ (f : Field). operands.Field x.name (field_name f)) f ≡ Some o → operand_code Q cs o ≡ code_of (coded.Field i n)
field_again_by Q cs i n x None o are here has e = absurd cc
field_again_by Q cs i n x (Some f) o are here has e =
    let is : operands.Field x.name (field_name f) ≡ o = cc in
    ap (operand_code Q cs) (sym is) ∙ ap (λ (p : Option Place). code_of (coded_field p)) (field_place Q.variables Q.instances i n x f are here has)

field_again : (Q : Program) (cs : List Value) (i n : ℕ) (x : Option Instance) (o : Operand) → AreItems (IsInstance Q.variables) [] Q.instances → slice_get Q.instances i ≡ x → field_named x n ≡ Some o → operand_code Q cs o ≡ code_of (coded.Field i n)
field_again Q cs i n None o are here e = absurd cc
field_again Q cs i n (Some x) o are here e = field_again_by Q cs i n x (slice_get (kind_fields x.kind) n) o are here refl e

constant_again : (Q : Program) (cs : List Value) (k : ℕ) (v : Option Value) (o : Operand) → AreApart same_value cs → slice_get cs k ≡ v → option_map operands.Literal v ≡ Some o → operand_code Q cs o ≡ code_of (coded.Constant k)
constant_again Q cs k None o apart here e = absurd cc
constant_again Q cs k (Some v) o apart here e =
    let is : operands.Literal v ≡ o = cc in
    ap (operand_code Q cs) (sym is) ∙ ap (λ (p : Option ℕ). code_of (numbered coded.Constant p)) (place_again cs k v apart here)

location_again : (Q : Program) (cs : List Value) (loc : Loc) (b : Bool) (o : Operand) → cond b (Some (operands.Direct loc)) None ≡ Some o → operand_code Q cs o ≡ code_of (coded.Location loc)
location_again Q cs loc true o e = let is : operands.Direct loc ≡ o = cc in sym (ap (operand_code Q cs) is)
location_again Q cs loc false o e = absurd cc

named_again : (Q : Program) (ms : List Mark) (cs : List Value) (x : CodedOperand) (o : Operand) → AreKnown Q ms cs → named_operand (declared_by Q) cs x ≡ Some o → operand_code Q cs o ≡ code_of x
named_again Q ms cs (coded.Location loc) o known e = location_again Q cs loc (is_nameable loc) o e
named_again Q ms cs (coded.Variable i) o known e = variable_again Q cs i (slice_get Q.variables i) o known.variables refl e
named_again Q ms cs (coded.Field i n) o known e = field_again Q cs i n (slice_get Q.instances i) o known.instances refl e
named_again Q ms cs (coded.Constant k) o known e = constant_again Q cs k (slice_get cs k) o known.apart refl e
named_again Q ms cs coded.Unused o known e = let is : operands.Absent ≡ o = cc in sym (ap (operand_code Q cs) is)

value_again : (Q : Program) (ms : List Mark) (cs : List Value) (n : ℕ) (o : Operand) → AreKnown Q ms cs → value_operand (declared_by Q) cs n ≡ Some o → operand_code Q cs o ≡ n
value_again Q ms cs n o known e =
    let r = value_read (declared_by Q) cs n o e in
    named_again Q ms cs r.under o known r.named ∙ (coded_back n r.under r.code).code

jump_again : (Q : Program) (ms : List Mark) (cs : List Value) (n : ℕ) (o : Operand) (src : Source) → AreKnown Q ms cs → source_of Q o ≡ Some src → operands.Label (target_name (label_there ms n)) ≡ o → operand_code Q cs o ≡ n
jump_again Q ms cs n o src known there is =
    let name = target_name (label_there ms n) in
    ap (operand_code Q cs) (sym is) ∙ target_by Q ms n src (target_of Q name) known.marks known.labels (ap (source_of Q) is ∙ there) refl

called_by : (Q : Program) (ms : List Mark) (cs : List Value) (n : ℕ) (x : Option Instance) (o : Operand) → AreKnown Q ms cs → slice_get Q.instances n ≡ x → instance_named x ≡ Some o → operand_code Q cs o ≡ n
called_by Q ms cs n None o known here e = absurd cc
called_by Q ms cs n (Some x) o known here e =
    let is : operands.Instance x.name ≡ o = cc in
    ap (operand_code Q cs) (sym is) ∙ ap number_or_unused (instance_place Q.variables Q.instances n x known.instances here)

numbered_by : (a b : Bool) (Q : Program) (ms : List Mark) (cs : List Value) (n : ℕ) (o : Operand) (src : Source) → AreKnown Q ms cs → source_of Q o ≡ Some src
    → cond a (Some (operands.Label (target_name (label_there ms n)))) (cond b (instance_named (slice_get Q.instances n)) (value_operand (declared_by Q) cs n)) ≡ Some o → operand_code Q cs o ≡ n
numbered_by true b Q ms cs n o src known there e = jump_again Q ms cs n o src known there (let is : operands.Label (target_name (label_there ms n)) ≡ o = cc in is)
numbered_by false true Q ms cs n o src known there e = called_by Q ms cs n (slice_get Q.instances n) o known refl e
numbered_by false false Q ms cs n o src known there e = value_again Q ms cs n o known e

-- the number of an instruction's operand, where that stands for something
pub code_again : (Q : Program) (ms : List Mark) (cs : List Value) (op : Op) (m : Modifier) (n : ℕ) (o : Operand) (src : Source) → AreKnown Q ms cs → source_of Q o ≡ Some src → word_operand (declared_by Q) ms cs op m n ≡ Some o → operand_code Q cs o ≡ n
code_again Q ms cs op m n o src known there e =
    let t = tested_some (formed_by (usage_of op) m) (numbered_operand (declared_by Q) ms cs op n) o e in
    numbered_by (is_jump op) (is_call op) Q ms cs n o src known there t.0

-- that of an argument's
pub argument_again : (Q : Program) (ms : List Mark) (cs : List Value) (n : ℕ) (o : Operand) → AreKnown Q ms cs → argument_operand (declared_by Q) cs n ≡ Some o → operand_code Q cs o ≡ n
argument_again Q ms cs n o known e =
    let t = tested_some (has_form forms.Value false) (value_operand (declared_by Q) cs n) o e in
    value_again Q ms cs n o known t.0

-- ---- a literal that was read is a constant of the table

-- the code of a constant, and that is the literal
pub record IsConstantAt (cs : List Value) (n : ℕ) (v : Value) : Type 0 where
  pub number : ℕ
  pub code : with_code n ≡ Some (coded.Constant number)
  pub there : slice_get cs number ≡ Some v

no_variable : (x : Option Variable) (v : Value) → variable_named x ≡ Some (operands.Literal v) → ⊥
no_variable None v e = cc
no_variable (Some x) v e = cc

no_field_by : (x : Instance) (f : Option Field) (v : Value) → option_map (λ (f : Field). operands.Field x.name (field_name f)) f ≡ Some (operands.Literal v) → ⊥
no_field_by x None v e = cc
no_field_by x (Some f) v e = cc

no_field : (x : Option Instance) (n : ℕ) (v : Value) → field_named x n ≡ Some (operands.Literal v) → ⊥
no_field None n v e = cc
no_field (Some x) n v e = no_field_by x (slice_get (kind_fields x.kind) n) v e

no_location : (loc : Loc) (b : Bool) (v : Value) → cond b (Some (operands.Direct loc)) None ≡ Some (operands.Literal v) → ⊥
no_location loc true v e = cc
no_location loc false v e = cc

literal_is : (c : Option Value) (v : Value) → option_map operands.Literal c ≡ Some (operands.Literal v) → c ≡ Some v
literal_is None v e = absurd cc
literal_is (Some c) v e = let is : c ≡ v = cc in ap (λ (x : Value). Some x) is

literal_under : (ds : Declarations) (cs : List Value) (n : ℕ) (v : Value) (x : CodedOperand) → with_code n ≡ Some x → named_operand ds cs x ≡ Some (operands.Literal v) → IsConstantAt cs n v
literal_under ds cs n v (coded.Location loc) code e = absurd (no_location loc (is_nameable loc) v e)
literal_under ds cs n v (coded.Variable i) code e = absurd (no_variable (slice_get ds.variables i) v e)
literal_under ds cs n v (coded.Field i k) code e = absurd (no_field (slice_get ds.instances i) k v e)
literal_under ds cs n v (coded.Constant k) code e = record { number = k; code = code; there = literal_is (slice_get cs k) v e }
literal_under ds cs n v coded.Unused code e = absurd cc

literal_in : (ds : Declarations) (cs : List Value) (n : ℕ) (v : Value) → value_operand ds cs n ≡ Some (operands.Literal v) → IsConstantAt cs n v
literal_in ds cs n v e = let r = value_read ds cs n (operands.Literal v) e in literal_under ds cs n v r.under r.code r.named

no_literal : (x : Option Instance) (v : Value) → instance_named x ≡ Some (operands.Literal v) → ⊥
no_literal None v e = cc
no_literal (Some x) v e = cc

literal_numbered : (a b : Bool) (ds : Declarations) (name : List ℕ) (cs : List Value) (n : ℕ) (v : Value) → cond a (Some (operands.Label name)) (cond b (instance_named (slice_get ds.instances n)) (value_operand ds cs n)) ≡ Some (operands.Literal v) → IsConstantAt cs n v
literal_numbered true b ds name cs n v e = absurd cc
literal_numbered false true ds name cs n v e = absurd (no_literal (slice_get ds.instances n) v e)
literal_numbered false false ds name cs n v e = literal_in ds cs n v e

pub literal_read : (ds : Declarations) (ms : List Mark) (cs : List Value) (op : Op) (m : Modifier) (n : ℕ) (v : Value) → word_operand ds ms cs op m n ≡ Some (operands.Literal v) → IsConstantAt cs n v
literal_read ds ms cs op m n v e =
    let t = tested_some (formed_by (usage_of op) m) (numbered_operand ds ms cs op n) (operands.Literal v) e in
    literal_numbered (is_jump op) (is_call op) ds (target_name (label_there ms n)) cs n v t.0

pub literal_passed : (ds : Declarations) (cs : List Value) (n : ℕ) (v : Value) → argument_operand ds cs n ≡ Some (operands.Literal v) → IsConstantAt cs n v
literal_passed ds cs n v e =
    let t = tested_some (has_form forms.Value false) (value_operand ds cs n) (operands.Literal v) e in
    literal_in ds cs n v t.0
