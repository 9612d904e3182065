-- An operand that names a declared variable, or a field of an instance, stands under its code; an instance under its number.
use Rattle.std.proofs.Common.{◌≡◌, ℕ, ◌+◌, ◌*◌, ◌<◌, ◌≤◌, Bool, true, List, [], ◌∷◌, length, get_or, Option, Some, None, refl, sym, ap, ◌∙◌, arith}
use Rattle.std.specs.Prelude.{slice_get}
use Rattle.std.specs.List.{position}
use Rattle.std.specs.Option.{option_map, option_and_then}
use Rattle.std.proofs.lemmas.Option.{slice_get-get_or}
use Rattle.std.proofs.lemmas.List.Quantifiers.{position-Some}
use Rattle.std.proofs.lemmas.Slice.Eq.{bytes_eq-Decides}
use Rattle.il_model.specs.declared.kind.BlockKind.{BlockKind}
use Rattle.il_model.specs.declared.kind.BlockKind.TheVariants as kinds
use Rattle.il_model.specs.declared.kind.Field.{Field}
use Rattle.il_model.specs.declared.program.Variable.{Variable}
use Rattle.il_model.specs.declared.program.Instance.{Instance}
use Rattle.il_model.specs.declared.program.Place.{Place}
use Rattle.il_model.specs.declared.program.Place.TheVariants as places
use Rattle.il_model.specs.declared.program.Operand.{Operand}
use Rattle.il_model.specs.declared.program.Operand.TheVariants as operands
use Rattle.il_values.specs.declared.value.Value.{Value}
use Rattle.il_model.specs.declared.coded_operand.CodedOperand.{CodedOperand}
use Rattle.il_model.specs.declared.coded_operand.CodedOperand.TheVariants as coded
use Rattle.il_model.specs.Words.{same_name}
use Rattle.il_model.specs.Kinds.{kind_fields, field_name, field_number}
use Rattle.il_model.specs.Program.{Declarations}
use Rattle.il_model.specs.Resolved.{instance_in, numbered_field, field_in}
use Rattle.il_model.specs.CodedOperands.{HasOwnCode}
use Rattle.il_model.specs.Image.{numbered, coded_operand}
use Rattle.il_model.specs.Codes.{variable_named, instance_named, named_operand}

found_at : {X : Type 0} (p : X → Bool) (xs : List X) (i : ℕ) → position p xs ≡ Some i → (x : X) × (slice_get xs i ≡ Some x) × (p x ≡ true) × (i < length xs)
found_at p [] i e = absurd cc
found_at p (x ∷ xs) i e = let r = position-Some p (x ∷ xs) i x e in (get_or (x ∷ xs) i x, slice_get-get_or (x ∷ xs) i x r.0, r.1, r.0)

same_is : (a b : List ℕ) → same_name a b ≡ true → a ≡ b
same_is a b e = (bytes_eq-Decides a b).0 e

-- an operand that stands under a code of its own
pub record StandsAt (ds : Declarations) (constants : List Value) (o : Operand) (x : CodedOperand) : Type 0 where
  pub coded : coded_operand ds constants o ≡ x
  pub own : HasOwnCode x
  pub named : named_operand ds constants x ≡ Some o

-- ---- variables

pub variable_stands : (ds : Declarations) (constants : List Value) (name : List ℕ) (i : ℕ) → length ds.variables ≤ 4096 → position (λ (v : Variable). same_name v.name name) ds.variables ≡ Some i
    → StandsAt ds constants (operands.Variable name) (coded.Variable i)
variable_stands ds constants name i few e =
    let f = found_at (λ (v : Variable). same_name v.name name) ds.variables i e in
    let lt = f.3 in
    record {
      coded = ap (numbered coded.Variable) e;
      own = omega arith;
      named = ap variable_named f.1 ∙ ap (λ (n : List ℕ). Some (operands.Variable n)) (same_is f.0.name name f.2);
    }

-- ---- instances

-- its number stands for it behind CAL
pub instance_again : (ds : Declarations) (name : List ℕ) (i : ℕ) → instance_in ds.instances name ≡ Some i → instance_named (slice_get ds.instances i) ≡ Some (operands.Instance name)
instance_again ds name i e =
    let f = found_at (λ (x : Instance). same_name x.name name) ds.instances i e in
    ap instance_named f.1 ∙ ap (λ (n : List ℕ). Some (operands.Instance n)) (same_is f.0.name name f.2)

-- ---- fields

-- no kind has more than eight
pub fields_few : (k : BlockKind) → length (kind_fields k) ≤ 8
fields_few kinds.Sr = omega arith
fields_few kinds.Rs = omega arith
fields_few kinds.RTrig = omega arith
fields_few kinds.FTrig = omega arith
fields_few kinds.Ctu = omega arith
fields_few kinds.Ctd = omega arith
fields_few kinds.Ctud = omega arith
fields_few kinds.Tp = omega arith
fields_few kinds.Ton = omega arith
fields_few kinds.Tof = omega arith

-- a field that a kind has under that name
pub record IsFieldOf (kind : BlockKind) (name : List ℕ) (n : ℕ) : Type 0 where
  pub field : Field
  pub there : slice_get (kind_fields kind) n ≡ Some field
  pub named : field_name field ≡ name
  pub small : n < 8

pub field_so : (kind : BlockKind) (name : List ℕ) (n : ℕ) → field_number kind name ≡ Some n → IsFieldOf kind name n
field_so kind name n e =
    let f = found_at (λ (field : Field). same_name (field_name field) name) (kind_fields kind) n e in
    let lt = f.3 in
    record { field = f.0; there = f.1; named = same_is (field_name f.0) name f.2; small = omega (arith, fields_few kind) }

and_then_some : {A B : Type 0} (o : Option A) (f : A → Option B) (y : B) → option_and_then f o ≡ Some y → (x : A) × (o ≡ Some x) × (f x ≡ Some y)
and_then_some None f y e = absurd cc
and_then_some (Some x) f y e = (x, refl, e)

pub map_some : {A B : Type 0} (o : Option A) (f : A → B) (y : B) → option_map f o ≡ Some y → (x : A) × (o ≡ Some x)
map_some None f y e = absurd cc
map_some (Some x) f y e = (x, refl)

field_joins : (ds : Declarations) (constants : List Value) (name field : List ℕ) (i n : ℕ) (x : Instance) → length ds.instances ≤ 1024
    → instance_in ds.instances name ≡ Some i → slice_get ds.instances i ≡ Some x → field_number x.kind field ≡ Some n → StandsAt ds constants (operands.Field name field) (coded.Field i n)
field_joins ds constants name field i n x few called there numbered =
    let f = found_at (λ (x : Instance). same_name x.name name) ds.instances i called in
    let lt = f.3 in
    let same : f.0 ≡ x = (let h = sym f.1 ∙ there in cc) in
    let named : x.name ≡ name = sym (ap (λ (y : Instance). y.name) same) ∙ same_is f.0.name name f.2 in
    let g = field_so x.kind field n numbered in
    let small : 20480 + 8 * i < 32768 = omega arith in
    record {
      coded = rw (called, there, numbered) refl;
      own = (small, g.small);
      named = rw (there, g.there) (ap (λ (k : List ℕ). Some (operands.Field k (field_name g.field))) named ∙ ap (λ (k : List ℕ). Some (operands.Field name k)) g.named);
    }

-- a field that is there
pub record IsFieldAt (ds : Declarations) (constants : List Value) (name field : List ℕ) : Type 0 where
  pub instance : ℕ
  pub number : ℕ
  pub stands : StandsAt ds constants (operands.Field name field) (coded.Field instance number)

pub field_stands : (ds : Declarations) (constants : List Value) (name field : List ℕ) (place : Place) → length ds.instances ≤ 1024 → field_in ds.instances name field ≡ Some place → IsFieldAt ds constants name field
field_stands ds constants name field place few e =
    let called = and_then_some (instance_in ds.instances name) (λ i. option_and_then (numbered_field i field) (slice_get ds.instances i)) place e in
    let there = and_then_some (slice_get ds.instances called.0) (numbered_field called.0 field) place called.2 in
    let numbered = map_some (field_number there.0.kind field) (places.Field called.0) place there.2 in
    record { instance = called.0; number = numbered.0; stands = field_joins ds constants name field called.0 numbered.0 there.0 few called.1 there.1 numbered.1 }
