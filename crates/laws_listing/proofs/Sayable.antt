-- What a text of a dialect can say: values, types and operators of the versions whose listings are such texts.
use Rattle.std.proofs.Common.{◌≡◌, ℕ, Bool, true, List, [], ◌∷◌, Option, Some, None, refl, ◌&&◌}
use Rattle.std.specs.List.{list_all, AllByRecursion}
use Rattle.il_model.specs.declared.dialect.Dialect.{Dialect}
use Rattle.il_model.specs.Dialects.{newest}
use Rattle.il_model.specs.declared.dialect.Dialect.TheVariants as dialects
use Rattle.il_model.specs.declared.codes.Version.{Version}
use Rattle.il_model.specs.declared.codes.Version.TheVariants as versions
use Rattle.il_values.specs.declared.value.Value.{Value}
use Rattle.il_model.specs.declared.program.Variable.{Variable}
use Rattle.il_model.specs.declared.program.Instance.{Instance}
use Rattle.il_model.specs.declared.program.Instr.{Instr}
use Rattle.il_model.specs.Program.{Program}
use Rattle.il_model.specs.declared.program.Operand.{Operand}
use Rattle.il_model.specs.Constants.{constants_of, operands_in}
use Rattle.il_model.specs.Image.{type_version, value_version, op_version, location_version, place_version, operand_version, retained_version, name_version, may_have, may_lie, may_retain, may_call, may_label, may_declare, may_instantiate, may_keep, may_name, may_write, version_of}
use Rattle.il_model.specs.Fits.{IsImage}
use Rattle.il_model.specs.declared.program.Loc.{Loc}
use Rattle.il_model.specs.Locations.{is_nameable}
use Rattle.il_model.specs.CodedOperands.{IsCell}
use Rattle.il_model.proofs.LiteralLaws.{IsValue}
use Rattle.il_model.proofs.Versions.{version_may, version_within}
use Rattle.il_model.proofs.Sizes.{IsWithin}
use Rattle.laws_listing.proofs.Fronts.{both_true}

-- the dialect of the listing of a program of a version
abbrev pub dialect_for : Version → Dialect
dialect_for versions.One = dialects.Plain
dialect_for versions.Two = dialects.Plain
dialect_for versions.Three = dialects.Extended

-- a value of its type's range, of a type that the dialect has
pub record IsSayable (dialect : Dialect) (v : Value) : Type 0 where
  pub value : IsValue v
  pub known : may_keep (newest dialect) v ≡ true

-- a location that is there, that an instruction can name, and that the dialect has
abbrev pub IsSayablePlace : Dialect → Loc → Type 0
IsSayablePlace dialect loc = IsCell loc × (is_nameable loc ≡ true) × (may_have (newest dialect) (location_version loc) ≡ true)

-- a program that has an image and is listed in that dialect
pub record IsSayableProgram (dialect : Dialect) (Q : Program) : Type 0 where
  pub image : IsImage Q
  pub variables : AllByRecursion (λ (v : Variable). may_declare (newest dialect) v ≡ true) Q.variables
  pub instances : AllByRecursion (λ (x : Instance). may_instantiate (newest dialect) x ≡ true) Q.instances
  pub constants : AllByRecursion (λ (v : Value). may_keep (newest dialect) v ≡ true) (constants_of Q)
  pub code : AllByRecursion (λ (line : Instr). may_write (newest dialect) line ≡ true) Q.code
  pub within : IsWithin (newest dialect) Q.variables Q.instances Q.code

-- ---- the listing of a program is such a text

more_had : (version needed : Version) → may_have version needed ≡ true → may_have (newest (dialect_for version)) needed ≡ true
more_had versions.One versions.One e = refl
more_had versions.One versions.Two e = absurd cc
more_had versions.One versions.Three e = absurd cc
more_had versions.Two versions.One e = refl
more_had versions.Two versions.Two e = refl
more_had versions.Two versions.Three e = absurd cc
more_had versions.Three needed e = refl

more_declared : (version : Version) (v : Variable) → may_declare version v ≡ true → may_declare (newest (dialect_for version)) v ≡ true
more_declared version v e =
    let n = both_true (may_call version v.name) (may_have version (type_version v.ty) && (may_have version (value_version v.initial) && (may_lie version v.location && may_retain version v.retained))) e in
    let h = both_true (may_have version (type_version v.ty)) (may_have version (value_version v.initial) && (may_lie version v.location && may_retain version v.retained)) n.1 in
    let k = both_true (may_have version (value_version v.initial)) (may_lie version v.location && may_retain version v.retained) h.1 in
    let l = both_true (may_lie version v.location) (may_retain version v.retained) k.1 in
    rw (more_had version (name_version v.name) n.0, more_had version (type_version v.ty) h.0, more_had version (value_version v.initial) k.0, more_had version (place_version v.location) l.0, more_had version (retained_version v.retained) l.1) refl

more_instantiated : (version : Version) (x : Instance) → may_instantiate version x ≡ true → may_instantiate (newest (dialect_for version)) x ≡ true
more_instantiated version x e =
    let h = both_true (may_call version x.name) (may_retain version x.retained) e in
    rw (more_had version (name_version x.name) h.0, more_had version (retained_version x.retained) h.1) refl

more_named : (version : Version) (os : List Operand) → list_all (may_name version) os ≡ true → list_all (may_name (newest (dialect_for version))) os ≡ true
more_named version [] e = refl
more_named version (o ∷ os) e =
    let h = both_true (may_name version o) (list_all (may_name version) os) e in
    rw (more_had version (operand_version o) h.0) (more_named version os h.1)

more_labelled : (version : Version) (label : Option (List ℕ)) → may_label version label ≡ true → may_label (newest (dialect_for version)) label ≡ true
more_labelled version None e = refl
more_labelled version (Some name) e = more_had version (name_version name) e

more_written : (version : Version) (line : Instr) → may_write version line ≡ true → may_write (newest (dialect_for version)) line ≡ true
more_written version line e =
    let l = both_true (may_label version line.label) (may_have version (op_version line.op) && list_all (may_name version) (operands_in line)) e in
    let h = both_true (may_have version (op_version line.op)) (list_all (may_name version) (operands_in line)) l.1 in
    rw (more_labelled version line.label l.0, more_had version (op_version line.op) h.0) (more_named version (operands_in line) h.1)

all_more : {A : Type 0} (p q : A → Bool) → ((x : A) → p x ≡ true → q x ≡ true) → (xs : List A) → list_all p xs ≡ true → AllByRecursion (λ (x : A). q x ≡ true) xs
all_more p q more [] all = tt
all_more p q more (x ∷ xs) all =
    let h = both_true (p x) (list_all p xs) all in
    (more x h.0, all_more p q more xs h.1)

-- the dialect has room for as much
as_within : (version : Version) (vs : List Variable) (xs : List Instance) (code : List Instr) → IsWithin version vs xs code → IsWithin (newest (dialect_for version)) vs xs code
as_within versions.One vs xs code is = record { variables = is.variables; instances = is.instances; code = is.code; words = is.words }
as_within versions.Two vs xs code is = is
as_within versions.Three vs xs code is = is

pub sayable : (Q : Program) → IsImage Q → IsSayableProgram (dialect_for (version_of Q)) Q
sayable Q is =
    let version = version_of Q in
    let may = version_may Q.variables Q.instances (constants_of Q) Q.code in
    let last = newest (dialect_for version) in
    record {
      image = is;
      variables = all_more (may_declare version) (may_declare last) (more_declared version) Q.variables may.0;
      instances = all_more (may_instantiate version) (may_instantiate last) (more_instantiated version) Q.instances may.1;
      constants = all_more (may_keep version) (may_keep last) (λ v. more_had version (value_version v)) (constants_of Q) may.2;
      code = all_more (may_write version) (may_write last) (more_written version) Q.code may.3;
      within = as_within version Q.variables Q.instances Q.code (version_within Q is);
    }
