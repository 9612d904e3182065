-- A variable with a location keeps its first value: no operand names its own place.
use Rattle.std.proofs.Common.{◌≡◌, ℕ, zero, suc, true, false, List, [], ◌∷◌, Option, Some, None, refl, sym, ap, subst, ◌∙◌, map}
use Rattle.std.specs.Prelude.{slice_get, slice_set, is_none}
use Rattle.std.specs.Option.{option_map, option_and_then}
use Rattle.std.proofs.lemmas.Option.{slice_get-map}
use Rattle.il_values.specs.declared.value.Value.{Value}
use Rattle.il_model.specs.declared.program.Variable.{Variable}
use Rattle.il_model.specs.declared.program.Instance.{Instance}
use Rattle.il_model.specs.declared.program.Loc.{Loc}
use Rattle.il_model.specs.declared.program.Place.{Place}
use Rattle.il_model.specs.declared.program.Place.TheVariants.{Own, At, Field}
use Rattle.il_model.specs.declared.program.Operand.{Operand}
use Rattle.il_model.specs.declared.program.Operand.TheVariants as operands
use Rattle.il_model.specs.declared.fetched.Source.{Source}
use Rattle.il_model.specs.declared.fetched.Source.TheVariants as sources
use Rattle.il_model.specs.Program.{Program}
use Rattle.il_model.specs.Kinds.{field_number}
use Rattle.il_model.specs.Resolved.{variable_place, place_of, variable_number, instance_in, instance_number, numbered_field, field_of, target_of, source_of}
use Rattle.ctl_model.specs.State.{has_own}
use Rattle.ctl_model.specs.Suits.{KeepFirsts}

-- ---- places that operands name

-- a variable's own place is named only where the variable has one
abbrev pub IsNamed : Program → Place → Type 0
IsNamed Q (Own i) = (v : Variable) → slice_get Q.variables i ≡ Some v → has_own v ≡ true
IsNamed Q (At loc) = Unit {0}
IsNamed Q (Field i n) = Unit {0}

abbrev pub IsNamedSource : Program → Source → Type 0
IsNamedSource Q (sources.Of p) = IsNamed Q p
IsNamedSource Q src = Unit {0}

placed_by : (Q : Program) (i : ℕ) (v : Variable) (o : Option Loc) → slice_get Q.variables i ≡ Some v → v.location ≡ o → IsNamed Q (elim o [ Some loc ↦ At loc | None ↦ Own i ])
placed_by Q i v (Some loc) there is = tt
placed_by Q i v None there is = λ w at. let same : v ≡ w = cc in ap is_none (sym (ap (λ (x : Variable). x.location) same) ∙ is)

-- what an operand may be: no place, or one that is named
abbrev IsOf : Program → Option Place → Type 0
IsOf Q None = Unit {0}
IsOf Q (Some p) = IsNamed Q p

variable_named : (Q : Program) (i : ℕ) (o : Option Variable) → slice_get Q.variables i ≡ o → IsOf Q (option_map (variable_place i) o)
variable_named Q i None at = tt
variable_named Q i (Some v) at = placed_by Q i v v.location at refl

numbered_named : (Q : Program) (o : Option ℕ) → IsOf Q (option_and_then (λ i. option_map (variable_place i) (slice_get Q.variables i)) o)
numbered_named Q None = tt
numbered_named Q (Some i) = variable_named Q i (slice_get Q.variables i) refl

field_named : (Q : Program) (i : ℕ) (o : Option ℕ) → IsOf Q (option_map (Field i) o)
field_named Q i None = tt
field_named Q i (Some n) = tt

instance_named : (Q : Program) (i : ℕ) (field : List ℕ) (o : Option Instance) → IsOf Q (option_and_then (numbered_field i field) o)
instance_named Q i field None = tt
instance_named Q i field (Some x) = field_named Q i (field_number x.kind field)

found_named : (Q : Program) (field : List ℕ) (o : Option ℕ) → IsOf Q (option_and_then (λ i. option_and_then (numbered_field i field) (slice_get Q.instances i)) o)
found_named Q field None = tt
found_named Q field (Some i) = instance_named Q i field (slice_get Q.instances i)

of_named : (Q : Program) (o : Option Place) (src : Source) → IsOf Q o → option_map sources.Of o ≡ Some src → IsNamedSource Q src
of_named Q None src h e = absurd cc
of_named Q (Some p) src h e = let is : sources.Of p ≡ src = cc in subst (IsNamedSource Q) is h

target_named : (Q : Program) (o : Option ℕ) (src : Source) → option_map sources.Target o ≡ Some src → IsNamedSource Q src
target_named Q None src e = absurd cc
target_named Q (Some n) src e = let is : sources.Target n ≡ src = cc in subst (IsNamedSource Q) is tt

called_named : (Q : Program) (o : Option ℕ) (src : Source) → option_map sources.Instance o ≡ Some src → IsNamedSource Q src
called_named Q None src e = absurd cc
called_named Q (Some n) src e = let is : sources.Instance n ≡ src = cc in subst (IsNamedSource Q) is tt

some_named : (Q : Program) (x src : Source) → IsNamedSource Q x → Some x ≡ Some src → IsNamedSource Q src
some_named Q x src h e = let is : x ≡ src = cc in subst (IsNamedSource Q) is h

-- an operand names a variable's own place only where the variable has one
pub source_named : (Q : Program) (operand : Operand) (src : Source) → source_of Q operand ≡ Some src → IsNamedSource Q src
source_named Q operands.Absent src e = some_named Q sources.Absent src tt e
source_named Q (operands.Literal v) src e = some_named Q (sources.Constant v) src tt e
source_named Q (operands.Bare z) src e = absurd cc
source_named Q (operands.Variable name) src e = of_named Q (place_of Q name) src (numbered_named Q (variable_number Q name)) e
source_named Q (operands.Direct loc) src e = some_named Q (sources.Of (At loc)) src tt e
source_named Q (operands.Label name) src e = target_named Q (target_of Q name) src e
source_named Q (operands.Field name field) src e = of_named Q (field_of Q name field) src (found_named Q field (instance_in Q.instances name)) e
source_named Q (operands.Instance name) src e = called_named Q (instance_number Q name) src e

-- ---- first values

pub get_other : {X : Type 0} (xs : List X) (i j : ℕ) (x : X) → (j ≡ i → ⊥) → slice_get (slice_set xs i x) j ≡ slice_get xs j
get_other [] i j x other = refl
get_other (y ∷ xs) zero zero x other = absurd (other refl)
get_other (y ∷ xs) zero (suc j) x other = refl
get_other (y ∷ xs) (suc i) zero x other = refl
get_other (y ∷ xs) (suc i) (suc j) x other = get_other xs i j x (λ e. other (ap suc e))

not_both : (v : Variable) → has_own v ≡ true → has_own v ≡ false → ⊥
not_both v a b = cc

-- a value written to a variable's own place
pub firsts_kept : (Q : Program) (own : List Value) (i : ℕ) (x : Value) → KeepFirsts Q.variables own → IsNamed Q (Own i) → KeepFirsts Q.variables (slice_set own i x)
firsts_kept Q own i x keep named = λ j v at none. get_other own i j x (λ e. not_both v (named v (subst (λ k. slice_get Q.variables k ≡ Some v) e at)) none) ∙ keep j v at none

-- all variables have their first values
pub firsts_first : (vs : List Variable) → KeepFirsts vs (map (λ (v : Variable). v.initial) vs)
firsts_first vs = λ i v at none. slice_get-map (λ (v : Variable). v.initial) vs i ∙ ap (option_map (λ (v : Variable). v.initial)) at
