-- A warm start leaves a state that suits the program; where nothing is retained it is a cold one.
use Rattle.std.proofs.Common.{◌≡◌, zero, suc, Bool, true, false, cond, List, [], ◌∷◌, ◌++◌, map, Some, refl, sym, ap, ◌∙◌}
use Rattle.std.specs.List.{AllByRecursion}
use Rattle.il_values.specs.declared.value.Ty.{Ty}
use Rattle.il_values.specs.declared.value.Value.{Value}
use Rattle.il_model.specs.declared.program.Area.{Area}
use Rattle.il_model.specs.declared.program.Variable.{Variable}
use Rattle.il_model.specs.declared.program.Instance.{Instance}
use Rattle.il_model.specs.declared.cells.Cells.{Cells}
use Rattle.il_model.specs.Program.{Program}
use Rattle.il_values.specs.Values.{ty_of}
use Rattle.il_model.specs.Fits.{IsVariable, AreItems, IsProgram}
use Rattle.ctl_model.specs.State.{State, BlockInstance, cold_instance, cold}
use Rattle.ctl_model.specs.Suits.{KeepFirsts, HasValues, Suits, IsInstanceOf, AreInstances}
use Rattle.ctl_model.specs.Warm.{warm_values, warm_instances, warm_first, warm, RetainsNothing}
use Rattle.ctl_model.proofs.ColdSuits.{variable_ty, first_cells_are, at_start}
use Rattle.ctl_model.proofs.Instances.{cold_is}
use Rattle.ctl_model.proofs.OwnValues.{both_same, head_same, tail_same, some_same}

-- ---- it suits

picked_ty : (b : Bool) (v w : Value) (t : Ty) → ty_of v ≡ t → ty_of w ≡ t → ty_of (cond b v w) ≡ t
picked_ty true v w t e f = e
picked_ty false v w t e f = f

values_typed : (seen vs : List Variable) (own : List Value) → AreItems IsVariable seen vs → map ty_of own ≡ map (λ (v : Variable). v.ty) vs → map ty_of (warm_values vs own) ≡ map (λ (v : Variable). v.ty) vs
values_typed seen [] own are e = refl
values_typed seen (v ∷ vs) [] are e = absurd cc
values_typed seen (v ∷ vs) (z ∷ zs) are e =
    both_same _ _ _ _ (picked_ty v.retained z v.initial v.ty (head_same _ _ _ _ e) (variable_ty seen v are.0)) (values_typed (seen ++ v ∷ []) vs zs are.1 (tail_same _ _ _ _ e))

picked_first : (b : Bool) (z first : Value) → z ≡ first → cond b z first ≡ first
picked_first true z first e = e
picked_first false z first e = refl

values_firsts : (vs : List Variable) (own : List Value) → KeepFirsts vs own → KeepFirsts vs (warm_values vs own)
values_firsts [] own keep i w at none = absurd cc
values_firsts (v ∷ vs) [] keep i w at none = keep i w at none
values_firsts (v ∷ vs) (z ∷ zs) keep zero w at none =
    let same : v ≡ w = some_same v w at in
    let first : z ≡ v.initial = some_same z v.initial (keep zero w at none ∙ ap (λ (x : Variable). Some x.initial) (sym same)) in
    ap (λ (x : Value). Some x) (picked_first v.retained z v.initial first) ∙ ap (λ (x : Variable). Some x.initial) same
values_firsts (v ∷ vs) (z ∷ zs) keep (suc i) w at none = values_firsts vs zs (λ j u there own. keep (suc j) u there own) i w at none

picked_instance : (b : Bool) (x : Instance) (state : BlockInstance) → IsInstanceOf x.kind state → IsInstanceOf x.kind (cond b state (cold_instance x))
picked_instance true x state is = is
picked_instance false x state is = cold_is x

instances_are : (xs : List Instance) (states : List BlockInstance) → AreInstances xs states → AreInstances xs (warm_instances xs states)
instances_are [] [] are = are
instances_are [] (s ∷ ss) are = absurd are
instances_are (x ∷ xs) [] are = absurd are
instances_are (x ∷ xs) (s ∷ ss) are = (picked_instance x.retained x s are.0, instances_are xs ss are.1)

pub warm_suits : (Q : Program) (s : State) → IsProgram Q → HasValues Q s → Suits Q (warm Q s)
warm_suits Q s is vals =
    at_start Q (warm Q s) (record {
      own = values_typed [] Q.variables s.own is.variables vals.own;
      firsts = values_firsts Q.variables s.own vals.firsts;
      instances = instances_are Q.instances s.instances vals.instances;
      input = first_cells_are Area.Input (map (λ (v : Variable). record v { initial = warm_first s.input v }) Q.variables);
      output = first_cells_are Area.Output (map (λ (v : Variable). record v { initial = warm_first s.output v }) Q.variables);
      memory = first_cells_are Area.Memory (map (λ (v : Variable). record v { initial = warm_first s.memory v }) Q.variables);
    }) refl refl refl

-- ---- nothing is retained

values_cold : (vs : List Variable) (own : List Value) → map ty_of own ≡ map (λ (v : Variable). v.ty) vs → AllByRecursion (λ (v : Variable). v.retained ≡ false) vs → warm_values vs own ≡ map (λ (v : Variable). v.initial) vs
values_cold [] own e none = refl
values_cold (v ∷ vs) [] e none = absurd cc
values_cold (v ∷ vs) (z ∷ zs) e none = rw (none.0, values_cold vs zs (tail_same _ _ _ _ e) none.1) refl

instances_cold : (xs : List Instance) (states : List BlockInstance) → AreInstances xs states → AllByRecursion (λ (x : Instance). x.retained ≡ false) xs → warm_instances xs states ≡ map cold_instance xs
instances_cold [] [] are none = refl
instances_cold [] (s ∷ ss) are none = absurd are
instances_cold (x ∷ xs) [] are none = absurd are
instances_cold (x ∷ xs) (s ∷ ss) are none = rw (none.0, instances_cold xs ss are.1 none.1) refl

first_cold : (c : Cells) (v : Variable) → v.retained ≡ false → warm_first c v ≡ v.initial
first_cold c v none = rw none refl

firsts_cold : (c : Cells) (vs : List Variable) → AllByRecursion (λ (v : Variable). v.retained ≡ false) vs → map (λ (v : Variable). record v { initial = warm_first c v }) vs ≡ vs
firsts_cold c [] none = refl
firsts_cold c (v ∷ vs) none = rw (first_cold c v none.0, firsts_cold c vs none.1) refl

pub warm_cold : (Q : Program) (s : State) → RetainsNothing Q → HasValues Q s → warm Q s ≡ cold Q
warm_cold Q s none vals = rw (
  values_cold Q.variables s.own vals.own none.variables,
  instances_cold Q.instances s.instances vals.instances none.instances,
  firsts_cold s.input Q.variables none.variables,
  firsts_cold s.output Q.variables none.variables,
  firsts_cold s.memory Q.variables none.variables,
) refl
