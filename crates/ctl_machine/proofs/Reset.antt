-- The state after a reset is the cold one.
use Rattle.std.proofs.Common.{◌≡◌, List, [], map, None, refl}
use Rattle.il_values.specs.declared.value.Value.{Value}
use Rattle.il_model.specs.declared.cells.Cells.{Cells}
use Rattle.il_model.specs.declared.program.Area.{Area}
use Rattle.il_model.specs.declared.program.Variable.{Variable}
use Rattle.il_model.specs.declared.program.Instance.{Instance}
use Rattle.il_model.specs.Program.{Program}
use Rattle.ctl_model.specs.State.{State, BlockInstance, first_cells, cold_instance, cold}

pub is_cold : (Q : Program) (vs : List Variable) (ds : List Instance) (own : List Value) (xs : List BlockInstance) (input output memory : Cells)
    → vs ≡ Q.variables → ds ≡ Q.instances → own ≡ map (λ (v : Variable). v.initial) vs → xs ≡ map cold_instance ds → input ≡ first_cells Area.Input vs → output ≡ first_cells Area.Output vs → memory ≡ first_cells Area.Memory vs
    → (let s : State = record { own = own; instances = xs; input = input; output = output; memory = memory; cr = None; kept = []; position = 0 } in s) ≡ cold Q
is_cold Q vs ds own xs input output memory a b c d e f g = rw (c, d, e, f, g, a, b) refl
