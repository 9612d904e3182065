use Rattle.std.proofs.Common.{◌≡◌, ◌≤◌, ◌++◌, drop, map, length}
use Rattle.std.specs.Prelude.{filter}
use Rattle.il_model.specs.declared.kind.Field.{Field}
use Rattle.il_model.specs.Kinds.{field_type, is_input}
use Rattle.il_values.specs.Values.{zero_of}
use Rattle.ctl_model.specs.State.{cold_inputs}
use Rattle.ctl_machine.proofs.instance.cold_inputs.Given as goal

abbrev pub invariant-loop-field : goal.invariant-loop-field
invariant-loop-field l = record { done : l.inputs.items ++ map (λ (f : Field). zero_of (field_type f)) (filter is_input (drop l.field-index l.field-items)) ≡ cold_inputs l.fn.kind; few : length l.inputs.items ≤ l.field-index }
