use Rattle.std.proofs.Common.{◌≡◌, drop, map}
use Rattle.std.specs.Prelude.{filter}
use Rattle.il_model.specs.Kinds.{field_type, is_input}
use Rattle.ctl_model.specs.Suits.{input_types}
use Rattle.ctl_model.specs.Snapshots.{are_types}
use Rattle.ctl_machine.proofs.shape.fit_inputs.Given as goal

abbrev pub invariant-loop-field : goal.invariant-loop-field
invariant-loop-field l = are_types l.rest (map field_type (filter is_input (drop l.field-index l.field-items))) ≡ are_types l.fn.values (input_types l.fn.kind)
