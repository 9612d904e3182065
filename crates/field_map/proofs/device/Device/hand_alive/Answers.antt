use Rattle.std.proofs.Common.{ap, sym, ◌∙◌}
use Rattle.std.specs.Prelude.{Option, Some}
use Rattle.modbus_wire.specs.declared.request.Request.{Request}
use Rattle.field_map.specs.declared.places.Places.{Places}
use Rattle.field_map.specs.Asking.{all_cells}
use Rattle.field_map.specs.Rounds.{handed_from}
use Rattle.field_map.proofs.device.Device.hand_alive.Goals as goal

pub returns-clause-is : goal.returns-clause-is
returns-clause-is c =
    ap (λ (r : Request). Some r) c.write_bit.ensures.is
    ∙ sym (ap (λ (o : Option Places). handed_from o (Some (all_cells c.args.answers))) c.in_ok-places.was)
