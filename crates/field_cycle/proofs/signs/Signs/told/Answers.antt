use Rattle.std.proofs.Common.{ap, sym, ◌∙◌, Bool}
use Rattle.std.specs.Prelude.{Option, Some}
use Rattle.modbus_wire.specs.declared.request.Request.{Request}
use Rattle.field_map.specs.declared.places.Places.{Places}
use Rattle.field_cycle.specs.Signs.{bit_of}
use Rattle.field_cycle.proofs.signs.Signs.told.Goals as goal

pub returns : goal.returns
returns c =
    ap (λ (r : Request). Some r) c.write_bit.ensures.is
    ∙ sym (ap (λ (o : Option Places). bit_of o c.args.tells) c.in_ok-places.was
    ∙ ap (λ (t : Option Bool). bit_of (Some c.in_ok-places.places) t) c.in_ok-value.was)
