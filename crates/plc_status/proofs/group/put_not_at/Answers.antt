use Rattle.std.proofs.Common.{◌++◌, codes}
use Rattle.plc_status.specs.Notices.{address_text, machine_line}
use Rattle.plc_status.proofs.Lines.{then}
use Rattle.plc_status.proofs.group.put_not_at.Goals as goal

pub returns : goal.returns
returns g c =
    then {a = machine_line c.args.number (codes " isn't at ")} {b = address_text c.args.address ++ codes "\n"}
    c.in_ok-put_machine.ensures (then {a = address_text c.args.address} c.in_ok-put_address.ensures c.put.ensures)
