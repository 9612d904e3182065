use Rattle.std.proofs.Common.{codes}
use Rattle.il_text.specs.Telling.{numbered}
use Rattle.plc_status.specs.Notices.{numbered_line}
use Rattle.plc_status.proofs.Lines.{then}
use Rattle.plc_status.proofs.group.put_hearing.Goals as goal

pub returns : goal.returns
returns g c =
    then {a = numbered (codes "no majority: hears ") c.args.heard} {b = numbered_line (codes " of ") c.args.others (codes "\n")}
    (rw (c.from.ensures) at c.in_ok-put_numbered.ensures) (rw (← c.from-2.ensures) c.put_line_of.ensures)
