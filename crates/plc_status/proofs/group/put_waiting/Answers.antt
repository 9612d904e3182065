use Rattle.std.proofs.Common.{◌++◌, codes}
use Rattle.il_text.specs.Telling.{numbered}
use Rattle.plc_status.specs.Notices.{numbered_line}
use Rattle.plc_status.proofs.Lines.{then}
use Rattle.plc_status.proofs.group.put_waiting.Goals as goal

pub returns : goal.returns
returns g c =
    then {a = numbered (codes "waits: hears ") c.args.heard}
    {b = numbered (codes " of ") c.args.machines ++ numbered_line (codes " machines, wants ") c.args.wanted (codes "\n")}
    (rw (c.from.ensures) at c.in_ok-put_numbered.ensures)
    (then {a = numbered (codes " of ") c.args.machines}
    {b = numbered_line (codes " machines, wants ") c.args.wanted (codes "\n")}
    (rw (c.from-2.ensures) at c.in_ok-put_numbered-2.ensures)
    (rw (← c.from-3.ensures) c.put_line_of.ensures))
