use Rattle.std.proofs.Common.{[], codes}
use Rattle.plc_status.specs.Notices.{epoch_text, numbered_line}
use Rattle.plc_status.proofs.Lines.{then}
use Rattle.plc_status.proofs.group.put_far.Goals as goal

pub returns : goal.returns
returns g c =
    then {a = epoch_text c.args.epoch (codes " heard from machine ")}
    {b = numbered_line [] c.args.machine (codes ": too far above, an operator is needed\n")}
    c.in_ok-put_epoch_text.ensures (rw (← c.from.ensures) c.put_line_of.ensures)
