use Rattle.std.proofs.Common.{[], ◌++◌, codes}
use Rattle.hex.specs.Hex.{encode_lower}
use Rattle.plc_status.specs.Notices.{epoch_text, numbered_line}
use Rattle.plc_status.proofs.Lines.{then}
use Rattle.plc_status.proofs.group.put_goes_on.Goals as goal

pub returns : goal.returns
returns g c =
    then {a = epoch_text c.args.epoch (codes " heard from machine ")}
    {b = numbered_line [] c.args.machine (codes ", program ")
    ++ (encode_lower c.args.program ++ codes ": this group goes on\n")}
    c.in_ok-put_epoch_text.ensures
    (then {a = numbered_line [] c.args.machine (codes ", program ")}
    {b = encode_lower c.args.program ++ codes ": this group goes on\n"}
    (rw (← c.from.ensures) c.in_ok-put_line_of.ensures)
    (then {a = encode_lower c.args.program} c.in_ok-put_sum.ensures c.put.ensures))
