use Rattle.plc_status.specs.Notices.{majority_of}
use Rattle.plc_status.proofs.Lines.{then}
use Rattle.plc_status.proofs.group.put_by_hand.Goals as goal

pub returns : goal.returns
returns g c = then {a = majority_of c.args.f} (rw (← c.majority_of.ensures, ← c.as_bytes.ensures.value) c.in_ok-put.ensures) c.put-2.ensures
