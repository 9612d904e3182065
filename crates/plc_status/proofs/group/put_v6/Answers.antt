use Rattle.plc_status.proofs.group.put_v6.Goals as goal

pub returns : goal.returns
returns g c = rw (← c.port.ensures, ← c.from.ensures) c.put_numbered.ensures
