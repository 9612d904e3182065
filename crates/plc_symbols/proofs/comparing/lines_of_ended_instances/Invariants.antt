use Rattle.std.proofs.Common.{◌≡◌, take}
use Rattle.std.specs.List.{flat_map}
use Rattle.plc_symbols.specs.Compared.{ended_instance_line}
use Rattle.plc_symbols.proofs.comparing.lines_of_ended_instances.Given as goal

abbrev pub invariant-loop-instance : goal.invariant-loop-instance
invariant-loop-instance l = l.text.items ≡ flat_map (ended_instance_line l.new) (take l.instance-index l.old)
