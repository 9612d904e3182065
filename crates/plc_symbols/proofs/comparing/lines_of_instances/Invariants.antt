use Rattle.std.proofs.Common.{◌≡◌, take}
use Rattle.std.specs.List.{flat_map}
use Rattle.plc_symbols.specs.Compared.{instance_line}
use Rattle.plc_symbols.proofs.comparing.lines_of_instances.Given as goal

abbrev pub invariant-loop-instance : goal.invariant-loop-instance
invariant-loop-instance l = l.text.items ≡ flat_map (instance_line l.old) (take l.instance-index l.new)
