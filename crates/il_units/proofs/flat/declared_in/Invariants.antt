use Rattle.std.proofs.Common.{◌≡◌, ◌++◌, [], suc, map, take, drop, length}
use Rattle.std.specs.List.{flat_map}
use Rattle.il_units.specs.Flats.{declared_in}
use Rattle.il_units.proofs.flat.declared_in.Given as goal

abbrev pub invariant-loop-m : goal.invariant-loop-m
invariant-loop-m l = l.found.items ≡ flat_map (declared_in l.above) (take l.m-index l.members)
