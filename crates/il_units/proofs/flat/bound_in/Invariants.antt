use Rattle.std.proofs.Common.{◌≡◌, ◌++◌, [], suc, map, take, drop, length}
use Rattle.std.specs.List.{flat_map}
use Rattle.il_units.specs.Flats.{bound_in}
use Rattle.il_units.proofs.flat.bound_in.Given as goal

abbrev pub invariant-loop-m : goal.invariant-loop-m
invariant-loop-m l = l.found.items ≡ flat_map bound_in (take l.m-index l.members)
