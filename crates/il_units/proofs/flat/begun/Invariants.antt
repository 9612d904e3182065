use Rattle.std.proofs.Common.{◌≡◌, ◌++◌, [], suc, map, take, drop, length}
use Rattle.il_units.specs.Flats.{begun_from, no_lines}
use Rattle.il_units.proofs.flat.begun.Given as goal

abbrev pub invariant-loop-m : goal.invariant-loop-m
invariant-loop-m l = begun_from l.above l.body (drop l.m-index l.members) ≡ begun_from l.above no_lines l.members
