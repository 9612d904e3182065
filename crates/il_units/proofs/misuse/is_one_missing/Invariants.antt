use Rattle.std.proofs.Common.{◌≡◌, ◌++◌, [], suc, map, take, drop, length}
use Rattle.std.specs.List.{list_any}
use Rattle.il_reader.specs.Grammar.{argument}
use Rattle.il_units.specs.Misuse.{is_missing}
use Rattle.il_units.proofs.misuse.is_one_missing.Given as goal

abbrev pub invariant-loop-m : goal.invariant-loop-m
invariant-loop-m l = list_any (is_missing (map argument l.args)) (drop l.m-index l.members) ≡ list_any (is_missing (map argument l.args)) l.members
