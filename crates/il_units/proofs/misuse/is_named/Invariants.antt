use Rattle.std.proofs.Common.{◌≡◌, ◌++◌, [], suc, map, take, drop, length}
use Rattle.std.specs.List.{list_any}
use Rattle.il_reader.specs.Grammar.{argument}
use Rattle.il_units.specs.Misuse.{names_field}
use Rattle.il_units.proofs.misuse.is_named.Given as goal

abbrev pub invariant-loop-a : goal.invariant-loop-a
invariant-loop-a l = list_any (names_field l.name) (map argument (drop l.a-index l.args)) ≡ list_any (names_field l.name) (map argument l.args)
