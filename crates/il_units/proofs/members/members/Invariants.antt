use Rattle.std.proofs.Common.{◌≡◌, ◌++◌, map, take}
use Rattle.std.specs.Option.{option_map}
use Rattle.std.specs.List.{flat_map}
use Rattle.il_reader.specs.Tokens.{token}
use Rattle.il_units.specs.Units.{section_text}
use Rattle.il_units.specs.Members.{result_members, section_members}
use Rattle.il_units.proofs.members.members.Given as goal

abbrev pub invariant-loop-section : goal.invariant-loop-section
invariant-loop-section l = l.found.items ≡ result_members (token l.unit.name) (option_map token l.unit.result) ++ flat_map section_members (map section_text (take l.section-index l.section-items))
