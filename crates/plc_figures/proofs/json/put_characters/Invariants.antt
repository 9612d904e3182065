use Rattle.std.proofs.Common.{take}
use Rattle.std.specs.List.{flat_map}
use Rattle.plc_figures.specs.Texts.{escaped, IsAdded}
use Rattle.plc_figures.proofs.json.put_characters.Given as goal

abbrev pub invariant-loop-byte : goal.invariant-loop-byte
invariant-loop-byte l = IsAdded l.initial.out.items (flat_map escaped (take l.byte-index l.text)) l.out.items
