use Rattle.std.proofs.Common.{take}
use Rattle.std.specs.List.{flat_map}
use Rattle.field_page.specs.Texts.{escaped}
use Rattle.plc_figures.specs.Texts.{IsAdded}
use Rattle.field_page.proofs.text.put_within.Given as goal

abbrev pub invariant-loop-byte : goal.invariant-loop-byte
invariant-loop-byte l = IsAdded l.initial.out.items (flat_map (escaped l.within) (take l.byte-index l.text)) l.out.items
