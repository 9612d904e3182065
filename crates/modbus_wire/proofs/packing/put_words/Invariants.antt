use Rattle.std.proofs.Common.{◌≡◌, ◌++◌, ◌+◌, ◌*◌, ◌≤◌, take, length}
use Rattle.std.specs.Prelude.{FitsSigned}
use Rattle.std.specs.Int.{w16}
use Rattle.std.specs.List.{AllByRecursion}
use Rattle.modbus_wire.specs.Packing.{bytes_of_words}
use Rattle.modbus_wire.proofs.packing.put_words.Given as goal

abbrev pub invariant-loop-word : goal.invariant-loop-word
invariant-loop-word l = record {
  items : l.pdu.items ≡ l.fn.pdu.items ++ bytes_of_words (take l.word-index l.words);
  fits : AllByRecursion (FitsSigned w16) (take l.word-index l.words);
  short : length l.pdu.items ≤ length l.fn.pdu.items + 2 * l.word-index;
}
