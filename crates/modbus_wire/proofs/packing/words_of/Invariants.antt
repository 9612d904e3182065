use Rattle.std.proofs.Common.{◌≡◌, ◌≤◌, map, length}
use Rattle.std.specs.List.{range_with_len}
use Rattle.modbus_wire.specs.Packing.{word_of}
use Rattle.modbus_wire.proofs.packing.words_of.Given as goal

abbrev pub invariant-loop-k : goal.invariant-loop-k
invariant-loop-k l = record {
  items : l.words.items ≡ map (word_of l.bytes) (range_with_len 0 l.k);
  short : length l.words.items ≤ l.k;
}
