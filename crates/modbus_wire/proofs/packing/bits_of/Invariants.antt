use Rattle.std.proofs.Common.{◌≡◌, ◌≤◌, map, length}
use Rattle.std.specs.List.{range_with_len}
use Rattle.modbus_wire.specs.Packing.{bit_of}
use Rattle.modbus_wire.proofs.packing.bits_of.Given as goal

abbrev pub invariant-loop-n : goal.invariant-loop-n
invariant-loop-n l = record {
  items : l.bits.items ≡ map (bit_of l.bytes) (range_with_len 0 l.n);
  short : length l.bits.items ≤ l.n;
}
