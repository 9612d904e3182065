use Rattle.std.proofs.Common.{◌≡◌, ◌+◌, ◌*◌, ◌++◌, ◌≤◌, map, length}
use Rattle.std.specs.List.{range_with_len}
use Rattle.modbus_wire.specs.Packing.{byte_of}
use Rattle.modbus_wire.proofs.packing.put_bits.Given as goal

abbrev pub invariant-loop-k : goal.invariant-loop-k
invariant-loop-k l = record {
  items : l.pdu.items ≡ l.fn.pdu.items ++ map (λ k. byte_of l.bits (8 * k)) (range_with_len 0 l.k);
  short : length l.pdu.items ≤ length l.fn.pdu.items + l.k;
}
