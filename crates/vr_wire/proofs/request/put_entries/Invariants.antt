use Rattle.std.proofs.Common.{◌≡◌, ◌++◌, length, take}
use Rattle.std.specs.List.{flat_map, AllByRecursion}
use Rattle.std.specs.Int.{w32, to_be_bytes}
use Rattle.vr_wire.specs.Logs.{request_bytes, FitsRequest}
use Rattle.vr_wire.proofs.request.put_entries.Given as goal

abbrev pub invariant-loop-request : goal.invariant-loop-request
invariant-loop-request l = record {
  written : l.out.items ≡ l.fn.out.items ++ (to_be_bytes w32 (length l.entries) ++ flat_map request_bytes (take l.request-index l.entries));
  fits : AllByRecursion FitsRequest (take l.request-index l.entries);
}
