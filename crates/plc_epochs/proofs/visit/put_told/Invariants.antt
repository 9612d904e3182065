use Rattle.std.proofs.Common.{◌≡◌, ◌++◌, take}
use Rattle.std.specs.List.{flat_map, AllByRecursion}
use Rattle.plc_epochs.specs.Visits.{nonce_bytes, FitsNonce}
use Rattle.plc_epochs.proofs.visit.put_told.Given as goal

abbrev pub invariant-loop-nonce : goal.invariant-loop-nonce
invariant-loop-nonce l = record {
  written : l.out.items ≡ l.fn.out.items ++ flat_map nonce_bytes (take l.nonce-index l.told);
  fits : AllByRecursion FitsNonce (take l.nonce-index l.told);
}
