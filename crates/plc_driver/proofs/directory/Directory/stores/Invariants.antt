use Rattle.std.proofs.Common.{◌≡◌}
use Rattle.std.specs.Prelude.{vec_len}
use Rattle.plc_driver.proofs.directory.Directory.stores.Given as goal

-- there is a store for each replica so far
abbrev pub invariant-loop-replica : goal.invariant-loop-replica
invariant-loop-replica g l = vec_len l.stores ≡ l.replica
