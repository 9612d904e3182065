use Rattle.std.proofs.Common.{◌≡◌, length}
use Rattle.std.specs.Prelude.{vec_len}
use Rattle.plc_driver.proofs.group.seats.Given as goal

-- there is a seat for each store so far
abbrev pub invariant-loop-store : goal.invariant-loop-store
invariant-loop-store g l = vec_len l.seats ≡ length l.yielded
