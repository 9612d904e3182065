use Rattle.std.proofs.Common.{◌≡◌, length}
use Rattle.std.specs.Prelude.{vec_len}
use Rattle.plc_driver.proofs.saving.patient_stores.Given as goal

-- there is one for each store so far
abbrev pub invariant-loop-store : goal.invariant-loop-store
invariant-loop-store g l = vec_len l.patient ≡ length l.yielded
