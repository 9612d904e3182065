use Rattle.std.proofs.Common.{◌≡◌, take}
use Rattle.vr_model.proofs.log.copy_entries.Given as goal

abbrev pub invariant-loop-request : goal.invariant-loop-request
invariant-loop-request l = l.copied.items ≡ take l.request-index l.entries
