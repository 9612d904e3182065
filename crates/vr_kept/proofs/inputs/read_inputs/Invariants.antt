use Rattle.std.proofs.Common.{drop, map}
use Rattle.vr_kept.proofs.Several.{AreSoFar}
use Rattle.vr_kept.proofs.inputs.read_inputs.Given as goal

abbrev pub invariant-loop-record : goal.invariant-loop-record
invariant-loop-record l = AreSoFar (map (λ v. v.items) l.records) (map (λ v. v.items) (drop l.record-index l.records)) l.events.items
