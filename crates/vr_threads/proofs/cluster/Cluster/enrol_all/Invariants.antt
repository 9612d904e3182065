use Rattle.std.proofs.Common.{◌≡◌}
use Rattle.vr_threads.proofs.cluster.Cluster.enrol_all.Given as goal

-- what the replicas have in common stays
abbrev pub invariant-loop-work : goal.invariant-loop-work
invariant-loop-work g l = record {
  can_next : (goal.iterator-loop-work g).can_next l.work-iterator;
  finite : (goal.iterator-loop-work g).is_finite l.work-iterator;
  same : l.self.config ≡ l.initial.self.config;
}
