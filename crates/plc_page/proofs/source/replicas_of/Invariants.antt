use Rattle.std.proofs.Common.{◌≡◌, ◌+◌, length}
use Rattle.plc_page.specs.Sources.{AreOfStatus}
use Rattle.plc_page.proofs.source.replicas_of.Given as goal

abbrev pub invariant-loop-number : goal.invariant-loop-number
invariant-loop-number l = record {
  long : l.first + length l.replicas.items ≡ l.number;
  are : AreOfStatus l.status l.first l.replicas.items;
}
