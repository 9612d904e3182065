use Rattle.std.proofs.Common.{◌≡◌, ◌≤◌}
use Rattle.vr_model.specs.Groups.{how_many}
use Rattle.vr_judging.proofs.Counting.{has_reached}
use Rattle.vr_judging.proofs.majority.count.Given as goal

abbrev pub invariant-loop-s : goal.invariant-loop-s
invariant-loop-s l = record {
  is : l.count ≡ how_many (has_reached l.number l.acknowledged l.op_number) l.s;
  bound : l.count ≤ l.s;
}
