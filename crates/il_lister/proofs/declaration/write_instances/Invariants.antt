use Rattle.std.proofs.Common.{◌≡◌, Ok, take}
use Rattle.il_model.specs.declared.program.Instance.{Instance}
use Rattle.il_lister.specs.Writing.{Writes}
use Rattle.il_lister.proofs.Sections.{runs, last_flag, instance_run}
use Rattle.il_lister.proofs.declaration.write_instances.Given as goal

abbrev pub invariant-loop-instance : goal.invariant-loop-instance
invariant-loop-instance g l = record {
  sent : Writes g.W.CountedWrite (runs (λ (x : Instance). x.retained) instance_run l.before (take l.instance-index l.instances)) l.initial.writer l.writer (Ok tt);
  last : l.last ≡ last_flag (λ (x : Instance). x.retained) l.before (take l.instance-index l.instances);
}
