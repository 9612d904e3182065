use Rattle.std.proofs.Common.{◌≡◌, Ok, take}
use Rattle.il_model.specs.declared.program.Variable.{Variable}
use Rattle.il_lister.specs.Writing.{Writes}
use Rattle.il_lister.proofs.Sections.{runs, last_flag, variable_run}
use Rattle.il_lister.proofs.declaration.write_variables.Given as goal

abbrev pub invariant-loop-variable : goal.invariant-loop-variable
invariant-loop-variable g l = record {
  sent : Writes g.W.CountedWrite (runs (λ (x : Variable). x.retained) variable_run l.before (take l.variable-index l.variables)) l.initial.writer l.writer (Ok tt);
  last : l.last ≡ last_flag (λ (x : Variable). x.retained) l.before (take l.variable-index l.variables);
}
