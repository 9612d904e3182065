use Rattle.std.proofs.Common.{◌≡◌, take}
use Rattle.il_model.specs.declared.program.Variable.{Variable}
use Rattle.il_lister.proofs.Sections.{last_flag}
use Rattle.il_lister.proofs.declaration.last_retained.Given as goal

abbrev pub invariant-loop-variable : goal.invariant-loop-variable
invariant-loop-variable l = l.last ≡ last_flag (λ (v : Variable). v.retained) l.before (take l.variable-index l.variables)
