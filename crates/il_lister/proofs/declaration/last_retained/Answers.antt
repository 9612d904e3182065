use Rattle.std.proofs.Common.{◌∙◌, Bool, sym, ap, arith}
use Rattle.std.proofs.lemmas.List.{take_all}
use Rattle.il_model.specs.declared.program.Variable.{Variable}
use Rattle.il_lister.proofs.Sections.{last_flag, last_at, last_is}
use Rattle.il_lister.proofs.declaration.last_retained.Goals as goal

abbrev flag : Variable → Bool
flag v = v.retained

pub loop-variable-preserved : goal.loop-variable-preserved
loop-variable-preserved c = sym (last_at flag c.args.before c.args.variables.now c.loop-variable.variable-index c.variable-item.result (omega arith) c.variable-item.is)

pub returns : goal.returns
returns c = c.loop-variable.invariant ∙ ap (last_flag flag c.args.before) (take_all c.loop-variable.variable-index c.args.variables.now (omega arith)) ∙ sym (last_is c.args.before c.args.variables.now)
