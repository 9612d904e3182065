use Rattle.std.proofs.Common.{List, ap, sym, ◌∙◌}
use Rattle.std.specs.List.{enumerate_from, flat_map}
use Rattle.il_model.specs.declared.program.Variable.{Variable}
use Rattle.il_model.specs.Program.{Program}
use Rattle.plc_figures.proofs.Chains.{equally}
use Rattle.plc_values.specs.Values.{variable_json}
use Rattle.plc_values.proofs.listing.put_variables.Goals as goal

pub returns-clause-text : goal.returns-clause-text
returns-clause-text c = equally (ap (λ (vs : List Variable). flat_map (variable_json c.args.look.now) (enumerate_from 0 vs)) (c.variables.ensures ∙ ap (λ (Q : Program). Q.variables) (sym c.requires.program))) c.in_ok-put_each_variable.ensures.text
