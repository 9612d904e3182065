use Rattle.std.proofs.Common.{arith, refl, ◌∙◌}
use Rattle.plc_figures.proofs.Chains.{nothing}
use Rattle.plc_figures.proofs.Numbered.{all}
use Rattle.plc_values.proofs.Entries.{more_of}
use Rattle.plc_values.specs.Values.{variable_json}
use Rattle.plc_values.proofs.listing.put_each_variable.Goals as goal

pub loop-number-init : goal.loop-number-init
loop-number-init c = record { text = nothing; same = refl }

pub loop-number-preserved : goal.loop-number-preserved
loop-number-preserved c = record {
  text = more_of variable_json c.args.look.now _ c.args.variables.now _ _ (omega arith) c.index-variables-number.is c.loop-number.invariant.same c.loop-number.invariant.text c.in_ok-put_variable.ensures.text;
  same = c.in_ok-put_variable.ensures.same ∙ c.loop-number.invariant.same;
}

pub returns-clause-text : goal.returns-clause-text
returns-clause-text c = all (variable_json c.args.look.now) c.args.variables.now _ c.loop-number-test.false c.loop-number.invariant.text
