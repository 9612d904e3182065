use Rattle.std.proofs.Common.{arith, refl, ◌∙◌}
use Rattle.plc_figures.proofs.Chains.{nothing}
use Rattle.plc_figures.proofs.Numbered.{all}
use Rattle.plc_values.proofs.Entries.{more_by}
use Rattle.plc_values.specs.Values.{field_json}
use Rattle.plc_values.proofs.listing.put_fields.Goals as goal

pub loop-number-init : goal.loop-number-init
loop-number-init c = record { text = nothing; same = refl }

pub loop-number-preserved : goal.loop-number-preserved
loop-number-preserved c = record {
  text = more_by (λ o. field_json o c.args.instance c.args.name.now) c.args.look.now _ c.args.fields.now _ _ (omega arith) c.loop-number.invariant.same c.loop-number.invariant.text c.in_ok-put_field.ensures.text;
  same = c.in_ok-put_field.ensures.same ∙ c.loop-number.invariant.same;
}

pub returns-clause-text : goal.returns-clause-text
returns-clause-text c = all (field_json c.args.look.now c.args.instance c.args.name.now) c.args.fields.now _ c.loop-number-test.false c.loop-number.invariant.text
