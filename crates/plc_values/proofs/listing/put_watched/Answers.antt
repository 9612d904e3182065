use Rattle.std.proofs.Common.{arith, refl, ◌∙◌}
use Rattle.plc_figures.proofs.Chains.{nothing}
use Rattle.plc_figures.proofs.Numbered.{all}
use Rattle.plc_values.proofs.Entries.{more_of}
use Rattle.plc_values.specs.Values.{watched_json}
use Rattle.plc_values.proofs.listing.put_watched.Goals as goal

pub loop-number-init : goal.loop-number-init
loop-number-init c = record { text = nothing; same = refl }

pub loop-number-preserved : goal.loop-number-preserved
loop-number-preserved c = record {
  text = more_of watched_json c.args.look.now _ c.args.names.now _ _ (omega arith) c.index-names-number.is c.loop-number.invariant.same c.loop-number.invariant.text c.in_ok-put_named.ensures.text;
  same = c.in_ok-put_named.ensures.same ∙ c.loop-number.invariant.same;
}

pub returns-clause-text : goal.returns-clause-text
returns-clause-text c = all (watched_json c.args.look.now) c.args.names.now _ c.loop-number-test.false c.loop-number.invariant.text
