use Rattle.std.proofs.Common.{sym, ◌∙◌, arith}
use Rattle.ctl_model.specs.Snapshots.{fits_instance}
use Rattle.ctl_machine.proofs.Zipped.{zipped_other, zipped_end}
use Rattle.ctl_machine.proofs.Shapes.{instances_zipped, zipped_no, zipped_yes}
use Rattle.ctl_machine.proofs.shape.fit_instances.Goals as goal

pub returns-then-declared-saved : goal.returns-then-declared-saved
returns-then-declared-saved c = sym (instances_zipped c.args.declared.now c.args.saved.now ∙ zipped_other fits_instance c.args.declared.now c.args.saved.now c.if-declared-saved.true)

pub returns-then-not-fits_instance : goal.returns-then-not-fits_instance
returns-then-not-fits_instance c =
    zipped_no c.args.declared.now c.args.saved.now c.loop-i.i c.index-declared-i.result c.index-saved-i.result c.loop-i-test.true c.if-declared-saved.false c.index-declared-i.is c.index-saved-i.is (sym c.if-not-fits_instance.ensures)

pub loop-i-preserved : goal.loop-i-preserved
loop-i-preserved c =
    zipped_yes c.args.declared.now c.args.saved.now c.loop-i.i c.index-declared-i.result c.index-saved-i.result c.loop-i-test.true c.if-declared-saved.false c.index-declared-i.is c.index-saved-i.is (sym c.if-not-fits_instance.ensures) c.loop-i.invariant

pub returns : goal.returns
returns c = sym (instances_zipped c.args.declared.now c.args.saved.now ∙ sym (zipped_end fits_instance c.args.declared.now c.args.saved.now c.loop-i.i c.loop-i-test.false (omega (arith, c.loop-i-test.false, c.if-declared-saved.false))) ∙ c.loop-i.invariant)
