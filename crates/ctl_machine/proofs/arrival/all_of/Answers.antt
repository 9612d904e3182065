use Rattle.std.proofs.Common.{sym, ◌∙◌, arith}
use Rattle.ctl_machine.proofs.Zipped.{zipped_other, zipped_end}
use Rattle.ctl_machine.proofs.Shapes.{is_held, held_zipped, held_no, held_yes}
use Rattle.ctl_machine.proofs.arrival.all_of.Goals as goal

pub returns-then-deferred-held : goal.returns-then-deferred-held
returns-then-deferred-held c = sym (held_zipped c.args.deferred.now c.args.held.now ∙ zipped_other is_held c.args.deferred.now c.args.held.now c.if-deferred-held.true)

pub returns-then-not-is_held : goal.returns-then-not-is_held
returns-then-not-is_held c = sym (held_zipped c.args.deferred.now c.args.held.now ∙ held_no c.args.deferred.now c.args.held.now c.loop-i.i c.index-deferred-i.result _ (omega (arith, c.loop-i-test.true, c.if-deferred-held.false)) c.if-deferred-held.false c.index-deferred-i.is (sym c.if-not-is_held.ensures))

pub loop-i-preserved : goal.loop-i-preserved
loop-i-preserved c = held_yes c.args.deferred.now c.args.held.now c.loop-i.i c.index-deferred-i.result _ (omega (arith, c.loop-i-test.true, c.if-deferred-held.false)) c.if-deferred-held.false c.index-deferred-i.is (sym c.if-not-is_held.ensures) c.loop-i.invariant

pub returns : goal.returns
returns c = sym (held_zipped c.args.deferred.now c.args.held.now ∙ sym (zipped_end is_held c.args.deferred.now c.args.held.now c.loop-i.i (omega (arith, c.loop-i-test.false, c.if-deferred-held.false)) c.loop-i-test.false) ∙ c.loop-i.invariant)
