use Rattle.std.proofs.Common.{◌≡◌, ◌∙◌, Bool, sym, ap, arith}
use Rattle.std.proofs.lemmas.List.{take_all}
use Rattle.il_model.specs.declared.program.Instance.{Instance}
use Rattle.il_lister.specs.Listing.{turn_text, instance_text}
use Rattle.il_lister.proofs.Parts.{equally, then}
use Rattle.il_lister.proofs.Sections.{runs, instance_run, instances_are, last_at, more_run, breaks_run, cut}
use Rattle.il_lister.proofs.declaration.write_instances.Goals as goal

abbrev flag : Instance → Bool
flag x = x.retained

-- the turn is by the one before, which the invariant tells
turn_is : (x : Instance) (a b : Bool) → a ≡ b → turn_text a x.retained x.name ≡ turn_text b x.retained x.name
turn_is x a b e = ap (λ (before : Bool). turn_text before x.retained x.name) e

pub loop-instance-preserved : goal.loop-instance-preserved
loop-instance-preserved g c = record {
  sent = more_run flag instance_run c.args.before c.args.instances.now c.loop-instance.instance-index c.instance-item.result (omega arith) c.instance-item.is c.loop-instance.invariant.sent
      (then (equally (turn_is c.instance-item.result _ _ c.loop-instance.invariant.last) c.in_ok-write_turn.ensures) c.in_ok-write_instance.ensures);
  last = sym (last_at flag c.args.before c.args.instances.now c.loop-instance.instance-index c.instance-item.result (omega arith) c.instance-item.is);
}

pub returns-in_err-write_turn : goal.returns-in_err-write_turn
returns-in_err-write_turn g c = equally (sym (instances_are c.args.before c.args.instances.now))
    (breaks_run flag instance_run c.args.before c.args.instances.now c.loop-instance.instance-index c.instance-item.result (omega arith) c.instance-item.is c.loop-instance.invariant.sent c.from_residual.ensures.0
    (cut (instance_text c.instance-item.result) (equally (turn_is c.instance-item.result _ _ c.loop-instance.invariant.last) c.in_err-write_turn.ensures)))

pub returns-in_err-write_instance : goal.returns-in_err-write_instance
returns-in_err-write_instance g c = equally (sym (instances_are c.args.before c.args.instances.now))
    (breaks_run flag instance_run c.args.before c.args.instances.now c.loop-instance.instance-index c.instance-item.result (omega arith) c.instance-item.is c.loop-instance.invariant.sent c.from_residual-in_err-write_instance.ensures.0
    (then (equally (turn_is c.instance-item.result _ _ c.loop-instance.invariant.last) c.in_ok-write_turn.ensures) c.in_err-write_instance.ensures))

pub returns : goal.returns
returns g c = equally (ap (runs flag instance_run c.args.before) (take_all c.loop-instance.instance-index c.args.instances.now (omega arith)) ∙ sym (instances_are c.args.before c.args.instances.now)) c.loop-instance.invariant.sent
