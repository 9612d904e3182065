use Rattle.std.proofs.Common.{◌++◌, ◌∷◌, [], ◌∙◌, ap, arith}
use Rattle.vr_model.specs.declared.message.Request.{Request}
use Rattle.vr_schedules.proofs.Lists.{one_more_entry}
use Rattle.vr_schedules.proofs.world.look_ahead.Goals as goal

pub loop-place-preserved : goal.loop-place-preserved
loop-place-preserved g c = (
  omega (arith, c.loop-place.invariant.0),
  λ m r stands.
      one_more_entry c.args.order.now.items c.loop-place.order.items c.push.new.self.items r.log c.in-Some.request.now c.len-first.result c.loop-place.place
      (c.in_ok-push.ensures.items ∙ ap (λ (m : Request). c.loop-place.order.items ++ m ∷ []) c.in_ok-copy.ensures) (c.loop-place.invariant.1 m r stands) c.loop-place.invariant.0 (c.in-Some.ensures m r stands),
)
