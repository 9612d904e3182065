use Rattle.std.proofs.Common.{rules, ◌++◌, ◌∙◌, ap, sym, map}
use Rattle.vr_model.specs.Choices.{others}
use Rattle.vr_core.specs.Follows.{message_from}
use Rattle.vr_core.proofs.ToOthers.{others_next, others_itself, sent_one}
use Rattle.vr_core.proofs.state.Core.send_below.Goals as goal
use Rattle.vr_core.proofs.state.Core.send_below.Goals.{then-to-self+in_ok-copy+in_ok-push, else-to-self}

pub loop-to-preserved : goal.loop-to-preserved
loop-to-preserved c =
    let i = c.args.self.now.number in
    let f = message_from i c.args.body.now in
    let base = c.args.sends.now.items in
    elim c.if-to-self.branch [
      | then-to-self+in_ok-copy+in_ok-push w ↦
          sent_one c.loop-to.sends.items c.if-to-self.sends.items base (map f (others i c.loop-to.to)) w.message.result (f c.loop-to.to) c.loop-to.invariant (ap (λ v. v.items) w.sends-is ∙ w.in_ok-push.ensures.items) (search rules)
          ∙ ap (λ l. base ++ l) (sym (others_next f i c.loop-to.to w.if-to-self.true))
      | else-to-self w ↦ ap (λ v. v.items) w.sends-is ∙ c.loop-to.invariant ∙ ap (λ l. base ++ l) (sym (others_itself f i c.loop-to.to w.if-to-self.false))
    ]
