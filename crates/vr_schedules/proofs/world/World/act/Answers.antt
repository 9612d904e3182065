use Rattle.std.proofs.Common.{refl, sym, subst, ap, ◌∙◌, ◌++◌, ◌∷◌, []}
use Rattle.std.proofs.lemmas.Option.{same_Some}
use Rattle.vr_schedules.proofs.Lists.{got, got_written}
use Rattle.vr_schedules.proofs.Shown.{acted_done, acted_lost}
use Rattle.vr_schedules.proofs.world.World.act.Goals as goal

pub returns-in_ok-append-in-Ok : goal.returns-in_ok-append-in-Ok
returns-in_ok-append-in-Ok g c =
    let is = got c.args.self.now.nodes.items c.args.replica c.index_mut.result.now c.requires c.index_mut.ensures.value in
    let read = got c.args.self.now.nodes.items c.args.replica c.index.result.now c.requires c.index.ensures in
    acted_done g.M.Member.IsSavedAs g.M.Member.StandsFor c.args.self.now c.args.replica c.index_mut.result.now c.step.new.self _ c.args.event c.look_ahead.new.order.items
    is c.step.ensures.used
    (λ m r stands low. c.in_ok-look_ahead.ensures m r (subst (λ n. g.M.Member.StandsFor n.member m r) (same_Some _ _ (sym is ∙ read)) stands) low)
    refl refl
    c.in-Ok.sends.items c.len-committed.result c.in-Ok.ensures.does c.in_ok-append-in-Ok.ensures.items (c.len-committed.ensures ∙ c.args.self.now.trace.order.ok.0)
    (λ m r stands. c.settle.ensures m r (subst (λ n. g.M.Member.StandsFor n.member m r) (got_written c.args.self.now.nodes.items c.args.replica c.index-in-Ok.result.now c.step.new.self c.requires c.index-in-Ok.ensures) stands)) refl

pub returns-in_ok-push-in-Err : goal.returns-in_ok-push-in-Err
returns-in_ok-push-in-Err g c =
    let is = got c.args.self.now.nodes.items c.args.replica c.index_mut.result.now c.requires c.index_mut.ensures.value in
    let read = got c.args.self.now.nodes.items c.args.replica c.index.result.now c.requires c.index.ensures in
    acted_lost g.M.Member.IsSavedAs g.M.Member.StandsFor c.args.self.now c.args.replica c.index_mut.result.now c.step.new.self _ c.args.event c.look_ahead.new.order.items
    is c.step.ensures.used
    (λ m r stands low. c.in_ok-look_ahead.ensures m r (subst (λ n. g.M.Member.StandsFor n.member m r) (same_Some _ _ (sym is ∙ read)) stands) low)
    refl refl
    c.len-committed.result c.in-Err.ensures.does refl (c.len-committed.ensures ∙ c.args.self.now.trace.order.ok.0) c.truncate.ensures.items
    (c.in_ok-push-in-Err.ensures.items ∙ ap (λ n. c.args.self.now.trace.lost.items ++ n ∷ []) (c.len.ensures ∙ c.args.self.now.trace.lengths.ok.0))
