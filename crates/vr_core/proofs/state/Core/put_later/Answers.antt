use Rattle.std.proofs.Common.{◌≡◌, ◌∙◌, List, Option, ap, subst, rules, arith}
use Rattle.std.proofs.lemmas.Grind.{common_steps}
use Rattle.std.specs.Prelude.{MatchResult}
use Rattle.vr_model.specs.declared.log.Executed.{Executed}
use Rattle.vr_model.specs.Checkpoints.{SavedCheckpoint, rebased}
use Rattle.vr_core.specs.Checkpoints.{IsCheckpointOf}
use Rattle.vr_core.proofs.OwnCheckpoint.{IsRenewed, later_same}
use Rattle.vr_core.proofs.state.Core.put_later.Goals as goal

pub returns : goal.returns
returns c =
    let core = c.args.self.now in
    let earlier = c.args.earlier.value in
    let new = c.renew.new.checkpoint in
    let renewed : IsRenewed core earlier new c.renew.result =
    subst (λ (s : SavedCheckpoint). IsRenewed core s new c.renew.result) c.deref_mut.ensures.value
    (subst (λ (xs : List (Option Executed)). MatchResult c.renew.result (λ u. IsCheckpointOf core.controller core.commit_number xs new) (λ e. new ≡ c.deref_mut.result.now)) c.requires.clients c.renew.ensures) in
    let base : c.behind-earlier.inside.base ≡ earlier.base = first_of (search rules, cc, grind (arith, common_steps)) in
    later_same core earlier new c.renew.result c.put_checkpoint.new.self renewed c.requires.later (c.put_checkpoint.ensures ∙ ap (λ b. rebased b core.log.entries new) base)
