use Rattle.std.proofs.Common.{rules, arith, ◌≡◌, ◌-◌, ◌∙◌, max, take, drop, ap}
use Rattle.std.proofs.lemmas.Grind.{common_steps}
use Rattle.vr_model.specs.Checkpoints.{base_of}
use Rattle.vr_core.proofs.Between.{ready_for_if}
use Rattle.vr_core.proofs.state.Core.prepare_handed.Goals as goal

pub returns : goal.returns
returns c =
    let core = c.args.self.now in
    let log = c.args.log.now in
    let n = c.args.op_number in
    let b = base_of log.checkpoint in
    let from : c.max.result - c.base-base.result ≡ max core.commit_number b - b = first_of (search rules, cc, grind (arith, common_steps)) in
    let to : c.saturating_sub-to.result ≡ n - b = c.saturating_sub-to.ensures ∙ ap (λ x. n - x) c.base-base.ensures in
    let are : c.between-entries.result.now ≡ drop (max core.commit_number b - b) (take (n - b) log.entries) =
    c.between-entries.ensures ∙ ap (λ es. drop (c.max.result - c.base-base.result) (take c.saturating_sub-to.result es)) c.entries.ensures
    ∙ ap (λ x. drop x (take c.saturating_sub-to.result log.entries)) from ∙ ap (λ x. drop (max core.commit_number b - b) (take x log.entries)) to in
    ready_for_if core log n c.between-entries.result.now c.none.result c.prepare_before.result are c.none.ensures c.prepare_before.ensures
