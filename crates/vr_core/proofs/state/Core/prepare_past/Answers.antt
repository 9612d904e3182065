use Rattle.std.proofs.Common.{◌≡◌, ◌-◌, ◌∙◌, min, take, drop, ap}
use Rattle.vr_model.specs.Checkpoints.{base_of}
use Rattle.vr_core.proofs.Between.{ready_past_if}
use Rattle.vr_core.proofs.state.Core.prepare_past.Goals as goal

pub returns : goal.returns
returns c =
    let core = c.args.self.now in
    let p = c.args.op_number in
    let n = c.args.end in
    let b = base_of core.log.checkpoint in
    let behind : c.between-more.result.now ≡ drop (core.commit_number - p) (take (n - p) c.args.entries.now) =
    c.between-more.ensures ∙ ap (λ x. drop x (take c.saturating_sub-to.result c.args.entries.now)) c.saturating_sub-from.ensures ∙ ap (λ x. drop (core.commit_number - p) (take x c.args.entries.now)) c.saturating_sub-to.ensures in
    let from : c.saturating_sub-from-2.result ≡ core.commit_number - b = c.saturating_sub-from-2.ensures ∙ ap (λ x. core.commit_number - x) c.base-base.ensures in
    let to : c.saturating_sub-to-2.result ≡ min n p - b = c.saturating_sub-to-2.ensures ∙ ap (λ x. x - c.base-base.result) c.min.ensures ∙ ap (λ x. min n p - x) c.base-base.ensures in
    let own : c.between-own.result.now ≡ drop (core.commit_number - b) (take (min n p - b) core.log.entries) =
    c.between-own.ensures ∙ ap (λ es. drop c.saturating_sub-from-2.result (take c.saturating_sub-to-2.result es)) c.entries.ensures
    ∙ ap (λ x. drop x (take c.saturating_sub-to-2.result core.log.entries)) from ∙ ap (λ x. drop (core.commit_number - b) (take x core.log.entries)) to in
    ready_past_if core p n c.args.entries.now c.between-own.result.now c.between-more.result.now c.none.result c.in_ok-changes.changes c.prepare_before-2.result behind own c.none.ensures c.in_ok-changes.ensures c.prepare_before-2.ensures
