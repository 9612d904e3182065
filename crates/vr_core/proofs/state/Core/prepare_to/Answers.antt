use Rattle.std.proofs.Common.{rules, arith, ◌≡◌, ◌-◌, ◌≤◌, ◌<◌, ◌∙◌, min, take, drop, ap}
use Rattle.std.proofs.lemmas.Grind.{common_steps}
use Rattle.vr_model.specs.Checkpoints.{base_of}
use Rattle.vr_core.specs.Follows.{op_number_of}
use Rattle.vr_core.proofs.Between.{ready_to_if, ready_none, on_err}
use Rattle.vr_core.proofs.state.Core.prepare_to.Goals as goal

pub returns-then-min-self-clause-ready : goal.returns-then-min-self-clause-ready
returns-then-min-self-clause-ready c =
    let core = c.args.self.now in
    let le : min c.args.op_number (op_number_of core) ≤ core.commit_number = first_of (search rules, cc, grind (arith, common_steps)) in
    ready_none core c.args.op_number c.none.result le c.none.ensures

pub returns-clause-ready : goal.returns-clause-ready
returns-clause-ready c =
    let core = c.args.self.now in
    let n = c.args.op_number in
    let b = base_of core.log.checkpoint in
    let from : c.saturating_sub-from.result ≡ core.commit_number - b = c.saturating_sub-from.ensures ∙ ap (λ x. core.commit_number - x) c.base-base.ensures in
    let to : c.saturating_sub-to.result ≡ n - b = c.saturating_sub-to.ensures ∙ ap (λ x. n - x) c.base-base.ensures in
    let are : c.between-entries.result.now ≡ drop (core.commit_number - b) (take (n - b) core.log.entries) =
    c.between-entries.ensures ∙ ap (λ es. drop c.saturating_sub-from.result (take c.saturating_sub-to.result es)) c.entries.ensures
    ∙ ap (λ x. drop x (take c.saturating_sub-to.result core.log.entries)) from ∙ ap (λ x. drop (core.commit_number - b) (take x core.log.entries)) to in
    ready_to_if core n c.between-entries.result.now c.none-2.result c.prepare_before.result are c.none-2.ensures c.prepare_before.ensures

pub returns-clause-err : goal.returns-clause-err
returns-clause-err c =
    let core = c.args.self.now in
    let lt : core.commit_number < min c.args.op_number (op_number_of core) = first_of (search rules, omega (arith, c.op_number.ensures, c.min.ensures, c.if-min-self.false), grind (arith, common_steps)) in
    on_err c.prepare_before.result lt
