use Rattle.std.proofs.Common.{◌≡◌, ◌∙◌, ◌<◌, ◌≤◌, ap, subst, set, max, length, true, arith, rules}
use Rattle.std.specs.Prelude.{slice_index}
use Rattle.vr_model.specs.Choices.{reached}
use Rattle.vr_model.specs.Rules.{commits_to, on_prepare_ok}
use Rattle.vr_core.specs.Changes.{FollowsIfReady}
use Rattle.vr_core.specs.Follows.{op_number_of}
use Rattle.vr_core.proofs.Doing.{does_err}
use Rattle.vr_normal.proofs.Acknowledged.{acknowledged_by, counts_for, commits, loses}
use Rattle.vr_normal.proofs.primary.prepare_ok_of_other.Goals as goal

pub returns-in_err-sends : goal.returns-in_err-sends
returns-in_err-sends c =
    let core = c.args.core.now in
    let s = c.args.sender in
    let p = c.args.op_number in
    let size : length core.acknowledged ≡ 7 = search rules in
    let three : core.config.f ≤ 3 = core.config.at_most_three in
    let low : s < 7 = omega (arith, c.requires) in
    let test : counts_for core c.args.view p true = subst (λ b. counts_for core c.args.view p b) c.if-not-is_acknowledged.false c.is_acknowledged.ensures in
    let table : set core.acknowledged c.from-sender.result c.max.result ≡ acknowledged_by core s p = ap (λ i. set core.acknowledged i c.max.result) c.from-sender.ensures ∙ ap (set core.acknowledged s) (c.max.ensures ∙ ap (λ i. max (slice_index core.acknowledged i) p) c.from-sender.ensures) in
    let is : c.reached-committed.result ≡ reached core.config.f core.number (λ j. slice_index (acknowledged_by core s p) j) (op_number_of core) = c.reached-committed.ensures.reached ∙ ap (λ t. reached core.config.f core.number (λ j. slice_index t j) c.op_number.result) table ∙ ap (reached core.config.f core.number (λ j. slice_index (acknowledged_by core s p) j)) c.op_number.ensures.value in
    does_err core (λ w r. on_prepare_ok w.f w.number w.answer r s c.args.view p) core c.from_residual.result c.from_residual.ensures.0
    (loses core s c.args.view p c.reached-committed.result test three size low is c.in_err-sends.ensures.err)

pub returns-in_err-changes : goal.returns-in_err-changes
returns-in_err-changes c =
    let core = c.args.core.now in
    let s = c.args.sender in
    let p = c.args.op_number in
    let size : length core.acknowledged ≡ 7 = search rules in
    let three : core.config.f ≤ 3 = core.config.at_most_three in
    let low : s < 7 = omega (arith, c.requires) in
    let test : counts_for core c.args.view p true = subst (λ b. counts_for core c.args.view p b) c.if-not-is_acknowledged.false c.is_acknowledged.ensures in
    let table : set core.acknowledged c.from-sender.result c.max.result ≡ acknowledged_by core s p = ap (λ i. set core.acknowledged i c.max.result) c.from-sender.ensures ∙ ap (set core.acknowledged s) (c.max.ensures ∙ ap (λ i. max (slice_index core.acknowledged i) p) c.from-sender.ensures) in
    let is : c.reached-committed.result ≡ reached core.config.f core.number (λ j. slice_index (acknowledged_by core s p) j) (op_number_of core) = c.reached-committed.ensures.reached ∙ ap (λ t. reached core.config.f core.number (λ j. slice_index t j) c.op_number.result) table ∙ ap (reached core.config.f core.number (λ j. slice_index (acknowledged_by core s p) j)) c.op_number.ensures.value in
    does_err core (λ w r. on_prepare_ok w.f w.number w.answer r s c.args.view p) core c.from_residual-in_err-changes.result c.from_residual-in_err-changes.ensures.0
    (loses core s c.args.view p c.reached-committed.result test three size low is (omega (arith, c.in_err-changes.ensures.err)))

pub returns : goal.returns
returns c =
    let core = c.args.core.now in
    let s = c.args.sender in
    let p = c.args.op_number in
    let size : length core.acknowledged ≡ 7 = search rules in
    let three : core.config.f ≤ 3 = core.config.at_most_three in
    let low : s < 7 = omega (arith, c.requires) in
    let test : counts_for core c.args.view p true = subst (λ b. counts_for core c.args.view p b) c.if-not-is_acknowledged.false c.is_acknowledged.ensures in
    let table : set core.acknowledged c.from-sender.result c.max.result ≡ acknowledged_by core s p = ap (λ i. set core.acknowledged i c.max.result) c.from-sender.ensures ∙ ap (set core.acknowledged s) (c.max.ensures ∙ ap (λ i. max (slice_index core.acknowledged i) p) c.from-sender.ensures) in
    let is : c.reached-committed.result ≡ reached core.config.f core.number (λ j. slice_index (acknowledged_by core s p) j) (op_number_of core) = c.reached-committed.ensures.reached ∙ ap (λ t. reached core.config.f core.number (λ j. slice_index t j) c.op_number.result) table ∙ ap (reached core.config.f core.number (λ j. slice_index (acknowledged_by core s p) j)) c.op_number.ensures.value in
    commits core s c.args.view p c.reached-committed.result test three size low is c.commit_to.new.self c.in_ok-changes.changes c.commit_to.result c.in_ok-changes.ensures.ready
    (subst (λ t. FollowsIfReady (record core { acknowledged = t }) c.reached-committed.result c.in_ok-changes.changes (λ w r. commits_to w.f w.number w.answer r c.reached-committed.result) c.commit_to.new.self c.commit_to.result.items) table c.commit_to.ensures.follows)
