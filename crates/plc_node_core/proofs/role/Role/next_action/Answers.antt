use Rattle.std.proofs.Common.{◌≡◌, ◌∙◌, true, false, refl, sym}
use Rattle.plc_node_core.specs.Scanning.{is_asked_again}
use Rattle.plc_node_core.proofs.Rows.{none_due}
use Rattle.plc_node_core.proofs.role.Role.next_action.Goals as goal

pub returns-then-is_fill_due-clause-some : goal.returns-then-is_fill_due-clause-some
returns-then-is_fill_due-clause-some c = (c.is_fill_due.ensures c.args.now).0 c.if-is_fill_due.true

pub returns-in-None-clause-none : goal.returns-in-None-clause-none
returns-in-None-clause-none c is action due =
    let unasked : is_asked_again c.args.self.now.scans c.args.now ≡ false =
    sym c.is_asked_again.ensures ∙ c.if-is_asked_again.false in
    none_due c.args.now c.args.self.now
    (λ row. let is_due = (c.is_fill_due.ensures c.args.now).1 row in let not_due = c.if-is_fill_due.false in cc)
    (λ row. let is_due = c.is_submit_due.ensures.1 row in let not_due = c.if-is_submit_due.false in cc)
    (λ row. let asked : is_asked_again c.args.self.now.scans c.args.now ≡ true = row in cc)
    (λ row. let is_due = c.is_close_due.ensures.1 row in let not_due = c.if-is_close_due.false in cc)
    (c.in-None.ensures.none refl)
    action due
