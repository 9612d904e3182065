use Rattle.std.proofs.Common.{ap, sym, ◌∙◌}
use Rattle.il_model.specs.Checking.{field_fault}
use Rattle.il_model.specs.Settled.{as_settled}
use Rattle.il_model.proofs.ArgumentFaults.{is_seen, is_new}
use Rattle.il_model.proofs.arguments.argument_fault.Goals as goal

pub returns-then-is_seen : goal.returns-then-is_seen
returns-then-is_seen c = sym (is_seen c.args.program.now c.args.kind c.in-Some.kind c.args.seen.now c.args.settles c.args.a.now c.in-Some.is (sym c.is_seen.ensures ∙ c.if-is_seen.true))

pub returns-else-is_seen : goal.returns-else-is_seen
returns-else-is_seen c =
    c.field_fault.ensures
    ∙ ap (field_fault c.args.program.now (as_settled c.args.settles c.args.a.now)) c.kind_field.ensures
    ∙ sym (is_new c.args.program.now c.args.kind c.in-Some.kind c.args.seen.now c.args.settles c.args.a.now c.in-Some.is (sym c.is_seen.ensures ∙ c.if-is_seen.false))
