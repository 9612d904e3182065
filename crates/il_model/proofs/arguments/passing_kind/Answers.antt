use Rattle.std.proofs.Common.{Bool, ap, sym, ◌∙◌}
use Rattle.il_model.specs.Checking.{operand_kind}
use Rattle.il_model.specs.Settled.{as_settled}
use Rattle.il_model.proofs.ArgumentFaults.{settled_argument_none}
use Rattle.il_model.proofs.arguments.passing_kind.Goals as goal

pub returns-in-None : goal.returns-in-None
returns-in-None c =
    c.operand_kind-in-None.ensures
    ∙ ap (operand_kind c.args.program.now) (sym (settled_argument_none c.args.a.now (sym c.argument_literal.ensures ∙ c.in-None.is)))
    ∙ sym (ap (λ (settles : Bool). operand_kind c.args.program.now (as_settled settles c.args.a.now).operand) c.if-not-settles.false)
