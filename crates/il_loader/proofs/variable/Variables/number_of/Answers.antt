use Rattle.std.proofs.Common.{ap, ◌∙◌, arith, List, length}
use Rattle.std.specs.List.{position}
use Rattle.il_model.specs.declared.program.Variable.{Variable}
use Rattle.il_loader.specs.NameTables.{is_named}
use Rattle.il_loader.proofs.VariableTables.{small_number}
use Rattle.il_loader.proofs.variable.Variables.number_of.Goals as goal

pub returns-clause-small : goal.returns-clause-small
returns-clause-small c =
    small_number (is_named c.args.name.now) c.args.self.now c.copied.result
    (c.copied.ensures ∙ c.get.ensures.value ∙ c.self.invariant.numbers c.args.name.now ∙ ap (position (is_named c.args.name.now)) c.self.view_is)
    (let same = ap (λ (vs : List Variable). length vs) c.self.view_is in omega (arith, same, c.self.inside.found.small))

pub returns-clause-number : goal.returns-clause-number
returns-clause-number c = c.copied.ensures ∙ c.get.ensures.value ∙ c.self.invariant.numbers c.args.name.now ∙ ap (position (is_named c.args.name.now)) c.self.view_is
