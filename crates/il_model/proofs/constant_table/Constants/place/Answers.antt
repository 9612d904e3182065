use Rattle.std.proofs.Common.{ap, ◌∙◌, arith, List, length}
use Rattle.std.specs.List.{position}
use Rattle.il_values.specs.declared.value.Value.{Value}
use Rattle.il_model.specs.Constants.{same_value}
use Rattle.il_model.proofs.ConstantKeys.{small_place}
use Rattle.il_model.proofs.constant_table.Constants.place.Goals as goal

pub returns-clause-small : goal.returns-clause-small
returns-clause-small c =
    small_place c.args.v c.args.self.now c.place_in.result
    (c.place_in.ensures ∙ c.self.invariant c.args.v ∙ ap (position (same_value c.args.v)) c.self.view_is)
    (let same = ap (λ (vs : List Value). length vs) c.self.view_is in omega (arith, same, c.self.inside.found.small))
