use Rattle.std.proofs.Common.{◌≡◌, subst, sym, ap, ◌∙◌, slice_get}
use Rattle.std.specs.Prelude.{IfSome, Option, List, nat_lt}
use Rattle.il_model.specs.declared.kind.Field.{Field}
use Rattle.il_model.specs.Kinds.{kind_fields, is_input, input_count}
use Rattle.il_model.proofs.BlockKinds.{inputs_first}
use Rattle.il_model.proofs.kind.BlockKind.field.Goals as goal

pub returns-clause-direction : goal.returns-clause-direction
returns-clause-direction c =
    let value : c.field_at.result ≡ slice_get (kind_fields c.args.self) c.args.number = c.field_at.ensures ∙ ap (λ (fields : List Field). slice_get fields c.args.number) c.fields.ensures.fields in
    subst (λ (found : Option Field). IfSome found (λ field. is_input field ≡ nat_lt c.args.number (input_count c.args.self))) (sym value) (inputs_first c.args.self c.args.number)
