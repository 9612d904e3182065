use Rattle.std.proofs.Common.{◌≡◌, true, sym, ap, ◌∙◌}
use Rattle.std.specs.List.{list_all}
use Rattle.il_model.specs.declared.program.Argument.{Argument}
use Rattle.il_model.specs.Image.{may_name}
use Rattle.il_model.proofs.Versions.{all_passed}
use Rattle.il_model.proofs.codes.Version.may_name_all_in.Goals as goal

pub returns-then-may_name : goal.returns-then-may_name
returns-then-may_name c =
    let named : may_name c.args.self c.args.line.now.operand ≡ true = sym c.may_name.ensures ∙ c.if-may_name.true in
    let same : c.as_slice.result.now ≡ c.args.line.now.arguments = cc in
    rw named (c.may_pass_all.ensures ∙ ap (list_all (λ (a : Argument). may_name c.args.self a.operand)) same ∙ sym (all_passed c.args.self c.args.line.now.arguments))
