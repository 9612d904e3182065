use Rattle.std.proofs.Common.{◌≡◌, true, List, sym, subst, ◌∙◌}
use Rattle.std.specs.List.{list_all}
use Rattle.il_values.specs.declared.value.Value.{Value}
use Rattle.il_model.specs.declared.codes.Version.{Version}
use Rattle.il_model.specs.Image.{may_declare, may_keep}
use Rattle.il_model.proofs.Versions.{version_may}
use Rattle.il_assembler.proofs.encode.encode.Goals as goal

pub put_variables-requires : goal.put_variables-requires
put_variables-requires c =
    let variables = c.as_slice-variables.result.now in
    subst (λ (version : Version). list_all (may_declare version) variables ≡ true) (sym c.version_with-version.ensures)
    (version_may variables c.as_slice-instances.result.now c.values.result.now c.code-code.result.now).0

pub put_constants-requires : goal.put_constants-requires
put_constants-requires c =
    let version = c.version_with-version.result in
    let may : list_all (may_keep version) c.values.result.now ≡ true =
    subst (λ (v : Version). list_all (may_keep v) c.values.result.now ≡ true) (sym c.version_with-version.ensures)
    (version_may c.as_slice-variables.result.now c.as_slice-instances.result.now c.values.result.now c.code-code.result.now).2 in
    subst (λ (vs : List Value). list_all (may_keep version) vs ≡ true) (c.values.ensures ∙ sym c.values-3.ensures) may
