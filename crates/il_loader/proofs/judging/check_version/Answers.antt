use Rattle.std.proofs.Common.{◌≡◌, List, ap, subst, ◌∙◌}
use Rattle.il_model.specs.declared.codes.Version.{Version}
use Rattle.il_model.specs.declared.program.Variable.{Variable}
use Rattle.il_model.specs.declared.program.Instance.{Instance}
use Rattle.il_model.specs.declared.program.Instr.{Instr}
use Rattle.il_model.specs.Program.{Program}
use Rattle.il_model.specs.Image.{version_with}
use Rattle.il_records.specs.declared.fault.LoadFault.TheVariants.{BadVersion}
use Rattle.il_records.specs.Fields.{Gives, agrees}
use Rattle.il_loader.specs.Judging.{is_same, is_own_version}
use Rattle.il_loader.proofs.judging.check_version.Goals as goal

pub returns : goal.returns
unfolding is_own_version
returns c =
    let Q = c.args.program.now in
    let constants = c.args.constants.now in
    let variables : c.as_slice.result.now ≡ Q.variables = c.as_slice.ensures.value ∙ ap (λ (P : Program). P.variables) c.program.view_is in
    let instances : c.as_slice-2.result.now ≡ Q.instances = c.as_slice-2.ensures.value ∙ ap (λ (P : Program). P.instances) c.program.view_is in
    let code : c.as_slice-3.result.now ≡ Q.code = c.as_slice-3.ensures.value ∙ ap (λ (P : Program). P.code) c.program.view_is in
    let own : c.version_with-own.result ≡ version_with Q.variables Q.instances constants Q.code =
    c.version_with-own.ensures
    ∙ ap (λ (vs : List Variable). version_with vs c.as_slice-2.result.now constants c.as_slice-3.result.now) variables
    ∙ ap (λ (xs : List Instance). version_with Q.variables xs constants c.as_slice-3.result.now) instances
    ∙ ap (λ (lines : List Instr). version_with Q.variables Q.instances constants lines) code in
    subst (λ (version : Version). Gives (λ x. x) c.check_same.result (agrees BadVersion (is_same c.args.version version))) own c.check_same.ensures
