use Rattle.std.proofs.Common.{ap, ◌∙◌, false, []}
use Rattle.std.specs.Prelude.{map, Option, Result}
use Rattle.il_model.specs.declared.kind.BlockKind.{BlockKind}
use Rattle.il_model.specs.declared.typing.Effect.{Effect}
use Rattle.il_model.specs.declared.typing.TypeFault.{TypeFault}
use Rattle.il_model.specs.Program.{Program}
use Rattle.il_model.specs.Resolved.{source_of, called_kind}
use Rattle.il_model.specs.Checking.{source_row, arguments_fault, with_fault}
use Rattle.il_model.specs.Settled.{as_settled}
use Rattle.il_model.proofs.ArgumentFaults.{none_settled}
use Rattle.il_model.proofs.check.line_row.Goals as goal

pub returns : goal.returns
returns c =
    let Q = c.args.program.now in
    let line = c.args.line.now in
    let row =
    c.source_row-row.ensures
    ∙ ap (λ (P : Program). source_row P c.args.cr c.args.top c.args.depth line c.source_of.result) c.program.ensures
    ∙ ap (source_row Q c.args.cr c.args.top c.args.depth line) c.source_of.ensures in
    let fault =
    c.arguments_fault.ensures
    ∙ ap (λ (kind : Option BlockKind). arguments_fault Q kind [] (map (as_settled false) c.as_slice.result.now)) c.called_kind-kind.ensures
    ∙ ap (arguments_fault Q (called_kind Q line.operand) []) (ap (map (as_settled false)) c.as_slice.ensures ∙ none_settled line.arguments) in
    c.with_fault.ensures
    ∙ ap (λ (r : Result Effect TypeFault). with_fault r c.arguments_fault.result) row
    ∙ ap (with_fault (source_row Q c.args.cr c.args.top c.args.depth line (source_of Q line.operand))) fault
