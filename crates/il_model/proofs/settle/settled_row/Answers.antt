use Rattle.std.proofs.Common.{ap, sym, ◌∙◌, true, []}
use Rattle.std.specs.Prelude.{map, Option, Result}
use Rattle.il_model.specs.declared.kind.BlockKind.{BlockKind}
use Rattle.il_model.specs.declared.typing.Effect.{Effect}
use Rattle.il_model.specs.declared.typing.TypeFault.{TypeFault}
use Rattle.il_model.specs.Resolved.{source_of, called_kind}
use Rattle.il_model.specs.Checking.{source_row, arguments_fault, with_fault}
use Rattle.il_model.specs.Settled.{as_settled, settled_line}
use Rattle.il_model.proofs.ArgumentFaults.{all_settled}
use Rattle.il_model.proofs.SettledPrograms.{called_settled}
use Rattle.il_model.proofs.settle.settled_row.Goals as goal

pub returns : goal.returns
returns c =
    let Q = c.args.program.now in
    let line = c.args.line.now in
    let settled = settled_line c.args.cr line in
    let fault =
    c.arguments_fault.ensures
    ∙ ap (λ (kind : Option BlockKind). arguments_fault Q kind [] (map (as_settled true) c.as_slice.result.now)) (c.called_kind-kind.ensures ∙ sym (called_settled Q c.args.cr line.op line.modifier line.operand))
    ∙ ap (arguments_fault Q (called_kind Q settled.operand) []) (ap (map (as_settled true)) c.as_slice.ensures ∙ all_settled line.arguments) in
    c.with_fault.ensures
    ∙ ap (λ (r : Result Effect TypeFault). with_fault r c.arguments_fault.result) c.operand_row-row.ensures
    ∙ ap (with_fault (source_row Q c.args.cr c.args.top c.args.depth settled (source_of Q settled.operand))) fault
