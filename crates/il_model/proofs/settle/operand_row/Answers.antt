use Rattle.std.proofs.Common.{sym, ap, ◌∙◌, false}
use Rattle.il_values.specs.declared.value.Ty.{Ty}
use Rattle.il_model.specs.declared.typing.OperandKind.TheVariants as kinds
use Rattle.il_model.specs.Program.{Program}
use Rattle.il_model.specs.Row.{row}
use Rattle.il_model.specs.Checking.{source_row}
use Rattle.il_model.proofs.SettledPrograms.{literal_row, other_row}
use Rattle.il_model.proofs.settle.operand_row.Goals as goal

pub returns-in-Some : goal.returns-in-Some
returns-in-Some c =
    c.row_of.ensures
    ∙ ap (λ (t : Ty). row c.args.cr c.args.top c.args.depth c.args.line.now.op c.args.line.now.modifier (kinds.Typed t false)) c.ty.ensures
    ∙ sym (literal_row c.args.program.now c.args.cr c.args.top c.args.depth c.args.line.now c.in-Some.v (sym c.requires ∙ c.in-Some.is))

pub returns-in-None : goal.returns-in-None
returns-in-None c =
    c.source_row.ensures
    ∙ ap (λ (Q : Program). source_row Q c.args.cr c.args.top c.args.depth c.args.line.now c.source_of.result) c.program.ensures
    ∙ ap (source_row c.args.program.now c.args.cr c.args.top c.args.depth c.args.line.now) c.source_of.ensures
    ∙ sym (other_row c.args.program.now c.args.cr c.args.top c.args.depth c.args.line.now (sym c.requires ∙ c.in-None.is))
