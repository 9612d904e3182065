use Rattle.std.proofs.Common.{◌≡◌, inl, inr, sym, ◌∙◌}
use Rattle.il_text.specs.Meaning.{IsTextFault}
use Rattle.il_text.specs.Telling.{status_of}
use Rattle.plc_tool.proofs.Endings.{first_told, refused}
use Rattle.plc_tool.proofs.calls.sim_without_schedule.Goals as goal

pub returns-clause-refused : goal.returns-clause-refused
returns-clause-refused g c = λ one.
    let input = sym c.tell.ensures.status ∙ one in
    elim (first_told c.args.source.now (λ _. status_of c.args.fault ≡ 1) c.args.fault c.first_fault.result c.first_fault.ensures (λ other. other) input) [
      | inl told ↦ inl (refused (IsTextFault c.args.source.now) (c.first_fault.result, input, told))
      | inr other ↦ inr other.0
    ]

pub returns-clause-told : goal.returns-clause-told
returns-clause-told g c = (c.first_fault.result, c.first_fault.ensures, c.tell.ensures.status, c.tell.ensures.line)
