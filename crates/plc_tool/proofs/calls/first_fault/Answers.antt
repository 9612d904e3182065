use Rattle.std.proofs.Common.{inl, inr, ℕ, List, subst, sym}
use Rattle.il_text.specs.declared.fault.Fault.{Fault}
use Rattle.il_text.specs.Meaning.{IsTextFault, IsFirstFault, OrMemory}
use Rattle.plc_tool.proofs.calls.first_fault.Goals as goal
use Rattle.plc_tool.proofs.calls.first_fault.Goals.{in-Ok, in-Err}

-- the text's fault is told first, and want of memory is too
of_the_text : (text : List ℕ) (fault told : Fault) → OrMemory (IsTextFault text) told → IsFirstFault text fault told
of_the_text text fault told (inl first) = inl (inl first)
of_the_text text fault told (inr memory) = inr memory

pub returns : goal.returns
returns c = elim c.match-image.branch [
  | in-Ok w ↦ inl (inr (w.result-is, (w.in-Ok.field-0, w.in-Ok.ensures.found)))
  | in-Err w ↦ subst (IsFirstFault c.args.source.now c.args.fault) (sym w.result-is) (of_the_text c.args.source.now c.args.fault w.in-Err.of_source w.in-Err.ensures.refused)
]
