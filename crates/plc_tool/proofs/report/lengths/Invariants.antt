use Rattle.std.specs.Fmt.{HasWritten, IsPlainFormatter}
use Rattle.plc_tool.specs.Reports.{length_text}
use Rattle.il_text.proofs.Numbered.{texts_before}
use Rattle.plc_tool.proofs.report.lengths.Given as goal

abbrev pub invariant-loop-index : goal.invariant-loop-index
invariant-loop-index g l =
    IsPlainFormatter l.initial.f → HasWritten g.W.Write.write_str_gives l.initial.f (texts_before length_text l.lengths l.index) l.f
