use Rattle.std.specs.Fmt.{HasWritten, IsPlainFormatter}
use Rattle.il_text.specs.Lines.{bit_text}
use Rattle.il_text.proofs.Numbered.{texts_before}
use Rattle.il_text.proofs.line.true_bits.Given as goal

abbrev pub invariant-loop-number : goal.invariant-loop-number
invariant-loop-number g l =
    IsPlainFormatter l.initial.f → HasWritten g.W.Write.write_str_gives l.initial.f (texts_before bit_text l.bits l.number) l.f
