use Rattle.std.specs.Fmt.{HasWritten, IsPlainFormatter}
use Rattle.il_text.specs.Lines.{word_text}
use Rattle.il_text.proofs.Numbered.{texts_before}
use Rattle.il_text.proofs.line.words_not_0.Given as goal

abbrev pub invariant-loop-number : goal.invariant-loop-number
invariant-loop-number g l =
    IsPlainFormatter l.initial.f → HasWritten g.W.Write.write_str_gives l.initial.f (texts_before word_text l.words l.number) l.f
