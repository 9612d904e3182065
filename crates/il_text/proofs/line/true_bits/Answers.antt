use Rattle.std.proofs.Common.{arith, refl}
use Rattle.il_text.specs.Lines.{bit_text}
use Rattle.il_text.proofs.Numbered.{none_written, more_written, all_written}
use Rattle.il_text.proofs.line.true_bits.Goals as goal

pub loop-number-init : goal.loop-number-init
loop-number-init g c = λ plain. none_written _ bit_text c.args.bits.now _ plain

pub loop-number-preserved : goal.loop-number-preserved
loop-number-preserved g c = λ plain. let h = c.loop-number.invariant plain in more_written _ bit_text c.args.bits.now _ _ _ _ _ (omega arith) h (c.in_ok-true_bit.ensures h.plain refl)

pub returns : goal.returns
returns g c = λ plain ok. all_written _ bit_text c.args.bits.now _ _ _ c.loop-number-test.false (c.loop-number.invariant plain)
