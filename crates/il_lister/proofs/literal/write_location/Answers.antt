use Rattle.il_lister.proofs.Parts.{stop, then}
use Rattle.il_lister.proofs.literal.write_location.Goals as goal

pub returns-in_err-write_text-in-Bit : goal.returns-in_err-write_text-in-Bit
returns-in_err-write_text-in-Bit g c = rw c.in-Bit.is (stop _ c.from_residual.ensures.0 c.in_err-write_text-in-Bit.ensures)

pub returns-in_err-write_area-in-Bit : goal.returns-in_err-write_area-in-Bit
returns-in_err-write_area-in-Bit g c = rw c.in-Bit.is (then c.in_ok-write_text-in-Bit.ensures (stop _ c.from_residual-in_err-write_area-in-Bit.ensures.0 c.in_err-write_area-in-Bit.ensures))

pub returns-in_err-write_text-in-Bit-2 : goal.returns-in_err-write_text-in-Bit-2
returns-in_err-write_text-in-Bit-2 g c = rw c.in-Bit.is (then c.in_ok-write_text-in-Bit.ensures (then c.in_ok-write_area-in-Bit.ensures (stop _ c.from_residual-in_err-write_text-in-Bit-2.ensures.0 c.in_err-write_text-in-Bit-2.ensures)))

pub returns-in_err-write_decimal-in-Bit : goal.returns-in_err-write_decimal-in-Bit
returns-in_err-write_decimal-in-Bit g c = rw c.in-Bit.is (then c.in_ok-write_text-in-Bit.ensures (then c.in_ok-write_area-in-Bit.ensures (then c.in_ok-write_text-in-Bit-2.ensures (stop _ c.from_residual-in_err-write_decimal-in-Bit.ensures.0 c.in_err-write_decimal-in-Bit.ensures))))

pub returns-in_err-write_text-in-Bit-3 : goal.returns-in_err-write_text-in-Bit-3
returns-in_err-write_text-in-Bit-3 g c = rw c.in-Bit.is (then c.in_ok-write_text-in-Bit.ensures (then c.in_ok-write_area-in-Bit.ensures (then c.in_ok-write_text-in-Bit-2.ensures (then c.in_ok-write_decimal-in-Bit.ensures (stop _ c.from_residual-in_err-write_text-in-Bit-3.ensures.0 c.in_err-write_text-in-Bit-3.ensures)))))

pub returns-in_ok-write_text-in-Bit-3 : goal.returns-in_ok-write_text-in-Bit-3
returns-in_ok-write_text-in-Bit-3 g c = rw c.in-Bit.is (then c.in_ok-write_text-in-Bit.ensures (then c.in_ok-write_area-in-Bit.ensures (then c.in_ok-write_text-in-Bit-2.ensures (then c.in_ok-write_decimal-in-Bit.ensures (then c.in_ok-write_text-in-Bit-3.ensures c.write_decimal-in-Bit.ensures)))))

pub returns-in_err-write_text-in-Double : goal.returns-in_err-write_text-in-Double
returns-in_err-write_text-in-Double g c = rw c.in-Double.is (stop _ c.from_residual-in_err-write_text-in-Double.ensures.0 c.in_err-write_text-in-Double.ensures)

pub returns-in_err-write_area-in-Double : goal.returns-in_err-write_area-in-Double
returns-in_err-write_area-in-Double g c = rw c.in-Double.is (then c.in_ok-write_text-in-Double.ensures (stop _ c.from_residual-in_err-write_area-in-Double.ensures.0 c.in_err-write_area-in-Double.ensures))

pub returns-in_err-write_text-in-Double-2 : goal.returns-in_err-write_text-in-Double-2
returns-in_err-write_text-in-Double-2 g c = rw c.in-Double.is (then c.in_ok-write_text-in-Double.ensures (then c.in_ok-write_area-in-Double.ensures (stop _ c.from_residual-in_err-write_text-in-Double-2.ensures.0 c.in_err-write_text-in-Double-2.ensures)))

pub returns-in_ok-write_text-in-Double-2 : goal.returns-in_ok-write_text-in-Double-2
returns-in_ok-write_text-in-Double-2 g c = rw c.in-Double.is (then c.in_ok-write_text-in-Double.ensures (then c.in_ok-write_area-in-Double.ensures (then c.in_ok-write_text-in-Double-2.ensures c.write_decimal-in-Double.ensures)))

pub returns-in-Word : goal.returns-in-Word
returns-in-Word g c = rw c.in-Word.is c.write_word.ensures

pub returns-in-Pattern : goal.returns-in-Pattern
returns-in-Pattern g c = rw c.in-Pattern.is c.write_word-in-Pattern.ensures
