use Rattle.std.proofs.Common.{sym}
use Rattle.il_lister.proofs.Parts.{equally, stop, then}
use Rattle.il_lister.proofs.literal.write_double_word.Goals as goal

pub returns-in_err-write_text : goal.returns-in_err-write_text
returns-in_err-write_text g c = equally (sym c.halves-high.ensures) (stop _ c.from_residual.ensures.0 (equally c.hex_word.ensures c.in_err-write_text.ensures))

pub returns : goal.returns
returns g c = equally (sym c.halves-high.ensures) (then (equally c.hex_word.ensures c.in_ok-write_text.ensures) (equally c.hex_word-2.ensures c.write_text-2.ensures))
