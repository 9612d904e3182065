use Rattle.std.proofs.Common.{sym, arith}
use Rattle.std.proofs.lemmas.Option.{slice_get_past}
use Rattle.il_values.specs.BitStrings.{shift_list}
use Rattle.il_values.proofs.shift.Shift.of_code.Goals as goal

pub returns-then-code-ge68 : goal.returns-then-code-ge68
returns-then-code-ge68 c = sym (slice_get_past shift_list _ (omega (arith, c.if-code-ge68.true)))
