use Rattle.std.proofs.Common.{◌≤◌, sym, arith}
use Rattle.il_values.proofs.Shifts.{left_gone}
use Rattle.il_values.proofs.shift.word_left.Goals as goal

pub returns-else-places-lt16 : goal.returns-else-places-lt16
returns-else-places-lt16 c = let far : 16 ≤ c.args.places = omega (arith, c.if-places-lt16.false) in sym (left_gone 16 c.args.bits c.args.places far)
