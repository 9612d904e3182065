use Rattle.std.proofs.Common.{◌≤◌, sym, arith}
use Rattle.il_values.proofs.Shifts.{left_gone}
use Rattle.il_values.proofs.shift.double_word_left.Goals as goal

pub returns-else-places-lt32 : goal.returns-else-places-lt32
returns-else-places-lt32 c = let far : 32 ≤ c.args.places = omega (arith, c.if-places-lt32.false) in sym (left_gone 32 c.args.bits c.args.places far)
