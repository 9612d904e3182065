use Rattle.std.proofs.Common.{◌≤◌, ◌<◌, ◌^◌, sym, arith}
use Rattle.il_values.proofs.Shifts.{right_gone}
use Rattle.il_values.proofs.shift.double_word_right.Goals as goal

pub returns-else-places-lt32 : goal.returns-else-places-lt32
returns-else-places-lt32 c =
    let far : 32 ≤ c.args.places = omega (arith, c.if-places-lt32.false) in
    let small : c.args.bits < 2 ^ 32 = first_of (omega arith, search arith) in
    sym (right_gone 32 c.args.bits c.args.places small far)
