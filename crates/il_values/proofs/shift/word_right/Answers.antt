use Rattle.std.proofs.Common.{◌≤◌, ◌<◌, ◌^◌, sym, arith}
use Rattle.il_values.proofs.Shifts.{right_gone}
use Rattle.il_values.proofs.shift.word_right.Goals as goal

pub returns-else-places-lt16 : goal.returns-else-places-lt16
returns-else-places-lt16 c =
    let far : 16 ≤ c.args.places = omega (arith, c.if-places-lt16.false) in
    let small : c.args.bits < 2 ^ 16 = first_of (omega arith, search arith) in
    sym (right_gone 16 c.args.bits c.args.places small far)
