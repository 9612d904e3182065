use Rattle.il_real.proofs.Values.{number_not_nan}
use Rattle.il_real.proofs.text.is_negative.Goals as goal

pub is_sign_negative-requires : goal.is_sign_negative-requires
is_sign_negative-requires c = rw c.number.ensures (number_not_nan c.args.real)
