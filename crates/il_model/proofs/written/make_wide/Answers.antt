use Rattle.std.proofs.Common.{sym, ◌≤ℤ◌, ◌<ℤ◌, arith}
use Rattle.std.specs.Prelude.{pos, negsuc}
use Rattle.std.proofs.lemmas.Int.{ints}
use Rattle.il_values.proofs.RealValues.{typed_low, typed_high}
use Rattle.il_model.proofs.written.make_wide.Goals as goal
use Rattle.il_model.proofs.written.make_wide.Goals.{else-z-geminus9223372036854775808-via-then-z-geminus9223372036854775808+else-z-lt9223372036854775808, else-z-geminus9223372036854775808-via-else-z-geminus9223372036854775808}

pub returns-else-z-geminus9223372036854775808 : goal.returns-else-z-geminus9223372036854775808
returns-else-z-geminus9223372036854775808 c = elim c.else-z-geminus9223372036854775808.branch [
  | else-z-geminus9223372036854775808-via-then-z-geminus9223372036854775808+else-z-lt9223372036854775808 w ↦ let high : pos 9223372036854775808 ≤ℤ c.args.z = first_of (omega (arith, ints), search (arith, ints), grind (arith, ints)) in sym (typed_high c.args.ty c.args.z high)
  | else-z-geminus9223372036854775808-via-else-z-geminus9223372036854775808 w ↦ let low : c.args.z <ℤ negsuc 9223372036854775807 = first_of (omega (arith, ints), search (arith, ints), grind (arith, ints)) in sym (typed_low c.args.ty c.args.z low)
]
