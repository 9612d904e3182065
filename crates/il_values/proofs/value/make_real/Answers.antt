use Rattle.std.proofs.Common.{sym, ◌≤ℤ◌, ◌<ℤ◌, arith}
use Rattle.std.specs.Prelude.{pos}
use Rattle.std.proofs.lemmas.Int.{ints}
use Rattle.il_values.proofs.RealValues.{real_low, real_high}
use Rattle.il_values.proofs.value.make_real.Goals as goal
use Rattle.il_values.proofs.value.make_real.Goals.{else-z-ge0-via-then-z-ge0+else-z-lt4294967296, else-z-ge0-via-else-z-ge0}

pub returns-else-z-ge0 : goal.returns-else-z-ge0
returns-else-z-ge0 c = elim c.else-z-ge0.branch [
  | else-z-ge0-via-then-z-ge0+else-z-lt4294967296 w ↦ let high : pos 4294967296 ≤ℤ c.args.z = first_of (omega (arith, ints), search (arith, ints), grind (arith, ints)) in sym (real_high c.args.z high)
  | else-z-ge0-via-else-z-ge0 w ↦ let low : c.args.z <ℤ pos 0 = first_of (omega (arith, ints), search (arith, ints), grind (arith, ints)) in sym (real_low c.args.z low)
]
