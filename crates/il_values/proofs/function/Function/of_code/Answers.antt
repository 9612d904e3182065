use Rattle.std.proofs.Common.{◌-◌, sym, arith}
use Rattle.std.proofs.lemmas.Option.{slice_get_past}
use Rattle.il_values.specs.Functions.{function_list}
use Rattle.il_values.proofs.function.Function.of_code.Goals as goal

pub returns-then-code-ge52 : goal.returns-then-code-ge52
returns-then-code-ge52 c = sym (slice_get_past function_list (c.args.code - 32) (omega (arith, c.if-code-ge52.true)))
