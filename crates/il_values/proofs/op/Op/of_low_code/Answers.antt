use Rattle.std.proofs.Common.{sym}
use Rattle.std.proofs.lemmas.Bool.{ne_eqb}
use Rattle.std.proofs.lemmas.Option.{slice_get_past}
use Rattle.il_values.specs.OpCodes.{op_list}
use Rattle.il_values.proofs.op.Op.of_low_code.Goals as goal

pub returns-then-code-ge26 : goal.returns-then-code-ge26
returns-then-code-ge26 c = rw (ne_eqb c.args.code 28 c.if-code-eq28.false, ne_eqb c.args.code 29 c.if-code-eq29.false, ne_eqb c.args.code 30 c.if-code-eq30.false, ne_eqb c.args.code 31 c.if-code-eq31.false) (sym (slice_get_past op_list c.args.code c.if-code-ge26.true))
