use Rattle.std.proofs.Common.{length, ap, arith}
use Rattle.plc_json.specs.Commands.{forced_pair}
use Rattle.plc_json.proofs.Pairs.{no_pair}
use Rattle.plc_json.proofs.command.forced_at.Goals.{in_default-via-then-as_slice-lt2, in_default-via-else-as_slice-lt2+else-this-lt3}
use Rattle.plc_json.proofs.command.forced_at.Goals as goal

pub returns-in_default : goal.returns-in_default
returns-in_default c = no_pair forced_pair _ c.in_ok-as_array.field-0.now.items c.in_ok-as_array.ensures (λ e. let n = ap length c.as_slice.ensures.value in elim c.in_default.branch [
  | in_default-via-then-as_slice-lt2 w ↦ grind (arith, n, e, w)
  | in_default-via-else-as_slice-lt2+else-this-lt3 w ↦ grind (arith, n, e, w)
])
