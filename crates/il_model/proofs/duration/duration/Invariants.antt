use Rattle.std.proofs.Common.{◌≡◌, ◌≤◌, ◌+◌, ◌-◌, ◌*◌}
use Rattle.std.specs.Prelude.{option_map}
use Rattle.il_model.specs.Literals.{held_integer, parts_by}
use Rattle.il_model.proofs.duration.duration.Given as goal

abbrev pub invariant-loop : goal.invariant-loop
invariant-loop l = record {
  small : l.total ≤ l.counter * 2475880078570760549798248448;
  same : option_map (λ n. l.total + n) (parts_by held_integer (5 - l.counter) l.limit l.rest) ≡ parts_by held_integer 5 5 l.bytes;
}
