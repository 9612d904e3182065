-- The numbers of stops, which frames and printed lines have.
use Rattle.std.specs.Prelude.{ℕ}
use Rattle.il_values.specs.declared.value.Stop.{Stop}
use Rattle.il_values.specs.declared.value.Stop.TheVariants as stop

abbrev pub stop_number : Stop → ℕ
stop_number stop.Overflow = 1
stop_number stop.ZeroDivisor = 2
stop_number stop.Budget = 3
