use Rattle.std.proofs.Common.{◌≡◌, ◌-◌}
use Rattle.vr_wire.specs.MessageReading.{table_from}
use Rattle.vr_wire.proofs.Tables.{with_table}
use Rattle.vr_wire.proofs.log.table_of.Given as goal

abbrev pub invariant-loop-client : goal.invariant-loop-client
invariant-loop-client l = with_table l.table.items (table_from (16 - l.client) l.client l.rest) ≡ table_from 16 0 l.answers
