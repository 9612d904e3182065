use Rattle.std.proofs.Common.{◌≡◌, ◌≤◌, ◌-◌, drop, length, map}
use Rattle.vr_journal.specs.Records.{Stand, entry, first_sum, sum_behind_all}
use Rattle.vr_journal.proofs.reading.read.Given as goal

abbrev pub invariant-records : goal.invariant-records
invariant-records l = record {
  within : l.found.length ≤ length l.bytes;
  stand : Stand first_sum l.bytes (map entry l.found.records.items) (drop l.found.length l.bytes);
  sum : l.found.sum ≡ sum_behind_all first_sum (map entry l.found.records.items);
}

abbrev pub decreases-records : goal.decreases-records
decreases-records l = length l.bytes - l.found.length
