use Rattle.std.proofs.Common.{◌≡◌, ◌-◌, []}
use Rattle.il_loader.specs.Reading.{items_from}
use Rattle.il_records.specs.Fields.{constant_at}
use Rattle.il_loader.proofs.reading.constants_of.Given as goal

abbrev pub invariant-loop : goal.invariant-loop
invariant-loop l = items_from (constant_at l.version l.total) (l.count - l.counter) l.seen l.rest ≡ items_from (constant_at l.version l.total) l.count [] l.bytes
