use Rattle.std.proofs.Common.{◌≡◌, ◌-◌, []}
use Rattle.il_loader.specs.Reading.{items_from, mark_at}
use Rattle.il_loader.proofs.reading.labels_of.Given as goal

abbrev pub invariant-loop : goal.invariant-loop
invariant-loop l = items_from (mark_at l.version l.total) (l.count - l.counter) l.seen l.rest ≡ items_from (mark_at l.version l.total) l.count [] l.bytes
