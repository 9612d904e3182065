use Rattle.std.proofs.Common.{◌≡◌, ◌-◌, []}
use Rattle.il_loader.specs.Reading.{items_from, instance_at}
use Rattle.il_loader.proofs.reading.instances_of.Given as goal

abbrev pub invariant-loop : goal.invariant-loop
invariant-loop l = items_from (instance_at l.version l.total l.variables) (l.count - l.counter) l.seen l.rest ≡ items_from (instance_at l.version l.total l.variables) l.count [] l.bytes
