use Rattle.std.proofs.Common.{◌≡◌, ◌-◌, []}
use Rattle.il_loader.specs.Reading.{items_from, next_word}
use Rattle.il_loader.proofs.reading.words_of.Given as goal

abbrev pub invariant-loop : goal.invariant-loop
invariant-loop l = items_from (next_word l.tables.version l.total l.tables.declared.now l.tables.labels.now l.tables.constants.now) (l.count - l.counter) l.found.items l.rest ≡ items_from (next_word l.tables.version l.total l.tables.declared.now l.tables.labels.now l.tables.constants.now) l.count [] l.bytes
