use Rattle.std.proofs.Common.{◌≡◌, drop, map}
use Rattle.vr_journal.specs.Records.{entry}
use Rattle.vr_journal.specs.Journals.{last, last_behind, numbers}
use Rattle.vr_journal.proofs.kept.last_number.Given as goal

abbrev pub invariant-loop-record : goal.invariant-loop-record
invariant-loop-record l = last_behind l.last (numbers l.kind (map entry (drop l.record-index l.records)))
    ≡ last (numbers l.kind (map entry l.records))
