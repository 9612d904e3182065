use Rattle.std.proofs.Common.{◌≡◌, ◌++◌, drop, map}
use Rattle.vr_journal.specs.Records.{entry}
use Rattle.vr_journal.specs.Journals.{inputs}
use Rattle.vr_journal.proofs.kept.inputs_in.Given as goal

abbrev pub invariant-loop-record : goal.invariant-loop-record
invariant-loop-record l = map (λ v. v.items) l.found.items ++ inputs (map entry (drop l.record-index l.records))
    ≡ inputs (map entry l.records)
