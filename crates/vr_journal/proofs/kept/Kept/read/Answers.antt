use Rattle.std.proofs.Common.{map}
use Rattle.vr_journal.specs.Records.{entry}
use Rattle.vr_journal.proofs.WholeFiles.{keeps_if_read}
use Rattle.vr_journal.proofs.kept.Kept.read.Goals as goal

pub returns-clause-kept : goal.returns-clause-kept
returns-clause-kept c =
    let found = c.in_ok-found.found in
    keeps_if_read c.args.owner.now c.args.bytes.now (map entry found.records.items) found.length found.sum c.kept_in.result c.in_ok-found.ensures.read c.in_ok-found.ensures.sum
    c.kept_in.ensures.kept c.kept_in.ensures.place
