use Rattle.std.proofs.Common.{rules}
use Rattle.plc_epochs.specs.GoingOn.{GoesOn}
use Rattle.plc_store.specs.Spelling.{saying}
use Rattle.plc_store.proofs.GoingOn.{next_or_before}
use Rattle.plc_store.proofs.keeping.keep.Goals as goal

pub returns-clause-whole : goal.returns-clause-whole
returns-clause-whole g c =
    let on : GoesOn c.in_ok-store.store.header.kept c.args.kept.now = search rules in
    next_or_before (g.D.StoreDirectory.group c.args.directory.now) (g.D.StoreDirectory.group c.go_on.new.directory) (saying c.in_ok-store.store) c.args.kept.now c.args.drawn
    c.in_ok-store.ensures.found on c.go_on.ensures.whole
