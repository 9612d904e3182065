use Rattle.std.proofs.Common.{rules, ◌<◌, arith}
use Rattle.vr_model.specs.Groups.{most_replicas}
use Rattle.plc_store.specs.Spelling.{saying}
use Rattle.plc_store.proofs.GoingOn.{seen_or_before}
use Rattle.plc_store.proofs.keeping.see.Goals as goal

pub returns-clause-whole : goal.returns-clause-whole
returns-clause-whole g c =
    let lt : c.args.machine < most_replicas = search rules in
    seen_or_before (g.D.StoreDirectory.group c.args.directory.now) (g.D.StoreDirectory.group c.put.new.directory) c.args.machine c.args.seen (saying c.in_ok-store.store) (saying c.with_seen.result)
    c.in_ok-store.ensures.found lt c.with_seen.ensures c.put.ensures.whole
