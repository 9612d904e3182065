use Rattle.std.proofs.Common.{rules, ◌≡◌, ap, ◌∙◌}
use Rattle.plc_store.specs.Judging.{is_changed}
use Rattle.plc_store.specs.Showing.{shown}
use Rattle.plc_store.specs.Spelling.{saying}
use Rattle.plc_store.proofs.showing.show_directory.Goals as goal

pub returns : goal.returns
returns g c =
    let marked : c.is_changed-is_changed.result ≡ is_changed c.in_ok-store.store.header.kept (g.D.StoreDirectory.mark c.args.directory.now) = search rules in
    (saying c.in_ok-store.store, c.in_ok-store.ensures.spelled, c.in_ok-show.ensures ∙ ap (shown (saying c.in_ok-store.store)) marked)
