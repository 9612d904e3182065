use Rattle.std.proofs.Common.{rules, ◌≡◌, ℕ, List, Option, Ok, ap, ◌∙◌, option_map}
use Rattle.plc_store.specs.Keeping.{kept_by_hand, with_image, with_kept}
use Rattle.plc_store.specs.Spelling.{Saying, saying}
use Rattle.plc_store.proofs.GoingOn.{by_hand_or_before}
use Rattle.plc_store.proofs.keeping.enter_by_hand.Goals as goal

pub returns-clause-whole : goal.returns-clause-whole
returns-clause-whole g c =
    let image : Option (List ℕ) = option_map (λ v. v.items) c.args.image in
    let found : Saying = saying c.in_ok-store.store in
    let by : kept_by_hand found.header (with_image found image).header.program c.args.into ≡ Ok c.in_ok-kept.kept = search rules in
    by_hand_or_before (g.D.StoreDirectory.group c.args.directory.now) (g.D.StoreDirectory.group c.put.new.directory) image c.args.into found (saying c.with_kept.result) c.in_ok-kept.kept c.args.drawn
    c.in_ok-store.ensures.found by (c.with_kept.ensures ∙ ap (λ (x : Saying). with_kept x c.in_ok-kept.kept c.args.drawn) c.in_ok-store-2.ensures.made) c.put.ensures.whole
