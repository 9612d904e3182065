use Rattle.std.proofs.Common.{sym, ap, ◌∙◌, map, reverse, ◌&&◌}
use Rattle.std.specs.Option.{option_map}
use Rattle.il_values.specs.Values.{ty_of}
use Rattle.ctl_model.specs.Suits.{held_of}
use Rattle.ctl_model.specs.Snapshots.{same_optional, all_held}
use Rattle.ctl_machine.proofs.HeldBack.{held_as}
use Rattle.ctl_machine.proofs.arrival.are_of.Goals as goal

pub returns-then-is_of : goal.returns-then-is_of
returns-then-is_of c =
    let cr = sym c.if-is_of.true ∙ c.is_of.ensures ∙ ap (same_optional (option_map ty_of c.args.cr)) c.cr.ensures in
    c.all_of.ensures ∙ held_as c.args.deferred.now c.held.result.now c.args.types.now.kept c.held.ensures
    ∙ ap (λ b. b && all_held (map held_of (reverse c.args.deferred.now)) c.args.types.now.kept) cr
