use Rattle.std.proofs.Common.{ℕ, List, [], ◌++◌, ap, ◌∙◌}
use Rattle.std.specs.Prelude.{codes}
use Rattle.net_keys.specs.Hmac.{hmac}
use Rattle.net_keys.proofs.key.Key.of_pair.Goals as goal

pub returns : goal.returns
returns c =
    let key : List ℕ = c.args.self.now.bytes in
    let label : List ℕ = codes "PLC-VR machines" in
    let none : List ℕ = [] in
    c.finalize.ensures key (label ++ c.in_order.result) (c.update-2.ensures key label (c.update.ensures key none c.new-hmac.ensures))
    ∙ ap (λ (x : List ℕ). hmac key (label ++ x)) c.in_order.ensures
