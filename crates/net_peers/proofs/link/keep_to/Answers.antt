use Rattle.std.proofs.Common.{List, subst, sym, rules}
use Rattle.std.proofs.lemmas.Fn.{filter_same}
use Rattle.std.proofs.lemmas.List.Elements.{filter_passes}
use Rattle.vr_model.specs.declared.message.Message.{Message}
use Rattle.net_links.specs.Own.{is_same}
use Rattle.net_peers.specs.Passing.{AreTo}
use Rattle.net_peers.proofs.link.keep_to.Goals as goal

pub returns : goal.returns
returns c =
    let to = λ (m : Message). is_same m.to c.args.party in
    subst (λ (ms : List Message). AreTo c.args.party ms)
    (sym (filter_same _ to _ (λ x b f k. search rules) _ _ c.retain.ensures.filtered))
    (filter_passes to c.args.messages.now.items)
