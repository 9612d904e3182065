use Rattle.std.proofs.Common.{List, subst, sym, rules}
use Rattle.std.proofs.lemmas.Fn.{filter_same}
use Rattle.std.proofs.lemmas.List.Elements.{filter_passes}
use Rattle.vr_model.specs.declared.message.Message.{Message}
use Rattle.net_peers.specs.Passing.{MayPass, may_pass}
use Rattle.net_peers.proofs.connection.keep_passing.Goals as goal

pub returns-clause-kept : goal.returns-clause-kept
returns-clause-kept c = filter_same _ _ _ (λ x b f k. search rules) _ _ c.retain.ensures.filtered

pub returns-clause-all : goal.returns-clause-all
returns-clause-all c = subst (λ (ms : List Message). MayPass c.args.from c.args.to ms) (sym (returns-clause-kept c))
    (filter_passes (may_pass c.args.from c.args.to) c.args.messages.now.items)
