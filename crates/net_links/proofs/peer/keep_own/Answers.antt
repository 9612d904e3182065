use Rattle.std.proofs.Common.{List, subst, sym, rules}
use Rattle.std.proofs.lemmas.Fn.{filter_same}
use Rattle.vr_model.specs.declared.message.Message.{Message}
use Rattle.net_links.specs.Own.{AreBetween}
use Rattle.net_links.proofs.Own.{own_are_between}
use Rattle.net_links.proofs.peer.keep_own.Goals as goal

pub returns-clause-own : goal.returns-clause-own
returns-clause-own c = filter_same _ _ _ (λ x b f k. search rules) _ _ c.retain.ensures.filtered

pub returns-clause-all : goal.returns-clause-all
returns-clause-all c = subst (λ (ms : List Message). AreBetween c.args.from c.args.to ms) (sym (returns-clause-own c)) (own_are_between c.args.from c.args.to c.args.messages.now.items)
