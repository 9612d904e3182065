use Rattle.std.proofs.Common.{List, [], ◌∷◌, ◌++◌, ◌∙◌, ap}
use Rattle.vr_model.specs.declared.message.Message as sent
use Rattle.vr_recovery.proofs.CatchingUp.{holds_so}
use Rattle.vr_recovery.proofs.holding.hold.Goals as goal

pub returns : goal.returns
returns c =
    holds_so c.args.core.now c.execute_to.new.self c.args.commit_number c.args.changes c.acknowledgement.result c.push_reserved.new.self.items c.execute_to.ensures c.acknowledgement.ensures
    (c.push_reserved.ensures.items ∙ ap (λ (xs : List sent.Message). xs ++ c.acknowledgement.result ∷ []) c.requires.empty)
