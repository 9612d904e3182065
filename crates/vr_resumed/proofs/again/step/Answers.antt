use Rattle.std.proofs.Common.{refl}
use Rattle.vr_resumed.specs.declared.store.SavedByCaller.{SavedByCaller}
use Rattle.vr_resumed.proofs.TakenUp.{steps, stays, no_fault}
use Rattle.vr_resumed.proofs.again.step.Goals as goal

pub returns-clause-ok : goal.returns-clause-ok
returns-clause-ok c =
    steps {S = SavedByCaller} (λ s o t. Unit {0}) (λ s v b t. Unit {0}) c.args.replica.now c.step.new.self (record { view = 0 }) c.step.new.store c.args.event c.step.result c.step.ensures.row

pub returns-clause-err : goal.returns-clause-err
returns-clause-err c =
    stays {S = SavedByCaller} (λ s o t. Unit {0}) (λ s v b t. Unit {0}) c.args.replica.now c.step.new.self (record { view = 0 }) c.step.new.store c.args.event c.step.result c.step.ensures.row
    (λ e. no_fault 0 refl (c.step.ensures.device e))
