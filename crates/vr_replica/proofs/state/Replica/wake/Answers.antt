use Rattle.std.proofs.Common.{refl}
use Rattle.vr_replica.proofs.Acting.{hears_not, hears_restart, deaf_to_all, not_to_restart}
use Rattle.vr_replica.proofs.Unfit.{restart_fits}
use Rattle.vr_replica.proofs.state.Replica.wake.Goals as goal

pub returns-in-Restart-clause-row : goal.returns-in-Restart-clause-row
returns-in-Restart-clause-row g c = λ m r st is.
    hears_restart g.S.ViewStore.load_gives g.S.ViewStore.save_gives m r c.args.store.now is c.come_up.new.self c.come_up.new.store c.come_up.result c.args.event.now c.in-Restart.nonce c.in-Restart.is (c.come_up.ensures.row m r st)

pub returns-in-Restart-clause-down : goal.returns-in-Restart-clause-down
returns-in-Restart-clause-down g c = (λ e. absurd (c.come_up.ensures.up e), λ deaf. absurd (not_to_restart c.args.self.now c.args.event.now c.in-Restart.nonce c.in-Restart.is deaf))

pub returns-in_default-clause-row : goal.returns-in_default-clause-row
returns-in_default-clause-row g c = λ m r st is.
    hears_not g.S.ViewStore.load_gives g.S.ViewStore.save_gives m r c.args.store.now is c.args.self.now c.args.event.now c.in_default.not-Restart st

pub returns-in_default-clause-down : goal.returns-in_default-clause-down
returns-in_default-clause-down g c = (λ e. deaf_to_all c.args.self.now c.args.event.now c.in_default.not-Restart c.requires, λ deaf. refl)

pub returns-in-Restart-clause-dropped : goal.returns-in-Restart-clause-dropped
returns-in-Restart-clause-dropped g c = λ unfit. absurd (restart_fits c.args.self.now.core c.args.event.now c.in-Restart.nonce c.in-Restart.is unfit)
