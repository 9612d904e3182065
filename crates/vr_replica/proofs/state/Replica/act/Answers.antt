use Rattle.std.proofs.Common.{◌≡◌, Err, refl, rules}
use Rattle.vr_replica.specs.declared.fault.StepFault.TheVariants as fault
use Rattle.vr_replica.specs.declared.state.Replica.{Replica}
use Rattle.vr_replica.proofs.Acting.{went_on, was_saved, save_failed, was_lost}
use Rattle.vr_replica.proofs.Unfit.{saves_none, drops_ok, drops_err}
use Rattle.vr_replica.proofs.state.Replica.act.Goals as goal

pub returns-in_err-sends-clause-row : goal.returns-in_err-sends-clause-row
returns-in_err-sends-clause-row g c = λ m r st up.
    let new : Replica = record { core = c.by_rule.new.core } in
    let is : c.from_residual.result ≡ Err fault.Memory = search rules in
    let s = c.args.store.now in
    was_lost g.S.ViewStore.load_gives g.S.ViewStore.save_gives c.args.self.now.core m r s s (st.up up) up st.recovering new c.in_err-sends.field-0.0 c.args.event c.from_residual.result is c.in_err-sends.ensures.rule refl

pub returns-then-self-stored_view-clause-row : goal.returns-then-self-stored_view-clause-row
returns-then-self-stored_view-clause-row g c = λ m r st up.
    let new : Replica = record { core = c.by_rule.new.core } in
    let s = c.args.store.now in
    went_on g.S.ViewStore.load_gives g.S.ViewStore.save_gives c.args.self.now.core m r s s (st.up up) up st.recovering new c.in_ok-sends.sends c.args.event c.in_ok-sends.ensures.rule c.if-self-stored_view.true refl

pub returns-in-Ok-clause-row : goal.returns-in-Ok-clause-row
returns-in-Ok-clause-row g c = λ m r st up.
    let new : Replica = record { core = c.by_rule.new.core } in
    was_saved g.S.ViewStore.load_gives g.S.ViewStore.save_gives c.args.self.now.core m r c.args.store.now c.save.new.self (st.up up) up st.recovering new c.in_ok-sends.sends c.args.event c.in_ok-sends.ensures.rule c.if-self-stored_view.false c.in-Ok.ensures.gives

pub returns-in-Err-clause-row : goal.returns-in-Err-clause-row
returns-in-Err-clause-row g c = λ m r st up.
    let mid : Replica = record { core = c.by_rule.new.core } in
    save_failed g.S.ViewStore.load_gives g.S.ViewStore.save_gives c.args.self.now.core m r c.args.store.now c.save.new.self (st.up up) up st.recovering mid c.go_down.new.self c.in_ok-sends.sends c.args.event c.go_down.result c.go_down.ensures.answer c.in_ok-sends.ensures.rule c.if-self-stored_view.false c.in-Err.ensures.gives c.go_down.ensures.down

pub returns-then-self-stored_view-clause-dropped : goal.returns-then-self-stored_view-clause-dropped
returns-then-self-stored_view-clause-dropped g c = λ unfit. drops_ok c.args.self.now c.by_rule.new.core c.args.store.now c.in_ok-sends.sends (c.in_ok-sends.ensures.dropped unfit)

pub returns-in-Ok-clause-dropped : goal.returns-in-Ok-clause-dropped
returns-in-Ok-clause-dropped g c = λ unfit. absurd (saves_none c.args.self.now.core c.by_rule.new.core c.in_ok-sends.sends (c.in_ok-sends.ensures.dropped unfit) c.if-self-stored_view.false)

pub returns-in-Err-clause-dropped : goal.returns-in-Err-clause-dropped
returns-in-Err-clause-dropped g c = λ unfit. absurd (saves_none c.args.self.now.core c.by_rule.new.core c.in_ok-sends.sends (c.in_ok-sends.ensures.dropped unfit) c.if-self-stored_view.false)

pub returns-in_err-sends-clause-dropped : goal.returns-in_err-sends-clause-dropped
returns-in_err-sends-clause-dropped g c = λ unfit.
    let is : c.from_residual.result ≡ Err fault.Memory = search rules in
    drops_err c.args.self.now c.by_rule.new.core c.args.store.now c.from_residual.result fault.Memory is (c.in_err-sends.ensures.dropped unfit)
