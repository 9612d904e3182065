use Rattle.std.proofs.Common.{refl}
use Rattle.vr_model.specs.Rules.{restarted, send_others}
use Rattle.vr_model.specs.Messages.{Recovery}
use Rattle.vr_replica.specs.declared.state.Replica.{Replica}
use Rattle.vr_replica.proofs.Acting.{stands_up}
use Rattle.vr_replica.proofs.NoState.{restart_sends_none}
use Rattle.vr_replica.proofs.Sending.{all_from}
use Rattle.vr_replica.proofs.state.Replica.come_up.Goals as goal

pub returns-clause-row : goal.returns-clause-row
returns-clause-row g c = λ m r st.
    let new : Replica = record { core = c.restart.new.core } in
    let stored = c.in_ok-stored.stored in
    let begun = c.in_ok-sends.ensures.ok c.requires in
    record {
      stored = stored;
      loaded = c.in_ok-stored.ensures.gives;
      replica = stands_up new m (restarted m.f m.number m.answer stored.view c.args.nonce) (begun.stands m st.member) refl (λ e. refl);
      sends = all_from m.group (restarted m.f m.number m.answer stored.view c.args.nonce) c.in_ok-sends.sends.items (send_others m.f m.number m.answer (Recovery c.args.nonce stored.view)) (begun.asks m st.member)
          (restart_sends_none m.f m.number m.answer (record r { stored_view = stored.view }) c.args.nonce);
    }
