-- A core that never ran asks the others.
use Rattle.std.proofs.Common.{◌≡◌, ℕ, zero, suc, ◌<◌, true, false, List, [], ◌∷◌, Option, None, arith, refl, sym, subst}
use Rattle.std.specs.Prelude.{slice_get}
use Rattle.vr_model.specs.Membership.{Group, Membership, member}
use Rattle.il_model.specs.declared.command.Command.{Command}
use Rattle.vr_model.specs.Replicas.{ReplicaState, takes_part, is_view_change}
use Rattle.vr_model.specs.Rules.{restarted}
use Rattle.vr_model.specs.World.{first_replica}
use Rattle.vr_core.specs.declared.state.Core.{Core}
use Rattle.vr_core.specs.declared.state.Response.{Response}
use Rattle.vr_model.specs.declared.standing.Status.TheVariants as statuses
use Rattle.vr_core.specs.StandsFor.{SlotStands, StandsFor, own_group}
use Rattle.vr_core.proofs.WholeLogs.{is_own}
use Rattle.vr_recovery.specs.Recovering.{IsUpAgain}

-- no response of any of seven
abbrev pub no_responses : List (Option Response)
no_responses = None ∷ None ∷ None ∷ None ∷ None ∷ None ∷ None ∷ []

apart : false ≡ true → ⊥
apart e = cc

none_at : (g : Group) (s : ℕ) → s < 7 → SlotStands g (slice_get no_responses s) None
none_at g zero l = tt
none_at g (suc zero) l = tt
none_at g (suc (suc zero)) l = tt
none_at g (suc (suc (suc zero))) l = tt
none_at g (suc (suc (suc (suc zero)))) l = tt
none_at g (suc (suc (suc (suc (suc zero))))) l = tt
none_at g (suc (suc (suc (suc (suc (suc zero)))))) l = tt
none_at g (suc (suc (suc (suc (suc (suc (suc s))))))) l = absurd (omega arith)

pub up_again : (old first begun : Core) (stored_view nonce : ℕ) → StandsFor first (member (own_group old) old.number) first_replica
    → begun ≡ record first { status = statuses.Recovering; stored_view = stored_view; nonce = nonce; responses = begun.responses }
    → begun.responses.items ≡ no_responses → IsUpAgain old stored_view nonce begun
up_again old first begun stored_view nonce fresh is none = record {
  stands = λ w m.
      let st : StandsFor first w first_replica = subst (λ (x : Membership). StandsFor first x first_replica) (is_own old w m) fresh in
      let r : ReplicaState Command = restarted w.f w.number w.answer stored_view nonce in
      let now : Core = record first { status = statuses.Recovering; stored_view = stored_view; nonce = nonce; responses = begun.responses } in
      let stands : StandsFor now w r = record {
        member = record { f = st.member.f; number = st.member.number; answer = st.member.answer; program = st.member.program; budget = st.member.budget };
        status = refl;
        view = st.view;
        log = st.log;
        reached = st.reached;
        commit_number = st.commit_number;
        executed = st.executed;
        numbers = st.numbers;
        last_normal_view = st.last_normal_view;
        stored_view = refl;
        stored = λ (e : takes_part r.status ≡ true). absurd (apart e);
        acknowledged = st.acknowledged;
        start_view_changes = st.start_view_changes;
        do_view_changes = λ (e : is_view_change r.status ≡ true). absurd (apart e);
        sent_do_view_change = st.sent_do_view_change;
        own = λ (e : is_view_change r.status ≡ true). absurd (apart e);
        nonce = refl;
        responses = λ e. record { at = λ s l. subst (λ (xs : List (Option Response)). SlotStands w.group (slice_get xs s) None) (sym none) (none_at w.group s l) };
      } in
      subst (λ (x : Core). StandsFor x w r) (sym is) stands;
}
