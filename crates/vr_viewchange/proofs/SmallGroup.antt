-- In a group of three one STARTVIEWCHANGE for a later view is enough.
use Rattle.std.proofs.Common.{◌≡◌, ℕ, map, ◌<◌, ◌≤◌, true, eq-eqb, ne_eqb, List, [], ◌∷◌, ◌++◌, length, set, Option, Some, None, Vec, Global, refl, ap, ◌∙◌, sym, subst, arith}
use Rattle.il_model.specs.declared.command.Command.{Command}
use Rattle.il_model.specs.declared.command.Answer.{Answer}
use Rattle.vr_model.specs.declared.message.DoViewChange as code
use Rattle.vr_model.specs.declared.message.Message as sent
use Rattle.vr_model.specs.declared.message.Body as body
use Rattle.vr_model.specs.declared.message.Body.TheVariants as says
use Rattle.vr_model.specs.Groups.{group_size, primary}
use Rattle.vr_model.specs.Messages.{Message, DoViewChange, DoViewChangeMessage, StartViewChange}
use Rattle.vr_model.specs.Replicas.{ReplicaState, takes_part, put}
use Rattle.vr_model.specs.Choices.{others, own_do_view_change}
use Rattle.vr_model.specs.Rules.{send, send_others, and_then, enters, counts_start_view_change}
use Rattle.vr_model.specs.StandsFor.{DoViewChangeStands}
use Rattle.vr_core.specs.declared.state.Core.{Core}
use Rattle.vr_model.specs.Membership.{Membership}
use Rattle.vr_core.specs.StandsFor.{StandsFor, IsSavedAs, AreKept}
use Rattle.vr_core.specs.Follows.{Tells, AreSent, AreSaved, Becomes, Leaves, Follows, message_from}
use Rattle.vr_core.proofs.Sent.{sent_others, sent_to, sent_more}
use Rattle.vr_viewchange.specs.BeginsView.{own_of}
use Rattle.vr_viewchange.proofs.Sending.{own_stands}
use Rattle.vr_viewchange.proofs.Tables.{kept_one, kept_nothing}
use Rattle.vr_viewchange.proofs.Changed.{with_table, with_sent, with_noted}
use Rattle.vr_viewchange.proofs.Entering.{entered, noted, enters_own, enters_sends}

module _ (core mid : Core) (s u : ℕ) (kept : Vec code.DoViewChange Global) (sends : List sent.Message) (small : core.config.f ≡ 1) (member : s < group_size core.config.f) (part : Tells core (λ w r. takes_part r.status) true)
    (later : core.view < u) (changed : Becomes core (λ w r. (enters w.f w.number w.answer r u).replica) mid) (stored : mid.stored_view ≡ u) (low : s < length mid.start_view_changes) where
  abbrev pub after_it : Core
  after_it = record mid { do_view_changes = kept; sent_do_view_change = true; start_view_changes = set mid.start_view_changes s true }

  stands : (t : ℕ → Option (DoViewChange Command)) (w : Membership) (r : ReplicaState Command) → StandsFor core w r → AreKept w.group kept.items t (group_size w.f)
      → StandsFor after_it w (record (noted w.f w.number w.answer r u s) { sent_do_view_change = true; do_view_changes = t })
  stands t w r st are =
      let one = with_sent mid true w (entered w.f w.number w.answer r u) (changed.becomes w r st) (λ e unsent. absurd cc) in
      let two = with_table (record mid { sent_do_view_change = true }) kept t w (record (entered w.f w.number w.answer r u) { sent_do_view_change = true }) one (λ e. are) (λ e unsent. absurd cc) in
      with_noted (record mid { sent_do_view_change = true; do_view_changes = kept }) s w (record (entered w.f w.number w.answer r u) { sent_do_view_change = true; do_view_changes = t }) two low

  saves : (w : Membership) (r : ReplicaState Command) → StandsFor core w r → AreSaved core after_it (Some u)
  saves w r st =
      let a : r.stored_view ≤ r.view = st.stored (sym (part.tells w r st)) in
      let b : r.view ≡ core.view = st.view in
      let c : r.stored_view ≡ core.stored_view = st.stored_view in
      (stored, (let l : core.stored_view < u = omega arith in l))

  told_others : (w : Membership) (r : ReplicaState Command) → StandsFor core w r → AreSent w.group (map (message_from core.number (says.StartViewChange u)) (others core.number (group_size core.config.f))) (send_others w.f w.number w.answer (StartViewChange u))
  told_others w r st = sent_others w core.number core.config.f (says.StartViewChange u) [] st.member.number st.member.f tt

  abbrev own_body : body.Body
  own_body = says.DoViewChange u core.last_normal_view core.commit_number core.log

  pub own_is_kept : (own : code.DoViewChange) → primary core.config.f u ≡ core.number → own ≡ own_of core → core.number < group_size core.config.f → kept.items ≡ [] ++ own ∷ []
      → sends ≡ map (message_from core.number (says.StartViewChange u)) (others core.number (group_size core.config.f))
      → Follows core (λ w r. and_then w.f w.number w.answer (enters w.f w.number w.answer r u) (counts_start_view_change w.f w.number w.answer s)) after_it sends
  own_is_kept own is own_is within items goes = record {
    leaves = λ w r st.
        let prim = eq-eqb (primary w.f u) w.number (ap (λ f. primary f u) st.member.f ∙ is ∙ sym st.member.number) in
        let number : own.replica ≡ core.number = ap (λ (d : code.DoViewChange). d.replica) own_is in
        let e1 : own.replica ≡ w.number = number ∙ sym st.member.number in
        let a = own_do_view_change r in
        let stood = subst (λ (d : code.DoViewChange). DoViewChangeStands IsSavedAs w.group d a) (sym own_is) (own_stands core w r st) in
        let low_own = subst (λ j. j < group_size w.f) (sym number) (subst (λ f. core.number < group_size f) (sym st.member.f) within) in
        let first = kept_one w.group [] (λ j. None) (group_size w.f) own a (kept_nothing w.group (group_size w.f)) low_own refl stood in
        let second = subst (λ j. AreKept w.group ([] ++ own ∷ []) (put (λ k. None) j (Some a)) (group_size w.f)) e1 first in
        let are = subst (λ l. AreKept w.group l (put (λ k. None) w.number (Some a)) (group_size w.f)) (sym items) second in
        subst (λ o. Leaves core after_it sends w o)
        (sym (enters_own w.f w.number w.answer r u s (st.member.f ∙ small) (subst (λ f. s < group_size f) (sym st.member.f) member) prim))
        (record { replica = stands (put (λ k. None) w.number (Some a)) w r st are; saves = saves w r st; sends = subst (λ (xs : List sent.Message). AreSent w.group xs (send_others w.f w.number w.answer (StartViewChange u))) (sym goes) (told_others w r st) });
  }

  pub own_is_sent : (primary core.config.f u ≡ core.number → ⊥) → kept.items ≡ []
      → sends ≡ map (message_from core.number (says.StartViewChange u)) (others core.number (group_size core.config.f)) ++ message_from core.number own_body (primary core.config.f u) ∷ []
      → Follows core (λ w r. and_then w.f w.number w.answer (enters w.f w.number w.answer r u) (counts_start_view_change w.f w.number w.answer s)) after_it sends
  own_is_sent ne items goes = record {
    leaves = λ w r st.
        let other = ne_eqb (primary w.f u) w.number (λ e. ne (ap (λ f. primary f u) (sym st.member.f) ∙ e ∙ st.member.number)) in
        let are = subst (λ l. AreKept w.group l (λ k. None) (group_size w.f)) (sym items) (kept_nothing w.group (group_size w.f)) in
        let its = own_stands core w r st in
        let said : ℕ → DoViewChange Command → List (Message Command Answer) = λ f x. send w.f w.number w.answer (primary f u) (DoViewChangeMessage u x) ∷ [] in
        let one : AreSent w.group (message_from core.number own_body (primary core.config.f u) ∷ []) (said w.f (own_do_view_change r)) = subst (λ (ms : List (Message Command Answer)). AreSent w.group (message_from core.number own_body (primary core.config.f u) ∷ []) ms)
        (ap (said core.config.f) (sym its.is) ∙ ap (λ f. said f (own_do_view_change r)) (sym st.member.f))
        (sent_to w core.number own_body its.log (primary core.config.f u) st.member.number its.carries) in
        subst (λ o. Leaves core after_it sends w o)
        (sym (enters_sends w.f w.number w.answer r u s (st.member.f ∙ small) (subst (λ f. s < group_size f) (sym st.member.f) member) other))
        (record {
          replica = stands (λ k. None) w r st are;
          saves = saves w r st;
          sends = subst (λ (xs : List sent.Message). AreSent w.group xs (send_others w.f w.number w.answer (StartViewChange u) ++ said w.f (own_do_view_change r))) (sym goes)
              (sent_more w.group (map (message_from core.number (says.StartViewChange u)) (others core.number (group_size core.config.f))) (message_from core.number own_body (primary core.config.f u) ∷ [])
              (send_others w.f w.number w.answer (StartViewChange u)) (said w.f (own_do_view_change r)) (told_others w r st) one);
        });
  }
