-- A DOVIEWCHANGE is kept, or goes out.
use Rattle.std.proofs.Common.{◌≡◌, ℕ, ◌≤◌, ◌+◌, ◌-◌, ◌<◌, Bool, true, false, cond, List, [], ◌∷◌, ◌++◌, length, take, Option, Some, None, is_some, Vec, Global, Ok, refl, ap, ◌∙◌, sym, subst, inl, inr, arith}
use Rattle.std.specs.Prelude.{vec_len}
use Rattle.std.proofs.Math.Seq.{take-append_seam}
use Rattle.std.proofs.lemmas.Bool.{cases_eq}
use Rattle.std.proofs.lemmas.List.{length-append}
use Rattle.il_model.specs.declared.command.Command.{Command}
use Rattle.il_model.specs.declared.command.Answer.{Answer}
use Rattle.vr_model.specs.declared.message.DoViewChange as code
use Rattle.vr_model.specs.declared.message.Message as sent
use Rattle.vr_model.specs.declared.message.Body.TheVariants as says
use Rattle.vr_model.specs.Groups.{group_size, primary}
use Rattle.vr_model.specs.Messages.{Message, DoViewChange, DoViewChangeMessage}
use Rattle.vr_model.specs.Replicas.{ReplicaState, Outcome, put}
use Rattle.vr_model.specs.Choices.{best, own_do_view_change}
use Rattle.vr_model.specs.Rules.{keep, send, is_primary, is_elected, begins_with, begins_if_elected, keeps_do_view_change, sends_do_view_change}
use Rattle.vr_model.specs.Steps.{Matters}
use Rattle.vr_model.specs.Logs.{IsPrefix}
use Rattle.vr_model.specs.World.{executed}
use Rattle.vr_model.specs.Checkpoints.{base_of}
use Rattle.vr_model.specs.StandsFor.{DoViewChangeStands}
use Rattle.vr_core.specs.declared.state.Core.{Core}
use Rattle.vr_model.specs.declared.standing.Status.TheVariants as status
use Rattle.vr_model.specs.Membership.{Membership}
use Rattle.vr_core.specs.StandsFor.{StandsFor, IsSavedAs, AreKept, own_group}
use Rattle.vr_core.proofs.WholeLogs.{is_own_group}
use Rattle.vr_core.specs.Follows.{Tells, AreSent, AreSaved, Leaves, FollowsIfKept, Loses, message_from}
use Rattle.vr_core.proofs.Sent.{sent_to}
use Rattle.vr_core.proofs.Keeping.{kept_as, kept_after, changing}
use Rattle.vr_viewchange.specs.BeginsView.{notes, own_of}
use Rattle.vr_viewchange.proofs.Tables.{kept_one, put_other}
use Rattle.vr_viewchange.proofs.Changed.{with_table, with_sent}
use Rattle.vr_viewchange.proofs.Beginning.{begins_keeps_sent, kept_matters}

keep_matters : (core : Core) (d : code.DoViewChange) (a : DoViewChange Command) → Tells core (λ w r. is_some (r.do_view_changes d.replica)) false → (w : Membership) (r : ReplicaState Command) → StandsFor core w r
    → Matters r (keeps_do_view_change w.f w.number w.answer d.replica a r)
keep_matters core d a first w r st =
    subst (λ b. Matters r (cond b (keep w.f w.number w.answer r) (begins_if_elected w.f w.number w.answer (record r { do_view_changes = put r.do_view_changes d.replica (Some a) })))) (first.tells w r st)
    (kept_matters w.f w.number w.answer r d.replica a (sym (first.tells w r st)))

pub keep_fails : (core : Core) (d : code.DoViewChange) (a : DoViewChange Command) (p : Vec code.DoViewChange Global) → Tells core (λ w r. is_some (r.do_view_changes d.replica)) false → p.items ≡ core.do_view_changes.items
    → Loses core (λ w r. keeps_do_view_change w.f w.number w.answer d.replica a r) (record core { do_view_changes = p })
keep_fails core d a p first as_before = record {
  same = λ w r st. with_table core p r.do_view_changes w r st (λ e. subst (λ l. AreKept w.group l r.do_view_changes (group_size w.f)) (sym as_before) (st.do_view_changes e)) st.own;
  matters = keep_matters core d a first;
}

-- the first of its sender
module _ (core : Core) (d : code.DoViewChange) (a : DoViewChange Command) (its : DoViewChangeStands IsSavedAs (own_group core) d a) (v : Vec code.DoViewChange Global) (more : v.items ≡ core.do_view_changes.items ++ d ∷ []) where
  kept_stands : d.replica < group_size core.config.f → (d.replica ≡ core.number → core.sent_do_view_change ≡ true) → (w : Membership) (r : ReplicaState Command) → StandsFor core w r → is_some (r.do_view_changes d.replica) ≡ false
      → StandsFor (record core { do_view_changes = v }) w (record r { do_view_changes = put r.do_view_changes d.replica (Some a) })
  kept_stands low own w r st none = with_table core v (put r.do_view_changes d.replica (Some a)) w r st
      (λ e. subst (λ l. AreKept w.group l (put r.do_view_changes d.replica (Some a)) (group_size w.f)) (sym more)
      (kept_one w.group core.do_view_changes.items r.do_view_changes (group_size w.f) d a (st.do_view_changes e) (subst (λ f. d.replica < group_size f) (sym st.member.f) low) none (subst (λ m. DoViewChangeStands IsSavedAs m d a) (is_own_group core w st.member) its)))
      (λ e unsent. elim (cases_eq w.number d.replica) [
        | inl same ↦ absurd (let b : true ≡ false = sym (own (sym same ∙ st.member.number)) ∙ sym st.sent_do_view_change ∙ unsent in cc)
        | inr other ↦ put_other r.do_view_changes d.replica w.number (Some a) other ∙ st.own e unsent
      ])

  pub keeps_it : d.replica < group_size core.config.f → (d.replica ≡ core.number → core.sent_do_view_change ≡ true) → Tells core (λ w r. is_some (r.do_view_changes d.replica)) false
      → (new : Core) (sends : Vec sent.Message Global) → FollowsIfKept (record core { do_view_changes = v }) (λ w r. begins_if_elected w.f w.number w.answer r) new sends.items
      → FollowsIfKept core (λ w r. keeps_do_view_change w.f w.number w.answer d.replica a r) new sends.items
  keeps_it low own first new sends h = record {
    leaves = λ w r st prefix.
        let q = record r { do_view_changes = put r.do_view_changes d.replica (Some a) } in
        let same : keeps_do_view_change w.f w.number w.answer d.replica a r ≡ begins_if_elected w.f w.number w.answer q =
        ap (λ b. cond b (keep w.f w.number w.answer r) (begins_if_elected w.f w.number w.answer q)) (sym (first.tells w r st)) in
        let k = h.leaves w q (kept_stands low own w r st (sym (first.tells w r st))) (subst (λ (o : Outcome Command Answer). IsPrefix (executed r) o.replica.log) same prefix) in
        subst (λ o. Leaves core new sends.items w o) (sym same) (leaves_of core v new sends.items w (begins_if_elected w.f w.number w.answer q) k);
  }
    where
      leaves_of : (core : Core) (v : Vec code.DoViewChange Global) (new : Core) (sends : List sent.Message) (w : Membership) (o : Outcome Command Answer) → Leaves (record core { do_view_changes = v }) new sends w o → Leaves core new sends w o
      leaves_of core v new sends w o k = record { replica = k.replica; saves = saved o.saves k.saves; sends = k.sends }
        where
          saved : (x : Option ℕ) → AreSaved (record core { do_view_changes = v }) new x → AreSaved core new x
          saved None a = a
          saved (Some u) a = a

  pub keep_lost : Tells core (λ w r. is_some (r.do_view_changes d.replica)) false → (other : Core) (p : Vec code.DoViewChange Global) → other ≡ record core { do_view_changes = v } → p.items ≡ take (vec_len v - 1) v.items
      → Loses core (λ w r. keeps_do_view_change w.f w.number w.answer d.replica a r) (record other { do_view_changes = p })
  keep_lost first other p is popped = record {
    same = λ w r st. subst (λ x. StandsFor (record x { do_view_changes = p }) w r) (sym is)
        (with_table core p r.do_view_changes w r st (λ e. subst (λ l. AreKept w.group l r.do_view_changes (group_size w.f)) (sym as_before) (st.do_view_changes e)) st.own);
    matters = λ w r st. keep_matters core d a first w r st;
  }
    where
      as_before : p.items ≡ core.do_view_changes.items
      as_before =
          let n : vec_len v ≡ length v.items = v.ok.0 in
          let m : length v.items ≡ length core.do_view_changes.items + 1 = ap length more ∙ length-append core.do_view_changes.items (d ∷ []) in
          let k : vec_len v - 1 ≡ length core.do_view_changes.items = omega arith in
          popped ∙ ap (λ j. take j v.items) k ∙ ap (take (length core.do_view_changes.items)) more ∙ take-append_seam core.do_view_changes.items (d ∷ [])

-- its own is sent
module _ (f i : ℕ) (answer : List Command → Answer) (r : ReplicaState Command) where
  sends_sent : (sends_do_view_change f i answer r).replica.sent_do_view_change ≡ true
  sends_sent = go (is_primary f i answer r)
    where
      q : ReplicaState Command
      q = record r { sent_do_view_change = true; do_view_changes = put r.do_view_changes i (Some (own_do_view_change r)) }

      go : (b : Bool) → (let o : Outcome Command Answer = record {
        replica = record r { sent_do_view_change = true };
        saves = None;
        sends = send f i answer (primary f r.view) (DoViewChangeMessage r.view (own_do_view_change r)) ∷ [];
      } in cond b (begins_if_elected f i answer q) o).replica.sent_do_view_change ≡ true
      go true = begins_keeps_sent f i answer q
      go false = refl

  pub sends_matter : r.sent_do_view_change ≡ false → Matters r (sends_do_view_change f i answer r)
  sends_matter unsent same none = absurd (let b : true ≡ false = sym sends_sent ∙ ap (λ q. q.sent_do_view_change) same ∙ unsent in cc)

-- the core, where its own DOVIEWCHANGE is sent
pub own_sent : (core : Core) (w : Membership) (r : ReplicaState Command) → StandsFor core w r → StandsFor (record core { sent_do_view_change = true }) w (record r { sent_do_view_change = true })
own_sent core w r st = with_sent core true w r st (λ e unsent. absurd cc)

-- what it says of itself stands for what the rules let it say
pub own_stands : (core : Core) (w : Membership) (r : ReplicaState Command) → StandsFor core w r → DoViewChangeStands IsSavedAs w.group (own_of core) (own_do_view_change r)
own_stands core w r st = record {
  log = r.log;
  carries = record { reached = subst (λ n. base_of core.log.checkpoint ≤ n) st.commit_number st.reached; stands = st.log };
  is = ap (λ v. said v r.commit_number) st.last_normal_view ∙ ap (said core.last_normal_view) st.commit_number;
}
  where
    said : ℕ → ℕ → DoViewChange Command
    said v n = record { last_normal_view = v; commit_number = n; log = r.log }

-- it is kept
module _ (core : Core) (own : code.DoViewChange) (unsent : core.sent_do_view_change ≡ false) (primary_told : Tells core (λ w r. is_primary w.f w.number w.answer r) true) (is : own ≡ own_of core) (changes : core.status ≡ status.ViewChange) where
  its : (w : Membership) (r : ReplicaState Command) → StandsFor core w r → DoViewChangeStands IsSavedAs (own_group core) own (own_do_view_change r)
  its w r st =
      subst (λ g. DoViewChangeStands IsSavedAs g own (own_do_view_change r)) (sym (is_own_group core w st.member))
      (subst (λ (d : code.DoViewChange). DoViewChangeStands IsSavedAs w.group d (own_do_view_change r)) (sym is) (own_stands core w r st))

  as_kept : (w : Membership) (r : ReplicaState Command) → StandsFor core w r
      → sends_do_view_change w.f w.number w.answer r ≡ keeps_do_view_change w.f w.number w.answer own.replica (own_do_view_change r) (record r { sent_do_view_change = true })
  as_kept w r st =
      let i : w.number ≡ own.replica = st.member.number ∙ sym (ap (λ (d : code.DoViewChange). d.replica) is) in
      let none : r.do_view_changes w.number ≡ None = st.own (sym ((changing core changes).tells w r st)) (st.sent_do_view_change ∙ unsent) in
      let o : Outcome Command Answer = record {
        replica = record r { sent_do_view_change = true };
        saves = None;
        sends = send w.f w.number w.answer (primary w.f r.view) (DoViewChangeMessage r.view (own_do_view_change r)) ∷ [];
      } in
      ap (λ b. cond b (begins_if_elected w.f w.number w.answer (record r { sent_do_view_change = true; do_view_changes = put r.do_view_changes w.number (Some (own_do_view_change r)) })) o) (sym (primary_told.tells w r st))
      ∙ ap (λ j. begins_if_elected w.f w.number w.answer (record r { sent_do_view_change = true; do_view_changes = put r.do_view_changes j (Some (own_do_view_change r)) })) i
      ∙ ap (λ b. cond b (keep w.f w.number w.answer (record r { sent_do_view_change = true })) (begins_if_elected w.f w.number w.answer (record r { sent_do_view_change = true; do_view_changes = put r.do_view_changes own.replica (Some (own_do_view_change r)) })))
      (sym (ap is_some (ap r.do_view_changes (sym i) ∙ none)))

  pub own_kept : (new : Core) (sends : Vec sent.Message Global)
      → ((a : DoViewChange Command) → DoViewChangeStands IsSavedAs (own_group core) own a → FollowsIfKept (record core { sent_do_view_change = true }) (λ w r. keeps_do_view_change w.f w.number w.answer own.replica a r) new sends.items)
      → FollowsIfKept core (λ w r. sends_do_view_change w.f w.number w.answer r) new sends.items
  own_kept new sends h = record {
    leaves = λ w r st prefix.
        let a = own_do_view_change r in
        let same = as_kept w r st in
        let k = kept_after core (record core { sent_do_view_change = true }) (λ w r. record r { sent_do_view_change = true }) (λ w r. keeps_do_view_change w.f w.number w.answer own.replica a r) new sends.items
        (own_sent core) refl (λ w r. refl) (h a (its w r st)) in
        subst (λ o. Leaves core new sends.items w o) (sym same) (k.leaves w r st (subst (λ (o : Outcome Command Answer). IsPrefix (executed r) o.replica.log) same prefix));
  }

  pub own_lost : (new : Core)
      → ((a : DoViewChange Command) → DoViewChangeStands IsSavedAs (own_group core) own a → Loses (record core { sent_do_view_change = true }) (λ w r. keeps_do_view_change w.f w.number w.answer own.replica a r) new)
      → Loses core (λ w r. sends_do_view_change w.f w.number w.answer r) (record new { sent_do_view_change = false })
  own_lost new h = record {
    same = λ w r st.
        let b : r.sent_do_view_change ≡ false = st.sent_do_view_change ∙ unsent in
        subst (λ x. StandsFor (record new { sent_do_view_change = false }) w (record r { sent_do_view_change = x })) (sym b)
        (with_sent new false w (record r { sent_do_view_change = true }) ((h (own_do_view_change r) (its w r st)).same w (record r { sent_do_view_change = true }) (own_sent core w r st)) (λ e f. st.own e b));
    matters = λ w r st. sends_matter w.f w.number w.answer r (st.sent_do_view_change ∙ unsent);
  }

-- it goes out
pub own_goes : (core : Core) (sends : List sent.Message) → Tells core (λ w r. is_primary w.f w.number w.answer r) false
    → sends ≡ message_from core.number (says.DoViewChange core.view core.last_normal_view core.commit_number core.log) (primary core.config.f core.view) ∷ []
    → FollowsIfKept core (λ w r. sends_do_view_change w.f w.number w.answer r) (record core { sent_do_view_change = true }) sends
own_goes core sends test is = record {
  leaves = λ w r st prefix.
      let its = own_stands core w r st in
      let own = own_do_view_change r in
      let said : ℕ → ℕ → DoViewChange Command → List (Message Command Answer) = λ f v x. send w.f w.number w.answer (primary f v) (DoViewChangeMessage v x) ∷ [] in
      let o : Outcome Command Answer = record { replica = record r { sent_do_view_change = true }; saves = None; sends = said w.f r.view own } in
      let same : sends_do_view_change w.f w.number w.answer r ≡ o =
      ap (λ b. cond b (begins_if_elected w.f w.number w.answer (record r { sent_do_view_change = true; do_view_changes = put r.do_view_changes w.number (Some own) })) o) (sym (test.tells w r st)) in
      let b = says.DoViewChange core.view core.last_normal_view core.commit_number core.log in
      let one = sent_to w core.number b its.log (primary core.config.f core.view) st.member.number its.carries in
      let two = subst (λ (ms : List (Message Command Answer)). AreSent w.group (message_from core.number b (primary core.config.f core.view) ∷ []) ms)
      (ap (said core.config.f core.view) (sym its.is) ∙ ap (λ f. said f core.view own) (sym st.member.f) ∙ ap (λ v. said w.f v own) (sym st.view)) one in
      subst (λ o. Leaves core (record core { sent_do_view_change = true }) sends w o) (sym same) (record {
        replica = own_sent core w r st;
        saves = refl;
        sends = subst (λ (xs : List sent.Message). AreSent w.group xs (said w.f r.view own)) (sym is) two;
      });
}

-- another sender is noted, and what goes out is the same
module _ (f i : ℕ) (answer : List Command → Answer) (s : ℕ) (r : ReplicaState Command) where
  pub sends_noted : sends_do_view_change f i answer (notes s r)
      ≡ (let o = sends_do_view_change f i answer r in record { replica = notes s o.replica; saves = o.saves; sends = o.sends })
  sends_noted = go (is_primary f i answer r)
    where
      q : ReplicaState Command
      q = record r { sent_do_view_change = true; do_view_changes = put r.do_view_changes i (Some (own_do_view_change r)) }

      with_it : Outcome Command Answer → Outcome Command Answer
      with_it o = record { replica = notes s o.replica; saves = o.saves; sends = o.sends }

      goes : Outcome Command Answer
      goes = record {
        replica = record r { sent_do_view_change = true };
        saves = None;
        sends = send f i answer (primary f r.view) (DoViewChangeMessage r.view (own_do_view_change r)) ∷ [];
      }

      chosen : (b : Bool) (x : Option (DoViewChange Command)) → cond b (begins_with f i answer (notes s q) x) (keep f i answer (notes s q)) ≡ with_it (cond b (begins_with f i answer q x) (keep f i answer q))
      chosen false x = refl
      chosen true None = refl
      chosen true (Some a) = refl

      go : (b : Bool) → cond b (begins_if_elected f i answer (notes s q)) (with_it goes) ≡ with_it (cond b (begins_if_elected f i answer q) goes)
      go true = chosen (is_elected f i answer q) (best q.do_view_changes (group_size f))
      go false = refl
