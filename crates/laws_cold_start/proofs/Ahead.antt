-- Views only rise, in what is kept and in what is stored; and a primary's log only grows while its view lasts.
use Rattle.std.proofs.Common.{◌≡◌, ℕ, ◌+◌, ◌<◌, ◌≤◌, max, Bool, true, false, cond, not, ◌==◌, leb, ltb, ◌&&◌, ◌||◌, List, [], ◌∷◌, ◌++◌, length, Option, Some, None, arith, refl, sym, ap, ◌∙◌, subst, ◌⊎◌, inl, inr}
use Rattle.std.specs.Prelude.{is_some}
use Rattle.std.proofs.lemmas.Grind.{common_steps}
use Rattle.std.proofs.lemmas.Bool.{ltb-true, leb-false, ltb-false, eqb-true, eq-eqb, and_parts}
use Rattle.vr_model.specs.Logs.{Request, last_number, is_above, IsPrefix}
use Rattle.vr_model.specs.Groups.{group_size, primary, how_many, client_count}
use Rattle.vr_model.specs.Messages.{DoViewChange, RecoveryResponse, Party, Replica, Client, Body, RequestMessage, Prepare, PrepareOk, Commit, Reply, StartViewChange, DoViewChangeMessage, StartView, Recovery, RecoveryResponseMessage, GetState, NewState, Message}
use Rattle.vr_model.specs.Replicas.{Normal, is_normal, is_view_change, is_recovering, takes_part, ReplicaState, Outcome, put}
use Rattle.vr_model.specs.Choices.{best, is_same, own_do_view_change}
use Rattle.vr_model.specs.Rules.{keep, is_primary, on_request, behind, is_backup_in, asks, on_prepare, on_prepare_ok, on_commit, enters, saves_both, and_then, on_timeout, saves_above, begins_with, is_elected, begins_if_elected, sends_do_view_change, counts_start_view_change, enters_if_above, if_view_change_in, on_start_view_change, keeps_do_view_change, on_do_view_change, on_start_view, on_recovery, on_recovery_response, on_get_state, on_new_state, from_replica, from_client, receives}
use Rattle.vr_model.specs.World.{saved_view}
use Rattle.vr_model.specs.Steps.{Input, Takes, TimesOut, Resends, by_rule}
use Rattle.laws_cold_start.proofs.Statuses.{normal_or_late, part_or_recovering}

pub prefix_refl : {X : Type 0} (xs : List X) → IsPrefix xs xs
prefix_refl xs = record { rest = []; is = grind (arith, common_steps) }

prefix_append : {X : Type 0} (xs ys : List X) → IsPrefix xs (xs ++ ys)
prefix_append xs ys = record { rest = ys; is = refl }

prefix_trans : {X : Type 0} (xs ys zs : List X) → IsPrefix xs ys → IsPrefix ys zs → IsPrefix xs zs
prefix_trans xs ys zs p q = record { rest = p.rest ++ q.rest; is = grind (arith, common_steps, p.is, q.is) }

-- what is saved is no lower than this
abbrev pub SavesFrom : ℕ → Option ℕ → Type 0
SavesFrom n None = Unit {0}
SavesFrom n (Some u) = n ≤ u

saves_less : (n m : ℕ) (a : Option ℕ) → n ≤ m → SavesFrom m a → SavesFrom n a
saves_less n m None l k = tt
saves_less n m (Some u) l k = omega arith

saves_two : {C A : Type 0} (f i : ℕ) (answer : List C → A) (n : ℕ) (a b : Option ℕ) → SavesFrom n a → SavesFrom n b → SavesFrom n (saves_both f i answer a b)
saves_two f i answer n a None k l = k
saves_two f i answer n a (Some u) k l = l

saved_two : {C A : Type 0} (f i : ℕ) (answer : List C → A) (stored : ℕ) (a b : Option ℕ) → saved_view (saved_view stored a) b ≡ saved_view stored (saves_both f i answer a b)
saved_two f i answer stored a None = refl
saved_two f i answer stored a (Some u) = refl

-- a replica that takes part goes on: in a later view, or in the same, where a normal primary keeps its log
pub record Ahead {C A : Type 0} (f i : ℕ) (r : ReplicaState C) (o : Outcome C A) : Type 0 where
  pub part : takes_part o.replica.status ≡ true
  pub even : o.replica.stored_view ≡ o.replica.view
  pub saves : SavesFrom r.view o.saves
  pub kept : (stored : ℕ) → r.view ≤ stored → o.replica.view ≤ saved_view stored o.saves
  pub on : (r.view < o.replica.view) ⊎ ((o.replica.view ≡ r.view) × (is_normal r.status ≡ true → primary f r.view ≡ i → (is_normal o.replica.status ≡ true) × IsPrefix r.log o.replica.log))

module _ {C A : Type 0} (f i : ℕ) (answer : List C → A) where
  ahead_if : (r : ReplicaState C) (b : Bool) (x y : Outcome C A) → (b ≡ true → Ahead f i r x) → (b ≡ false → Ahead f i r y) → Ahead f i r (cond b x y)
  ahead_if r true x y first second = first refl
  ahead_if r false x y first second = second refl

  -- the record may have changed in what is no view and no log
  ahead_same : (r q : ReplicaState C) (sends : List (Message C A)) → takes_part r.status ≡ true → r.stored_view ≡ r.view
      → q.status ≡ r.status → q.view ≡ r.view → q.stored_view ≡ r.stored_view → (is_normal r.status ≡ true → primary f r.view ≡ i → IsPrefix r.log q.log) → Ahead f i r (record { replica = q; saves = None; sends = sends })
  ahead_same r q sends p e status view stored log = record {
    part = ap takes_part status ∙ p;
    even = stored ∙ e ∙ sym view;
    saves = tt;
    kept = λ st l. omega (arith, view);
    on = inr (view, λ n leads. (ap is_normal status ∙ n, log n leads));
  }

  ahead_keep : (r : ReplicaState C) (sends : List (Message C A)) → takes_part r.status ≡ true → r.stored_view ≡ r.view → Ahead f i r (record { replica = r; saves = None; sends = sends })
  ahead_keep r sends p e = ahead_same r r sends p e refl refl refl (λ n l. prefix_refl r.log)

  -- a backup isn't the primary
  not_backup : (r : ReplicaState C) (u : ℕ) → is_backup_in f i answer r u ≡ true → primary f r.view ≡ i → ⊥
  not_backup r u e leads =
      let p = and_parts (is_normal r.status && (r.view == u)) (not (is_primary f i answer r)) e in
      let q : is_primary f i answer r ≡ true = eq-eqb _ _ leads in absurd (let c : not true ≡ true = subst (λ b. not b ≡ true) q p.1 in cc)

  pub behind_cases : (r : ReplicaState C) (u : ℕ) → behind f i answer r u ≡ true → (takes_part r.status ≡ true) × ((r.view < u) ⊎ ((is_view_change r.status ≡ true) × (r.view ≡ u)))
  behind_cases r u e =
      let p = and_parts (takes_part r.status) (ltb r.view u || (is_view_change r.status && (r.view == u))) e in
      (p.0, go (ltb r.view u) refl p.1)
    where
      go : (b : Bool) → ltb r.view u ≡ b → (b || (is_view_change r.status && (r.view == u))) ≡ true → (r.view < u) ⊎ ((is_view_change r.status ≡ true) × (r.view ≡ u))
      go true l k = inl (ltb-true _ _ l)
      go false l k = let q = and_parts (is_view_change r.status) (r.view == u) k in inr (q.0, eqb-true _ _ q.1)

  -- it adopts the view, with whatever log
  ahead_adopts : (r q : ReplicaState C) (u : ℕ) (sends : List (Message C A)) → r.stored_view ≡ r.view → ((r.view < u) ⊎ ((is_view_change r.status ≡ true) × (r.view ≡ u)))
      → q.status ≡ Normal → q.view ≡ u → q.stored_view ≡ max r.stored_view u → Ahead f i r (record { replica = q; saves = saves_above f i answer r u; sends = sends })
  ahead_adopts r q u sends e far status view stored = record {
    part = ap takes_part status;
    even = omega (arith, stored, view, e, le far);
    saves = above (ltb r.stored_view u) refl;
    kept = λ st l. subst (λ y. y ≤ saved_view st (saves_above f i answer r u)) (sym view) (keeps st l (ltb r.stored_view u) refl);
    on = elim far [
      | inl l ↦ inl (omega (arith, view))
      | inr k ↦ inr (view ∙ sym k.1, λ n leads. absurd (normal_or_late _ n k.0))
    ];
  }
    where
      le : (r.view < u) ⊎ ((is_view_change r.status ≡ true) × (r.view ≡ u)) → r.view ≤ u
      le (inl l) = omega arith
      le (inr k) = omega (arith, k.1)

      above : (b : Bool) → ltb r.stored_view u ≡ b → SavesFrom r.view (cond b (Some u) None)
      above true k = le far
      above false k = tt

      keeps : (st : ℕ) → r.view ≤ st → (b : Bool) → ltb r.stored_view u ≡ b → u ≤ saved_view st (cond b (Some u) None)
      keeps st l true k = omega arith
      keeps st l false k = omega (arith, le far, e, leb_from (ltb r.stored_view u) k)
        where
          leb_from : (b : Bool) → ltb r.stored_view u ≡ false → u ≤ r.stored_view
          leb_from b d = ltb-false r.stored_view u d

  ahead_enters : (r : ReplicaState C) (u : ℕ) → r.view < u → Ahead f i r (enters f i answer r u)
  ahead_enters r u l = record { part = refl; even = refl; saves = omega arith; kept = λ st k. omega arith; on = inl l }

  ahead_then : (r : ReplicaState C) (o : Outcome C A) (next : ReplicaState C → Outcome C A) → Ahead f i r o → Ahead f i o.replica (next o.replica) → Ahead f i r (and_then f i answer o next)
  ahead_then r o next k m = record {
    part = m.part;
    even = m.even;
    saves = saves_two f i answer r.view o.saves (next o.replica).saves k.saves (saves_less r.view o.replica.view (next o.replica).saves (le k.on) m.saves);
    kept = λ st l. subst (λ y. (next o.replica).replica.view ≤ y) (saved_two f i answer st o.saves (next o.replica).saves) (m.kept (saved_view st o.saves) (k.kept st l));
    on = both k.on m.on;
  }
    where
      p : ReplicaState C
      p = (next o.replica).replica

      le : (r.view < o.replica.view) ⊎ ((o.replica.view ≡ r.view) × (is_normal r.status ≡ true → primary f r.view ≡ i → (is_normal o.replica.status ≡ true) × IsPrefix r.log o.replica.log)) → r.view ≤ o.replica.view
      le (inl l) = omega arith
      le (inr e) = omega (arith, e.0)

      both : (r.view < o.replica.view) ⊎ ((o.replica.view ≡ r.view) × (is_normal r.status ≡ true → primary f r.view ≡ i → (is_normal o.replica.status ≡ true) × IsPrefix r.log o.replica.log))
          → (o.replica.view < (next o.replica).replica.view) ⊎ (((next o.replica).replica.view ≡ o.replica.view) × (is_normal o.replica.status ≡ true → primary f o.replica.view ≡ i → (is_normal (next o.replica).replica.status ≡ true) × IsPrefix o.replica.log (next o.replica).replica.log))
          → (r.view < (next o.replica).replica.view) ⊎ (((next o.replica).replica.view ≡ r.view) × (is_normal r.status ≡ true → primary f r.view ≡ i → (is_normal (next o.replica).replica.status ≡ true) × IsPrefix r.log (next o.replica).replica.log))
      both (inl a) (inl b) = inl (omega arith)
      both (inl a) (inr b) = inl (omega (arith, b.0))
      both (inr a) (inl b) = inl (omega (arith, a.0))
      both (inr a) (inr b) = inr (
        b.0 ∙ a.0,
        λ n leads.
            let x = a.1 n leads in
            let y = b.1 x.0 (ap (primary f) a.0 ∙ leads) in
            (y.0, prefix_trans _ _ _ x.1 y.1),
      )

  -- the replica takes part, and knows of its store what it holds
  module _ (r : ReplicaState C) (p : takes_part r.status ≡ true) (e : r.stored_view ≡ r.view) where
    ahead_request : (m : Request C) → Ahead f i r (on_request f i answer r m)
    ahead_request m =
        ahead_if r (is_normal r.status && is_primary f i answer r) _ _
        (λ a. ahead_if r (is_above m.number (last_number r.log m.client)) _ _
        (λ b. ahead_same r (record r { log = r.log ++ m ∷ [] }) _ p e refl refl refl (λ n l. prefix_append r.log (m ∷ [])))
        (λ b. ahead_if r (is_same m.number (last_number r.log m.client)) _ _ (λ c. ahead_keep r _ p e) (λ c. ahead_keep r [] p e)))
        (λ a. ahead_keep r [] p e)

    ahead_backup : (q : ReplicaState C) (u : ℕ) (sends : List (Message C A)) → is_backup_in f i answer r u ≡ true → q.status ≡ r.status → q.view ≡ r.view → q.stored_view ≡ r.stored_view → Ahead f i r (record { replica = q; saves = None; sends = sends })
    ahead_backup q u sends b status view stored = ahead_same r q sends p e status view stored (λ n l. absurd (not_backup r u b l))

    ahead_behind : (u : ℕ) → Ahead f i r (cond (behind f i answer r u) (asks f i answer r u r.commit_number) (keep f i answer r))
    ahead_behind u = ahead_if r (behind f i answer r u) _ _ (λ a. ahead_keep r _ p e) (λ a. ahead_keep r [] p e)

    ahead_prepare : (u : ℕ) (m : Request C) (k c : ℕ) → Ahead f i r (on_prepare f i answer r u m k c)
    ahead_prepare u m k c =
        ahead_if r (is_backup_in f i answer r u) _ _
        (λ a. ahead_if r (k == length r.log + 1) _ _ (λ b. ahead_backup _ u _ a refl refl refl)
        (λ b. ahead_if r (leb k (length r.log)) _ _ (λ d. ahead_backup _ u _ a refl refl refl) (λ d. ahead_keep r _ p e)))
        (λ a. ahead_behind u)

    ahead_commit : (u c : ℕ) → Ahead f i r (on_commit f i answer r u c)
    ahead_commit u c = ahead_if r (is_backup_in f i answer r u) _ _ (λ a. ahead_backup _ u _ a refl refl refl) (λ a. ahead_behind u)

    ahead_prepare_ok : (s u k : ℕ) → Ahead f i r (on_prepare_ok f i answer r s u k)
    ahead_prepare_ok s u k = ahead_if r ((is_normal r.status && is_primary f i answer r) && ((r.view == u) && leb k (length r.log))) _ _
        (λ a. ahead_same r _ _ p e refl refl refl (λ n l. prefix_refl r.log)) (λ a. ahead_keep r [] p e)

    ahead_timeout : Ahead f i r (on_timeout f i answer r)
    ahead_timeout = ahead_if r _ _ _ (λ a. ahead_enters r (r.view + 1) (omega arith)) (λ a. ahead_keep r [] p e)

    ahead_begins : is_view_change r.status ≡ true → (a : Option (DoViewChange C)) → Ahead f i r (begins_with f i answer r a)
    ahead_begins v None = ahead_keep r [] p e
    ahead_begins v (Some a) = ahead_adopts r _ r.view _ e (inr (v, refl)) refl refl refl

    ahead_begins_if_elected : is_view_change r.status ≡ true → Ahead f i r (begins_if_elected f i answer r)
    ahead_begins_if_elected v = ahead_if r (is_elected f i answer r) _ _ (λ a. ahead_begins v (best r.do_view_changes (group_size f))) (λ a. ahead_keep r [] p e)

    ahead_start_view : (u c : ℕ) (log : List (Request C)) → Ahead f i r (on_start_view f i answer r u c log)
    ahead_start_view u c log = ahead_if r (behind f i answer r u && leb r.commit_number (length log)) _ _
        (λ a. let b = and_parts (behind f i answer r u) (leb r.commit_number (length log)) a in ahead_adopts r _ u _ e (behind_cases r u b.0).1 refl refl refl)
        (λ a. ahead_keep r [] p e)

    ahead_recovery : (s x w : ℕ) → Ahead f i r (on_recovery f i answer r s x w)
    ahead_recovery s x w = ahead_if r (is_normal r.status) _ _
        (λ a. ahead_if r (leb w r.view) _ _ (λ b. ahead_keep r _ p e) (λ b. ahead_enters r w (let k : r.view < w = leb-false _ _ b in k)))
        (λ a. ahead_keep r [] p e)

    ahead_recovery_response : (s x : ℕ) (a : RecoveryResponse C) → Ahead f i r (on_recovery_response f i answer r s x a)
    ahead_recovery_response s x a = ahead_if r (is_recovering r.status && (r.nonce == x)) _ _
        (λ b. absurd (part_or_recovering r.status p (and_parts (is_recovering r.status) (r.nonce == x) b).0)) (λ b. ahead_keep r [] p e)

    ahead_get_state : (s u k : ℕ) → Ahead f i r (on_get_state f i answer r s u k)
    ahead_get_state s u k = ahead_if r _ _ _ (λ a. ahead_keep r _ p e) (λ a. ahead_keep r [] p e)

    ahead_new_state : (u k c : ℕ) (log : List (Request C)) → Ahead f i r (on_new_state f i answer r u k c log)
    ahead_new_state u k c log = ahead_if r (is_backup_in f i answer r u) _ _
        (λ a. ahead_if r (leb k (length r.log) && ltb (length r.log) (k + length log)) _ _ (λ b. ahead_backup _ u _ a refl refl refl) (λ b. ahead_keep r [] p e))
        (λ a. ahead_if r (behind f i answer r u && (leb k r.commit_number && leb r.commit_number (k + length log))) _ _
        (λ b. let d = and_parts (behind f i answer r u) (leb k r.commit_number && leb r.commit_number (k + length log)) b in
        ahead_adopts r _ u _ e (behind_cases r u d.0).1 refl refl refl)
        (λ b. ahead_keep r [] p e))

  -- the view change, where the record changes on the way
  ahead_with : (r q : ReplicaState C) (o : Outcome C A) → q.view ≡ r.view → is_view_change r.status ≡ true → Ahead f i q o → Ahead f i r o
  ahead_with r q o view v k = record {
    part = k.part;
    even = k.even;
    saves = subst (λ y. SavesFrom y o.saves) view k.saves;
    kept = λ st l. k.kept st (omega (arith, view));
    on = elim (k.on) [
      | inl l ↦ inl (omega (arith, view))
      | inr x ↦ inr (x.0 ∙ view, λ n leads. absurd (normal_or_late _ n v))
    ];
  }

  ahead_sends_change : (r : ReplicaState C) → takes_part r.status ≡ true → r.stored_view ≡ r.view → is_view_change r.status ≡ true → Ahead f i r (sends_do_view_change f i answer r)
  ahead_sends_change r p e v = ahead_if r (is_primary f i answer r) _ _
      (λ a. let q : ReplicaState C = record r { sent_do_view_change = true; do_view_changes = put r.do_view_changes i (Some (own_do_view_change r)) } in
      ahead_with r q _ refl v (ahead_begins_if_elected q p e v))
      (λ a. ahead_same r _ _ p e refl refl refl (λ n l. prefix_refl r.log))

  ahead_counts : (s : ℕ) (r : ReplicaState C) → takes_part r.status ≡ true → r.stored_view ≡ r.view → is_view_change r.status ≡ true → Ahead f i r (counts_start_view_change f i answer s r)
  ahead_counts s r p e v =
      let q : ReplicaState C = record r { start_view_changes = put r.start_view_changes s true } in
      ahead_if r (not q.sent_do_view_change && leb f (how_many q.start_view_changes (group_size f))) _ _
      (λ a. ahead_with r q _ refl v (ahead_sends_change q p e v))
      (λ a. ahead_same r q [] p e refl refl refl (λ n l. prefix_refl r.log))

  ahead_keeps_change : (s : ℕ) (a : DoViewChange C) (r : ReplicaState C) → takes_part r.status ≡ true → r.stored_view ≡ r.view → is_view_change r.status ≡ true → Ahead f i r (keeps_do_view_change f i answer s a r)
  ahead_keeps_change s a r p e v = ahead_if r (is_some (r.do_view_changes s)) _ _ (λ b. ahead_keep r [] p e)
      (λ b. let q : ReplicaState C = record r { do_view_changes = put r.do_view_changes s (Some a) } in ahead_with r q _ refl v (ahead_begins_if_elected q p e v))

  ahead_enters_if_above : (r : ReplicaState C) (u : ℕ) → takes_part r.status ≡ true → r.stored_view ≡ r.view → Ahead f i r (enters_if_above f i answer r u)
  ahead_enters_if_above r u p e = ahead_if r (ltb r.view u) _ _ (λ a. ahead_enters r u (ltb-true _ _ a)) (λ a. ahead_keep r [] p e)

  ahead_in : (u : ℕ) (next : ReplicaState C → Outcome C A) (r : ReplicaState C) → takes_part r.status ≡ true → r.stored_view ≡ r.view → (is_view_change r.status ≡ true → Ahead f i r (next r)) → Ahead f i r (if_view_change_in f i answer u next r)
  ahead_in u next r p e more = ahead_if r (is_view_change r.status && (r.view == u)) _ _ (λ a. more (and_parts (is_view_change r.status) (r.view == u) a).0) (λ a. ahead_keep r [] p e)

  ahead_start_view_change : (r : ReplicaState C) (s u : ℕ) → takes_part r.status ≡ true → r.stored_view ≡ r.view → Ahead f i r (on_start_view_change f i answer r s u)
  ahead_start_view_change r s u p e = ahead_if r (takes_part r.status) _ _
      (λ a. let o : Outcome C A = enters_if_above f i answer r u in
      let k : Ahead f i r o = ahead_enters_if_above r u p e in
      ahead_then r o (if_view_change_in f i answer u (counts_start_view_change f i answer s)) k (ahead_in u (counts_start_view_change f i answer s) o.replica k.part k.even (λ v. ahead_counts s o.replica k.part k.even v)))
      (λ a. ahead_keep r [] p e)

  ahead_do_view_change : (r : ReplicaState C) (s u : ℕ) (a : DoViewChange C) → takes_part r.status ≡ true → r.stored_view ≡ r.view → Ahead f i r (on_do_view_change f i answer r s u a)
  ahead_do_view_change r s u a p e = ahead_if r (takes_part r.status && (primary f u == i)) _ _
      (λ b. let o : Outcome C A = enters_if_above f i answer r u in
      let k : Ahead f i r o = ahead_enters_if_above r u p e in
      ahead_then r o (if_view_change_in f i answer u (keeps_do_view_change f i answer s a)) k (ahead_in u (keeps_do_view_change f i answer s a) o.replica k.part k.even (λ v. ahead_keeps_change s a o.replica k.part k.even v)))
      (λ b. ahead_keep r [] p e)

  ahead_from_replica : (r : ReplicaState C) (s : ℕ) (b : Body C A) → takes_part r.status ≡ true → r.stored_view ≡ r.view → Ahead f i r (from_replica f i answer r s b)
  ahead_from_replica r s (RequestMessage m) p e = ahead_keep r [] p e
  ahead_from_replica r s (Prepare u m k c) p e = ahead_prepare r p e u m k c
  ahead_from_replica r s (PrepareOk u k) p e = ahead_prepare_ok r p e s u k
  ahead_from_replica r s (Commit u c) p e = ahead_commit r p e u c
  ahead_from_replica r s (Reply u m a) p e = ahead_keep r [] p e
  ahead_from_replica r s (StartViewChange u) p e = ahead_start_view_change r s u p e
  ahead_from_replica r s (DoViewChangeMessage u a) p e = ahead_do_view_change r s u a p e
  ahead_from_replica r s (StartView u c log) p e = ahead_start_view r p e u c log
  ahead_from_replica r s (Recovery x w) p e = ahead_recovery r p e s x w
  ahead_from_replica r s (RecoveryResponseMessage x a) p e = ahead_recovery_response r p e s x a
  ahead_from_replica r s (GetState u k) p e = ahead_get_state r p e s u k
  ahead_from_replica r s (NewState u k c log) p e = ahead_new_state r p e u k c log

  ahead_from_client : (r : ReplicaState C) (b : Body C A) → takes_part r.status ≡ true → r.stored_view ≡ r.view → Ahead f i r (from_client f i answer r b)
  ahead_from_client r (RequestMessage m) p e = ahead_request r p e m
  ahead_from_client r _ p e = ahead_keep r [] p e

  ahead_receives : (r : ReplicaState C) (from : Party) (b : Body C A) → takes_part r.status ≡ true → r.stored_view ≡ r.view → Ahead f i r (receives f i answer r from b)
  ahead_receives r (Replica s) b p e = ahead_if r (ltb s (group_size f) && not (s == i)) _ _ (λ k. ahead_from_replica r s b p e) (λ k. ahead_keep r [] p e)
  ahead_receives r (Client c) b p e = ahead_if r (ltb c client_count) _ _ (λ k. ahead_from_client r b p e) (λ k. ahead_keep r [] p e)

  pub ahead_by_rule : (r : ReplicaState C) (input : Input C A) → takes_part r.status ≡ true → r.stored_view ≡ r.view → Ahead f i r (by_rule f i answer r input)
  ahead_by_rule r (Takes m) p e = ahead_receives r m.from m.body p e
  ahead_by_rule r TimesOut p e = ahead_timeout r p e
  ahead_by_rule r Resends p e = ahead_keep r _ p e
