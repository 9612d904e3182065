-- How far the log of a view has come, as told: nobody tells of more of it than its primary holds.
use Rattle.std.proofs.Common.{◌≡◌, ℕ, zero, suc, ◌+◌, ◌-◌, ◌<◌, ◌≤◌, max, min, Bool, true, false, cond, not, ◌==◌, leb, ltb, ◌&&◌, ◌||◌, List, [], ◌∷◌, ◌++◌, length, take, drop, map, Option, Some, None, arith, refl, sym, ap, ◌∙◌, subst, ◌⊎◌, inl, inr, length-append}
use Rattle.std.specs.Prelude.{slice_get, is_some}
use Rattle.std.proofs.lemmas.Grind.{common_steps}
use Rattle.std.proofs.lemmas.Option.{same_Some}
use Rattle.std.proofs.lemmas.Bool.{ltb-true, leb-true, eqb-true, eq-eqb, and_parts, cases_lt}
use Rattle.vr_model.specs.Logs.{Request, last_number, is_above}
use Rattle.vr_model.specs.Groups.{group_size, primary, how_many, client_count}
use Rattle.vr_model.specs.Messages.{DoViewChange, PrimaryState, RecoveryResponse, Party, Replica, Client, Body, RequestMessage, Prepare, PrepareOk, Commit, Reply, StartViewChange, DoViewChangeMessage, StartView, Recovery, RecoveryResponseMessage, GetState, NewState, Message}
use Rattle.vr_model.specs.Replicas.{Status, Normal, ViewChange, Recovering, Down, is_normal, is_view_change, is_recovering, takes_part, ReplicaState, Outcome, put}
use Rattle.vr_model.specs.Choices.{others, reached, best, greatest_commit, place_of, is_same, kept_response, latest, state_of, log_length, own_do_view_change}
use Rattle.vr_model.specs.Rules.{keep, send, send_others, is_primary, reply_of, replies, replies_from, on_request, behind, is_backup_in, asks, holds_log, on_prepare, on_prepare_ok, on_commit, enters, and_then, on_timeout, adopted, begins_with, is_elected, begins_if_elected, sends_do_view_change, counts_start_view_change, enters_if_above, if_view_change_in, on_start_view_change, keeps_do_view_change, on_do_view_change, on_start_view, on_recovery, recovers_with, recovers, on_recovery_response, on_get_state, on_new_state, prepares, resent, on_resend, from_replica, from_client, receives}
use Rattle.vr_model.specs.Steps.{Input, Takes, TimesOut, Resends, by_rule}
use Rattle.laws_cold_start.proofs.Statuses.{normal_or_late}
use Rattle.laws_cold_start.proofs.Tables.{put_other, put_cases}
use Rattle.laws_cold_start.proofs.Ahead.{behind_cases}

-- what a message tells of the log of a view: L u p, that it has come as far as p
abbrev pub StateTells : {C : Type 0} → (ℕ → ℕ → Type 0) → ℕ → Option (PrimaryState C) → Type 0
StateTells L u None = Unit {0}
StateTells L u (Some a) = L u (length a.log)

abbrev pub BodyTells : {C A : Type 0} → (ℕ → ℕ → Type 0) → Body C A → Type 0
BodyTells L (Prepare u m p c) = L u p
BodyTells L (PrepareOk u p) = L u p
BodyTells L (StartView u c log) = L u (length log)
BodyTells L (RecoveryResponseMessage x a) = StateTells L a.view a.state
BodyTells L (NewState u p c log) = L u (p + length log)
BodyTells L _ = Unit {0}

-- messages of replica i
abbrev pub AllTell : {C A : Type 0} → (ℕ → ℕ → Type 0) → ℕ → List (Message C A) → Type 0
AllTell L i [] = Unit {0}
AllTell L i (m ∷ ms) = ((m.from ≡ Replica i) × BodyTells L m.body) × AllTell L i ms

-- what it keeps; K s u p, that replica s acknowledged as much
pub record Kept {C : Type 0} (f i : ℕ) (L : ℕ → ℕ → Type 0) (K : ℕ → ℕ → ℕ → Type 0) (r : ReplicaState C) : Type 0 where
  pub normal : is_normal r.status ≡ true → L r.view (length r.log)
  pub responses : (s : ℕ) (a : RecoveryResponse C) → r.responses s ≡ Some a → StateTells L a.view a.state
  pub acknowledged : is_normal r.status ≡ true → primary f r.view ≡ i → (s : ℕ) → (r.acknowledged s ≡ 0) ⊎ K s r.view (r.acknowledged s)

-- its own view, as its normal primary
pub record Own {C : Type 0} (f i : ℕ) (r : ReplicaState C) (u p : ℕ) : Type 0 where
  pub leads : primary f u ≡ i
  pub normal : is_normal r.status ≡ true
  pub view : r.view ≡ u
  pub holds : p ≤ length r.log

abbrev pub OrOwn : {C : Type 0} → ℕ → ℕ → (ℕ → ℕ → Type 0) → ReplicaState C → ℕ → ℕ → Type 0
OrOwn f i L r u p = L u p ⊎ Own f i r u p

pub record Tells {C A : Type 0} (f i : ℕ) (L : ℕ → ℕ → Type 0) (K : ℕ → ℕ → ℕ → Type 0) (o : Outcome C A) : Type 0 where
  pub normal : is_normal o.replica.status ≡ true → OrOwn f i L o.replica o.replica.view (length o.replica.log)
  pub responses : (s : ℕ) (a : RecoveryResponse C) → o.replica.responses s ≡ Some a → StateTells L a.view a.state
  pub acknowledged : is_normal o.replica.status ≡ true → primary f o.replica.view ≡ i → (s : ℕ) → (o.replica.acknowledged s ≡ 0) ⊎ K s o.replica.view (o.replica.acknowledged s)
  pub sends : AllTell (OrOwn f i L o.replica) i o.sends

tell_append : {C A : Type 0} (L : ℕ → ℕ → Type 0) (i : ℕ) (xs ys : List (Message C A)) → AllTell L i xs → AllTell L i ys → AllTell L i (xs ++ ys)
tell_append L i [] ys a b = b
tell_append L i (x ∷ xs) ys a b = (a.0, tell_append L i xs ys a.1 b)

tell_if : {C A : Type 0} (L : ℕ → ℕ → Type 0) (i : ℕ) (b : Bool) (x y : List (Message C A)) → (b ≡ true → AllTell L i x) → AllTell L i y → AllTell L i (cond b x y)
tell_if L i true x y first second = first refl
tell_if L i false x y first second = second

length_drop : {X : Type 0} (p : ℕ) (xs : List X) → p ≤ length xs → p + length (drop p xs) ≡ length xs
length_drop p xs l = grind (arith, common_steps)

length_take : {X : Type 0} (p : ℕ) (xs : List X) → length (take p xs) ≤ p
length_take p xs = grind (arith, common_steps)

length_more : {X : Type 0} (xs : List X) (x : X) → length (xs ++ x ∷ []) ≡ length xs + 1
length_more xs x = grind (arith, common_steps)

length_rest : {X : Type 0} (p : ℕ) (xs ys : List X) → p ≤ length xs → length xs < p + length ys → length (xs ++ drop (length xs - p) ys) ≡ p + length ys
length_rest p xs ys a b = grind (arith, common_steps)

module _ {C A : Type 0} (f i : ℕ) (answer : List C → A) (L : ℕ → ℕ → Type 0) (K : ℕ → ℕ → ℕ → Type 0) (less : (u p q : ℕ) → q ≤ p → L u p → L u q) where
  tells_if : (b : Bool) (x y : Outcome C A) → (b ≡ true → Tells f i L K x) → (b ≡ false → Tells f i L K y) → Tells f i L K (cond b x y)
  tells_if true x y first second = first refl
  tells_if false x y first second = second refl

  module _ (M : ℕ → ℕ → Type 0) where
    tell_map : (body : Body C A) (to : List ℕ) → BodyTells M body → AllTell M i (map (λ t. send f i answer t body) to)
    tell_map body [] l = tt
    tell_map body (t ∷ ts) l = ((refl, l), tell_map body ts l)

    tell_others : (body : Body C A) → BodyTells M body → AllTell M i (send_others f i answer body)
    tell_others body l = tell_map body (others i (group_size f)) l

    tell_reply : (r : ReplicaState C) (j : ℕ) (m : Option (Request C)) → AllTell M i (reply_of f i answer r j m)
    tell_reply r j None = tt
    tell_reply r j (Some m) = ((refl, tt), tt)

    tell_replies : (r : ReplicaState C) (from count : ℕ) → AllTell M i (replies f i answer r from count)
    tell_replies r from zero = tt
    tell_replies r from (suc count) = tell_append M i (reply_of f i answer r from (slice_get r.log from)) _ (tell_reply r from (slice_get r.log from)) (tell_replies r (from + 1) count)

    tell_replies_from : (r : ReplicaState C) (from : ℕ) → AllTell M i (replies_from f i answer r from)
    tell_replies_from r from = tell_if M i (is_primary f i answer r) _ _ (λ e. tell_replies r from (r.commit_number - from)) tt

  -- the record stays
  tells_same : (r : ReplicaState C) (sends : List (Message C A)) → Kept f i L K r → AllTell (OrOwn f i L r) i sends → Tells f i L K (record { replica = r; saves = None; sends = sends })
  tells_same r sends k t = record { normal = λ e. inl (k.normal e); responses = k.responses; acknowledged = k.acknowledged; sends = t }

  tells_keep : (r : ReplicaState C) → Kept f i L K r → Tells f i L K (keep f i answer r)
  tells_keep r k = tells_same r [] k tt

  tells_request : (r : ReplicaState C) (m : Request C) → Kept f i L K r → Tells f i L K (on_request f i answer r m)
  tells_request r m k =
      tells_if (is_normal r.status && is_primary f i answer r) _ _
      (λ e. let p = and_parts (is_normal r.status) (is_primary f i answer r) e in
      tells_if (is_above m.number (last_number r.log m.client)) _ _
      (λ a.
      let q : ReplicaState C = record r { log = r.log ++ m ∷ [] } in
      let own : Own f i q r.view (length r.log + 1) = record { leads = eqb-true _ _ p.1; normal = p.0; view = refl; holds = omega (arith, length_more r.log m) } in
      record {
        normal = λ n. inr (record { leads = own.leads; normal = n; view = refl; holds = omega arith });
        responses = k.responses;
        acknowledged = k.acknowledged;
        sends = tell_others (OrOwn f i L q) (Prepare r.view m (length r.log + 1) r.commit_number) (inr own);
      })
      (λ a. tells_if (is_same m.number (last_number r.log m.client)) _ _
      (λ b. tells_same r _ k (let j = place_of r.log m.client m.number in tell_if (OrOwn f i L r) i (ltb j r.commit_number) _ _ (λ d. tell_reply (OrOwn f i L r) r j (slice_get r.log j)) tt))
      (λ b. tells_keep r k)))
      (λ e. tells_keep r k)

  tells_asks : (r : ReplicaState C) (u place : ℕ) → Kept f i L K r → Tells f i L K (asks f i answer r u place)
  tells_asks r u place k = tells_same r _ k (tell_if (OrOwn f i L r) i (primary f u == i) _ ((send f i answer (primary f u) (GetState u place)) ∷ []) (λ e. tt) ((refl, tt), tt))

  -- a replica has this log of its view now, as one that isn't its primary
  tells_holds_log : (r : ReplicaState C) (log : List (Request C)) (c : ℕ) → (primary f r.view ≡ i → ⊥) → ((s : ℕ) (a : RecoveryResponse C) → r.responses s ≡ Some a → StateTells L a.view a.state) → L r.view (length log) → Tells f i L K (holds_log f i answer r log c)
  tells_holds_log r log c apart responses l = record {
    normal = λ e. inl l;
    responses = responses;
    acknowledged = λ e leads. absurd (apart leads);
    sends = ((refl, inl l), tt);
  }

  tells_behind : (r : ReplicaState C) (u : ℕ) → Kept f i L K r → Tells f i L K (cond (behind f i answer r u) (asks f i answer r u r.commit_number) (keep f i answer r))
  tells_behind r u k = tells_if (behind f i answer r u) _ _ (λ e. tells_asks r u r.commit_number k) (λ e. tells_keep r k)

  backup : (r : ReplicaState C) (u : ℕ) → is_backup_in f i answer r u ≡ true → (is_normal r.status ≡ true) × (r.view ≡ u) × (primary f r.view ≡ i → ⊥)
  backup r u e =
      let p = and_parts (is_normal r.status && (r.view == u)) (not (is_primary f i answer r)) e in
      let q = and_parts (is_normal r.status) (r.view == u) p.0 in
      (q.0, eqb-true _ _ q.1, λ leads. let d : is_primary f i answer r ≡ true = eq-eqb _ _ leads in absurd (let c : not true ≡ true = subst (λ b. not b ≡ true) d p.1 in cc))

  tells_prepare : (r : ReplicaState C) (u : ℕ) (m : Request C) (p c : ℕ) → Kept f i L K r → L u p → Tells f i L K (on_prepare f i answer r u m p c)
  tells_prepare r u m p c k l =
      tells_if (is_backup_in f i answer r u) _ _
      (λ e. let b = backup r u e in
      tells_if (p == length r.log + 1) _ _
      (λ a. tells_holds_log r (r.log ++ m ∷ []) c b.2 k.responses (less r.view p (length (r.log ++ m ∷ [])) (omega (arith, length_more r.log m, eqb-true p (length r.log + 1) a)) (subst (λ v. L v p) (sym b.1) l)))
      (λ a. tells_if (leb p (length r.log)) _ _ (λ d. tells_holds_log r r.log c b.2 k.responses (k.normal b.0)) (λ d. tells_asks r u (length r.log) k)))
      (λ e. tells_behind r u k)

  tells_commit : (r : ReplicaState C) (u c : ℕ) → Kept f i L K r → Tells f i L K (on_commit f i answer r u c)
  tells_commit r u c k =
      tells_if (is_backup_in f i answer r u) _ _
      (λ e. let q : ReplicaState C = record r { commit_number = max r.commit_number (min c (length r.log)) } in
      record { normal = λ n. inl (k.normal n); responses = k.responses; acknowledged = k.acknowledged; sends = tell_if (OrOwn f i L q) i (ltb (length r.log) c) _ _ (λ d. ((refl, tt), tt)) tt })
      (λ e. tells_behind r u k)

  tells_prepare_ok : (r : ReplicaState C) (s u p : ℕ) → Kept f i L K r → K s u p → Tells f i L K (on_prepare_ok f i answer r s u p)
  tells_prepare_ok r s u p k l =
      let new : ℕ → ℕ = put r.acknowledged s (max (r.acknowledged s) p) in
      let last : ℕ = reached f i new (length r.log) in
      let q : ReplicaState C = record r { acknowledged = new; commit_number = max r.commit_number last } in
      tells_if ((is_normal r.status && is_primary f i answer r) && ((r.view == u) && leb p (length r.log))) _ _
      (λ e. let a = and_parts (is_normal r.status && is_primary f i answer r) ((r.view == u) && leb p (length r.log)) e in
      let same : r.view ≡ u = eqb-true _ _ (and_parts (r.view == u) (leb p (length r.log)) a.1).0 in
      record {
        normal = λ n. inl (k.normal n);
        responses = k.responses;
        acknowledged = λ n leads t. put_cases r.acknowledged s (max (r.acknowledged s) p) t (λ y. (y ≡ 0) ⊎ K t r.view y)
            (λ d. subst (λ z. (max (r.acknowledged s) p ≡ 0) ⊎ K z r.view (max (r.acknowledged s) p)) (sym d)
            (elim (cases_lt (r.acknowledged s) p) [
              | inl lt ↦ let m : max (r.acknowledged s) p ≡ p = omega arith in inr (subst (λ y. K s r.view y) (sym m) (subst (λ v. K s v p) (sym same) l))
              | inr ge ↦ let m : max (r.acknowledged s) p ≡ r.acknowledged s = omega arith in subst (λ y. (y ≡ 0) ⊎ K s r.view y) (sym m) (k.acknowledged n leads s)
            ]))
            (λ d. k.acknowledged n leads t);
        sends = tell_replies (OrOwn f i L q) (record r { acknowledged = new }) r.commit_number (last - r.commit_number);
      })
      (λ e. tells_keep r k)

  tells_enters : (r : ReplicaState C) (u : ℕ) → Kept f i L K r → Tells f i L K (enters f i answer r u)
  tells_enters r u k = record { normal = λ e. absurd cc; responses = k.responses; acknowledged = λ e. absurd cc; sends = tell_others _ (StartViewChange u) tt }

  tells_timeout : (r : ReplicaState C) → Kept f i L K r → Tells f i L K (on_timeout f i answer r)
  tells_timeout r k = tells_if _ _ _ (λ e. tells_enters r (r.view + 1) k) (λ e. tells_keep r k)

  -- the view change: the first of two outcomes tells of no log
  kept_with : (r q : ReplicaState C) → Kept f i L K r → q.status ≡ r.status → is_view_change r.status ≡ true → ((s : ℕ) → q.responses s ≡ r.responses s) → Kept f i L K q
  kept_with r q k status late responses = record {
    normal = λ e. absurd (normal_or_late _ (ap is_normal (sym status) ∙ e) late);
    responses = λ s a e. k.responses s a (sym (responses s) ∙ e);
    acknowledged = λ e. absurd (normal_or_late _ (ap is_normal (sym status) ∙ e) late);
  }

  tells_begins : (r : ReplicaState C) (a : Option (DoViewChange C)) → primary f r.view ≡ i → Kept f i L K r → Tells f i L K (begins_with f i answer r a)
  tells_begins r None leads k = tells_keep r k
  tells_begins r (Some a) leads k =
      let c : ℕ = max r.commit_number (min (greatest_commit r.do_view_changes (group_size f)) (length a.log)) in
      let q : ReplicaState C = record (adopted f i answer r r.view) { log = a.log; commit_number = c; acknowledged = λ s. 0 } in
      let own : Own f i q r.view (length a.log) = record { leads = leads; normal = refl; view = refl; holds = omega arith } in
      record {
        normal = λ e. inr own;
        responses = k.responses;
        acknowledged = λ e l s. inl refl;
        sends = tell_others (OrOwn f i L q) (StartView r.view c a.log) (inr own);
      }

  tells_begins_if_elected : (r : ReplicaState C) → primary f r.view ≡ i → Kept f i L K r → Tells f i L K (begins_if_elected f i answer r)
  tells_begins_if_elected r leads k = tells_if (is_elected f i answer r) _ _ (λ e. tells_begins r (best r.do_view_changes (group_size f)) leads k) (λ e. tells_keep r k)

  tells_sends_change : (r : ReplicaState C) → is_view_change r.status ≡ true → Kept f i L K r → Tells f i L K (sends_do_view_change f i answer r)
  tells_sends_change r late k = tells_if (is_primary f i answer r) _ _
      (λ e. let q : ReplicaState C = record r { sent_do_view_change = true; do_view_changes = put r.do_view_changes i (Some (own_do_view_change r)) } in
      tells_begins_if_elected q (eqb-true _ _ e) (kept_with r q k refl late (λ s. refl)))
      (λ e. let q : ReplicaState C = record r { sent_do_view_change = true } in
      tells_same q _ (kept_with r q k refl late (λ s. refl)) ((refl, tt), tt))

  tells_counts : (s : ℕ) (r : ReplicaState C) → is_view_change r.status ≡ true → Kept f i L K r → Tells f i L K (counts_start_view_change f i answer s r)
  tells_counts s r late k =
      let q : ReplicaState C = record r { start_view_changes = put r.start_view_changes s true } in
      let d : Kept f i L K q = kept_with r q k refl late (λ t. refl) in
      tells_if (not q.sent_do_view_change && leb f (how_many q.start_view_changes (group_size f))) _ _ (λ e. tells_sends_change q late d) (λ e. tells_keep q d)

  tells_keeps_change : (s : ℕ) (a : DoViewChange C) (r : ReplicaState C) → primary f r.view ≡ i → is_view_change r.status ≡ true → Kept f i L K r → Tells f i L K (keeps_do_view_change f i answer s a r)
  tells_keeps_change s a r leads late k = tells_if (is_some (r.do_view_changes s)) _ _ (λ e. tells_keep r k)
      (λ e. let q : ReplicaState C = record r { do_view_changes = put r.do_view_changes s (Some a) } in tells_begins_if_elected q leads (kept_with r q k refl late (λ t. refl)))

  tells_in : (u : ℕ) (next : ReplicaState C → Outcome C A) (r : ReplicaState C) → Kept f i L K r → (is_view_change r.status ≡ true → r.view ≡ u → Tells f i L K (next r)) → Tells f i L K (if_view_change_in f i answer u next r)
  tells_in u next r k more = tells_if (is_view_change r.status && (r.view == u)) _ _
      (λ e. let p = and_parts (is_view_change r.status) (r.view == u) e in more p.0 (eqb-true _ _ p.1)) (λ e. tells_keep r k)

  -- it enters the view first, or not
  tells_then : (r : ReplicaState C) (u : ℕ) (next : ReplicaState C → Outcome C A) → Kept f i L K r → ((q : ReplicaState C) → Kept f i L K q → Tells f i L K (next q)) → Tells f i L K (and_then f i answer (enters_if_above f i answer r u) next)
  tells_then r u next k more = go (ltb r.view u)
    where
      new : Kept f i L K (enters f i answer r u).replica
      new = record { normal = λ e. absurd cc; responses = k.responses; acknowledged = λ e. absurd cc }

      go : (b : Bool) → Tells f i L K (and_then f i answer (cond b (enters f i answer r u) (keep f i answer r)) next)
      go true = let t = more (enters f i answer r u).replica new in record {
        normal = t.normal;
        responses = t.responses;
        acknowledged = t.acknowledged;
        sends = tell_append _ i (send_others f i answer (StartViewChange u)) _ (tell_others _ (StartViewChange u) tt) t.sends;
      }
      go false = let t = more r k in record { normal = t.normal; responses = t.responses; acknowledged = t.acknowledged; sends = t.sends }

  tells_start_view_change : (r : ReplicaState C) (s u : ℕ) → Kept f i L K r → Tells f i L K (on_start_view_change f i answer r s u)
  tells_start_view_change r s u k = tells_if (takes_part r.status) _ _
      (λ e. tells_then r u (if_view_change_in f i answer u (counts_start_view_change f i answer s)) k (λ q d. tells_in u (counts_start_view_change f i answer s) q d (λ late same. tells_counts s q late d)))
      (λ e. tells_keep r k)

  tells_do_view_change : (r : ReplicaState C) (s u : ℕ) (a : DoViewChange C) → Kept f i L K r → Tells f i L K (on_do_view_change f i answer r s u a)
  tells_do_view_change r s u a k = tells_if (takes_part r.status && (primary f u == i)) _ _
      (λ e. let leads : primary f u ≡ i = eqb-true _ _ (and_parts (takes_part r.status) (primary f u == i) e).1 in
      tells_then r u (if_view_change_in f i answer u (keeps_do_view_change f i answer s a)) k
      (λ q d. tells_in u (keeps_do_view_change f i answer s a) q d (λ late same. tells_keeps_change s a q (ap (primary f) same ∙ leads) late d)))
      (λ e. tells_keep r k)

  -- What is told of a view that the replica leads itself, it holds.
  abbrev pub Mine : ReplicaState C → Type 0
  Mine r = (u p : ℕ) → L u p → primary f u ≡ i → takes_part r.status ≡ true → (r.view < u) ⊎ ((is_view_change r.status ≡ true) × (r.view ≡ u)) → ⊥

  tells_start_view : (r : ReplicaState C) (u c : ℕ) (log : List (Request C)) → Kept f i L K r → Mine r → L u (length log) → Tells f i L K (on_start_view f i answer r u c log)
  tells_start_view r u c log k mine l = tells_if (behind f i answer r u && leb r.commit_number (length log)) _ _
      (λ e.
      let b = behind_cases {A = A} f i answer r u (and_parts (behind f i answer r u) (leb r.commit_number (length log)) e).0 in
      let n : ℕ = max r.commit_number (min c (length log)) in
      let q : ReplicaState C = record (adopted f i answer r u) { log = log; commit_number = n } in
      record {
        normal = λ d. inl l;
        responses = k.responses;
        acknowledged = λ d leads. absurd (mine u (length log) l leads b.0 b.1);
        sends = tell_append (OrOwn f i L q) i (replies_from f i answer q r.commit_number) _ (tell_replies_from (OrOwn f i L q) q r.commit_number)
            (tell_if (OrOwn f i L q) i (ltb n (length log)) _ _ (λ d. ((refl, inl l), tt)) tt);
      })
      (λ e. tells_keep r k)

  tells_recovery : (r : ReplicaState C) (s x w : ℕ) → Kept f i L K r → Tells f i L K (on_recovery f i answer r s x w)
  tells_recovery r s x w k = tells_if (is_normal r.status) _ _
      (λ e. tells_if (leb w r.view) _ _ (λ a. tells_same r _ k ((refl, own e (is_primary f i answer r)), tt)) (λ a. tells_enters r w k))
      (λ e. tells_keep r k)
    where
      own : is_normal r.status ≡ true → (b : Bool) → StateTells (OrOwn f i L r) r.view (cond b (Some (record { commit_number = r.commit_number; log = r.log })) None)
      own e true = inl (k.normal e)
      own e false = tt

  tells_recovers : (r : ReplicaState C) → Kept f i L K r → r.responses i ≡ None → Tells f i L K (recovers f i answer r)
  tells_recovers r k own = tells_if _ _ _ (λ e. at (r.responses (primary f w)) refl) (λ e. tells_keep r k)
    where
      w : ℕ
      w = latest r.responses (group_size f)

      with : (primary f w ≡ i → ⊥) → (a : Option (PrimaryState C)) → StateTells L w a → Tells f i L K (recovers_with f i answer r w a)
      with apart None l = tells_keep r k
      with apart (Some a) l = record { normal = λ e. inl l; responses = k.responses; acknowledged = λ e leads. absurd (apart leads); sends = tt }

      in_view : (apart : primary f w ≡ i → ⊥) (a : RecoveryResponse C) → StateTells L a.view a.state → (b : Bool) → (a.view == w) ≡ b → Tells f i L K (recovers_with f i answer r w (cond b a.state None))
      in_view apart a l true e = with apart a.state (subst (λ v. StateTells L v a.state) (eqb-true _ _ e) l)
      in_view apart a l false e = with apart None tt

      at : (a : Option (RecoveryResponse C)) → r.responses (primary f w) ≡ a → Tells f i L K (recovers_with f i answer r w (state_of w a))
      at None is = tells_keep r k
      at (Some a) is = in_view (λ leads. absurd (let c : None ≡ Some a = sym own ∙ ap r.responses (sym leads) ∙ is in cc)) a (k.responses (primary f w) a is) (a.view == w) refl

  tells_recovery_response : (r : ReplicaState C) (s x : ℕ) (a : RecoveryResponse C) → (s ≡ i → ⊥) → Kept f i L K r → (is_recovering r.status ≡ true → r.responses i ≡ None) → StateTells L a.view a.state
      → Tells f i L K (on_recovery_response f i answer r s x a)
  tells_recovery_response r s x a apart k own l = tells_if (is_recovering r.status && (r.nonce == x)) _ _
      (λ e.
      let new : Option (RecoveryResponse C) = Some (kept_response (r.responses s) a) in
      let q : ReplicaState C = record r { responses = put r.responses s new } in
      tells_recovers q (record {
        normal = k.normal;
        responses = λ t b. put_cases r.responses s new t (λ y. y ≡ Some b → StateTells L b.view b.state)
            (λ d is. subst (λ (z : RecoveryResponse C). StateTells L z.view z.state) (same_Some _ _ is) (kept (r.responses s) refl))
            (λ d is. k.responses t b is);
        acknowledged = k.acknowledged;
      })
      (put_other r.responses s new i (λ d. apart (sym d)) ∙ own (and_parts (is_recovering r.status) (r.nonce == x) e).0))
      (λ e. tells_keep r k)
    where
      kept : (b : Option (RecoveryResponse C)) → r.responses s ≡ b → StateTells L (kept_response b a).view (kept_response b a).state
      kept None is = l
      kept (Some b) is = go (ltb b.view a.view || (b.view == a.view) && ltb (log_length b.state) (log_length a.state))
        where
          go : (t : Bool) → StateTells L (cond t a b).view (cond t a b).state
          go true = l
          go false = k.responses s b is

  tells_get_state : (r : ReplicaState C) (s u p : ℕ) → Kept f i L K r → Tells f i L K (on_get_state f i answer r s u p)
  tells_get_state r s u p k = tells_if (is_normal r.status && (r.view == u) && leb p (length r.log)) _ _
      (λ e.
      let a = and_parts (is_normal r.status && (r.view == u)) (leb p (length r.log)) e in
      let b = and_parts (is_normal r.status) (r.view == u) a.0 in
      tells_same r _ k ((refl, inl (subst (λ v. L v (p + length (drop p r.log))) (eqb-true _ _ b.1) (less r.view (length r.log) (p + length (drop p r.log)) (omega (arith, length_drop p r.log (leb-true _ _ a.1))) (k.normal b.0)))), tt))
      (λ e. tells_keep r k)

  tells_new_state : (r : ReplicaState C) (u p c : ℕ) (log : List (Request C)) → Kept f i L K r → Mine r → L u (p + length log) → Tells f i L K (on_new_state f i answer r u p c log)
  tells_new_state r u p c log k mine l = tells_if (is_backup_in f i answer r u) _ _
      (λ e. let b = backup r u e in
      tells_if (leb p (length r.log) && ltb (length r.log) (p + length log)) _ _
      (λ a. let d = and_parts (leb p (length r.log)) (ltb (length r.log) (p + length log)) a in
      tells_holds_log r (r.log ++ drop (length r.log - p) log) c b.2 k.responses
      (less r.view (p + length log) (length (r.log ++ drop (length r.log - p) log)) (omega (arith, length_rest p r.log log (leb-true _ _ d.0) (ltb-true _ _ d.1))) (subst (λ v. L v (p + length log)) (sym b.1) l)))
      (λ a. tells_keep r k))
      (λ e. tells_if (behind f i answer r u && (leb p r.commit_number && leb r.commit_number (p + length log))) _ _
      (λ a.
      let b = behind_cases {A = A} f i answer r u (and_parts (behind f i answer r u) (leb p r.commit_number && leb r.commit_number (p + length log)) a).0 in
      let q : ReplicaState C = (holds_log f i answer (adopted f i answer r u) (take p r.log ++ log) c).replica in
      let t = tells_holds_log (adopted f i answer r u) (take p r.log ++ log) c (λ leads. mine u (p + length log) l leads b.0 b.1) k.responses
      (less u (p + length log) (length (take p r.log ++ log)) (omega (arith, length-append (take p r.log) log, length_take p r.log)) l) in
      record { normal = t.normal; responses = t.responses; acknowledged = t.acknowledged; sends = tell_append (OrOwn f i L q) i (replies_from f i answer q r.commit_number) _ (tell_replies_from (OrOwn f i L q) q r.commit_number) t.sends })
      (λ a. tells_keep r k))

  tell_prepares : (M : ℕ → ℕ → Type 0) (r : ReplicaState C) (p : ℕ) (ms : List (Request C)) → ((n : ℕ) → n ≤ p + length ms → M r.view n) → AllTell M i (prepares f i answer r p ms)
  tell_prepares M r p [] all = tt
  tell_prepares M r p (m ∷ ms) all = tell_append M i (send_others f i answer (Prepare r.view m (p + 1) r.commit_number)) _ (tell_others M (Prepare r.view m (p + 1) r.commit_number) (all (p + 1) (omega arith)))
      (tell_prepares M r (p + 1) ms (λ n l. all n (omega arith)))

  tells_resend : (r : ReplicaState C) → Kept f i L K r → Tells f i L K (on_resend f i answer r)
  tells_resend r k = tells_same r _ k (go r.status (λ e. k.normal e))
    where
      go : (s : Status) → (is_normal s ≡ true → L r.view (length r.log)) → AllTell (OrOwn f i L r) i (resent f i answer r s)
      go Normal l = tell_if (OrOwn f i L r) i (is_primary f i answer r) _ _
          (λ e. tell_if (OrOwn f i L r) i (ltb r.commit_number (length r.log)) _ _
          (λ a. let lt : r.commit_number < length r.log = ltb-true _ _ a in
          tell_prepares (OrOwn f i L r) r r.commit_number (drop r.commit_number r.log) (λ n d. inl (less r.view (length r.log) n (omega (arith, length_drop r.commit_number r.log (omega arith))) (l refl))))
          (tell_others (OrOwn f i L r) (Commit r.view r.commit_number) tt))
          ((refl, inl (l refl)), tt)
      go ViewChange l = tell_append (OrOwn f i L r) i (send_others f i answer (StartViewChange r.view)) _ (tell_others (OrOwn f i L r) (StartViewChange r.view) tt)
          (tell_if (OrOwn f i L r) i (r.sent_do_view_change && not (is_primary f i answer r)) _ _ (λ e. ((refl, tt), tt)) tt)
      go Recovering l = tell_others (OrOwn f i L r) (Recovery r.nonce r.stored_view) tt
      go Down l = tt

  -- what was acknowledged by this message
  abbrev pub Acknowledges : Party → Body C A → Type 0
  Acknowledges (Replica s) (PrepareOk u p) = K s u p
  Acknowledges from body = Unit {0}

  tells_from_replica : (r : ReplicaState C) (s : ℕ) (b : Body C A) → (s ≡ i → ⊥) → Kept f i L K r → Mine r → (is_recovering r.status ≡ true → r.responses i ≡ None) → BodyTells L b → Acknowledges (Replica s) b
      → Tells f i L K (from_replica f i answer r s b)
  tells_from_replica r s (RequestMessage m) apart k mine own l acks = tells_keep r k
  tells_from_replica r s (Prepare u m p c) apart k mine own l acks = tells_prepare r u m p c k l
  tells_from_replica r s (PrepareOk u p) apart k mine own l acks = tells_prepare_ok r s u p k acks
  tells_from_replica r s (Commit u c) apart k mine own l acks = tells_commit r u c k
  tells_from_replica r s (Reply u m a) apart k mine own l acks = tells_keep r k
  tells_from_replica r s (StartViewChange u) apart k mine own l acks = tells_start_view_change r s u k
  tells_from_replica r s (DoViewChangeMessage u a) apart k mine own l acks = tells_do_view_change r s u a k
  tells_from_replica r s (StartView u c log) apart k mine own l acks = tells_start_view r u c log k mine l
  tells_from_replica r s (Recovery x w) apart k mine own l acks = tells_recovery r s x w k
  tells_from_replica r s (RecoveryResponseMessage x a) apart k mine own l acks = tells_recovery_response r s x a apart k own l
  tells_from_replica r s (GetState u p) apart k mine own l acks = tells_get_state r s u p k
  tells_from_replica r s (NewState u p c log) apart k mine own l acks = tells_new_state r u p c log k mine l

  tells_from_client : (r : ReplicaState C) (b : Body C A) → Kept f i L K r → Tells f i L K (from_client f i answer r b)
  tells_from_client r (RequestMessage m) k = tells_request r m k
  tells_from_client r _ k = tells_keep r k

  tells_receives : (r : ReplicaState C) (from : Party) (b : Body C A) → Kept f i L K r → Mine r → (is_recovering r.status ≡ true → r.responses i ≡ None) → BodyTells L b → Acknowledges from b → Tells f i L K (receives f i answer r from b)
  tells_receives r (Replica s) b k mine own l acks = tells_if (ltb s (group_size f) && not (s == i)) _ _
      (λ e. tells_from_replica r s b (apart (and_parts (ltb s (group_size f)) (not (s == i)) e).1) k mine own l acks) (λ e. tells_keep r k)
    where
      apart : not (s == i) ≡ true → s ≡ i → ⊥
      apart e d = let same : (s == i) ≡ true = eq-eqb s i d in absurd (let c : not true ≡ true = subst (λ b. not b ≡ true) same e in cc)
  tells_receives r (Client c) b k mine own l acks = tells_if (ltb c client_count) _ _ (λ e. tells_from_client r b k) (λ e. tells_keep r k)

  abbrev pub Took : Input C A → Type 0
  Took (Takes m) = BodyTells L m.body × Acknowledges m.from m.body
  Took TimesOut = Unit {0}
  Took Resends = Unit {0}

  pub tells_by_rule : (r : ReplicaState C) (input : Input C A) → Kept f i L K r → Mine r → (is_recovering r.status ≡ true → r.responses i ≡ None) → Took input → Tells f i L K (by_rule f i answer r input)
  tells_by_rule r (Takes m) k mine own t = tells_receives r m.from m.body k mine own t.0 t.1
  tells_by_rule r TimesOut k mine own t = tells_timeout r k
  tells_by_rule r Resends k mine own t = tells_resend r k
