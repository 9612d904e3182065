-- Who asks for recovery, and who answers: every rule but RECOVERY, resend and restart sends neither.
use Rattle.std.proofs.Common.{◌≡◌, ℕ, zero, suc, ◌+◌, ◌-◌, max, min, Bool, true, false, cond, not, ◌==◌, leb, ltb, ◌&&◌, List, [], ◌∷◌, ◌++◌, length, take, drop, map, Option, Some, None, refl, ◌∙◌, subst}
use Rattle.std.specs.Prelude.{slice_get, is_some}
use Rattle.vr_model.specs.Logs.{Request, last_number, is_above}
use Rattle.vr_model.specs.Groups.{group_size, primary, how_many, client_count}
use Rattle.vr_model.specs.Messages.{DoViewChange, PrimaryState, RecoveryResponse, Party, Replica, Client, Body, RequestMessage, Prepare, PrepareOk, Commit, Reply, StartViewChange, DoViewChangeMessage, StartView, Recovery, RecoveryResponseMessage, GetState, NewState, Message}
use Rattle.vr_model.specs.Replicas.{Status, Normal, ViewChange, Recovering, Down, is_normal, is_view_change, is_recovering, takes_part, ReplicaState, Outcome, put}
use Rattle.vr_model.specs.Choices.{others, reached, best, greatest_commit, place_of, is_same, kept_response, latest, state_of, own_do_view_change}
use Rattle.vr_model.specs.Rules.{keep, send, send_others, is_primary, reply_of, replies, replies_from, on_request, behind, is_backup_in, asks, holds_log, on_prepare, on_prepare_ok, on_commit, enters, and_then, on_timeout, adopted, begins_with, is_elected, begins_if_elected, sends_do_view_change, counts_start_view_change, enters_if_above, if_view_change_in, on_start_view_change, keeps_do_view_change, on_do_view_change, on_start_view, on_recovery, own_response, recovers_with, recovers, on_recovery_response, on_get_state, on_new_state, prepares, resent, on_resend, from_replica, from_client, receives}
use Rattle.vr_model.specs.Steps.{Input, Takes, TimesOut, Resends, by_rule}

-- of a replica
abbrev pub OfReplica : Party → (ℕ → Type 0) → Type 0
OfReplica (Replica s) P = P s
OfReplica (Client c) P = Unit {0}

-- neither RECOVERY nor its answer
abbrev pub Quiet : {C A : Type 0} → Body C A → Type 0
Quiet (Recovery x v) = ⊥
Quiet (RecoveryResponseMessage x a) = ⊥
Quiet _ = Unit {0}

abbrev pub AllQuiet : {C A : Type 0} → List (Message C A) → Type 0
AllQuiet [] = Unit {0}
AllQuiet (m ∷ ms) = Quiet m.body × AllQuiet ms

pub quiet_append : {C A : Type 0} (xs ys : List (Message C A)) → AllQuiet xs → AllQuiet ys → AllQuiet (xs ++ ys)
quiet_append [] ys a b = b
quiet_append (x ∷ xs) ys a b = (a.0, quiet_append xs ys a.1 b)

-- a rule that sends neither, and makes no replica recover
pub record Calm {C A : Type 0} (r : ReplicaState C) (o : Outcome C A) : Type 0 where
  pub sends : AllQuiet o.sends
  pub nonce : o.replica.nonce ≡ r.nonce
  pub recovering : is_recovering o.replica.status ≡ true → is_recovering r.status ≡ true

calm_if : {C A : Type 0} (r : ReplicaState C) (b : Bool) (x y : Outcome C A) → Calm r x → Calm r y → Calm r (cond b x y)
calm_if r true x y first second = first
calm_if r false x y first second = second

quiet_if : {C A : Type 0} (b : Bool) (x y : List (Message C A)) → AllQuiet x → AllQuiet y → AllQuiet (cond b x y)
quiet_if true x y first second = first
quiet_if false x y first second = second

module _ {C A : Type 0} (f i : ℕ) (answer : List C → A) where
  quiet_map : (body : Body C A) (to : List ℕ) → Quiet body → AllQuiet (map (λ t. send f i answer t body) to)
  quiet_map body [] l = tt
  quiet_map body (t ∷ ts) l = (l, quiet_map body ts l)

  quiet_others : (body : Body C A) → Quiet body → AllQuiet (send_others f i answer body)
  quiet_others body l = quiet_map body (others i (group_size f)) l

  quiet_reply : (r : ReplicaState C) (j : ℕ) (m : Option (Request C)) → AllQuiet (reply_of f i answer r j m)
  quiet_reply r j None = tt
  quiet_reply r j (Some m) = (tt, tt)

  quiet_replies : (r : ReplicaState C) (from count : ℕ) → AllQuiet (replies f i answer r from count)
  quiet_replies r from zero = tt
  quiet_replies r from (suc count) = quiet_append (reply_of f i answer r from (slice_get r.log from)) _ (quiet_reply r from (slice_get r.log from)) (quiet_replies r (from + 1) count)

  quiet_replies_from : (r : ReplicaState C) (from : ℕ) → AllQuiet (replies_from f i answer r from)
  quiet_replies_from r from = quiet_if (is_primary f i answer r) _ _ (quiet_replies r from (r.commit_number - from)) tt

  calm_keep : (r : ReplicaState C) → Calm r (keep f i answer r)
  calm_keep r = record { sends = tt; nonce = refl; recovering = λ e. e }

  calm_request : (r : ReplicaState C) (m : Request C) → Calm r (on_request f i answer r m)
  calm_request r m =
      calm_if r (is_normal r.status && is_primary f i answer r) _ _
      (calm_if r (is_above m.number (last_number r.log m.client)) _ _
      (record { sends = quiet_others (Prepare r.view m (length r.log + 1) r.commit_number) tt; nonce = refl; recovering = λ e. e })
      (calm_if r (is_same m.number (last_number r.log m.client)) _ _
      (record { sends = let j = place_of r.log m.client m.number in quiet_if (ltb j r.commit_number) _ _ (quiet_reply r j (slice_get r.log j)) tt; nonce = refl; recovering = λ e. e })
      (calm_keep r)))
      (calm_keep r)

  calm_asks : (r : ReplicaState C) (u place : ℕ) → Calm r (asks f i answer r u place)
  calm_asks r u place = record { sends = quiet_if (primary f u == i) _ _ tt (tt, tt); nonce = refl; recovering = λ e. e }

  calm_holds_log : (r : ReplicaState C) (log : List (Request C)) (c : ℕ) → Calm r (holds_log f i answer r log c)
  calm_holds_log r log c = record { sends = (tt, tt); nonce = refl; recovering = λ e. e }

  calm_behind : (r : ReplicaState C) (u : ℕ) → Calm r (cond (behind f i answer r u) (asks f i answer r u r.commit_number) (keep f i answer r))
  calm_behind r u = calm_if r (behind f i answer r u) _ _ (calm_asks r u r.commit_number) (calm_keep r)

  calm_prepare : (r : ReplicaState C) (u : ℕ) (m : Request C) (p c : ℕ) → Calm r (on_prepare f i answer r u m p c)
  calm_prepare r u m p c =
      calm_if r (is_backup_in f i answer r u) _ _
      (calm_if r (p == length r.log + 1) _ _ (calm_holds_log r (r.log ++ m ∷ []) c)
      (calm_if r (leb p (length r.log)) _ _ (calm_holds_log r r.log c) (calm_asks r u (length r.log))))
      (calm_behind r u)

  calm_commit : (r : ReplicaState C) (u c : ℕ) → Calm r (on_commit f i answer r u c)
  calm_commit r u c =
      calm_if r (is_backup_in f i answer r u) _ _
      (record { sends = quiet_if (ltb (length r.log) c) _ _ (tt, tt) tt; nonce = refl; recovering = λ e. e })
      (calm_behind r u)

  calm_prepare_ok : (r : ReplicaState C) (s u p : ℕ) → Calm r (on_prepare_ok f i answer r s u p)
  calm_prepare_ok r s u p =
      let new : ℕ → ℕ = put r.acknowledged s (max (r.acknowledged s) p) in
      let last : ℕ = reached f i new (length r.log) in
      calm_if r ((is_normal r.status && is_primary f i answer r) && ((r.view == u) && leb p (length r.log))) _ _
      (record { sends = quiet_replies (record r { acknowledged = new }) r.commit_number (last - r.commit_number); nonce = refl; recovering = λ e. e })
      (calm_keep r)

  calm_enters : (r : ReplicaState C) (u : ℕ) → Calm r (enters f i answer r u)
  calm_enters r u = record { sends = quiet_others (StartViewChange u) tt; nonce = refl; recovering = λ e. absurd cc }

  calm_then : (r : ReplicaState C) (o : Outcome C A) (next : ReplicaState C → Outcome C A) → Calm r o → Calm o.replica (next o.replica) → Calm r (and_then f i answer o next)
  calm_then r o next k m = record { sends = quiet_append o.sends (next o.replica).sends k.sends m.sends; nonce = m.nonce ∙ k.nonce; recovering = λ e. k.recovering (m.recovering e) }

  calm_timeout : (r : ReplicaState C) → Calm r (on_timeout f i answer r)
  calm_timeout r = calm_if r _ _ _ (calm_enters r (r.view + 1)) (calm_keep r)

  calm_begins : (r : ReplicaState C) (a : Option (DoViewChange C)) → Calm r (begins_with f i answer r a)
  calm_begins r None = calm_keep r
  calm_begins r (Some a) = record {
    sends = quiet_others (StartView r.view (max r.commit_number (min (greatest_commit r.do_view_changes (group_size f)) (length a.log))) a.log) tt;
    nonce = refl;
    recovering = λ e. absurd cc;
  }

  calm_begins_if_elected : (r : ReplicaState C) → Calm r (begins_if_elected f i answer r)
  calm_begins_if_elected r = calm_if r (is_elected f i answer r) _ _ (calm_begins r (best r.do_view_changes (group_size f))) (calm_keep r)

  calm_sends_change : (r : ReplicaState C) → Calm r (sends_do_view_change f i answer r)
  calm_sends_change r = calm_if r (is_primary f i answer r) _ _
      (let k = calm_begins_if_elected (record r { sent_do_view_change = true; do_view_changes = put r.do_view_changes i (Some (own_do_view_change r)) }) in record { sends = k.sends; nonce = k.nonce; recovering = k.recovering })
      (record { sends = (tt, tt); nonce = refl; recovering = λ e. e })

  calm_counts : (s : ℕ) (r : ReplicaState C) → Calm r (counts_start_view_change f i answer s r)
  calm_counts s r =
      let q : ReplicaState C = record r { start_view_changes = put r.start_view_changes s true } in
      calm_if r (not q.sent_do_view_change && leb f (how_many q.start_view_changes (group_size f))) _ _
      (let k = calm_sends_change q in record { sends = k.sends; nonce = k.nonce; recovering = k.recovering })
      (record { sends = tt; nonce = refl; recovering = λ e. e })

  calm_enters_if_above : (r : ReplicaState C) (u : ℕ) → Calm r (enters_if_above f i answer r u)
  calm_enters_if_above r u = calm_if r (ltb r.view u) _ _ (calm_enters r u) (calm_keep r)

  calm_in : (u : ℕ) (next : ReplicaState C → Outcome C A) (r : ReplicaState C) → Calm r (next r) → Calm r (if_view_change_in f i answer u next r)
  calm_in u next r more = calm_if r (is_view_change r.status && (r.view == u)) _ _ more (calm_keep r)

  calm_start_view_change : (r : ReplicaState C) (s u : ℕ) → Calm r (on_start_view_change f i answer r s u)
  calm_start_view_change r s u = calm_if r (takes_part r.status) _ _
      (let o : Outcome C A = enters_if_above f i answer r u in
      calm_then r o (if_view_change_in f i answer u (counts_start_view_change f i answer s)) (calm_enters_if_above r u) (calm_in u (counts_start_view_change f i answer s) o.replica (calm_counts s o.replica)))
      (calm_keep r)

  calm_keeps_change : (s : ℕ) (a : DoViewChange C) (r : ReplicaState C) → Calm r (keeps_do_view_change f i answer s a r)
  calm_keeps_change s a r = calm_if r (is_some (r.do_view_changes s)) _ _ (calm_keep r)
      (let k = calm_begins_if_elected (record r { do_view_changes = put r.do_view_changes s (Some a) }) in record { sends = k.sends; nonce = k.nonce; recovering = k.recovering })

  calm_do_view_change : (r : ReplicaState C) (s u : ℕ) (a : DoViewChange C) → Calm r (on_do_view_change f i answer r s u a)
  calm_do_view_change r s u a = calm_if r (takes_part r.status && (primary f u == i)) _ _
      (let o : Outcome C A = enters_if_above f i answer r u in
      calm_then r o (if_view_change_in f i answer u (keeps_do_view_change f i answer s a)) (calm_enters_if_above r u) (calm_in u (keeps_do_view_change f i answer s a) o.replica (calm_keeps_change s a o.replica)))
      (calm_keep r)

  calm_start_view : (r : ReplicaState C) (u c : ℕ) (log : List (Request C)) → Calm r (on_start_view f i answer r u c log)
  calm_start_view r u c log = calm_if r (behind f i answer r u && leb r.commit_number (length log)) _ _
      (record {
        sends = let q : ReplicaState C = record (adopted f i answer r u) { log = log; commit_number = max r.commit_number (min c (length log)) } in
            quiet_append (replies_from f i answer q r.commit_number) _ (quiet_replies_from q r.commit_number) (quiet_if (ltb (max r.commit_number (min c (length log))) (length log)) _ _ (tt, tt) tt);
        nonce = refl;
        recovering = λ e. absurd cc;
      })
      (calm_keep r)

  calm_recovers : (r : ReplicaState C) → Calm r (recovers f i answer r)
  calm_recovers r = calm_if r _ _ _ (with (state_of w (r.responses (primary f w)))) (calm_keep r)
    where
      w : ℕ
      w = latest r.responses (group_size f)

      with : (a : Option (PrimaryState C)) → Calm r (recovers_with f i answer r w a)
      with None = calm_keep r
      with (Some a) = record { sends = tt; nonce = refl; recovering = λ e. absurd cc }

  calm_recovery_response : (r : ReplicaState C) (s x : ℕ) (a : RecoveryResponse C) → Calm r (on_recovery_response f i answer r s x a)
  calm_recovery_response r s x a = calm_if r (is_recovering r.status && (r.nonce == x)) _ _
      (let k = calm_recovers (record r { responses = put r.responses s (Some (kept_response (r.responses s) a)) }) in record { sends = k.sends; nonce = k.nonce; recovering = k.recovering })
      (calm_keep r)

  calm_get_state : (r : ReplicaState C) (s u p : ℕ) → Calm r (on_get_state f i answer r s u p)
  calm_get_state r s u p = calm_if r _ _ _ (record { sends = (tt, tt); nonce = refl; recovering = λ e. e }) (calm_keep r)

  calm_new_state : (r : ReplicaState C) (u p c : ℕ) (log : List (Request C)) → Calm r (on_new_state f i answer r u p c log)
  calm_new_state r u p c log = calm_if r (is_backup_in f i answer r u) _ _
      (calm_if r (leb p (length r.log) && ltb (length r.log) (p + length log)) _ _ (calm_holds_log r (r.log ++ drop (length r.log - p) log) c) (calm_keep r))
      (calm_if r (behind f i answer r u && (leb p r.commit_number && leb r.commit_number (p + length log))) _ _
      (let q : ReplicaState C = (holds_log f i answer (adopted f i answer r u) (take p r.log ++ log) c).replica in
      record { sends = quiet_append (replies_from f i answer q r.commit_number) _ (quiet_replies_from q r.commit_number) (tt, tt); nonce = refl; recovering = λ e. absurd cc })
      (calm_keep r))

  quiet_prepares : (r : ReplicaState C) (p : ℕ) (ms : List (Request C)) → AllQuiet (prepares f i answer r p ms)
  quiet_prepares r p [] = tt
  quiet_prepares r p (m ∷ ms) = quiet_append (send_others f i answer (Prepare r.view m (p + 1) r.commit_number)) _ (quiet_others (Prepare r.view m (p + 1) r.commit_number) tt) (quiet_prepares r (p + 1) ms)

  -- What is sent: a replica asks only while it recovers, under the nonce that it has; and answers only when it is normal, whom it heard ask.
  pub record Said (r : ReplicaState C) (heard : ℕ → ℕ → Type 0) (o : Outcome C A) : Type 1 where
    pub nonce : o.replica.nonce ≡ r.nonce
    pub recovering : is_recovering o.replica.status ≡ true → is_recovering r.status ≡ true
    pub sends : (P : Message C A → Type 0) → ((m : Message C A) → Quiet m.body → P m)
        → ((t : ℕ) → is_recovering r.status ≡ true → P (send f i answer t (Recovery r.nonce r.stored_view)))
        → ((s x : ℕ) (a : RecoveryResponse C) → is_normal r.status ≡ true → heard s x → P (send f i answer s (RecoveryResponseMessage x a)))
        → (k : ℕ) (m : Message C A) → slice_get o.sends k ≡ Some m → P m

  quiet_at : (P : Message C A → Type 0) → ((m : Message C A) → Quiet m.body → P m) → (ms : List (Message C A)) → AllQuiet ms → (k : ℕ) (m : Message C A) → slice_get ms k ≡ Some m → P m
  quiet_at P quiet [] all k m e = absurd cc
  quiet_at P quiet (x ∷ xs) all zero m e = let same : x ≡ m = cc in subst P same (quiet x all.0)
  quiet_at P quiet (x ∷ xs) all (suc k) m e = quiet_at P quiet xs all.1 k m e

  pub at_map : (P : Message C A → Type 0) (body : Body C A) → ((t : ℕ) → P (send f i answer t body)) → (to : List ℕ) (k : ℕ) (m : Message C A) → slice_get (map (λ t. send f i answer t body) to) k ≡ Some m → P m
  at_map P body all [] k m e = absurd cc
  at_map P body all (t ∷ ts) zero m e = let same : send f i answer t body ≡ m = cc in subst P same (all t)
  at_map P body all (t ∷ ts) (suc k) m e = at_map P body all ts k m e

  said_calm : (r : ReplicaState C) (heard : ℕ → ℕ → Type 0) (o : Outcome C A) → Calm r o → Said r heard o
  said_calm r heard o k = record { nonce = k.nonce; recovering = k.recovering; sends = λ P quiet ask tell. quiet_at P quiet o.sends k.sends }

  said_if : (r : ReplicaState C) (heard : ℕ → ℕ → Type 0) (b : Bool) (x y : Outcome C A) → (b ≡ true → Said r heard x) → Said r heard y → Said r heard (cond b x y)
  said_if r heard true x y first second = first refl
  said_if r heard false x y first second = second

  said_recovery : (r : ReplicaState C) (heard : ℕ → ℕ → Type 0) (s x w : ℕ) → heard s x → Said r heard (on_recovery f i answer r s x w)
  said_recovery r heard s x w h =
      said_if r heard (is_normal r.status) _ _
      (λ e. said_if r heard (leb w r.view) _ _
      (λ a. record { nonce = refl; recovering = λ k. k; sends = λ P quiet ask tell. one P (tell s x (own_response f i answer r) e h) })
      (said_calm r heard _ (calm_enters r w)))
      (said_calm r heard _ (calm_keep r))
    where
      one : (P : Message C A → Type 0) {x : Message C A} → P x → (k : ℕ) (m : Message C A) → slice_get (x ∷ []) k ≡ Some m → P m
      one P {x} p zero m e = let same : x ≡ m = cc in subst P same p
      one P {x} p (suc k) m e = absurd cc

  said_resend : (r : ReplicaState C) (heard : ℕ → ℕ → Type 0) → Said r heard (on_resend f i answer r)
  said_resend r heard = record { nonce = refl; recovering = λ e. e; sends = λ P quiet ask tell k m e. go P quiet r.status (λ t s. ask t s) k m e }
    where
      go : (P : Message C A → Type 0) → ((m : Message C A) → Quiet m.body → P m) → (s : Status) → ((t : ℕ) → is_recovering s ≡ true → P (send f i answer t (Recovery r.nonce r.stored_view)))
          → (k : ℕ) (m : Message C A) → slice_get (resent f i answer r s) k ≡ Some m → P m
      go P quiet Normal ask = quiet_at P quiet (resent f i answer r Normal) (quiet_if (is_primary f i answer r) _ _
          (quiet_if (ltb r.commit_number (length r.log)) _ _ (quiet_prepares r r.commit_number (drop r.commit_number r.log)) (quiet_others (Commit r.view r.commit_number) tt))
          (tt, tt))
      go P quiet ViewChange ask = quiet_at P quiet (resent f i answer r ViewChange) (quiet_append (send_others f i answer (StartViewChange r.view)) _ (quiet_others (StartViewChange r.view) tt) (quiet_if (r.sent_do_view_change && not (is_primary f i answer r)) _ _ (tt, tt) tt))
      go P quiet Recovering ask = at_map P (Recovery r.nonce r.stored_view) (λ t. ask t refl) (others i (group_size f))
      go P quiet Down ask = quiet_at P quiet [] tt

  -- the replica heard this one ask with this nonce
  abbrev pub Asked : (ℕ → ℕ → Type 0) → Party → Body C A → Type 0
  Asked heard from (Recovery x w) = OfReplica from (λ s. heard s x)
  Asked heard from _ = Unit {0}

  said_from_replica : (r : ReplicaState C) (heard : ℕ → ℕ → Type 0) (s : ℕ) (b : Body C A) → Asked heard (Replica s) b → Said r heard (from_replica f i answer r s b)
  said_from_replica r heard s (RequestMessage m) h = said_calm r heard _ (calm_keep r)
  said_from_replica r heard s (Prepare u m p c) h = said_calm r heard _ (calm_prepare r u m p c)
  said_from_replica r heard s (PrepareOk u p) h = said_calm r heard _ (calm_prepare_ok r s u p)
  said_from_replica r heard s (Commit u c) h = said_calm r heard _ (calm_commit r u c)
  said_from_replica r heard s (Reply u m a) h = said_calm r heard _ (calm_keep r)
  said_from_replica r heard s (StartViewChange u) h = said_calm r heard _ (calm_start_view_change r s u)
  said_from_replica r heard s (DoViewChangeMessage u a) h = said_calm r heard _ (calm_do_view_change r s u a)
  said_from_replica r heard s (StartView u c log) h = said_calm r heard _ (calm_start_view r u c log)
  said_from_replica r heard s (Recovery x w) h = said_recovery r heard s x w h
  said_from_replica r heard s (RecoveryResponseMessage x a) h = said_calm r heard _ (calm_recovery_response r s x a)
  said_from_replica r heard s (GetState u p) h = said_calm r heard _ (calm_get_state r s u p)
  said_from_replica r heard s (NewState u p c log) h = said_calm r heard _ (calm_new_state r u p c log)

  calm_from_client : (r : ReplicaState C) (b : Body C A) → Calm r (from_client f i answer r b)
  calm_from_client r (RequestMessage m) = calm_request r m
  calm_from_client r _ = calm_keep r

  said_receives : (r : ReplicaState C) (heard : ℕ → ℕ → Type 0) (from : Party) (b : Body C A) → Asked heard from b → Said r heard (receives f i answer r from b)
  said_receives r heard (Replica s) b h = said_if r heard (ltb s (group_size f) && not (s == i)) _ _ (λ e. said_from_replica r heard s b h) (said_calm r heard _ (calm_keep r))
  said_receives r heard (Client c) b h = said_if r heard (ltb c client_count) _ _ (λ e. said_calm r heard _ (calm_from_client r b)) (said_calm r heard _ (calm_keep r))

  abbrev pub Heard : (ℕ → ℕ → Type 0) → Input C A → Type 0
  Heard heard (Takes m) = Asked heard m.from m.body
  Heard heard TimesOut = Unit {0}
  Heard heard Resends = Unit {0}

  pub said_by_rule : (r : ReplicaState C) (heard : ℕ → ℕ → Type 0) (input : Input C A) → Heard heard input → Said r heard (by_rule f i answer r input)
  said_by_rule r heard (Takes m) h = said_receives r heard m.from m.body h
  said_by_rule r heard TimesOut h = said_calm r heard _ (calm_timeout r)
  said_by_rule r heard Resends h = said_resend r heard
