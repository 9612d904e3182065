-- Only GETSTATE is answered with a NEWSTATE.
use Rattle.std.proofs.Common.{◌≡◌, ℕ, zero, suc, ◌-◌, ◌+◌, ◌^◌, Bool, true, false, cond, not, ◌&&◌, ltb, leb, eqb, min, max, List, [], ◌∷◌, ◌++◌, length, map, take, drop, Option, Some, None}
use Rattle.std.specs.Prelude.{is_some, slice_get}
use Rattle.vr_model.specs.Groups.{group_size, primary, how_many}
use Rattle.vr_model.specs.Logs.{Request, last_number, is_above}
use Rattle.vr_model.specs.Messages as says
use Rattle.vr_model.specs.Choices as choices
use Rattle.vr_model.specs.Replicas.{Status, Normal, ViewChange, Recovering, Down, is_normal, is_view_change, is_recovering, takes_part, ReplicaState, Outcome, put}
use Rattle.vr_model.specs.Rules as rules

module _ {C A : Type 0} where
  -- it is no NEWSTATE
  abbrev pub IsNoState : says.Body C A → Type 0
  IsNoState (says.NewState u p c log) = ⊥
  IsNoState _ = Unit {0}

  abbrev pub NoStates : List (says.Message C A) → Type 0
  NoStates [] = Unit {0}
  NoStates (m ∷ ms) = IsNoState m.body × NoStates ms

  -- it does not ask for one
  abbrev pub IsNoGetState : says.Body C A → Type 0
  IsNoGetState (says.GetState u p) = ⊥
  IsNoGetState _ = Unit {0}

module _ {C A : Type 0} (f i : ℕ) (answer : List C → A) where
  more : (xs ys : List (says.Message C A)) → NoStates xs → NoStates ys → NoStates (xs ++ ys)
  more [] ys h k = k
  more (x ∷ xs) ys h k = (h.0, more xs ys h.1 k)

  either : (b : Bool) (xs ys : List (says.Message C A)) → NoStates xs → NoStates ys → NoStates (cond b xs ys)
  either true xs ys p q = p
  either false xs ys p q = q

  -- an outcome sends none
  abbrev pub SendsNone : Outcome C A → Type 0
  SendsNone o = NoStates o.sends

  either_is : (b : Bool) (x y : Outcome C A) → SendsNone x → SendsNone y → SendsNone (cond b x y)
  either_is true x y p q = p
  either_is false x y p q = q

  to_all : (body : says.Body C A) (tos : List ℕ) → IsNoState body → NoStates (map (λ to. rules.send f i answer to body) tos)
  to_all body [] h = tt
  to_all body (to ∷ tos) h = (h, to_all body tos h)

  to_others : (body : says.Body C A) → IsNoState body → NoStates (rules.send_others f i answer body)
  to_others body h = to_all body (choices.others i (group_size f)) h

  reply : (r : ReplicaState C) (j : ℕ) (o : Option (Request C)) → NoStates (rules.reply_of f i answer r j o)
  reply r j None = tt
  reply r j (Some m) = (tt, tt)

  replies : (r : ReplicaState C) (from count : ℕ) → NoStates (rules.replies f i answer r from count)
  replies r from zero = tt
  replies r from (suc count) = more (rules.reply_of f i answer r from (slice_get r.log from)) _ (reply r from (slice_get r.log from)) (replies r (from + 1) count)

  replies_from : (r : ReplicaState C) (from : ℕ) → NoStates (rules.replies_from f i answer r from)
  replies_from r from = either (rules.is_primary f i answer r) _ _ (replies r from (r.commit_number - from)) tt

  replies_again : (r : ReplicaState C) (m : Request C) → SendsNone (rules.replies_again f i answer r m)
  replies_again r m =
      let j = choices.place_of r.log m.client m.number in
      either (ltb j r.commit_number) (rules.reply_of f i answer r j (slice_get r.log j)) [] (reply r j (slice_get r.log j)) tt

  request : (r : ReplicaState C) (m : Request C) → SendsNone (rules.on_request f i answer r m)
  request r m =
      either_is (is_normal r.status && rules.is_primary f i answer r) _ _
      (either_is (is_above m.number (last_number r.log m.client)) _ _ (to_others (says.Prepare r.view m (length r.log + 1) r.commit_number) tt)
      (either_is (choices.is_same m.number (last_number r.log m.client)) _ _ (replies_again r m) tt)) tt

  asks : (r : ReplicaState C) (u place : ℕ) → SendsNone (rules.asks f i answer r u place)
  asks r u place = either (eqb (primary f u) i) [] (rules.send f i answer (primary f u) (says.GetState u place) ∷ []) tt (tt, tt)

  prepare : (r : ReplicaState C) (u : ℕ) (m : Request C) (p c : ℕ) → SendsNone (rules.on_prepare f i answer r u m p c)
  prepare r u m p c =
      either_is (rules.is_backup_in f i answer r u) _ _ (either_is (eqb p (length r.log + 1)) _ _ (tt, tt) (either_is (leb p (length r.log)) _ _ (tt, tt) (asks r u (length r.log))))
      (either_is (rules.behind f i answer r u) _ _ (asks r u r.commit_number) tt)

  prepare_ok : (r : ReplicaState C) (s u p : ℕ) → SendsNone (rules.on_prepare_ok f i answer r s u p)
  prepare_ok r s u p =
      let acknowledged = put r.acknowledged s (max (r.acknowledged s) p) in
      either_is ((is_normal r.status && rules.is_primary f i answer r) && (eqb r.view u && leb p (length r.log))) _ _
      (replies (record r { acknowledged = acknowledged }) r.commit_number (choices.reached f i acknowledged (length r.log) - r.commit_number)) tt

  commit : (r : ReplicaState C) (u c : ℕ) → SendsNone (rules.on_commit f i answer r u c)
  commit r u c =
      either_is (rules.is_backup_in f i answer r u) _ _ (either (ltb (length r.log) c) (rules.send f i answer (primary f u) (says.GetState u (length r.log)) ∷ []) [] (tt, tt) tt)
      (either_is (rules.behind f i answer r u) _ _ (asks r u r.commit_number) tt)

  enters : (r : ReplicaState C) (u : ℕ) → SendsNone (rules.enters f i answer r u)
  enters r u = to_others (says.StartViewChange u) tt

  pub timeout_sends_none : (r : ReplicaState C) → SendsNone (rules.on_timeout f i answer r)
  timeout_sends_none r = either_is (takes_part r.status && ltb (r.view + 1) (2 ^ 64)) _ _ (enters r (r.view + 1)) tt

  then_none : (o : Outcome C A) (next : ReplicaState C → Outcome C A) → SendsNone o → ((r : ReplicaState C) → SendsNone (next r)) → SendsNone (rules.and_then f i answer o next)
  then_none o next h k = more o.sends (next o.replica).sends h (k o.replica)

  begins : (r : ReplicaState C) (a : Option (says.DoViewChange C)) → SendsNone (rules.begins_with f i answer r a)
  begins r None = tt
  begins r (Some a) = to_others (says.StartView r.view (max r.commit_number (min (choices.greatest_commit r.do_view_changes (group_size f)) (length a.log))) a.log) tt

  elected : (r : ReplicaState C) → SendsNone (rules.begins_if_elected f i answer r)
  elected r = either_is (rules.is_elected f i answer r) _ _ (begins r (choices.best r.do_view_changes (group_size f))) tt

  own : (r : ReplicaState C) → SendsNone (rules.sends_do_view_change f i answer r)
  own r = either_is (rules.is_primary f i answer r) _ _ (elected (record r { sent_do_view_change = true; do_view_changes = put r.do_view_changes i (Some (choices.own_do_view_change r)) })) (tt, tt)

  counts : (s : ℕ) (r : ReplicaState C) → SendsNone (rules.counts_start_view_change f i answer s r)
  counts s r =
      let q = record r { start_view_changes = put r.start_view_changes s true } in
      either_is (not q.sent_do_view_change && leb f (how_many q.start_view_changes (group_size f))) _ _ (own q) tt

  enters_if : (r : ReplicaState C) (u : ℕ) → SendsNone (rules.enters_if_above f i answer r u)
  enters_if r u = either_is (ltb r.view u) _ _ (enters r u) tt

  start_view_change : (r : ReplicaState C) (s u : ℕ) → SendsNone (rules.on_start_view_change f i answer r s u)
  start_view_change r s u =
      either_is (takes_part r.status) _ _
      (then_none (rules.enters_if_above f i answer r u) (rules.if_view_change_in f i answer u (rules.counts_start_view_change f i answer s)) (enters_if r u)
      (λ q. either_is (is_view_change q.status && eqb q.view u) _ _ (counts s q) tt)) tt

  keeps : (s : ℕ) (a : says.DoViewChange C) (r : ReplicaState C) → SendsNone (rules.keeps_do_view_change f i answer s a r)
  keeps s a r = either_is (is_some (r.do_view_changes s)) _ _ tt (elected (record r { do_view_changes = put r.do_view_changes s (Some a) }))

  do_view_change : (r : ReplicaState C) (s u : ℕ) (a : says.DoViewChange C) → SendsNone (rules.on_do_view_change f i answer r s u a)
  do_view_change r s u a =
      either_is (takes_part r.status && eqb (primary f u) i) _ _
      (then_none (rules.enters_if_above f i answer r u) (rules.if_view_change_in f i answer u (rules.keeps_do_view_change f i answer s a)) (enters_if r u)
      (λ q. either_is (is_view_change q.status && eqb q.view u) _ _ (keeps s a q) tt)) tt

  start_view : (r : ReplicaState C) (u c : ℕ) (log : List (Request C)) → SendsNone (rules.on_start_view f i answer r u c log)
  start_view r u c log =
      let k = max r.commit_number (min c (length log)) in
      let q = record (rules.adopted f i answer r u) { log = log; commit_number = k } in
      either_is (rules.behind f i answer r u && leb r.commit_number (length log)) _ _
      (more (rules.replies_from f i answer q r.commit_number) _ (replies_from q r.commit_number) (either (ltb k (length log)) (rules.send f i answer (primary f u) (says.PrepareOk u (length log)) ∷ []) [] (tt, tt) tt)) tt

  recovery : (r : ReplicaState C) (s x w : ℕ) → SendsNone (rules.on_recovery f i answer r s x w)
  recovery r s x w = either_is (is_normal r.status) _ _ (either_is (leb w r.view) _ _ (tt, tt) (enters r w)) tt

  recovers_with : (r : ReplicaState C) (w : ℕ) (a : Option (says.PrimaryState C)) → SendsNone (rules.recovers_with f i answer r w a)
  recovers_with r w None = tt
  recovers_with r w (Some a) = tt

  recovers : (r : ReplicaState C) → SendsNone (rules.recovers f i answer r)
  recovers r =
      let w = choices.latest r.responses (group_size f) in
      either_is (leb (f + 1) (how_many (λ s. is_some (r.responses s)) (group_size f)) && leb r.stored_view w) _ _ (recovers_with r w (choices.state_of w (r.responses (primary f w)))) tt

  response : (r : ReplicaState C) (s x : ℕ) (a : says.RecoveryResponse C) → SendsNone (rules.on_recovery_response f i answer r s x a)
  response r s x a = either_is (is_recovering r.status && eqb r.nonce x) _ _ (recovers (record r { responses = put r.responses s (Some (choices.kept_response (r.responses s) a)) })) tt

  new_state : (r : ReplicaState C) (u p c : ℕ) (log : List (Request C)) → SendsNone (rules.on_new_state f i answer r u p c log)
  new_state r u p c log =
      let o = rules.holds_log f i answer (rules.adopted f i answer r u) (take p r.log ++ log) c in
      either_is (rules.is_backup_in f i answer r u) _ _ (either_is (leb p (length r.log) && ltb (length r.log) (p + length log)) _ _ (tt, tt) tt)
      (either_is (rules.behind f i answer r u && (leb p r.commit_number && leb r.commit_number (p + length log))) _ _ (more (rules.replies_from f i answer o.replica r.commit_number) o.sends (replies_from o.replica r.commit_number) (tt, tt)) tt)

  pub replica_sends_none : (r : ReplicaState C) (s : ℕ) (body : says.Body C A) → IsNoGetState body → SendsNone (rules.from_replica f i answer r s body)
  replica_sends_none r s (says.RequestMessage m) h = tt
  replica_sends_none r s (says.Prepare u m p c) h = prepare r u m p c
  replica_sends_none r s (says.PrepareOk u p) h = prepare_ok r s u p
  replica_sends_none r s (says.Commit u c) h = commit r u c
  replica_sends_none r s (says.Reply u n a) h = tt
  replica_sends_none r s (says.StartViewChange u) h = start_view_change r s u
  replica_sends_none r s (says.DoViewChangeMessage u a) h = do_view_change r s u a
  replica_sends_none r s (says.StartView u c log) h = start_view r u c log
  replica_sends_none r s (says.Recovery x w) h = recovery r s x w
  replica_sends_none r s (says.RecoveryResponseMessage x a) h = response r s x a
  replica_sends_none r s (says.GetState u p) h = absurd h
  replica_sends_none r s (says.NewState u p c log) h = new_state r u p c log

  pub client_sends_none : (r : ReplicaState C) (body : says.Body C A) → SendsNone (rules.from_client f i answer r body)
  client_sends_none r (says.RequestMessage m) = request r m
  client_sends_none r _ = tt

  prepares : (r : ReplicaState C) (n : ℕ) (ms : List (Request C)) → NoStates (rules.prepares f i answer r n ms)
  prepares r n [] = tt
  prepares r n (m ∷ ms) = more (rules.send_others f i answer (says.Prepare r.view m (n + 1) r.commit_number)) _ (to_others (says.Prepare r.view m (n + 1) r.commit_number) tt) (prepares r (n + 1) ms)

  resent : (r : ReplicaState C) (s : Status) → NoStates (rules.resent f i answer r s)
  resent r Normal =
      either (rules.is_primary f i answer r) _ _
      (either (ltb r.commit_number (length r.log)) _ _ (prepares r r.commit_number (drop r.commit_number r.log)) (to_others (says.Commit r.view r.commit_number) tt)) (tt, tt)
  resent r ViewChange =
      more (rules.send_others f i answer (says.StartViewChange r.view)) _ (to_others (says.StartViewChange r.view) tt)
      (either (r.sent_do_view_change && not (rules.is_primary f i answer r)) _ _ (tt, tt) tt)
  resent r Recovering = to_others (says.Recovery r.nonce r.stored_view) tt
  resent r Down = tt

  pub resend_sends_none : (r : ReplicaState C) → SendsNone (rules.on_resend f i answer r)
  resend_sends_none r = resent r r.status

  pub restart_sends_none : (r : ReplicaState C) (x : ℕ) → SendsNone (rules.on_restart f i answer r x)
  restart_sends_none r x = to_others (says.Recovery x r.stored_view) tt
