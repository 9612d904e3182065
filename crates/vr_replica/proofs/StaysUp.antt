-- No rule gives a replica a status but normal and view-change: none takes it down, and none makes it recover.
use Rattle.std.proofs.Common.{◌≡◌, ℕ, Bool, true, false, cond, not, ◌&&◌, ltb, leb, eqb, List, length, ◌+◌, ◌^◌, Option, Some, None}
use Rattle.std.specs.Prelude.{is_some}
use Rattle.vr_model.specs.Groups.{group_size, primary, how_many, client_count}
use Rattle.vr_model.specs.Logs.{Request, last_number, is_above}
use Rattle.vr_model.specs.Messages as says
use Rattle.vr_model.specs.Choices as choices
use Rattle.vr_model.specs.Replicas.{Status, Normal, ViewChange, is_normal, is_view_change, is_recovering, takes_part, ReplicaState, Outcome, put}
use Rattle.vr_model.specs.Rules as rules
use Rattle.vr_model.specs.Steps as steps

-- a test of a status that both fail
module _ (test : Status → Bool) (normal : test Normal ≡ false) (changes : test ViewChange ≡ false) {C A : Type 0} (f i : ℕ) (answer : List C → A) where
  -- the status fails it afterwards
  abbrev IsUp : Outcome C A → Type 0
  IsUp o = test o.replica.status ≡ false

  either : (b : Bool) (x y : Outcome C A) → IsUp x → IsUp y → IsUp (cond b x y)
  either true x y p q = p
  either false x y p q = q

  then_up : (o : Outcome C A) (next : ReplicaState C → Outcome C A) → ((r : ReplicaState C) → test r.status ≡ false → IsUp (next r)) → IsUp o → IsUp (rules.and_then f i answer o next)
  then_up o next h up = h o.replica up

  request_up : (r : ReplicaState C) (m : Request C) → test r.status ≡ false → IsUp (rules.on_request f i answer r m)
  request_up r m up =
      either (is_normal r.status && rules.is_primary f i answer r) _ _
      (either (is_above m.number (last_number r.log m.client)) _ _ up (either (choices.is_same m.number (last_number r.log m.client)) _ _ up up)) up

  prepare_up : (r : ReplicaState C) (u : ℕ) (m : Request C) (p c : ℕ) → test r.status ≡ false → IsUp (rules.on_prepare f i answer r u m p c)
  prepare_up r u m p c up =
      either (rules.is_backup_in f i answer r u) _ _ (either (eqb p (length r.log + 1)) _ _ up (either (leb p (length r.log)) _ _ up up)) (either (rules.behind f i answer r u) _ _ up up)

  prepare_ok_up : (r : ReplicaState C) (s u p : ℕ) → test r.status ≡ false → IsUp (rules.on_prepare_ok f i answer r s u p)
  prepare_ok_up r s u p up = either ((is_normal r.status && rules.is_primary f i answer r) && (eqb r.view u && leb p (length r.log))) _ _ up up

  commit_up : (r : ReplicaState C) (u c : ℕ) → test r.status ≡ false → IsUp (rules.on_commit f i answer r u c)
  commit_up r u c up = either (rules.is_backup_in f i answer r u) _ _ up (either (rules.behind f i answer r u) _ _ up up)

  timeout_up : (r : ReplicaState C) → test r.status ≡ false → IsUp (rules.on_timeout f i answer r)
  timeout_up r up = either (takes_part r.status && ltb (r.view + 1) (2 ^ 64)) _ _ changes up

  begins_up : (r : ReplicaState C) (a : Option (says.DoViewChange C)) → test r.status ≡ false → IsUp (rules.begins_with f i answer r a)
  begins_up r None up = up
  begins_up r (Some a) up = normal

  elected_up : (r : ReplicaState C) → test r.status ≡ false → IsUp (rules.begins_if_elected f i answer r)
  elected_up r up = either (rules.is_elected f i answer r) _ _ (begins_up r (choices.best r.do_view_changes (group_size f)) up) up

  own_up : (r : ReplicaState C) → test r.status ≡ false → IsUp (rules.sends_do_view_change f i answer r)
  own_up r up =
      either (rules.is_primary f i answer r) _ _ (elected_up (record r { sent_do_view_change = true; do_view_changes = put r.do_view_changes i (Some (choices.own_do_view_change r)) }) up) up

  counts_up : (s : ℕ) (r : ReplicaState C) → test r.status ≡ false → IsUp (rules.counts_start_view_change f i answer s r)
  counts_up s r up =
      let q = record r { start_view_changes = put r.start_view_changes s true } in
      either (not q.sent_do_view_change && leb f (how_many q.start_view_changes (group_size f))) _ _ (own_up q up) up

  enters_up : (r : ReplicaState C) (u : ℕ) → test r.status ≡ false → IsUp (rules.enters_if_above f i answer r u)
  enters_up r u up = either (ltb r.view u) _ _ changes up

  start_view_change_up : (r : ReplicaState C) (s u : ℕ) → test r.status ≡ false → IsUp (rules.on_start_view_change f i answer r s u)
  start_view_change_up r s u up =
      either (takes_part r.status) _ _
      (then_up (rules.enters_if_above f i answer r u) (rules.if_view_change_in f i answer u (rules.counts_start_view_change f i answer s))
      (λ q e. either (is_view_change q.status && eqb q.view u) _ _ (counts_up s q e) e) (enters_up r u up)) up

  keeps_up : (s : ℕ) (a : says.DoViewChange C) (r : ReplicaState C) → test r.status ≡ false → IsUp (rules.keeps_do_view_change f i answer s a r)
  keeps_up s a r up = either (is_some (r.do_view_changes s)) _ _ up (elected_up (record r { do_view_changes = put r.do_view_changes s (Some a) }) up)

  do_view_change_up : (r : ReplicaState C) (s u : ℕ) (a : says.DoViewChange C) → test r.status ≡ false → IsUp (rules.on_do_view_change f i answer r s u a)
  do_view_change_up r s u a up =
      either (takes_part r.status && eqb (primary f u) i) _ _
      (then_up (rules.enters_if_above f i answer r u) (rules.if_view_change_in f i answer u (rules.keeps_do_view_change f i answer s a))
      (λ q e. either (is_view_change q.status && eqb q.view u) _ _ (keeps_up s a q e) e) (enters_up r u up)) up

  start_view_up : (r : ReplicaState C) (u c : ℕ) (log : List (Request C)) → test r.status ≡ false → IsUp (rules.on_start_view f i answer r u c log)
  start_view_up r u c log up = either (rules.behind f i answer r u && leb r.commit_number (length log)) _ _ normal up

  recovery_up : (r : ReplicaState C) (s x w : ℕ) → test r.status ≡ false → IsUp (rules.on_recovery f i answer r s x w)
  recovery_up r s x w up = either (is_normal r.status) _ _ (either (leb w r.view) _ _ up changes) up

  recovers_with_up : (r : ReplicaState C) (w : ℕ) (a : Option (says.PrimaryState C)) → test r.status ≡ false → IsUp (rules.recovers_with f i answer r w a)
  recovers_with_up r w None up = up
  recovers_with_up r w (Some a) up = normal

  recovers_up : (r : ReplicaState C) → test r.status ≡ false → IsUp (rules.recovers f i answer r)
  recovers_up r up =
      let w = choices.latest r.responses (group_size f) in
      either (leb (f + 1) (how_many (λ s. is_some (r.responses s)) (group_size f)) && leb r.stored_view w) _ _ (recovers_with_up r w (choices.state_of w (r.responses (primary f w))) up) up

  response_up : (r : ReplicaState C) (s x : ℕ) (a : says.RecoveryResponse C) → test r.status ≡ false → IsUp (rules.on_recovery_response f i answer r s x a)
  response_up r s x a up =
      either (is_recovering r.status && eqb r.nonce x) _ _ (recovers_up (record r { responses = put r.responses s (Some (choices.kept_response (r.responses s) a)) }) up) up

  get_state_up : (r : ReplicaState C) (s u p : ℕ) → test r.status ≡ false → IsUp (rules.on_get_state f i answer r s u p)
  get_state_up r s u p up = either (is_normal r.status && eqb r.view u && leb p (length r.log)) _ _ up up

  new_state_up : (r : ReplicaState C) (u p c : ℕ) (log : List (Request C)) → test r.status ≡ false → IsUp (rules.on_new_state f i answer r u p c log)
  new_state_up r u p c log up =
      either (rules.is_backup_in f i answer r u) _ _ (either (leb p (length r.log) && ltb (length r.log) (p + length log)) _ _ up up)
      (either (rules.behind f i answer r u && (leb p r.commit_number && leb r.commit_number (p + length log))) _ _ normal up)

  from_replica_up : (r : ReplicaState C) (s : ℕ) (body : says.Body C A) → test r.status ≡ false → IsUp (rules.from_replica f i answer r s body)
  from_replica_up r s (says.RequestMessage m) up = up
  from_replica_up r s (says.Prepare u m p c) up = prepare_up r u m p c up
  from_replica_up r s (says.PrepareOk u p) up = prepare_ok_up r s u p up
  from_replica_up r s (says.Commit u c) up = commit_up r u c up
  from_replica_up r s (says.Reply u n a) up = up
  from_replica_up r s (says.StartViewChange u) up = start_view_change_up r s u up
  from_replica_up r s (says.DoViewChangeMessage u a) up = do_view_change_up r s u a up
  from_replica_up r s (says.StartView u c log) up = start_view_up r u c log up
  from_replica_up r s (says.Recovery x w) up = recovery_up r s x w up
  from_replica_up r s (says.RecoveryResponseMessage x a) up = response_up r s x a up
  from_replica_up r s (says.GetState u p) up = get_state_up r s u p up
  from_replica_up r s (says.NewState u p c log) up = new_state_up r u p c log up

  from_client_up : (r : ReplicaState C) (body : says.Body C A) → test r.status ≡ false → IsUp (rules.from_client f i answer r body)
  from_client_up r (says.RequestMessage m) up = request_up r m up
  from_client_up r _ up = up

  receives_up : (r : ReplicaState C) (from : says.Party) (body : says.Body C A) → test r.status ≡ false → IsUp (rules.receives f i answer r from body)
  receives_up r (says.Replica s) body up = either (ltb s (group_size f) && not (eqb s i)) _ _ (from_replica_up r s body up) up
  receives_up r (says.Client c) body up = either (ltb c client_count) _ _ (from_client_up r body up) up

  pub stays_up : (r : ReplicaState C) (input : steps.Input C A) → test r.status ≡ false → IsUp (steps.by_rule f i answer r input)
  stays_up r (steps.Takes m) up = receives_up r m.from m.body up
  stays_up r steps.TimesOut up = timeout_up r up
  stays_up r steps.Resends up = up
