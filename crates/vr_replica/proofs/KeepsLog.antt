-- The log that a rule makes begins with what was executed, but where the rule takes over a log that is handed in.
use Rattle.std.proofs.Common.{◌≡◌, ℕ, Bool, true, false, cond, not, ◌&&◌, ltb, leb, eqb, List, [], ◌∷◌, ◌++◌, length, ◌+◌, take, drop, refl, sym, ◌∙◌, ap, append_assoc, subst}
use Rattle.std.proofs.lemmas.List.{take-append-drop}
use Rattle.vr_model.specs.Groups.{group_size, client_count}
use Rattle.vr_model.specs.Logs.{Request, IsPrefix, last_number, is_above}
use Rattle.vr_model.specs.Messages as says
use Rattle.vr_model.specs.Choices as choices
use Rattle.vr_model.specs.Replicas.{is_normal, is_recovering, ReplicaState, Outcome}
use Rattle.vr_model.specs.Rules as rules
use Rattle.vr_model.specs.World.{executed}
use Rattle.vr_replica.specs.Stepped.{takes_over}

take_first : {X : Type 0} (n : ℕ) (xs ys : List X) → take n xs ++ (drop n xs ++ ys) ≡ xs ++ ys
take_first n xs ys = sym (append_assoc (take n xs) (drop n xs) ys) ∙ ap (λ l. l ++ ys) (take-append-drop n xs)

module _ {C A : Type 0} (f i : ℕ) (answer : List C → A) where
  abbrev Keeps : ReplicaState C → Outcome C A → Type 0
  Keeps r o = IsPrefix (executed r) o.replica.log

  either : (r : ReplicaState C) (b : Bool) (x y : Outcome C A) → Keeps r x → Keeps r y → Keeps r (cond b x y)
  either r true x y p q = p
  either r false x y p q = q

  -- the log stays
  same : (r : ReplicaState C) → IsPrefix (executed r) r.log
  same r = record { rest = drop r.commit_number r.log; is = take-append-drop r.commit_number r.log }

  -- more stands behind it
  more : (r : ReplicaState C) (ms : List (Request C)) → IsPrefix (executed r) (r.log ++ ms)
  more r ms = record { rest = drop r.commit_number r.log ++ ms; is = take_first r.commit_number r.log ms }

  request : (r : ReplicaState C) (m : Request C) → Keeps r (rules.on_request f i answer r m)
  request r m =
      either r (is_normal r.status && rules.is_primary f i answer r) _ _
      (either r (is_above m.number (last_number r.log m.client)) _ _ (more r (m ∷ [])) (either r (choices.is_same m.number (last_number r.log m.client)) _ _ (same r) (same r))) (same r)

  prepare : (r : ReplicaState C) (u : ℕ) (m : Request C) (p c : ℕ) → Keeps r (rules.on_prepare f i answer r u m p c)
  prepare r u m p c =
      either r (rules.is_backup_in f i answer r u) _ _ (either r (eqb p (length r.log + 1)) _ _ (more r (m ∷ [])) (either r (leb p (length r.log)) _ _ (same r) (same r)))
      (either r (rules.behind f i answer r u) _ _ (same r) (same r))

  prepare_ok : (r : ReplicaState C) (s u p : ℕ) → Keeps r (rules.on_prepare_ok f i answer r s u p)
  prepare_ok r s u p = either r ((is_normal r.status && rules.is_primary f i answer r) && (eqb r.view u && leb p (length r.log))) _ _ (same r) (same r)

  commit : (r : ReplicaState C) (u c : ℕ) → Keeps r (rules.on_commit f i answer r u c)
  commit r u c = either r (rules.is_backup_in f i answer r u) _ _ (same r) (either r (rules.behind f i answer r u) _ _ (same r) (same r))

  recovery : (r : ReplicaState C) (s x w : ℕ) → Keeps r (rules.on_recovery f i answer r s x w)
  recovery r s x w = either r (is_normal r.status) _ _ (either r (leb w r.view) _ _ (same r) (same r)) (same r)

  get_state : (r : ReplicaState C) (s u p : ℕ) → Keeps r (rules.on_get_state f i answer r s u p)
  get_state r s u p = either r (is_normal r.status && eqb r.view u && leb p (length r.log)) _ _ (same r) (same r)

  -- who recovers has executed nothing
  response : (r : ReplicaState C) (s x : ℕ) (a : says.RecoveryResponse C) → (is_recovering r.status ≡ true → r.commit_number ≡ 0) → Keeps r (rules.on_recovery_response f i answer r s x a)
  response r s x a none = go (is_recovering r.status) refl
    where
      go : (b : Bool) → is_recovering r.status ≡ b → Keeps r (rules.on_recovery_response f i answer r s x a)
      go true e = let o = rules.on_recovery_response f i answer r s x a in subst (λ n. IsPrefix (take n r.log) o.replica.log) (sym (none e)) (record { rest = o.replica.log; is = refl })
      go false e = rw e (same r)

  received : (r : ReplicaState C) (from : says.Party) (body : says.Body C A) → ((s : ℕ) → Keeps r (rules.from_replica f i answer r s body)) → Keeps r (rules.from_client f i answer r body) → Keeps r (rules.receives f i answer r from body)
  received r (says.Replica s) body k c = either r (ltb s (group_size f) && not (eqb s i)) _ _ (k s) (same r)
  received r (says.Client n) body k c = either r (ltb n client_count) _ _ c (same r)

  pub keeps_log : (r : ReplicaState C) (from : says.Party) (body : says.Body C A) → (is_recovering r.status ≡ true → r.commit_number ≡ 0) → (takes_over body ≡ true → Keeps r (rules.receives f i answer r from body))
      → Keeps r (rules.receives f i answer r from body)
  keeps_log r from (says.RequestMessage m) none h = received r from (says.RequestMessage m) (λ s. same r) (request r m)
  keeps_log r from (says.Prepare u m p c) none h = received r from (says.Prepare u m p c) (λ s. prepare r u m p c) (same r)
  keeps_log r from (says.PrepareOk u p) none h = received r from (says.PrepareOk u p) (λ s. prepare_ok r s u p) (same r)
  keeps_log r from (says.Commit u c) none h = received r from (says.Commit u c) (λ s. commit r u c) (same r)
  keeps_log r from (says.Reply u n a) none h = received r from (says.Reply u n a) (λ s. same r) (same r)
  keeps_log r from (says.StartViewChange u) none h = h refl
  keeps_log r from (says.DoViewChangeMessage u a) none h = h refl
  keeps_log r from (says.StartView u c log) none h = h refl
  keeps_log r from (says.Recovery x w) none h = received r from (says.Recovery x w) (λ s. recovery r s x w) (same r)
  keeps_log r from (says.RecoveryResponseMessage x a) none h = received r from (says.RecoveryResponseMessage x a) (λ s. response r s x a none) (same r)
  keeps_log r from (says.GetState u p) none h = received r from (says.GetState u p) (λ s. get_state r s u p) (same r)
  keeps_log r from (says.NewState u p c log) none h = h refl
