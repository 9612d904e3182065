-- Who recovers has executed nothing.
use Rattle.std.proofs.Common.{◌≡◌, ℕ, Bool, true, false, cond, not, ◌&&◌, ◌||◌, ltb, leb, eqb, List, length, ◌+◌, ◌^◌, Option, Some, None, refl, sym, ◌∙◌, ap}
use Rattle.std.specs.Prelude.{is_some}
use Rattle.vr_model.specs.Groups.{group_size, primary, how_many, client_count}
use Rattle.vr_model.specs.Logs.{Request}
use Rattle.vr_model.specs.Messages as says
use Rattle.vr_model.specs.Choices as choices
use Rattle.vr_model.specs.Replicas.{Status, Normal, ViewChange, Recovering, Down, is_normal, is_view_change, is_recovering, takes_part, ReplicaState, Outcome, put}
use Rattle.vr_model.specs.Rules as rules
use Rattle.vr_model.specs.Steps as steps
use Rattle.vr_replica.proofs.StaysUp.{stays_up}

status_is : (s : Status) → is_recovering s ≡ true → s ≡ Recovering
status_is Normal e = absurd (let d : false ≡ true = e in cc)
status_is ViewChange e = absurd (let d : false ≡ true = e in cc)
status_is Recovering e = refl
status_is Down e = absurd (let d : false ≡ true = e in cc)

module _ {C A : Type 0} (f i : ℕ) (answer : List C → A) where
  abbrev HasNone : ReplicaState C → Type 0
  HasNone r = is_recovering r.status ≡ true → r.commit_number ≡ 0

  either : (b : Bool) (x y : Outcome C A) → HasNone x.replica → HasNone y.replica → HasNone (cond b x y).replica
  either true x y p q = p
  either false x y p q = q

  closed : (b : Bool) (x y : Outcome C A) → b ≡ false → HasNone y.replica → HasNone (cond b x y).replica
  closed true x y e q = absurd (let d : true ≡ false = e in cc)
  closed false x y e q = q

  -- while it recovers only a RECOVERYRESPONSE has a rule
  module _ (r : ReplicaState C) (e : r.status ≡ Recovering) (z : r.commit_number ≡ 0) where
    is_no_backup : (u : ℕ) → rules.is_backup_in f i answer r u ≡ false
    is_no_backup u = ap (λ s. is_normal s && eqb r.view u && not (rules.is_primary f i answer r)) e

    is_not_behind : (u : ℕ) → rules.behind f i answer r u ≡ false
    is_not_behind u = ap (λ s. takes_part s && (ltb r.view u || is_view_change s && eqb r.view u)) e

    request : (m : Request C) → HasNone (rules.on_request f i answer r m).replica
    request m = closed (is_normal r.status && rules.is_primary f i answer r) _ _ (ap (λ s. is_normal s && rules.is_primary f i answer r) e) (λ is. z)

    prepare : (u : ℕ) (m : Request C) (p c : ℕ) → HasNone (rules.on_prepare f i answer r u m p c).replica
    prepare u m p c = closed (rules.is_backup_in f i answer r u) _ _ (is_no_backup u) (closed (rules.behind f i answer r u) _ _ (is_not_behind u) (λ is. z))

    prepare_ok : (s u p : ℕ) → HasNone (rules.on_prepare_ok f i answer r s u p).replica
    prepare_ok s u p =
        closed ((is_normal r.status && rules.is_primary f i answer r) && (eqb r.view u && leb p (length r.log))) _ _
        (ap (λ t. (is_normal t && rules.is_primary f i answer r) && (eqb r.view u && leb p (length r.log))) e) (λ is. z)

    commit : (u c : ℕ) → HasNone (rules.on_commit f i answer r u c).replica
    commit u c = closed (rules.is_backup_in f i answer r u) _ _ (is_no_backup u) (closed (rules.behind f i answer r u) _ _ (is_not_behind u) (λ is. z))

    timeout : HasNone (rules.on_timeout f i answer r).replica
    timeout = closed (takes_part r.status && ltb (r.view + 1) (2 ^ 64)) _ _ (ap (λ s. takes_part s && ltb (r.view + 1) (2 ^ 64)) e) (λ is. z)

    start_view_change : (s u : ℕ) → HasNone (rules.on_start_view_change f i answer r s u).replica
    start_view_change s u = closed (takes_part r.status) _ _ (ap takes_part e) (λ is. z)

    do_view_change : (s u : ℕ) (a : says.DoViewChange C) → HasNone (rules.on_do_view_change f i answer r s u a).replica
    do_view_change s u a = closed (takes_part r.status && eqb (primary f u) i) _ _ (ap (λ t. takes_part t && eqb (primary f u) i) e) (λ is. z)

    start_view : (u c : ℕ) (log : List (Request C)) → HasNone (rules.on_start_view f i answer r u c log).replica
    start_view u c log = closed (rules.behind f i answer r u && leb r.commit_number (length log)) _ _ (ap (λ b. b && leb r.commit_number (length log)) (is_not_behind u)) (λ is. z)

    recovery : (s x w : ℕ) → HasNone (rules.on_recovery f i answer r s x w).replica
    recovery s x w = closed (is_normal r.status) _ _ (ap is_normal e) (λ is. z)

    recovers_with : (q : ReplicaState C) (w : ℕ) (a : Option (says.PrimaryState C)) → q.commit_number ≡ 0 → HasNone (rules.recovers_with f i answer q w a).replica
    recovers_with q w None n = λ is. n
    recovers_with q w (Some a) n = λ is. absurd (let d : false ≡ true = is in cc)

    response : (s x : ℕ) (a : says.RecoveryResponse C) → HasNone (rules.on_recovery_response f i answer r s x a).replica
    response s x a =
        let q = record r { responses = put r.responses s (Some (choices.kept_response (r.responses s) a)) } in
        let w = choices.latest q.responses (group_size f) in
        either (is_recovering r.status && eqb r.nonce x) _ _
        (either (leb (f + 1) (how_many (λ t. is_some (q.responses t)) (group_size f)) && leb q.stored_view w) _ _ (recovers_with q w (choices.state_of w (q.responses (primary f w))) z) (λ is. z)) (λ is. z)

    get_state : (s u p : ℕ) → HasNone (rules.on_get_state f i answer r s u p).replica
    get_state s u p = closed (is_normal r.status && eqb r.view u && leb p (length r.log)) _ _ (ap (λ t. is_normal t && eqb r.view u && leb p (length r.log)) e) (λ is. z)

    new_state : (u p c : ℕ) (log : List (Request C)) → HasNone (rules.on_new_state f i answer r u p c log).replica
    new_state u p c log =
        closed (rules.is_backup_in f i answer r u) _ _ (is_no_backup u)
        (closed (rules.behind f i answer r u && (leb p r.commit_number && leb r.commit_number (p + length log))) _ _
        (ap (λ b. b && (leb p r.commit_number && leb r.commit_number (p + length log))) (is_not_behind u)) (λ is. z))

    of_replica : (s : ℕ) (body : says.Body C A) → HasNone (rules.from_replica f i answer r s body).replica
    of_replica s (says.RequestMessage m) = λ is. z
    of_replica s (says.Prepare u m p c) = prepare u m p c
    of_replica s (says.PrepareOk u p) = prepare_ok s u p
    of_replica s (says.Commit u c) = commit u c
    of_replica s (says.Reply u n a) = λ is. z
    of_replica s (says.StartViewChange u) = start_view_change s u
    of_replica s (says.DoViewChangeMessage u a) = do_view_change s u a
    of_replica s (says.StartView u c log) = start_view u c log
    of_replica s (says.Recovery x w) = recovery s x w
    of_replica s (says.RecoveryResponseMessage x a) = response s x a
    of_replica s (says.GetState u p) = get_state s u p
    of_replica s (says.NewState u p c log) = new_state u p c log

    of_client : (body : says.Body C A) → HasNone (rules.from_client f i answer r body).replica
    of_client (says.RequestMessage m) = request m
    of_client _ = λ is. z

    received : (from : says.Party) (body : says.Body C A) → HasNone (rules.receives f i answer r from body).replica
    received (says.Replica s) body = either (ltb s (group_size f) && not (eqb s i)) _ _ (of_replica s body) (λ is. z)
    received (says.Client c) body = either (ltb c client_count) _ _ (of_client body) (λ is. z)

    at_rest : (input : steps.Input C A) → HasNone (steps.by_rule f i answer r input).replica
    at_rest (steps.Takes m) = received m.from m.body
    at_rest steps.TimesOut = timeout
    at_rest steps.Resends = λ is. z

  pub has_none_still : (r : ReplicaState C) (input : steps.Input C A) → HasNone r → HasNone (steps.by_rule f i answer r input).replica
  has_none_still r input none = go (is_recovering r.status) refl
    where
      go : (b : Bool) → is_recovering r.status ≡ b → HasNone (steps.by_rule f i answer r input).replica
      go true e = at_rest r (status_is r.status e) (none e) input
      go false e = λ is. absurd (let d : true ≡ false = sym is ∙ stays_up is_recovering refl refl f i answer r input e in cc)
