-- What a replica tells of its log stands for the rule's.
use Rattle.std.proofs.Common.{◌≡◌, ℕ, ◌<◌, ◌≤◌, Bool, true, false, cond, leb, eqb, ◌&&◌, List, [], ◌∷◌, length, take, drop, Option, Some, None, Result, Ok, Err, Vec, Global, arith, refl, ap, ◌∙◌, sym, subst}
use Rattle.std.specs.Prelude.{IfOk}
use Rattle.std.specs.Option.{option_map}
use Rattle.std.specs.declared.alloc.AllocError.{AllocError}
use Rattle.std.proofs.lemmas.Bool.{leb-true, leb-false, eqb-true, and_parts}
use Rattle.std.proofs.lemmas.List.{length-take, take-append-drop}
use Rattle.il_model.specs.declared.command.Command.{Command}
use Rattle.il_model.specs.declared.command.Answer.{Answer}
use Rattle.vr_model.specs.declared.message.Request as code
use Rattle.vr_model.specs.declared.message.Message as sent
use Rattle.vr_model.specs.declared.message.PrimaryState as told
use Rattle.vr_model.specs.declared.message.Body as body
use Rattle.vr_model.specs.declared.message.Body.TheVariants as says
use Rattle.vr_model.specs.Groups.{primary}
use Rattle.vr_model.specs.Logs.{Request}
use Rattle.vr_model.specs.Membership.{Group, Membership}
use Rattle.vr_model.specs.Messages.{Body, Message, NewState, RecoveryResponseMessage}
use Rattle.vr_model.specs.Replicas.{ReplicaState, Outcome, is_normal}
use Rattle.vr_model.specs.Choices.{own_state}
use Rattle.vr_model.specs.Rules.{keep, send, from_replica, on_get_state, own_response}
use Rattle.vr_model.specs.Checkpoints.{SavedCheckpoint, KeptLog, base_of, entries_past, LogStands, PartStandsBy}
use Rattle.vr_model.specs.StandsFor.{IsCarriedPart, MayBeOf, MayCarry, Stands, AllStand, AllStandFrom, state_with}
use Rattle.vr_core.specs.declared.state.Core.{Core}
use Rattle.vr_core.specs.StandsFor.{StandsFor, IsSavedAs}
use Rattle.vr_core.specs.Follows.{Tells, Says, AreSent, Does, message_from, receives_from}
use Rattle.vr_core.proofs.WholeLogs.{past_entries}
use Rattle.vr_core.proofs.Sent.{sent_to}
use Rattle.vr_core.proofs.Doing.{does_keep, does_send, sends_some}
use Rattle.vr_core.proofs.Senders.{other_for, of_other, of_none}
use Rattle.vr_recovery.specs.Responses.{kept_past, told_state, SendsOwn}

-- all that is kept, after the first entries
after : (g : Group) (o : Option SavedCheckpoint) (entries : List code.Request) (l : List (Request Command)) (p : ℕ) → LogStands IsSavedAs g (record { checkpoint = o; entries = entries }) l → p < base_of o → p ≤ length l
    → PartStandsBy IsSavedAs g o p (record { checkpoint = o; entries = entries }) (drop p l)
after g None entries l p s past within = absurd (omega (arith, past))
after g (Some c) entries l p s past within = record {
  before = take p l;
  count = omega (arith, length-take p l);
  stands = subst (LogStands IsSavedAs g (record { checkpoint = Some c; entries = entries })) (sym (take-append-drop p l)) s;
}

pub past_carried : (g : Group) (log : KeptLog) (l : List (Request Command)) (p c : ℕ) → LogStands IsSavedAs g log l → base_of log.checkpoint ≤ c → p ≤ length l → IsCarriedPart IsSavedAs g p c (kept_past log p) (drop p l)
past_carried g log l p c s reached within = go (leb (base_of log.checkpoint) p) refl
  where
    go : (b : Bool) → leb (base_of log.checkpoint) p ≡ b → IsCarriedPart IsSavedAs g p c (cond b (entries_past log p) log) (drop p l)
    go true e = record { reached = omega arith; stands = past_entries g log l p s (leb-true _ _ e) }
    go false e = let d : p < base_of log.checkpoint = leb-false _ _ e in record { reached = reached; stands = after g log.checkpoint log.entries l p s d within }

-- it is the sender's own
past_own : (g : Group) (r : ReplicaState Command) (log : KeptLog) (u p : ℕ) → is_normal r.status ≡ true → r.view ≡ u → p ≤ length r.log → LogStands IsSavedAs g log r.log
    → MayBeOf IsSavedAs g (kept_past log p).checkpoint r (kept_past log p) (NewState u p r.commit_number (drop p r.log))
past_own g r log u p normal view within s = go (leb (base_of log.checkpoint) p)
  where
    own : (o : Option SavedCheckpoint) (entries : List code.Request) → LogStands IsSavedAs g (record { checkpoint = o; entries = entries }) r.log → MayBeOf IsSavedAs g o r (record { checkpoint = o; entries = entries }) (NewState u p r.commit_number (drop p r.log))
    own None entries h = tt
    own (Some c) entries h = record {
      normal = normal;
      op_number = p;
      commit_number = r.commit_number;
      meant_is = ap (λ v. NewState v p r.commit_number (drop p r.log)) (sym view);
      within = within;
      stands = h;
    }

    go : (b : Bool) → MayBeOf IsSavedAs g (cond b (entries_past log p) log).checkpoint r (cond b (entries_past log p) log) (NewState u p r.commit_number (drop p r.log))
    go true = tt
    go false = own log.checkpoint log.entries s

-- GETSTATE

abbrev pub holds : ReplicaState Command → ℕ → ℕ → Bool
holds r u p = is_normal r.status && eqb r.view u && leb p (length r.log)

-- the body that is sent
abbrev pub state_body : Core → ℕ → ℕ → body.Body
state_body core u p = says.NewState u p core.commit_number (kept_past core.log p)

module _ (core : Core) (to u p : ℕ) where
  abbrev rule : Membership → ReplicaState Command → Outcome Command Answer
  rule w r = on_get_state w.f w.number w.answer r to u p

  abbrev said : Membership → ReplicaState Command → List (Message Command Answer)
  said w r = send w.f w.number w.answer to (NewState u p r.commit_number (drop p r.log)) ∷ []

  abbrev by_test : Membership → ReplicaState Command → Bool → Outcome Command Answer
  by_test w r b = cond b (record { replica = r; saves = None; sends = said w r }) (keep w.f w.number w.answer r)

  within_log : (r : ReplicaState Command) → holds r u p ≡ true → (is_normal r.status ≡ true) × (r.view ≡ u) × (p ≤ length r.log)
  within_log r e =
      let a = and_parts (is_normal r.status && eqb r.view u) (leb p (length r.log)) e in
      let b = and_parts (is_normal r.status) (eqb r.view u) a.0 in
      (b.0, eqb-true r.view u b.1, leb-true p (length r.log) a.1)

  sent_state : (w : Membership) (r : ReplicaState Command) → StandsFor core w r → holds r u p ≡ true → Stands IsSavedAs w.group (message_from core.number (state_body core u p) to) (send w.f w.number w.answer to (NewState u p r.commit_number (drop p r.log)))
  sent_state w r st e =
      let h = within_log r e in
      let c = past_carried w.group core.log r.log p core.commit_number st.log (omega (arith, st.reached, st.commit_number)) h.2 in
      subst (λ i. Stands IsSavedAs w.group (message_from i (state_body core u p) to) (send w.f w.number w.answer to (NewState u p r.commit_number (drop p r.log)))) st.member.number
      (subst (λ k. Stands IsSavedAs w.group (message_from w.number (state_body core u p) to) (send w.f w.number w.answer to (NewState u p k (drop p r.log)))) (sym st.commit_number)
      (record { log = drop p r.log; carries = c; is = refl }))

  pub got_state : (result : Result (Vec sent.Message Global) AllocError) → IfOk result (λ sends. sends.items ≡ message_from core.number (state_body core u p) to ∷ []) → Tells core (λ w r. holds r u p) true → Does core rule core result
  got_state result is told = does_send core rule said result (lift result is) (λ w r st. ap (by_test w r) (sym (told.tells w r st))) (λ w r st. sends_some r (rule w r) _ [] (ap (λ b. (by_test w r b).sends) (sym (told.tells w r st))))
    where
      lift : (result : Result (Vec sent.Message Global) AllocError) → IfOk result (λ sends. sends.items ≡ message_from core.number (state_body core u p) to ∷ []) → IfOk result (λ sends. Says core said sends.items)
      lift (Ok sends) e = record { says = λ w r st. record { are = subst (λ (ms : List sent.Message). AllStand IsSavedAs w.group ms (said w r)) (sym e) (sent_state w r st (sym (told.tells w r st)), tt) } }
      lift (Err x) e = tt

  pub got_own : (result : Result (Vec sent.Message Global) AllocError) → IfOk result (λ sends. sends.items ≡ message_from core.number (state_body core u p) to ∷ []) → Tells core (λ w r. holds r u p) true
      → IfOk result (λ sends. SendsOwn core rule sends.items)
  got_own (Err x) is told = tt
  got_own (Ok sends) is told = record {
    own = λ w r st.
        let e : holds r u p ≡ true = sym (told.tells w r st) in
        let h = within_log r e in
        subst (λ b. AllStandFrom IsSavedAs w.group r sends.items (by_test w r b).sends) (told.tells w r st)
        (subst (λ (ms : List sent.Message). AllStandFrom IsSavedAs w.group r ms (said w r)) (sym is) (record { stands = sent_state w r st e; own = past_own w.group r core.log u p h.0 h.1 h.2 st.log }, tt));
  }

  pub got_none : (sends : Vec sent.Message Global) → sends.items ≡ [] → Tells core (λ w r. holds r u p) false → Does core rule core (Ok sends)
  got_none sends none told = does_keep core rule sends none (λ w r st. ap (by_test w r) (sym (told.tells w r st)))

  pub none_own : (sends : Vec sent.Message Global) → sends.items ≡ [] → Tells core (λ w r. holds r u p) false → SendsOwn core rule sends.items
  none_own sends none told = record {
    own = λ w r st.
        subst (λ b. AllStandFrom IsSavedAs w.group r sends.items (by_test w r b).sends) (told.tells w r st)
        (subst (λ (ms : List sent.Message). AllStandFrom IsSavedAs w.group r ms []) (sym none) tt);
  }

-- RECOVERY

-- what a primary adds
state_told : (core : Core) (w : Membership) (r : ReplicaState Command) → StandsFor core w r
    → MayCarry IsSavedAs w.group (told_state core) r.log × (option_map (state_with r.log) (told_state core) ≡ cond (eqb (primary w.f r.view) w.number) (Some (own_state r)) None)
state_told core w r st = (fst, snd)
  where
    state : told.PrimaryState
    state = record { commit_number = core.commit_number; log = core.log }

    same : eqb (primary core.config.f core.view) core.number ≡ eqb (primary w.f r.view) w.number
    same = ap (λ f. eqb (primary f core.view) core.number) (sym st.member.f) ∙ ap (λ v. eqb (primary w.f v) core.number) (sym st.view) ∙ ap (eqb (primary w.f r.view)) (sym st.member.number)

    carried : (b : Bool) → MayCarry IsSavedAs w.group (cond b (Some state) None) r.log
    carried true = record { reached = omega (arith, st.reached, st.commit_number); stands = st.log }
    carried false = tt

    fst : MayCarry IsSavedAs w.group (told_state core) r.log
    fst = carried (eqb (primary core.config.f core.view) core.number)

    is : (b : Bool) → option_map (state_with r.log) (cond b (Some state) None) ≡ cond b (Some (own_state r)) None
    is true = ap (λ k. Some (record { commit_number = k; log = r.log })) (sym st.commit_number)
    is false = refl

    snd : option_map (state_with r.log) (told_state core) ≡ cond (eqb (primary w.f r.view) w.number) (Some (own_state r)) None
    snd = is (eqb (primary core.config.f core.view) core.number) ∙ ap (λ b. cond b (Some (own_state r)) None) same

pub responded : (core : Core) (to nonce : ℕ) (state : Option told.PrimaryState) (sends : List sent.Message) → state ≡ told_state core → sends ≡ message_from core.number (says.RecoveryResponse core.view nonce state) to ∷ []
    → Says core (λ w r. send w.f w.number w.answer to (RecoveryResponseMessage nonce (own_response w.f w.number w.answer r)) ∷ []) sends
responded core to nonce state sends is e = record {
  says = λ w r st.
      let t = state_told core w r st in
      let b = says.RecoveryResponse core.view nonce (told_state core) in
      let s : AreSent w.group (message_from core.number b to ∷ []) (send w.f w.number w.answer to (RecoveryResponseMessage nonce (record { view = core.view; state = option_map (state_with r.log) (told_state core) })) ∷ []) = sent_to w core.number b r.log to st.member.number t.0 in
      let one : AreSent w.group (message_from core.number b to ∷ []) (send w.f w.number w.answer to (RecoveryResponseMessage nonce (own_response w.f w.number w.answer r)) ∷ []) =
      subst (λ v. AreSent w.group (message_from core.number b to ∷ []) (send w.f w.number w.answer to (RecoveryResponseMessage nonce (record { view = v; state = cond (eqb (primary w.f r.view) w.number) (Some (own_state r)) None })) ∷ [])) (sym st.view)
      (subst (λ x. AreSent w.group (message_from core.number b to ∷ []) (send w.f w.number w.answer to (RecoveryResponseMessage nonce (record { view = core.view; state = x })) ∷ [])) t.1 s) in
      subst (λ (ms : List sent.Message). AreSent w.group ms (send w.f w.number w.answer to (RecoveryResponseMessage nonce (own_response w.f w.number w.answer r)) ∷ []))
      (sym (e ∙ ap (λ x. message_from core.number (says.RecoveryResponse core.view nonce x) to ∷ []) is)) one;
}

module _ (core : Core) (s : ℕ) (body : Body Command Answer) where
  -- what the rule sends to another replica of the group is its own
  pub own_of_other : (result : Result (Vec sent.Message Global) AllocError) → other_for core s true → IfOk result (λ sends. SendsOwn core (λ w r. from_replica w.f w.number w.answer r s body) sends.items) → IfOk result (λ sends. SendsOwn core (receives_from s body) sends.items)
  own_of_other (Ok sends) told h = record { own = λ w r st. subst (λ (o : Outcome Command Answer). AllStandFrom IsSavedAs w.group r sends.items o.sends) (sym (of_other core s body told w r st)) (h.own w r st) }
  own_of_other (Err e) told h = tt

  -- and so is nothing
  pub own_of_none : (sends : List sent.Message) → other_for core s false → sends ≡ [] → SendsOwn core (receives_from s body) sends
  own_of_none sends told none = record {
    own = λ w r st.
        subst (λ (o : Outcome Command Answer). AllStandFrom IsSavedAs w.group r sends o.sends) (sym (of_none core s body told w r st))
        (subst (λ (ms : List sent.Message). AllStandFrom IsSavedAs w.group r ms []) (sym none) tt);
  }
