-- A message that comes.
use Rattle.std.proofs.Common.{◌≡◌, ℕ, ◌<◌, ◌≤◌, List, [], ◌∷◌, ◌++◌, length, drop, Option, Some, None, Result, Ok, Err, Bool, true, false, not, ◌||◌, ◌⊎◌, inl, inr, nat_lt, refl, sym, ap, ◌∙◌, subst, arith, append-nil}
use Rattle.std.specs.List.{slice_get}
use Rattle.std.proofs.lemmas.Bool.{lt-ltb, le-ltb}
use Rattle.std.proofs.lemmas.Option.{slice_get_within}
use Rattle.il_model.specs.declared.command.Command.{Command}
use Rattle.il_model.specs.declared.command.Answer.{Answer}
use Rattle.il_model.specs.Snapshots.{SavedController}
use Rattle.il_model.specs.Program.{Program}
use Rattle.vr_model.specs.declared.event.Event.TheVariants as event
use Rattle.vr_model.specs.declared.client.ClientNumber.{ClientNumber}
use Rattle.vr_model.specs.declared.message.Message as sent
use Rattle.vr_model.specs.declared.message.Party.TheVariants as party
use Rattle.vr_model.specs.declared.message.Body as body
use Rattle.vr_model.specs.declared.message.Body.TheVariants as says
use Rattle.vr_model.specs.Logs.{Request, IsPrefix}
use Rattle.vr_model.specs.Groups.{group_size}
use Rattle.vr_model.specs.Messages.{Message, Body, Client as ToClient, Replica as ToReplica, Reply, NewState}
use Rattle.vr_model.specs.Replicas.{ReplicaState, Outcome, is_down}
use Rattle.vr_model.specs.Rules.{receives}
use Rattle.vr_model.specs.World.{World, Event, Completion, Deliver, Done, executed, comes_to_client, steps, refusal, happens}
use Rattle.vr_model.specs.Report.{released, released_to}
use Rattle.vr_model.specs.Steps.{Takes, acts}
use Rattle.vr_model.specs.Checkpoints.{SavedCheckpoint, KeptLog, LogStands}
use Rattle.vr_model.specs.StandsFor.{message_with, body_with, party_of, MayFit, Fits}
use Rattle.vr_schedules.specs.declared.world.World as code
use Rattle.vr_schedules.specs.declared.fault.EventFault.{EventFault}
use Rattle.vr_schedules.specs.declared.fault.Reason.TheVariants.{NotYetSent}
use Rattle.vr_schedules.specs.declared.fault.EventFault.TheVariants.{Refused, Memory}
use Rattle.vr_model.specs.Membership.{Group, Membership, member}
use Rattle.vr_schedules.specs.Handed.{IsHandedOn, MayBeHandedOn, HandsOn, StandsIn}
use Rattle.vr_schedules.specs.Members.{Acts, FitsTaken}
use Rattle.vr_schedules.specs.Standing.{Shows, IsSettled, CameToClient, Went, WentAt, WentToClient, releases_of}
use Rattle.vr_schedules.proofs.Lists.{take_prefix}
use Rattle.vr_schedules.proofs.Standings.{all_at, all_count}
use Rattle.vr_schedules.proofs.Shown.{shows_later}
use Rattle.vr_schedules.proofs.Acting.{IsActing, IsTaking, acting_went, happens_is}
use Rattle.vr_schedules.proofs.Clients.{happened_done}

or_true : (a b : Bool) → b ≡ true → (a || b) ≡ true
or_true true b e = refl
or_true false b e = e

-- what isn't a reply does nothing at a client
other_comes : (l : List (Request Command)) (f : ℕ) (answer : List Command → Answer) (w : World Command Answer) (c : ℕ) (b : body.Body) → ((v n : ℕ) (a : Answer) → b ≡ says.Reply v n a → ⊥) → comes_to_client f answer w c (body_with l b) ≡ w
other_comes l f answer w c (says.Reply v n a) isnt = absurd (isnt v n a refl)
other_comes l f answer w c (says.Request m) isnt = refl
other_comes l f answer w c (says.Prepare v m p k) isnt = refl
other_comes l f answer w c (says.PrepareOk v p) isnt = refl
other_comes l f answer w c (says.Commit v k) isnt = refl
other_comes l f answer w c (says.StartViewChange v) isnt = refl
other_comes l f answer w c (says.DoViewChange v last k log) isnt = refl
other_comes l f answer w c (says.StartView v k log) isnt = refl
other_comes l f answer w c (says.Recovery x v) isnt = refl
other_comes l f answer w c (says.RecoveryResponse v x state) isnt = refl
other_comes l f answer w c (says.GetState v p) isnt = refl
other_comes l f answer w c (says.NewState v p k log) isnt = refl

other_released : (l : List (Request Command)) (e : ℕ) (w : World Command Answer) (c : ℕ) (b : body.Body) → ((v n : ℕ) (a : Answer) → b ≡ says.Reply v n a → ⊥) → released_to e w (ToClient c) (body_with l b) ≡ []
other_released l e w c (says.Reply v n a) isnt = absurd (isnt v n a refl)
other_released l e w c (says.Request m) isnt = refl
other_released l e w c (says.Prepare v m p k) isnt = refl
other_released l e w c (says.PrepareOk v p) isnt = refl
other_released l e w c (says.Commit v k) isnt = refl
other_released l e w c (says.StartViewChange v) isnt = refl
other_released l e w c (says.DoViewChange v last k log) isnt = refl
other_released l e w c (says.StartView v k log) isnt = refl
other_released l e w c (says.Recovery x v) isnt = refl
other_released l e w c (says.RecoveryResponse v x state) isnt = refl
other_released l e w c (says.GetState v p) isnt = refl
other_released l e w c (says.NewState v p k log) isnt = refl

-- a message of the rules that was sent, as the code's shows it
module _ (f : ℕ) (answer : List Command → Answer) (w : World Command Answer) (n : ℕ) (m : sent.Message) (l : List (Request Command)) (e : slice_get w.sent n ≡ Some (message_with l m)) where
  sent_step : refusal f w (Deliver n) ≡ None
  sent_step = rw (lt-ltb n (length w.sent) (slice_get_within w.sent n (message_with l m) e)) refl

  sent_delivers : (i : ℕ) → i < group_size f → m.to ≡ party.Replica i → IsActing f answer w (Deliver n) i (Takes (message_with l m))
  sent_delivers i within to = record {
    within = within;
    has_step = sent_step;
    releases = λ k. rw (e, to) refl;
    outcome = rw (e, to) refl;
    steps = λ c. rw (e, to) refl;
  }

  sent_away : (number : ℕ) → m.to ≡ party.Replica number → nat_lt number (group_size f) ≡ false → steps f answer w (Deliver n) Done ≡ w
  sent_away number to beyond = rw (e, to, or_true (is_down (w.replicas number).status) (not (nat_lt number (group_size f))) (ap not beyond)) refl

  sent_silent : (number k : ℕ) → m.to ≡ party.Replica number → released k w (Deliver n) ≡ []
  sent_silent number k to = rw (e, to) refl

  sent_reply : (c : ClientNumber) (view number : ℕ) (a : Answer) → m.to ≡ party.Client c → m.body ≡ says.Reply view number a → steps f answer w (Deliver n) Done ≡ comes_to_client f answer w c.number (Reply view number a)
  sent_reply c view number a to spoken = rw (e, to, spoken) refl

  sent_release : (c : ClientNumber) (view number k : ℕ) (a : Answer) → m.to ≡ party.Client c → m.body ≡ says.Reply view number a → released k w (Deliver n) ≡ released_to k w (ToClient c.number) (Reply view number a)
  sent_release c view number k a to spoken = rw (e, to, spoken) refl

  sent_else : (c : ClientNumber) → m.to ≡ party.Client c → ((v k : ℕ) (a : Answer) → m.body ≡ says.Reply v k a → ⊥) → steps f answer w (Deliver n) Done ≡ w
  sent_else c to isnt = rw (e, to) (other_comes l f answer w c.number m.body isnt)

  sent_no_release : (c : ClientNumber) (k : ℕ) → m.to ≡ party.Client c → ((v j : ℕ) (a : Answer) → m.body ≡ says.Reply v j a → ⊥) → released k w (Deliver n) ≡ []
  sent_no_release c k to isnt = rw (e, to) (other_released l k w c.number m.body isnt)

-- it was not sent yet
pub not_sent : (IsSavedAs : Program → ℕ → List Command → SavedController → Type 0) {M : Type 0} (StandsFor : M → Membership → ReplicaState Command → Type 0) (s : code.World M) (n : ℕ) → length s.trace.sent.items ≤ n
    → Went IsSavedAs StandsFor s s (Deliver n) (Err (Refused NotYetSent))
not_sent IsSavedAs StandsFor s n l = record {
  went = λ g past w h settled.
      let many : length s.trace.sent.items ≡ length w.sent = all_count IsSavedAs g past s.trace.sent.items w.sent h.sent in
      rw (le-ltb n (length w.sent) (omega (arith, many, l))) refl;
}

module _ (IsSavedAs : Program → ℕ → List Command → SavedController → Type 0) {M : Type 0} (StandsFor : M → Membership → ReplicaState Command → Type 0) (s : code.World M) (n : ℕ) (m : sent.Message) (at : slice_get s.trace.sent.items n ≡ Some m) where
  module _ (g : Group) (past : List (Event Command × Completion)) (w : World Command Answer) (h : Shows IsSavedAs StandsFor g past s w) where
    abbrev stands : (x : Message Command Answer) × (slice_get w.sent n ≡ Some x) × StandsIn IsSavedAs g past m x
    stands = all_at IsSavedAs g past s.trace.sent.items w.sent n m h.sent at

    -- what the message carries stands for this log
    abbrev log : List (Request Command)
    log = stands.2.stands.log

    -- the world has sent it
    was_sent : slice_get w.sent n ≡ Some (message_with log m)
    was_sent = stands.1 ∙ ap Some stands.2.stands.is

    has_step : refusal g.f w (Deliver n) ≡ None
    has_step = sent_step g.f g.answer w n m log was_sent

    delivers : (i : ℕ) → i < group_size g.f → m.to ≡ party.Replica i → IsActing g.f g.answer w (Deliver n) i (Takes (message_with log m))
    delivers = sent_delivers g.f g.answer w n m log was_sent

    -- and what the rules make of it keeps what was executed
    keeps : (i : ℕ) → m.to ≡ party.Replica i → IsSettled g past w → IsPrefix (executed (w.replicas i)) (acts g.f i g.answer (w.replicas i) (Takes (message_with log m))).replica.log
    keeps i to settled = go (is_down (w.replicas i).status) refl
      where
        go : (b : Bool) → is_down (w.replicas i).status ≡ b → IsPrefix (executed (w.replicas i)) (acts g.f i g.answer (w.replicas i) (Takes (message_with log m))).replica.log
        go true down = rw down (take_prefix (w.replicas i).commit_number (w.replicas i).log)
        go false up = rw up (settled.keeps i n (message_with log m) up was_sent (ap party_of to))

    -- a checkpoint in it is of the log that the rules make of it
    handed : (i : ℕ) (k : KeptLog) → m.to ≡ party.Replica i → IsSettled g past w → IsHandedOn IsSavedAs g past k (message_with log m).body
        → ((acts g.f i g.answer (w.replicas i) (Takes (message_with log m))).replica ≡ w.replicas i) ⊎ LogStands IsSavedAs g k (acts g.f i g.answer (w.replicas i) (Takes (message_with log m))).replica.log
    handed i k to settled a = go (is_down (w.replicas i).status) refl
      where
        r : ReplicaState Command
        r = w.replicas i

        handed_on : Body Command Answer
        handed_on = NewState a.view a.op_number a.commit_number (drop a.op_number a.whole)

        sent_is : slice_get w.sent n ≡ Some (record { from = party_of m.from; to = ToReplica i; body = handed_on })
        sent_is = was_sent ∙ ap (λ p. Some (record { from = party_of m.from; to = party_of p; body = (message_with log m).body })) to ∙ ap (λ b. Some (record { from = party_of m.from; to = ToReplica i; body = b })) a.meant_is

        makes : is_down r.status ≡ false → ((receives g.f i g.answer r (party_of m.from) handed_on).replica ≡ r) ⊎ ((receives g.f i g.answer r (party_of m.from) handed_on).replica.log ≡ a.whole)
        makes up = settled.hands_on i n a.view a.op_number a.commit_number (party_of m.from) a.whole up sent_is a.within a.was

        stands_for : (o : Outcome Command Answer) → (o.replica ≡ r) ⊎ (o.replica.log ≡ a.whole) → (o.replica ≡ r) ⊎ LogStands IsSavedAs g k o.replica.log
        stands_for o x = elim x [ inl same ↦ inl same | inr is ↦ inr (subst (LogStands IsSavedAs g k) (sym is) a.stands) ]

        go : (b : Bool) → is_down r.status ≡ b → ((acts g.f i g.answer r (Takes (message_with log m))).replica ≡ r) ⊎ LogStands IsSavedAs g k (acts g.f i g.answer r (Takes (message_with log m))).replica.log
        go true down = rw down (inl refl)
        go false up = rw up (subst (λ b. ((receives g.f i g.answer r (party_of m.from) b).replica ≡ r) ⊎ LogStands IsSavedAs g k (receives g.f i g.answer r (party_of m.from) b).replica.log) (sym a.meant_is)
            (stands_for (receives g.f i g.answer r (party_of m.from) handed_on) (makes up)))

    fits : (i : ℕ) → m.to ≡ party.Replica i → IsSettled g past w → FitsTaken IsSavedAs (member g i) (w.replicas i) (event.Message m) (Acts (Takes (message_with log m)))
    fits i to settled = go m.body hands_on
      where
        o : Outcome Command Answer
        o = acts g.f i g.answer (w.replicas i) (Takes (message_with log m))

        hands_on : HandsOn IsSavedAs g past m.body (message_with log m).body
        hands_on = subst (λ (x : Message Command Answer). HandsOn IsSavedAs g past m.body x.body) stands.2.stands.is stands.2.hands_on

        of : (c : Option SavedCheckpoint) (k : KeptLog) → MayBeHandedOn IsSavedAs g past c k (message_with log m).body → MayFit IsSavedAs g c k (w.replicas i) o
        of None k a = tt
        of (Some c) k a = handed i k to settled a

        go : (b : body.Body) → HandsOn IsSavedAs g past b (message_with log m).body → Fits IsSavedAs g (w.replicas i) o b
        go (says.NewState v p c k) a = of k.checkpoint k a
        go (says.Request x) a = tt
        go (says.Prepare v x p c) a = tt
        go (says.PrepareOk v p) a = tt
        go (says.Commit v c) a = tt
        go (says.Reply v number answer) a = tt
        go (says.StartViewChange v) a = tt
        go (says.DoViewChange v last c k) a = tt
        go (says.StartView v c k) a = tt
        go (says.Recovery x v) a = tt
        go (says.RecoveryResponse v x state) a = tt
        go (says.GetState v p) a = tt

    taking : (i : ℕ) → i < group_size g.f → m.to ≡ party.Replica i → IsSettled g past w → IsTaking IsSavedAs g w (Deliver n) i (event.Message m)
    taking i l to settled = record {
      input = Takes (message_with log m);
      acting = delivers i l to;
      taken = record { log = log; carries = stands.2.stands.carries; is = refl };
      keeps = keeps i to settled;
      fits = fits i to settled;
    }

  -- it comes to a replica
  pub delivered_to_replica : (v : code.World M) (i number : ℕ) (copy : sent.Message) (result : Result (Unit {0}) EventFault) → i ≡ number → i < length s.nodes.items → m.to ≡ party.Replica number → copy ≡ m
      → WentAt IsSavedAs StandsFor s v i (event.Message copy) result → Went IsSavedAs StandsFor s v (Deliver n) result
  delivered_to_replica v i number copy result named l to same k =
      acting_went IsSavedAs StandsFor s v (Deliver n) i (event.Message m) result
      (λ g past w h settled. taking g past w h i (omega (arith, h.size)) (to ∙ ap party.Replica (sym named)) settled)
      (subst (λ x. WentAt IsSavedAs StandsFor s v i (event.Message x) result) same k)

  -- its replica is none of the group
  pub delivered_to_none : (number : ℕ) → length s.nodes.items ≤ number → m.to ≡ party.Replica number → Went IsSavedAs StandsFor s s (Deliver n) (Ok tt)
  delivered_to_none number outside to = record {
    went = λ g past w h settled.
        let beyond : nat_lt number (group_size g.f) ≡ false = le-ltb number (group_size g.f) (omega (arith, h.size, outside)) in
        let stays : steps g.f g.answer w (Deliver n) Done ≡ w = sent_away g.f g.answer w n m (log g past w h) (was_sent g past w h) number to beyond in
        happened_done IsSavedAs StandsFor g past s s w (Deliver n) settled (has_step g past w h) (λ k. sent_silent g.f g.answer w n m (log g past w h) (was_sent g past w h) number k to) (subst (Shows IsSavedAs StandsFor g past s) (sym stays) h) refl refl refl;
  }

  -- a reply comes to a client
  pub delivered_to_client : (v : code.World M) (c : ClientNumber) (view number : ℕ) (a : Answer) (result : Result (Unit {0}) EventFault) → m.to ≡ party.Client c → m.body ≡ says.Reply view number a
      → WentToClient IsSavedAs StandsFor s v c.number view number a result → Went IsSavedAs StandsFor s v (Deliver n) result
  delivered_to_client v c view number a (Ok u) to spoken k = record {
    went = λ g past w h settled.
        let x : CameToClient IsSavedAs StandsFor g past s v w c.number view number a = k.went g past w h in
        let comes : happens g.f g.answer w (Deliver n) Done ≡ comes_to_client g.f g.answer w c.number (Reply view number a) = happens_is g.f g.answer w (Deliver n) Done (has_step g past w h) ∙ sent_reply g.f g.answer w n m (log g past w h) (was_sent g past w h) c view number a to spoken in
        let gives : released (length s.trace.lengths.items) w (Deliver n) ≡ released_to (length s.trace.lengths.items) w (ToClient c.number) (Reply view number a) = sent_release g.f g.answer w n m (log g past w h) (was_sent g past w h) c view number (length s.trace.lengths.items) a to spoken in
        record {
          completion = Done;
          has_step = has_step g past w h;
          complete = tt;
          shows = shows_later IsSavedAs StandsFor g past (past ++ (Deliver n, Done) ∷ []) v (happens g.f g.answer w (Deliver n) Done) (settled.leads (Deliver n) Done).still (subst (Shows IsSavedAs StandsFor g past v) (sym comes) x.shows);
          releases = x.releases ∙ ap (λ xs. releases_of s.trace.releases.items ++ xs) (sym gives);
          lengths = x.lengths;
          lost = x.lost ∙ sym (append-nil s.trace.lost.items);
        };
  }
  delivered_to_client v c view number a (Err (Refused reason)) to spoken k = record { went = λ g past w h settled. absurd (let wrong : Refused reason ≡ Memory = k.went g past w h in cc) }
  delivered_to_client v c view number a (Err Memory) to spoken k = record { went = λ g past w h settled. tt }

  -- something else comes to a client
  pub not_for_client : (c : ClientNumber) → m.to ≡ party.Client c → ((v k : ℕ) (a : Answer) → m.body ≡ says.Reply v k a → ⊥) → Went IsSavedAs StandsFor s s (Deliver n) (Ok tt)
  not_for_client c to isnt = record {
    went = λ g past w h settled.
        let stays : steps g.f g.answer w (Deliver n) Done ≡ w = sent_else g.f g.answer w n m (log g past w h) (was_sent g past w h) c to isnt in
        happened_done IsSavedAs StandsFor g past s s w (Deliver n) settled (has_step g past w h) (λ k. sent_no_release g.f g.answer w n m (log g past w h) (was_sent g past w h) c k to isnt) (subst (Shows IsSavedAs StandsFor g past s) (sym stays) h) refl refl refl;
  }
