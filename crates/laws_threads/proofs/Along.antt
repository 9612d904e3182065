-- The moves of the code, one after another.
use Rattle.std.proofs.Common.{◌≡◌, ℕ, zero, suc, ◌<◌, Bool, true, false, eqb, List, [], ◌∷◌, ◌++◌, take, drop, Option, Some, None, Ok, Err, refl, sym, ap, ◌∙◌, subst, append_assoc, ◌⊎◌, inl, inr}
use Rattle.std.specs.Prelude.{is_some, slice_get, MatchBool}
use Rattle.std.proofs.lemmas.Bool.{cases_eq, eqb-true}
use Rattle.std.proofs.lemmas.List.{append-nil}
use Rattle.std.proofs.lemmas.Option.{same_Some}
use Rattle.il_model.specs.declared.command.Command.{Command}
use Rattle.il_model.specs.declared.command.Answer.{Answer}
use Rattle.vr_model.specs.declared.event.Event.{Event}
use Rattle.vr_model.specs.declared.event.Event.TheVariants as event
use Rattle.vr_model.specs.declared.event.Stored.{Stored}
use Rattle.vr_model.specs.declared.message.Body as body
use Rattle.vr_model.specs.declared.message.Body.TheVariants as says
use Rattle.vr_model.specs.declared.message.Message as code
use Rattle.vr_model.specs.declared.message.Party.TheVariants as party
use Rattle.vr_model.specs.Groups.{group_size}
use Rattle.vr_model.specs.Logs.{Request, IsPrefix}
use Rattle.vr_model.specs.Membership.{Group, Membership, member}
use Rattle.vr_model.specs.Messages.{Message, Body, Party, Replica, RequestMessage, NewState}
use Rattle.vr_model.specs.Replicas.{ReplicaState, Outcome, is_down, put}
use Rattle.vr_model.specs.Rules.{receives}
use Rattle.vr_model.specs.World.{ClientState, executed, retried, first_replica, down}
use Rattle.vr_model.specs.Checkpoints.{SavedCheckpoint, KeptLog, LogStands}
use Rattle.vr_model.specs.Steps.{Input, Takes, TimesOut, Resends, acts, ClientAction, Submits, Retries, StartsAgain, Hears, ClientStep, MayClient, client_after, client_sends, first_client}
use Rattle.vr_model.specs.Stores.{Observation, Did, LostStep, LostSave, Crashed, CameUp, StayedDown, KnownState, MayShow, only, adds, next, first_known_state}
use Rattle.vr_model.specs.Interleaving.{ActionTakesSent}
use Rattle.vr_model.specs.StandsFor.{party_of, body_with, Stands, AllStand, AllStandFrom, MayFit, Fits}
use Rattle.vr_core.specs.StandsFor.{IsSavedAs}
use Rattle.vr_replica.specs.declared.state.Replica as code_replica
use Rattle.vr_replica.specs.declared.fault.StepFault.TheVariants as fault
use Rattle.vr_replica.specs.Standing.{StandsFor}
use Rattle.vr_replica.specs.Stepped.{StepResult, KeepsExecuted, Acted}
use Rattle.vr_replica.specs.Stepped as step
use Rattle.laws_threads.specs.KeptViews.{KeepsViews}
use Rattle.vr_serving.specs.Serving.{StepsTo, sends_in}
use Rattle.vr_threads.specs.Working.{HasStarted, StandsDown}
use Rattle.laws_threads.specs.ObservedMoves.{ObservedMove, ByReplica, ByClient, all_said, InputTakesSent}
use Rattle.laws_threads.specs.ObservedMoves.{ObservationTakesSent, AreFromTheFirst, IsOneRun, known_at, MayPresuppose}
use Rattle.laws_threads.specs.ObservedMoves.{Means, FitsIn, IsShownAs, observation_of, said}
use Rattle.laws_threads.specs.CodeMoves.{CodeMove, Starts, Steps, Dies, Serves, Seat, runs, killed, KilledWithin, given_with, IsUnused, TakesHanded, HearsHanded, IsNextStart, StartsAsLeft, AreCodeMoves, AreFromTheStart, AreOneRun, seats_after, all_handed, clients_in, observed_clients}
use Rattle.laws_threads.proofs.Tables.{put_same, put_other}
use Rattle.laws_threads.proofs.Appending.{clients_after, knowns_append, clients_append, said_append, right_append, observed_append}
use Rattle.laws_threads.proofs.Handed.{IsHandedOn, MayBeHandedOn, HandsOn, StandsIn, AllStandIn, all_append, all_at, all_stand, all_later, was_still}
use Rattle.laws_threads.proofs.Seated.{known, IsSeated, MaySit, At, reseated, one_more}
use Rattle.laws_threads.proofs.Stepping.{shows, held, killed_holds, restart_held, acted, came_up, IsRestart, only_of}

take_prefix : {X : Type 0} (n : ℕ) (xs : List X) → IsPrefix (take n xs) xs
take_prefix zero xs = record { rest = xs; is = refl }
take_prefix (suc n) [] = record { rest = []; is = refl }
take_prefix (suc n) (x ∷ xs) = let p = take_prefix n xs in record { rest = p.rest; is = ap (λ ys. x ∷ ys) p.is }

not_true : (b : Bool) → (b ≡ true → ⊥) → b ≡ false
not_true true never = absurd (never refl)
not_true false never = refl

-- what an observation takes is what its input takes
observed_takes : (m : Membership) (r : ReplicaState Command) (sent : List (Message Command Answer)) (i place : ℕ) (x : Input Command Answer) (result : StepResult) → InputTakesSent sent i x place → ObservationTakesSent sent i (observation_of m r x result) place
observed_takes m r sent i place x (Ok sends) h = h
observed_takes m r sent i place x (Err fault.Memory) h = h
observed_takes m r sent i place x (Err fault.Store) h = h
observed_takes m r sent i place x (Err fault.Down) h = h

restart_takes : (sent : List (Message Command Answer)) (i place : ℕ) (o : Observation Command Answer) → IsRestart o → ObservationTakesSent sent i o place
restart_takes sent i place (Did x sends) is = absurd is
restart_takes sent i place (LostStep x) is = absurd is
restart_takes sent i place (LostSave x) is = absurd is
restart_takes sent i place Crashed is = tt
restart_takes sent i place (CameUp n loaded sends) is = tt
restart_takes sent i place (StayedDown n) is = tt

-- what stands is what runs
same_stands : (m : Membership) (r : ReplicaState Command) (q p : code_replica.Replica) → Some q ≡ Some p → StandsFor q m r → StandsFor p m r
same_stands m r q p e h = subst (λ (x : code_replica.Replica). StandsFor x m r) (same_Some q p e) h

-- it uses no nonce
used_same : (m : Membership) (k : KnownState Command) (x : Input Command Answer) (result : StepResult) → (next m.f m.number m.answer k (observation_of m k.replica x result)).used ≡ k.used
used_same m k x (Ok sends) = refl
used_same m k x (Err fault.Memory) = refl
used_same m k x (Err fault.Store) = refl
used_same m k x (Err fault.Down) = refl

-- what a client sends asks for something
abbrev IsAsking : Body Command Answer → Type 0
IsAsking (RequestMessage m) = Unit {0}
IsAsking _ = ⊥

abbrev AllAsk : List (Message Command Answer) → Type 0
AllAsk [] = Unit {0}
AllAsk (m ∷ ms) = IsAsking m.body × AllAsk ms

all_ask : (xs ys : List (Message Command Answer)) → AllAsk xs → AllAsk ys → AllAsk (xs ++ ys)
all_ask [] ys a b = b
all_ask (x ∷ xs) ys a b = (a.0, all_ask xs ys a.1 b)

retried_ask : (f : ℕ) (answer : List Command → Answer) (c n : ℕ) (o : Option (Request Command)) → AllAsk (retried f answer c n o)
retried_ask f answer c n None = tt
retried_ask f answer c zero (Some m) = tt
retried_ask f answer c (suc n) (Some m) = all_ask (retried f answer c n (Some m)) _ (retried_ask f answer c n (Some m)) (tt, tt)

sends_ask : (f c : ℕ) (answer : List Command → Answer) (k : ClientState Command) (a : ClientAction Command Answer) → AllAsk (client_sends f c answer k a)
sends_ask f c answer k (Submits command) = (tt, tt)
sends_ask f c answer k Retries = retried_ask f answer c (group_size f) k.waits
sends_ask f c answer k StartsAgain = tt
sends_ask f c answer k (Hears m) = tt

-- and hands no log on
asks_hand : (g : Group) (os : List (ObservedMove Command Answer)) (l : List (Request Command)) (b : body.Body) (meant : Body Command Answer) → meant ≡ body_with l b → IsAsking meant → HandsOn g os b meant
asks_hand g os l (says.NewState v p c log) meant is asking = absurd (subst (λ (x : Body Command Answer). IsAsking x) is asking)
asks_hand g os l (says.Request m) meant is asking = tt
asks_hand g os l (says.Prepare v m p c) meant is asking = tt
asks_hand g os l (says.PrepareOk v p) meant is asking = tt
asks_hand g os l (says.Commit v c) meant is asking = tt
asks_hand g os l (says.Reply v number answer) meant is asking = tt
asks_hand g os l (says.StartViewChange v) meant is asking = tt
asks_hand g os l (says.DoViewChange v last c log) meant is asking = tt
asks_hand g os l (says.StartView v c log) meant is asking = tt
asks_hand g os l (says.Recovery x v) meant is asking = tt
asks_hand g os l (says.RecoveryResponse v x state) meant is asking = tt
asks_hand g os l (says.GetState v p) meant is asking = tt

asks_stand : (g : Group) (os : List (ObservedMove Command Answer)) (xs : List code.Message) (ms : List (Message Command Answer)) → AllStand IsSavedAs g xs ms → AllAsk ms → AllStandIn g os xs ms
asks_stand g os [] [] a b = tt
asks_stand g os [] (m ∷ ms) a b = absurd a
asks_stand g os (x ∷ xs) [] a b = absurd a
asks_stand g os (x ∷ xs) (m ∷ ms) a b =
    let s : Stands IsSavedAs g x m = a.0 in
    (record { stands = s; hands_on = asks_hand g os s.log x.body m.body (ap (λ (y : Message Command Answer). y.body) s.is) b.0 }, asks_stand g os xs ms a.1 b.1)

module _ {S : Type 0} (loads : S → Option Stored → S → Type 0) (saves : S → ℕ → Bool → S → Type 0) (faults : S → ℕ) (begins : S → Option Stored → S → Type 0) (holds : S → (ℕ → Bool) → Type 0) (keeps : KeepsViews loads saves begins holds) (g : Group)
    (may : (os : List (ObservedMove Command Answer)) → AreFromTheFirst g.f g.answer os → MayPresuppose g.f g.answer os) where
  -- a move goes on to here, and this shows of it
  record Goes (seats : ℕ → Option (Seat S)) (given : ℕ → ℕ → Bool) (clients : ℕ → ClientState Command) (sent : List code.Message) (os : List (ObservedMove Command Answer)) (cs : List (ℕ × ClientStep Command Answer)) : Type 0 where
    more : List (ObservedMove Command Answer)
    at : At holds g seats given clients sent (os ++ more)
    own : observed_clients more ≡ cs

  nothing : (seats : ℕ → Option (Seat S)) (given : ℕ → ℕ → Bool) (clients : ℕ → ClientState Command) (sent : List code.Message) (os : List (ObservedMove Command Answer)) → At holds g seats given clients sent os → Goes seats given clients sent os []
  nothing seats given clients sent os at = record { more = []; at = subst (At holds g seats given clients sent) (sym (append-nil os)) at; own = refl }

  module _ (seats : ℕ → Option (Seat S)) (given : ℕ → ℕ → Bool) (clients : ℕ → ClientState Command) (sent : List code.Message) (os : List (ObservedMove Command Answer)) (at : At holds g seats given clients sent os) where
    -- ---- a step of a replica that takes an input up
    module _ (i place : ℕ) (low : i < group_size g.f) (q : code_replica.Replica) (s : S) (waits : Option ℕ) (sits : IsSeated holds g i (known holds g os i) (given i) (runs q s waits)) where
      abbrev k : KnownState Command
      k = known holds g os i

      stands : StandsFor q (member g i) k.replica
      stands = sits.stands q refl

      takes_up : (r : code_replica.Replica) (left : S) (result : StepResult) (e : Event) (x : Input Command Answer) → StepsTo loads saves faults q s e r left result → Means (member g i) e x → KeepsExecuted (member g i) k.replica x → FitsIn (member g i) k.replica e x → InputTakesSent (all_said os) i x place
          → Goes (put seats i (Some (runs r left None))) given clients (sent ++ sends_in result) os []
      takes_up r left result e x steps means keeps_log fits takes =
          let does : Acted loads saves IsSavedAs (StandsFor r (member g i)) (member g i) k.replica s left (acts g.f i g.answer k.replica x) result =
          acted loads saves faults q r s left e result (member g i) k x steps stands means keeps_log fits in
          let o : Observation Command Answer = observation_of (member g i) k.replica x result in
          let is_shown : IsShownAs (member g i) k o r (sends_in result) = shows loads saves (member g i) r s left k x result does in
          record {
            more = ByReplica i o place ∷ [];
            at = one_more holds g seats given given clients sent os at i place low o (runs r left None) (sends_in result)
                is_shown.may (λ p e. same_stands (member g i) (next g.f i g.answer k o).replica r p e is_shown.stands) is_shown.says
                (observed_takes (member g i) k.replica (all_said os) i place x result takes)
                (held loads saves begins holds keeps (member g i) r s left k x result does sits.held)
                (λ n e. absurd (let no : None ≡ Some n = e in cc))
                (λ n u. at.used i n (subst (λ (h : ℕ → Bool). h n ≡ true) (used_same (member g i) k x result) u))
                (λ j ne. refl);
            own = refl;
          }

      -- its process is killed within that
      killed_up : (e : Event) (left : S) (x : Input Command Answer) → KilledWithin loads saves faults holds q s e left → Means (member g i) e x → KeepsExecuted (member g i) k.replica x → FitsIn (member g i) k.replica e x → InputTakesSent (all_said os) i x place
          → Goes (put seats i (Some (killed left))) given clients sent os []
      killed_up e left x by means keeps_log fits takes =
          let does : Acted loads saves IsSavedAs (StandsFor by.becomes (member g i)) (member g i) k.replica s by.saved (acts g.f i g.answer k.replica x) by.result =
          acted loads saves faults q by.becomes s by.saved e by.result (member g i) k x by.step stands means keeps_log fits in
          shown_killed left x (acts g.f i g.answer k.replica x).saves refl takes (killed_holds loads saves begins holds keeps (member g i) by.becomes s by.saved k left x by.result does sits.held by.holds_no_other)
        where
          shows_so : (left : S) (o : Observation Command Answer) → MayShow g.f i g.answer k o → holds left (next g.f i g.answer k o).may_keep → ObservationTakesSent (all_said os) i o place → said o ≡ [] → (next g.f i g.answer k o).used ≡ k.used → Goes (put seats i (Some (killed left))) given clients sent os []
          shows_so left o may kept takes silent used = record {
            more = ByReplica i o place ∷ [];
            at = subst (λ (ms : List code.Message). At holds g (put seats i (Some (killed left))) given clients ms (os ++ ByReplica i o place ∷ [])) (append-nil sent)
                (one_more holds g seats given given clients sent os at i place low o (killed left) []
                may (λ p e. absurd (let no : None ≡ Some p = e in cc)) (subst (λ (ms : List (Message Command Answer)). AllStandFrom IsSavedAs g (next g.f i g.answer k o).replica [] ms) (sym silent) tt)
                takes kept
                (λ n e. absurd (let no : None ≡ Some n = e in cc))
                (λ n u. at.used i n (subst (λ (h : ℕ → Bool). h n ≡ true) used u))
                (λ j ne. refl));
            own = refl;
          }

          shown_killed : (left : S) (x : Input Command Answer) (o : Option ℕ) → (acts g.f i g.answer k.replica x).saves ≡ o → InputTakesSent (all_said os) i x place → holds left (adds k.may_keep (acts g.f i g.answer k.replica x).saves)
              → Goes (put seats i (Some (killed left))) given clients sent os []
          shown_killed left x None is takes kept = shows_so left Crashed tt (subst (λ o. holds left (adds k.may_keep o)) is kept) tt refl refl
          shown_killed left x (Some view) is takes kept = shows_so left (LostSave x) (ap is_some is) kept takes refl refl

      -- of a message, what the rules need of it holds where the replica is
      module _ (a : code.Message) (is : slice_get sent place ≡ Some a) (to : a.to ≡ party.Replica i) where
        abbrev meant : (x : Message Command Answer) × (slice_get (all_said os) place ≡ Some x) × StandsIn g os a x
        meant = all_at g os sent (all_said os) place a at.handed is

        abbrev m : Message Command Answer
        m = meant.0

        to_is : m.to ≡ Replica i
        to_is = ap (λ (y : Message Command Answer). y.to) meant.2.stands.is ∙ ap party_of to

        presupposed : MayPresuppose g.f g.answer os
        presupposed = may os at.right

        keeps_log : IsPrefix (executed k.replica) (acts g.f i g.answer k.replica (Takes m)).replica.log
        keeps_log = go (is_down k.replica.status) refl
          where
            go : (b : Bool) → is_down k.replica.status ≡ b → IsPrefix (executed k.replica) (acts g.f i g.answer k.replica (Takes m)).replica.log
            go true is_so = rw is_so (take_prefix k.replica.commit_number k.replica.log)
            go false up = rw up (presupposed.keeps i place m up meant.1 to_is)

        handed_log : (log : KeptLog) → IsHandedOn g os log m.body
            → ((acts g.f i g.answer k.replica (Takes m)).replica ≡ k.replica) ⊎ LogStands IsSavedAs g log (acts g.f i g.answer k.replica (Takes m)).replica.log
        handed_log log h = go (is_down k.replica.status) refl
          where
            b : Body Command Answer
            b = NewState h.view h.op_number h.commit_number (drop h.op_number h.whole)

            from : Party
            from = m.from

            sent_is : slice_get (all_said os) place ≡ Some (record { from = m.from; to = Replica i; body = b })
            sent_is = meant.1 ∙ ap (λ p. Some (record { from = m.from; to = p; body = m.body })) to_is ∙ ap (λ y. Some (record { from = m.from; to = Replica i; body = y })) h.meant_is

            of : (o : Outcome Command Answer) → (o.replica ≡ k.replica) ⊎ (o.replica.log ≡ h.whole) → (o.replica ≡ k.replica) ⊎ LogStands IsSavedAs g log o.replica.log
            of o x = elim x [ inl same ↦ inl same | inr is_whole ↦ inr (subst (LogStands IsSavedAs g log) (sym is_whole) h.stands) ]

            go : (d : Bool) → is_down k.replica.status ≡ d → ((acts g.f i g.answer k.replica (Takes m)).replica ≡ k.replica) ⊎ LogStands IsSavedAs g log (acts g.f i g.answer k.replica (Takes m)).replica.log
            go true is_so = rw is_so (inl refl)
            go false up = rw up (subst (λ y. ((receives g.f i g.answer k.replica m.from y).replica ≡ k.replica) ⊎ LogStands IsSavedAs g log (receives g.f i g.answer k.replica m.from y).replica.log) (sym h.meant_is)
                (of (receives g.f i g.answer k.replica m.from b) (presupposed.hands_on i place h.view h.op_number h.commit_number m.from h.whole up sent_is h.within h.was)))

        fits : Fits IsSavedAs g k.replica (acts g.f i g.answer k.replica (Takes m)) a.body
        fits = go a.body meant.2.hands_on
          where
            o : Outcome Command Answer
            o = acts g.f i g.answer k.replica (Takes m)

            of : (c : Option SavedCheckpoint) (log : KeptLog) → MayBeHandedOn g os c log m.body → MayFit IsSavedAs g c log k.replica o
            of None log h = tt
            of (Some c) log h = handed_log log h

            go : (b : body.Body) → HandsOn g os b m.body → Fits IsSavedAs g k.replica o b
            go (says.NewState v p c log) h = of log.checkpoint log h
            go (says.Request x) h = tt
            go (says.Prepare v x p c) h = tt
            go (says.PrepareOk v p) h = tt
            go (says.Commit v c) h = tt
            go (says.Reply v number answer) h = tt
            go (says.StartViewChange v) h = tt
            go (says.DoViewChange v last c log) h = tt
            go (says.StartView v c log) h = tt
            go (says.Recovery x v) h = tt
            go (says.RecoveryResponse v x state) h = tt
            go (says.GetState v p) h = tt

        takes_message : (r : code_replica.Replica) (left : S) (result : StepResult) → StepsTo loads saves faults q s (event.Message a) r left result → Goes (put seats i (Some (runs r left None))) given clients (sent ++ sends_in result) os []
        takes_message r left result steps = takes_up r left result (event.Message a) (Takes m) steps (m, meant.2.stands, refl) (λ over. keeps_log) fits (meant.1, to_is)

        killed_at_message : (left : S) → KilledWithin loads saves faults holds q s (event.Message a) left → Goes (put seats i (Some (killed left))) given clients sent os []
        killed_at_message left by = killed_up (event.Message a) left (Takes m) by (m, meant.2.stands, refl) (λ over. keeps_log) fits (meant.1, to_is)

      -- what it owes of a restart, where it is to come up
      owed : (n : ℕ) (r : code_replica.Replica) (left : S) (result : StepResult) → StepsTo loads saves faults q s (event.Restart n) r left result → is_down k.replica.status ≡ true → step.Restarted loads saves IsSavedAs (StandsFor r (member g i)) (member g i) k.replica s left n result
      owed n r left result steps down = subst (λ (b : Bool). step.RestartedIf loads saves IsSavedAs (StandsFor r (member g i)) (member g i) k.replica s left b n result) down (steps.row (member g i) k.replica stands)

      -- it comes up, or tries
      comes_up : (r : code_replica.Replica) (left : S) (result : StepResult) (n : ℕ) → StepsTo loads saves faults q s (event.Restart n) r left result → waits ≡ Some n → Goes (put seats i (Some (runs r left None))) given clients (sent ++ sends_in result) os []
      comes_up r left result n steps waiting =
          let w = sits.waits n waiting in
          let now : Seat S = runs r left None in
          elim (came_up loads saves begins holds keeps (member g i) r s left k n result (owed n r left result steps w.0) w.0 w.1 sits.held) [
            | inl x ↦ record {
              more = ByReplica i x.0 place ∷ [];
              at = one_more holds g seats given given clients sent os at i place low x.0 now (sends_in result) x.1.may (λ p e. same_stands (member g i) (next g.f i g.answer k x.0).replica r p e x.1.stands) x.1.says (restart_takes (all_said os) i place x.0 x.4) x.2
                  (λ q e. absurd (let no : None ≡ Some q = e in cc))
                  (λ q u. elim (cases_eq q n) [
                    | inl e ↦ subst (λ y. given i y ≡ true) (sym e) w.2
                    | inr ne ↦ at.used i q (sym (put_other k.used n true q ne) ∙ subst (λ (h : ℕ → Bool). h q ≡ true) x.3 u)
                  ])
                  (λ j ne. refl);
              own = refl;
            }
            | inr x ↦ nothing (put seats i (Some now)) given clients (sent ++ sends_in result) os
                (subst (λ (ms : List code.Message). At holds g (put seats i (Some now)) given clients ms os) (sym (ap (λ (ms : List code.Message). sent ++ ms) x.2 ∙ append-nil sent))
                (reseated holds g seats given given clients sent os i now at (record { stands = λ p e. same_stands (member g i) k.replica r p e x.0; held = x.1; waits = λ q e. absurd (let no : None ≡ Some q = e in cc) }) (λ j ne. refl) (λ q u. u)))
          ]

      -- its process is killed within that: it was down, and is
      killed_coming_up : (left : S) (n : ℕ) → KilledWithin loads saves faults holds q s (event.Restart n) left → waits ≡ Some n → Goes (put seats i (Some (killed left))) given clients sent os []
      killed_coming_up left n by waiting =
          let w = sits.waits n waiting in
          let kept : holds by.saved k.may_keep = restart_held loads saves begins holds keeps (member g i) by.becomes s by.saved k n by.result (owed n by.becomes by.saved by.result by.step w.0) sits.held in
          nothing (put seats i (Some (killed left))) given clients sent os
          (reseated holds g seats given given clients sent os i (killed left) at
          (record { stands = λ p e. absurd (let no : None ≡ Some p = e in cc); held = by.holds_no_other k.may_keep sits.held kept; waits = λ q e. absurd (let no : None ≡ Some q = e in cc) })
          (λ j ne. refl) (λ q u. u))

      stepped : (r : code_replica.Replica) (left : S) (result : StepResult) (e : Event) → StepsTo loads saves faults q s e r left result → TakesHanded sent i waits e place → Goes (put seats i (Some (runs r left None))) given clients (sent ++ sends_in result) os []
      stepped r left result (event.Message a) steps takes = takes_message a takes.1 takes.2 r left result steps
      stepped r left result event.Timeout steps takes = takes_up r left result event.Timeout TimesOut steps refl tt tt tt
      stepped r left result event.Resend steps takes = takes_up r left result event.Resend Resends steps refl tt tt tt
      stepped r left result (event.Restart n) steps takes = comes_up r left result n steps takes

      died : (left : S) (e : Event) → KilledWithin loads saves faults holds q s e left → TakesHanded sent i waits e place → Goes (put seats i (Some (killed left))) given clients sent os []
      died left (event.Message a) by takes = killed_at_message a takes.1 takes.2 left by
      died left event.Timeout by takes = killed_up event.Timeout left TimesOut by refl tt tt tt
      died left event.Resend by takes = killed_up event.Resend left Resends by refl tt tt tt
      died left (event.Restart n) by takes = killed_coming_up left n by takes

    seat_here : (i : ℕ) (seat : Seat S) → seats i ≡ Some seat → IsSeated holds g i (known holds g os i) (given i) seat
    seat_here i seat is = subst (λ o. MaySit holds g i (known holds g os i) (given i) o) is (at.sits i)

    step_of : (i place : ℕ) (e : Event) (r : code_replica.Replica) (left : S) (result : StepResult) (q : code_replica.Replica) (s : S) (waits : Option ℕ) → i < group_size g.f → seats i ≡ Some (runs q s waits) → StepsTo loads saves faults q s e r left result → TakesHanded sent i waits e place
        → Goes (put seats i (Some (runs r left None))) given clients (sent ++ sends_in result) os []
    step_of i place e r left result q s waits low is steps takes = stepped i place low q s waits (seat_here i (runs q s waits) is) r left result e steps takes

    death_of : (i place : ℕ) (e : Event) (left : S) (q : code_replica.Replica) (s : S) (waits : Option ℕ) → i < group_size g.f → seats i ≡ Some (runs q s waits) → KilledWithin loads saves faults holds q s e left → TakesHanded sent i waits e place
        → Goes (put seats i (Some (killed left))) given clients sent os []
    death_of i place e left q s waits low is by takes = died i place low q s waits (seat_here i (runs q s waits) is) left e by takes

    -- ---- a start
    module _ (i : ℕ) (low : i < group_size g.f) (q : code_replica.Replica) (found left : S) (nonce starts : Option ℕ) (unused : IsUnused (given i) nonce) where
      abbrev was : KnownState Command
      was = known holds g os i

      abbrev now : Seat S
      now = runs q left nonce

      abbrev after : ℕ → ℕ → Bool
      after = put given i (given_with (given i) nonce)

      after_is : after i ≡ given_with (given i) nonce
      after_is = put_same given i (given_with (given i) nonce) i refl

      given_more : (o : Option ℕ) (x : ℕ) → given i x ≡ true → given_with (given i) o x ≡ true
      given_more None x u = u
      given_more (Some n) x u = elim (cases_eq x n) [
        | inl e ↦ put_same (given i) n true x e
        | inr ne ↦ put_other (given i) n true x ne ∙ u
      ]

      more_after : (x : ℕ) → given i x ≡ true → after i x ≡ true
      more_after x u = ap (λ (h : ℕ → Bool). h x) after_is ∙ given_more nonce x u

      waits_so : (n : ℕ) → nonce ≡ Some n → (was.used n ≡ false) × (after i n ≡ true)
      waits_so n e =
          let fresh : given i n ≡ false = subst (λ o. IsUnused (given i) o) e unused in (
            not_true (was.used n) (λ u. let no : true ≡ false = sym (at.used i n u) ∙ fresh in cc),
            ap (λ (h : ℕ → Bool). h n) after_is ∙ ap (λ o. given_with (given i) o n) e ∙ put_same (given i) n true n refl,
          )

      -- it is down, and what ran before is gone
      crashes : StandsDown q (member g i) → holds left was.may_keep → Goes (put seats i (Some now)) after clients sent os []
      crashes stands kept = record {
        more = ByReplica i Crashed 0 ∷ [];
        at = subst (λ (ms : List code.Message). At holds g (put seats i (Some now)) after clients ms (os ++ ByReplica i Crashed 0 ∷ [])) (append-nil sent)
            (one_more holds g seats given after clients sent os at i 0 low Crashed now [] tt (λ p e. same_stands (member g i) (down was.replica) q p e (stands was.replica)) tt tt kept
            (λ n e. let w = waits_so n e in (refl, w.0, w.1)) (λ x u. more_after x (at.used i x u)) (λ j ne. put_other given i (given_with (given i) nonce) j ne));
        own = refl;
      }

      begun : (stored : Stored) → holds found was.may_keep → begins found (Some stored) left → holds left was.may_keep
      begun stored kept b = let x = keeps.begins found left was.may_keep stored kept b in keeps.more left (only stored.view) was.may_keep x.1 (only_of loads saves begins holds keeps was.may_keep stored.view x.0)

      started : (o : Option (Seat S)) → MaySit holds g i was (given i) o → IsNextStart loads saves faults begins holds g o found starts → HasStarted begins (member g i) found left q nonce starts → Goes (put seats i (Some now)) after clients sent os []
      started o sits next_start h = elim h [
        | inl x ↦ by_count o sits next_start x.0 x.1 x.2 (eqb x.0.starts 1) refl x.3
        | inr x ↦ crashes x.3 (keeps.begin_failed found left was.may_keep (kept_before o sits next_start) x.0)
      ]
        where
          kept_before : (o : Option (Seat S)) → MaySit holds g i was (given i) o → IsNextStart loads saves faults begins holds g o found starts → holds found was.may_keep
          kept_before None sits next_start = subst (λ (k : KnownState Command). holds found k.may_keep) (sym sits) next_start
          kept_before (Some seat) sits next_start = next_start.0 was.may_keep sits.held

          by_count : (o : Option (Seat S)) → MaySit holds g i was (given i) o → IsNextStart loads saves faults begins holds g o found starts → (stored : Stored) → begins found (Some stored) left → starts ≡ Some stored.starts
              → (b : Bool) → eqb stored.starts 1 ≡ b → MatchBool b ((stored.view ≡ 0) × (nonce ≡ None) × StandsFor q (member g i) first_replica) ((nonce ≡ Some stored.starts) × StandsDown q (member g i)) → Goes (put seats i (Some now)) after clients sent os []
          by_count o sits next_start stored b count false e w = crashes w.1 (begun stored (kept_before o sits next_start) b)
          by_count (Some seat) sits next_start stored b count true e w = absurd (next_start.1 (count ∙ ap Some (eqb-true stored.starts 1 e)))
          by_count None sits next_start stored b count true e w =
              let x = keeps.begins found left was.may_keep stored (kept_before None sits next_start) b in
              nothing (put seats i (Some now)) after clients sent os
              (reseated holds g seats given after clients sent os i now at
              (record {
                stands = λ p e. same_stands (member g i) was.replica q p e (subst (λ (k : KnownState Command). StandsFor q (member g i) k.replica) (sym sits) w.2);
                held = keeps.more left (only stored.view) was.may_keep x.1 (only_of loads saves begins holds keeps was.may_keep stored.view x.0);
                waits = λ n f. absurd (let no : None ≡ Some n = sym w.1 ∙ f in cc);
              })
              (λ j ne. put_other given i (given_with (given i) nonce) j ne) more_after)

    start_of : (i : ℕ) (q : code_replica.Replica) (left : S) (nonce starts : Option ℕ) → i < group_size g.f → StartsAsLeft loads saves faults begins holds g i (seats i) left q nonce starts → IsUnused (given i) nonce
        → Goes (put seats i (Some (runs q left nonce))) (put given i (given_with (given i) nonce)) clients sent os []
    start_of i q left nonce starts low as_left unused = started i low q as_left.knowing left nonce starts unused (seats i) (at.sits i) as_left.next as_left.start

    -- ---- a client
    hears : (c : ℕ) (a : ClientAction Command Answer) (place : ℕ) → HearsHanded sent c a place → ActionTakesSent (all_said os) c a place
    hears c (Submits command) place h = tt
    hears c Retries place h = tt
    hears c StartsAgain place h = tt
    hears c (Hears m) place h =
        let x = all_at g os sent (all_said os) place h.0 at.handed h.1 in
        let is : x.0 ≡ m = x.2.stands.is ∙ h.3 x.2.stands.log in
        (x.1 ∙ ap Some is, ap (λ (y : Message Command Answer). y.to) (sym is ∙ x.2.stands.is) ∙ h.2)

    client_of : (c : ℕ) (d : ClientStep Command Answer) (out : List code.Message) (place : ℕ) → MayClient g.f c g.answer (clients c) d.action → d.sends ≡ client_sends g.f c g.answer (clients c) d.action → AllStand IsSavedAs g out d.sends → HearsHanded sent c d.action place
        → Goes seats given (put clients c (client_after g.f c g.answer (clients c) d.action)) (sent ++ out) os ((c, d) ∷ [])
    client_of c d out place may_act sends stand heard =
        let later : List (ObservedMove Command Answer) = os ++ ByClient c d place ∷ [] in
        let here : clients_after g.f g.answer (λ c. first_client) os c ≡ clients c = at.clients_at c in
        let said_later : all_said later ≡ all_said os ++ d.sends = said_append g.f g.answer os (ByClient c d place ∷ []) ∙ ap (λ (xs : List (Message Command Answer)). all_said os ++ xs) (append-nil d.sends) in
        let same : (j : ℕ) → known holds g later j ≡ known holds g os j = λ j. knowns_append g.f g.answer (λ q. first_known_state) os (ByClient c d place ∷ []) j in
        record {
          more = ByClient c d place ∷ [];
          at = record {
            right = right_append g.f g.answer (λ q. first_known_state) (λ c. first_client) [] os (ByClient c d place ∷ []) at.right
                (subst (λ (k : ClientState Command). MayClient g.f c g.answer k d.action) (sym here) may_act, subst (λ (k : ClientState Command). d.sends ≡ client_sends g.f c g.answer k d.action) (sym here) sends, hears c d.action place heard, tt);
            sits = λ j. subst (λ (k : KnownState Command). MaySit holds g j k (given j) (seats j)) (sym (same j)) (at.sits j);
            used = λ j x u. at.used j x (subst (λ (k : KnownState Command). k.used x ≡ true) (same j) u);
            clients_at = λ e.
                let n : ClientState Command = client_after g.f c g.answer (clients_after g.f g.answer (λ c. first_client) os c) d.action in
                clients_append g.f g.answer (λ c. first_client) os (ByClient c d place ∷ []) e
                ∙ elim (cases_eq e c) [
                  | inl is ↦ put_same (clients_after g.f g.answer (λ c. first_client) os) c n e is ∙ ap (λ (k : ClientState Command). client_after g.f c g.answer k d.action) here ∙ sym (put_same clients c (client_after g.f c g.answer (clients c) d.action) e is)
                  | inr ne ↦ put_other (clients_after g.f g.answer (λ c. first_client) os) c n e ne ∙ at.clients_at e ∙ sym (put_other clients c (client_after g.f c g.answer (clients c) d.action) e ne)
                ];
            handed = subst (λ (ms : List (Message Command Answer)). AllStandIn g later (sent ++ out) ms) (sym said_later)
                (all_append g later sent out (all_said os) d.sends (all_later g os later (was_still g.f g.answer os (ByClient c d place ∷ [])) sent (all_said os) at.handed)
                (asks_stand g later out d.sends stand (subst AllAsk (sym sends) (sends_ask g.f c g.answer (clients c) d.action))));
          };
          own = refl;
        }

  -- ---- one move after another
  finish : (ms : List (CodeMove S)) (seats : ℕ → Option (Seat S)) (given : ℕ → ℕ → Bool) (clients : ℕ → ClientState Command) (sent : List code.Message) (os : List (ObservedMove Command Answer)) → At holds g seats given clients sent os
      → AreCodeMoves loads saves faults begins holds g seats given clients sent ms → (more : List (ObservedMove Command Answer)) × AreFromTheFirst g.f g.answer (os ++ more)
  finish [] seats given clients sent os at are = ([], subst (λ xs. AreFromTheFirst g.f g.answer xs) (sym (append-nil os)) at.right)
  finish (Starts i q found left nonce starts ∷ ms) seats given clients sent os at are =
      let one = start_of seats given clients sent os at i q left nonce starts are.0 are.2 are.3 in
      let rest = finish ms (put seats i (Some (runs q left nonce))) (put given i (given_with (given i) nonce)) clients sent (os ++ one.more) one.at are.4 in
      (one.more ++ rest.0, subst (λ xs. AreFromTheFirst g.f g.answer xs) (append_assoc os one.more rest.0) rest.1)
  finish (Steps i e place r left result ∷ ms) seats given clients sent os at are =
      let one = step_of seats given clients sent os at i place e r left result are.0 are.1 are.2 are.3 are.4 are.5 are.6 in
      let rest = finish ms (put seats i (Some (runs r left None))) given clients (sent ++ sends_in result) (os ++ one.more) one.at are.7 in
      (one.more ++ rest.0, subst (λ xs. AreFromTheFirst g.f g.answer xs) (append_assoc os one.more rest.0) rest.1)
  finish (Dies i e place left ∷ ms) seats given clients sent os at are =
      let one = death_of seats given clients sent os at i place e left are.0 are.1 are.2 are.3 are.4 are.5 are.6 in
      let rest = finish ms (put seats i (Some (killed left))) given clients sent (os ++ one.more) one.at are.7 in
      (one.more ++ rest.0, subst (λ xs. AreFromTheFirst g.f g.answer xs) (append_assoc os one.more rest.0) rest.1)
  finish (Serves c d out place ∷ ms) seats given clients sent os at are =
      let one = client_of seats given clients sent os at c d out place are.0 are.1 are.2 are.3 in
      let rest = finish ms seats given (put clients c (client_after g.f c g.answer (clients c) d.action)) (sent ++ out) (os ++ one.more) one.at are.4 in
      (one.more ++ rest.0, subst (λ xs. AreFromTheFirst g.f g.answer xs) (append_assoc os one.more rest.0) rest.1)

  -- where the first moves have come to, and that others go on from there
  record Reached (seats : ℕ → Option (Seat S)) (sent : List code.Message) (os : List (ObservedMove Command Answer)) (early : List (CodeMove S)) : Type 0 where
    first : List (ObservedMove Command Answer)
    rest : List (ObservedMove Command Answer)
    right : AreFromTheFirst g.f g.answer ((os ++ first) ++ rest)
    replicas : (i : ℕ) (seat : Seat S) (q : code_replica.Replica) → seats_after seats early i ≡ Some seat → seat.replica ≡ Some q → StandsFor q (member g i) (known_at g.f g.answer (os ++ first) i)
    messages : AllStand IsSavedAs g (sent ++ all_handed early) (all_said (os ++ first))
    own : observed_clients first ≡ clients_in early

  seated : (i : ℕ) (k : KnownState Command) (given : ℕ → Bool) (o : Option (Seat S)) (seat : Seat S) (q : code_replica.Replica) → o ≡ Some seat → MaySit holds g i k given o → seat.replica ≡ Some q → StandsFor q (member g i) k.replica
  seated i k given o seat q e h is = let s : IsSeated holds g i k given seat = subst (λ x. MaySit holds g i k given x) e h in s.stands q is

  along : (early late : List (CodeMove S)) (seats : ℕ → Option (Seat S)) (given : ℕ → ℕ → Bool) (clients : ℕ → ClientState Command) (sent : List code.Message) (os : List (ObservedMove Command Answer)) → At holds g seats given clients sent os
      → AreCodeMoves loads saves faults begins holds g seats given clients sent (early ++ late) → Reached seats sent os early
  along [] late seats given clients sent os at are =
      let r = finish late seats given clients sent os at are in
      let none : os ++ [] ≡ os = append-nil os in
      record {
        first = [];
        rest = r.0;
        right = subst (λ xs. AreFromTheFirst g.f g.answer (xs ++ r.0)) (sym none) r.1;
        replicas = λ i seat q e is. subst (λ xs. StandsFor q (member g i) (known_at g.f g.answer xs i)) (sym none) (seated i (known holds g os i) (given i) (seats i) seat q e (at.sits i) is);
        messages = subst (λ (ms : List code.Message). AllStand IsSavedAs g ms (all_said (os ++ []))) (sym (append-nil sent)) (subst (λ (xs : List (ObservedMove Command Answer)). AllStand IsSavedAs g sent (all_said xs)) (sym none) (all_stand g os sent (all_said os) at.handed));
        own = refl;
      }
  along (Starts i q found left nonce starts ∷ early) late seats given clients sent os at are =
      let one = start_of seats given clients sent os at i q left nonce starts are.0 are.2 are.3 in
      let r : Reached (put seats i (Some (runs q left nonce))) sent (os ++ one.more) early =
      along early late (put seats i (Some (runs q left nonce))) (put given i (given_with (given i) nonce)) clients sent (os ++ one.more) one.at are.4 in
      let whole : (os ++ one.more) ++ r.first ≡ os ++ (one.more ++ r.first) = append_assoc os one.more r.first in
      record {
        first = one.more ++ r.first;
        rest = r.rest;
        right = subst (λ xs. AreFromTheFirst g.f g.answer (xs ++ r.rest)) whole r.right;
        replicas = λ j seat p h is. subst (λ xs. StandsFor p (member g j) (known_at g.f g.answer xs j)) whole (r.replicas j seat p h is);
        messages = subst (λ (xs : List (ObservedMove Command Answer)). AllStand IsSavedAs g (sent ++ all_handed early) (all_said xs)) whole r.messages;
        own = observed_append one.more r.first ∙ ap (λ (xs : List (ℕ × ClientStep Command Answer)). xs ++ observed_clients r.first) one.own ∙ r.own;
      }
  along (Steps i e place q left result ∷ early) late seats given clients sent os at are =
      let one = step_of seats given clients sent os at i place e q left result are.0 are.1 are.2 are.3 are.4 are.5 are.6 in
      let r : Reached (put seats i (Some (runs q left None))) (sent ++ sends_in result) (os ++ one.more) early =
      along early late (put seats i (Some (runs q left None))) given clients (sent ++ sends_in result) (os ++ one.more) one.at are.7 in
      let whole : (os ++ one.more) ++ r.first ≡ os ++ (one.more ++ r.first) = append_assoc os one.more r.first in
      record {
        first = one.more ++ r.first;
        rest = r.rest;
        right = subst (λ xs. AreFromTheFirst g.f g.answer (xs ++ r.rest)) whole r.right;
        replicas = λ j seat p h is. subst (λ xs. StandsFor p (member g j) (known_at g.f g.answer xs j)) whole (r.replicas j seat p h is);
        messages = subst (λ (ms : List code.Message). AllStand IsSavedAs g ms (all_said (os ++ (one.more ++ r.first)))) (append_assoc sent (sends_in result) (all_handed early))
            (subst (λ (xs : List (ObservedMove Command Answer)). AllStand IsSavedAs g ((sent ++ sends_in result) ++ all_handed early) (all_said xs)) whole r.messages);
        own = observed_append one.more r.first ∙ ap (λ (xs : List (ℕ × ClientStep Command Answer)). xs ++ observed_clients r.first) one.own ∙ r.own;
      }
  along (Dies i e place left ∷ early) late seats given clients sent os at are =
      let one = death_of seats given clients sent os at i place e left are.0 are.1 are.2 are.3 are.4 are.5 are.6 in
      let r : Reached (put seats i (Some (killed left))) sent (os ++ one.more) early =
      along early late (put seats i (Some (killed left))) given clients sent (os ++ one.more) one.at are.7 in
      let whole : (os ++ one.more) ++ r.first ≡ os ++ (one.more ++ r.first) = append_assoc os one.more r.first in
      record {
        first = one.more ++ r.first;
        rest = r.rest;
        right = subst (λ xs. AreFromTheFirst g.f g.answer (xs ++ r.rest)) whole r.right;
        replicas = λ j seat p h is. subst (λ xs. StandsFor p (member g j) (known_at g.f g.answer xs j)) whole (r.replicas j seat p h is);
        messages = subst (λ (xs : List (ObservedMove Command Answer)). AllStand IsSavedAs g (sent ++ all_handed early) (all_said xs)) whole r.messages;
        own = observed_append one.more r.first ∙ ap (λ (xs : List (ℕ × ClientStep Command Answer)). xs ++ observed_clients r.first) one.own ∙ r.own;
      }
  along (Serves c d out place ∷ early) late seats given clients sent os at are =
      let one = client_of seats given clients sent os at c d out place are.0 are.1 are.2 are.3 in
      let r : Reached seats (sent ++ out) (os ++ one.more) early =
      along early late seats given (put clients c (client_after g.f c g.answer (clients c) d.action)) (sent ++ out) (os ++ one.more) one.at are.4 in
      let whole : (os ++ one.more) ++ r.first ≡ os ++ (one.more ++ r.first) = append_assoc os one.more r.first in
      record {
        first = one.more ++ r.first;
        rest = r.rest;
        right = subst (λ xs. AreFromTheFirst g.f g.answer (xs ++ r.rest)) whole r.right;
        replicas = λ j seat p h is. subst (λ xs. StandsFor p (member g j) (known_at g.f g.answer xs j)) whole (r.replicas j seat p h is);
        messages = subst (λ (ms : List code.Message). AllStand IsSavedAs g ms (all_said (os ++ (one.more ++ r.first)))) (append_assoc sent out (all_handed early))
            (subst (λ (xs : List (ObservedMove Command Answer)). AllStand IsSavedAs g ((sent ++ out) ++ all_handed early) (all_said xs)) whole r.messages);
        own = observed_append one.more r.first ∙ ap (λ (xs : List (ℕ × ClientStep Command Answer)). xs ++ observed_clients r.first) one.own ∙ ap (λ (xs : List (ℕ × ClientStep Command Answer)). (c, d) ∷ xs) r.own;
      }

  first_at : At holds g (λ i. None) (λ i x. false) (λ c. first_client) [] []
  first_at = record { right = tt; sits = λ i. refl; used = λ i x u. absurd (let no : false ≡ true = u in cc); clients_at = λ c. refl; handed = tt }

  pub runs_as_one : ((early late : List (ObservedMove Command Answer)) → AreFromTheFirst g.f g.answer (early ++ late) → IsOneRun g.f g.answer early late) → (early late : List (CodeMove S)) → AreFromTheStart loads saves faults begins holds g (early ++ late) → AreOneRun g early late
  runs_as_one law early late are =
      let r : Reached (λ i. None) [] [] early = along early late (λ i. None) (λ i x. false) (λ c. first_client) [] [] first_at are in
      record { first = r.first; second = r.rest; run = law r.first r.rest r.right; replicas = r.replicas; messages = r.messages; clients = r.own }
