-- What the messages of a run stand for, later on, and one list after another.
use Rattle.std.proofs.Common.{◌≡◌, ℕ, zero, suc, true, List, [], ◌∷◌, ◌++◌, length, Option, Some, None, refl, ap, subst}
use Rattle.std.specs.List.{slice_get}
use Rattle.std.proofs.lemmas.Option.{same_Some}
use Rattle.il_model.specs.declared.command.Command.{Command}
use Rattle.il_model.specs.declared.command.Answer.{Answer}
use Rattle.il_model.specs.Snapshots.{SavedController}
use Rattle.il_model.specs.Program.{Program}
use Rattle.vr_model.specs.declared.client.ClientNumber.{ClientNumber}
use Rattle.vr_model.specs.declared.message.Request as asked
use Rattle.vr_model.specs.declared.message.Body as body
use Rattle.vr_model.specs.declared.message.Body.TheVariants as says
use Rattle.vr_model.specs.declared.message.Message as sent
use Rattle.vr_model.specs.Logs.{Request}
use Rattle.vr_model.specs.Messages.{Body, Message}
use Rattle.vr_model.specs.Replicas.{ReplicaState, is_normal}
use Rattle.vr_model.specs.World.{Event, Completion, retried}
use Rattle.vr_model.specs.Views.{WasLogOf}
use Rattle.vr_model.specs.Membership.{Group}
use Rattle.vr_model.specs.Checkpoints.{SavedCheckpoint, KeptLog}
use Rattle.vr_model.specs.StandsFor.{request_of, AllStand, MayBeOf, IsOfOwn, AllStandFrom}
use Rattle.vr_schedules.specs.Clients.{request_to, requests_below}
use Rattle.vr_schedules.specs.Handed.{MayBeHandedOn, HandsOn, StandsIn, AllStandIn}

module _ (IsSavedAs : Program → ℕ → List Command → SavedController → Type 0) (g : Group) where
  module _ (past : List (Event Command × Completion)) where
    -- one list after another
    pub all_append : (xs ys : List sent.Message) (ms ns : List (Message Command Answer)) → AllStandIn IsSavedAs g past xs ms → AllStandIn IsSavedAs g past ys ns → AllStandIn IsSavedAs g past (xs ++ ys) (ms ++ ns)
    all_append [] ys [] ns a b = b
    all_append [] ys (m ∷ ms) ns a b = absurd a
    all_append (x ∷ xs) ys [] ns a b = absurd a
    all_append (x ∷ xs) ys (m ∷ ms) ns a b = (a.0, all_append xs ys ms ns a.1 b)

    -- as many
    pub all_count : (xs : List sent.Message) (ms : List (Message Command Answer)) → AllStandIn IsSavedAs g past xs ms → length xs ≡ length ms
    all_count [] [] a = refl
    all_count [] (m ∷ ms) a = absurd a
    all_count (x ∷ xs) [] a = absurd a
    all_count (x ∷ xs) (m ∷ ms) a = ap suc (all_count xs ms a.1)

    -- the one at a place
    pub all_at : (xs : List sent.Message) (ms : List (Message Command Answer)) (n : ℕ) (x : sent.Message) → AllStandIn IsSavedAs g past xs ms → slice_get xs n ≡ Some x
        → (m : Message Command Answer) × (slice_get ms n ≡ Some m) × StandsIn IsSavedAs g past x m
    all_at [] [] n x a e = absurd cc
    all_at [] (m ∷ ms) n x a e = absurd a
    all_at (y ∷ xs) [] n x a e = absurd a
    all_at (y ∷ xs) (m ∷ ms) zero x a e = (m, refl, subst (λ z. StandsIn IsSavedAs g past z m) (same_Some _ _ e) a.0)
    all_at (y ∷ xs) (m ∷ ms) (suc n) x a e = all_at xs ms n x a.1 e

    -- what the report owes
    pub all_stand : (xs : List sent.Message) (ms : List (Message Command Answer)) → AllStandIn IsSavedAs g past xs ms → AllStand IsSavedAs g xs ms
    all_stand [] [] a = tt
    all_stand [] (m ∷ ms) a = absurd a
    all_stand (x ∷ xs) [] a = absurd a
    all_stand (x ∷ xs) (m ∷ ms) a = (a.0.stands, all_stand xs ms a.1)

    -- requests of a client
    pub requests_stand : (f : ℕ) (answer : List Command → Answer) (c : ClientNumber) (n : ℕ) (m : asked.Request) → AllStandIn IsSavedAs g past (requests_below c n m) (retried f answer c.number n (Some (request_of m)))
    requests_stand f answer c zero m = tt
    requests_stand f answer c (suc n) m = all_append (requests_below c n m) (request_to c n m ∷ []) (retried f answer c.number n (Some (request_of m))) _ (requests_stand f answer c n m)
        (record { stands = record { log = []; carries = tt; is = refl }; hands_on = tt }, tt)

    -- what a member sent, where it was normal with its log at some moment of these
    own_hands_on : (r : ReplicaState Command) (c : Option SavedCheckpoint) (log : KeptLog) (meant : Body Command Answer) → (is_normal r.status ≡ true → WasLogOf g.f g.answer past r.view r.log)
        → MayBeOf IsSavedAs g c r log meant → MayBeHandedOn IsSavedAs g past c log meant
    own_hands_on r None log meant was k = tt
    own_hands_on r (Some c) log meant was k = record {
      view = r.view;
      op_number = k.op_number;
      commit_number = k.commit_number;
      whole = r.log;
      was = was k.normal;
      meant_is = k.meant_is;
      within = k.within;
      stands = k.stands;
    }

    own_in : (r : ReplicaState Command) (b : body.Body) (meant : Body Command Answer) → (is_normal r.status ≡ true → WasLogOf g.f g.answer past r.view r.log) → IsOfOwn IsSavedAs g r b meant → HandsOn IsSavedAs g past b meant
    own_in r (says.NewState v p c log) meant was k = own_hands_on r log.checkpoint log meant was k
    own_in r (says.Request m) meant was k = tt
    own_in r (says.Prepare v m p c) meant was k = tt
    own_in r (says.PrepareOk v p) meant was k = tt
    own_in r (says.Commit v c) meant was k = tt
    own_in r (says.Reply v number answer) meant was k = tt
    own_in r (says.StartViewChange v) meant was k = tt
    own_in r (says.DoViewChange v last c log) meant was k = tt
    own_in r (says.StartView v c log) meant was k = tt
    own_in r (says.Recovery x v) meant was k = tt
    own_in r (says.RecoveryResponse v x state) meant was k = tt
    own_in r (says.GetState v p) meant was k = tt

    pub sent_stand : (r : ReplicaState Command) (xs : List sent.Message) (ms : List (Message Command Answer)) → (is_normal r.status ≡ true → WasLogOf g.f g.answer past r.view r.log)
        → AllStandFrom IsSavedAs g r xs ms → AllStandIn IsSavedAs g past xs ms
    sent_stand r [] [] was a = tt
    sent_stand r [] (m ∷ ms) was a = absurd a
    sent_stand r (x ∷ xs) [] was a = absurd a
    sent_stand r (x ∷ xs) (m ∷ ms) was a = (record { stands = a.0.stands; hands_on = own_in r x.body m.body was a.0.own }, sent_stand r xs ms was a.1)

  -- later on
  module _ (past later : List (Event Command × Completion)) (still : (view : ℕ) (log : List (Request Command)) → WasLogOf g.f g.answer past view log → WasLogOf g.f g.answer later view log) where
    later_hands_on : (c : Option SavedCheckpoint) (log : KeptLog) (meant : Body Command Answer) → MayBeHandedOn IsSavedAs g past c log meant → MayBeHandedOn IsSavedAs g later c log meant
    later_hands_on None log meant k = tt
    later_hands_on (Some c) log meant k = record {
      view = k.view;
      op_number = k.op_number;
      commit_number = k.commit_number;
      whole = k.whole;
      was = still k.view k.whole k.was;
      meant_is = k.meant_is;
      within = k.within;
      stands = k.stands;
    }

    later_in : (b : body.Body) (meant : Body Command Answer) → HandsOn IsSavedAs g past b meant → HandsOn IsSavedAs g later b meant
    later_in (says.NewState v p c log) meant k = later_hands_on log.checkpoint log meant k
    later_in (says.Request m) meant k = tt
    later_in (says.Prepare v m p c) meant k = tt
    later_in (says.PrepareOk v p) meant k = tt
    later_in (says.Commit v c) meant k = tt
    later_in (says.Reply v number answer) meant k = tt
    later_in (says.StartViewChange v) meant k = tt
    later_in (says.DoViewChange v last c log) meant k = tt
    later_in (says.StartView v c log) meant k = tt
    later_in (says.Recovery x v) meant k = tt
    later_in (says.RecoveryResponse v x state) meant k = tt
    later_in (says.GetState v p) meant k = tt

    pub all_later : (xs : List sent.Message) (ms : List (Message Command Answer)) → AllStandIn IsSavedAs g past xs ms → AllStandIn IsSavedAs g later xs ms
    all_later [] [] a = tt
    all_later [] (m ∷ ms) a = absurd a
    all_later (x ∷ xs) [] a = absurd a
    all_later (x ∷ xs) (m ∷ ms) a = (record { stands = a.0.stands; hands_on = later_in x.body m.body a.0.hands_on }, all_later xs ms a.1)
