-- What messages of observed moves stand for, later on, and one list after another.
use Rattle.std.proofs.Common.{◌≡◌, ℕ, zero, suc, ◌≤◌, true, List, [], ◌∷◌, ◌++◌, length, take, drop, Option, Some, None, refl, ap, subst, ◌∙◌, sym}
use Rattle.std.specs.Prelude.{slice_get}
use Rattle.std.proofs.lemmas.Option.{same_Some}
use Rattle.std.proofs.lemmas.List.{append-nil}
use Rattle.il_model.specs.declared.command.Command.{Command}
use Rattle.il_model.specs.declared.command.Answer.{Answer}
use Rattle.vr_model.specs.declared.message.Body as body
use Rattle.vr_model.specs.declared.message.Body.TheVariants as says
use Rattle.vr_model.specs.declared.message.Message as sent
use Rattle.vr_model.specs.Logs.{Request}
use Rattle.vr_model.specs.Messages.{Body, NewState, Message}
use Rattle.vr_model.specs.Replicas.{ReplicaState, is_normal}
use Rattle.vr_model.specs.Membership.{Group}
use Rattle.vr_model.specs.Checkpoints.{SavedCheckpoint, KeptLog, LogStands}
use Rattle.vr_model.specs.StandsFor.{Stands, AllStand, MayBeOf, IsOfOwn, AllStandFrom}
use Rattle.vr_core.specs.StandsFor.{IsSavedAs}
use Rattle.laws_threads.specs.ObservedMoves.{ObservedMove, WasKnownLog, known_at}
use Rattle.laws_threads.proofs.Running.{take_front}

module _ (g : Group) where
  module _ (past : List (ObservedMove Command Answer)) where
    -- it is a NEWSTATE that hands a whole log on, which a replica was known to have that was normal in its view; and its
    -- checkpoint and entries are of that log
    pub record IsHandedOn (log : KeptLog) (meant : Body Command Answer) : Type 0 where
      pub view : ℕ
      pub op_number : ℕ
      pub commit_number : ℕ
      pub whole : List (Request Command)
      pub was : WasKnownLog g.f g.answer past view whole
      pub meant_is : meant ≡ NewState view op_number commit_number (drop op_number whole)
      pub within : op_number ≤ length whole
      pub stands : LogStands IsSavedAs g log whole

    abbrev pub MayBeHandedOn : Option SavedCheckpoint → KeptLog → Body Command Answer → Type 0
    MayBeHandedOn None log meant = Unit {0}
    MayBeHandedOn (Some c) log meant = IsHandedOn log meant

    abbrev pub HandsOn : body.Body → Body Command Answer → Type 0
    HandsOn (says.NewState v p c log) meant = MayBeHandedOn log.checkpoint log meant
    HandsOn _ meant = Unit {0}

    pub record StandsIn (m : sent.Message) (meant : Message Command Answer) : Type 0 where
      pub stands : Stands IsSavedAs g m meant
      pub hands_on : HandsOn m.body meant.body

    abbrev pub AllStandIn : List sent.Message → List (Message Command Answer) → Type 0
    AllStandIn [] [] = Unit {0}
    AllStandIn [] (x ∷ xs) = ⊥
    AllStandIn (m ∷ ms) [] = ⊥
    AllStandIn (m ∷ ms) (x ∷ xs) = StandsIn m x × AllStandIn ms xs

    -- one list after another
    pub all_append : (xs ys : List sent.Message) (ms ns : List (Message Command Answer)) → AllStandIn xs ms → AllStandIn ys ns → AllStandIn (xs ++ ys) (ms ++ ns)
    all_append [] ys [] ns a b = b
    all_append [] ys (m ∷ ms) ns a b = absurd a
    all_append (x ∷ xs) ys [] ns a b = absurd a
    all_append (x ∷ xs) ys (m ∷ ms) ns a b = (a.0, all_append xs ys ms ns a.1 b)

    -- the one at a place
    pub all_at : (xs : List sent.Message) (ms : List (Message Command Answer)) (n : ℕ) (x : sent.Message) → AllStandIn xs ms → slice_get xs n ≡ Some x
        → (m : Message Command Answer) × (slice_get ms n ≡ Some m) × StandsIn x m
    all_at [] [] n x a e = absurd cc
    all_at [] (m ∷ ms) n x a e = absurd a
    all_at (y ∷ xs) [] n x a e = absurd a
    all_at (y ∷ xs) (m ∷ ms) zero x a e = (m, refl, subst (λ z. StandsIn z m) (same_Some _ _ e) a.0)
    all_at (y ∷ xs) (m ∷ ms) (suc n) x a e = all_at xs ms n x a.1 e

    pub all_stand : (xs : List sent.Message) (ms : List (Message Command Answer)) → AllStandIn xs ms → AllStand IsSavedAs g xs ms
    all_stand [] [] a = tt
    all_stand [] (m ∷ ms) a = absurd a
    all_stand (x ∷ xs) [] a = absurd a
    all_stand (x ∷ xs) (m ∷ ms) a = (a.0.stands, all_stand xs ms a.1)

    -- what a replica sent, where it was known to be normal with its log
    own_hands_on : (r : ReplicaState Command) (c : Option SavedCheckpoint) (log : KeptLog) (meant : Body Command Answer) → (is_normal r.status ≡ true → WasKnownLog g.f g.answer past r.view r.log)
        → MayBeOf IsSavedAs g c r log meant → MayBeHandedOn c log meant
    own_hands_on r None log meant was k = tt
    own_hands_on r (Some c) log meant was k = record {
      view = r.view;
      op_number = k.op_number;
      commit_number = k.commit_number;
      whole = r.log;
      was = was k.normal;
      meant_is = k.meant_is;
      within = k.within;
      stands = k.stands;
    }

    own_in : (r : ReplicaState Command) (b : body.Body) (meant : Body Command Answer) → (is_normal r.status ≡ true → WasKnownLog g.f g.answer past r.view r.log) → IsOfOwn IsSavedAs g r b meant → HandsOn b meant
    own_in r (says.NewState v p c log) meant was k = own_hands_on r log.checkpoint log meant was k
    own_in r (says.Request m) meant was k = tt
    own_in r (says.Prepare v m p c) meant was k = tt
    own_in r (says.PrepareOk v p) meant was k = tt
    own_in r (says.Commit v c) meant was k = tt
    own_in r (says.Reply v number answer) meant was k = tt
    own_in r (says.StartViewChange v) meant was k = tt
    own_in r (says.DoViewChange v last c log) meant was k = tt
    own_in r (says.StartView v c log) meant was k = tt
    own_in r (says.Recovery x v) meant was k = tt
    own_in r (says.RecoveryResponse v x state) meant was k = tt
    own_in r (says.GetState v p) meant was k = tt

    pub sent_stand : (r : ReplicaState Command) (xs : List sent.Message) (ms : List (Message Command Answer)) → (is_normal r.status ≡ true → WasKnownLog g.f g.answer past r.view r.log)
        → AllStandFrom IsSavedAs g r xs ms → AllStandIn xs ms
    sent_stand r [] [] was a = tt
    sent_stand r [] (m ∷ ms) was a = absurd a
    sent_stand r (x ∷ xs) [] was a = absurd a
    sent_stand r (x ∷ xs) (m ∷ ms) was a = (record { stands = a.0.stands; hands_on = own_in r x.body m.body was a.0.own }, sent_stand r xs ms was a.1)

  -- later on
  module _ (past later : List (ObservedMove Command Answer)) (still : (view : ℕ) (log : List (Request Command)) → WasKnownLog g.f g.answer past view log → WasKnownLog g.f g.answer later view log) where
    later_hands_on : (c : Option SavedCheckpoint) (log : KeptLog) (meant : Body Command Answer) → MayBeHandedOn past c log meant → MayBeHandedOn later c log meant
    later_hands_on None log meant k = tt
    later_hands_on (Some c) log meant k = record {
      view = k.view;
      op_number = k.op_number;
      commit_number = k.commit_number;
      whole = k.whole;
      was = still k.view k.whole k.was;
      meant_is = k.meant_is;
      within = k.within;
      stands = k.stands;
    }

    later_in : (b : body.Body) (meant : Body Command Answer) → HandsOn past b meant → HandsOn later b meant
    later_in (says.NewState v p c log) meant k = later_hands_on log.checkpoint log meant k
    later_in (says.Request m) meant k = tt
    later_in (says.Prepare v m p c) meant k = tt
    later_in (says.PrepareOk v p) meant k = tt
    later_in (says.Commit v c) meant k = tt
    later_in (says.Reply v number answer) meant k = tt
    later_in (says.StartViewChange v) meant k = tt
    later_in (says.DoViewChange v last c log) meant k = tt
    later_in (says.StartView v c log) meant k = tt
    later_in (says.Recovery x v) meant k = tt
    later_in (says.RecoveryResponse v x state) meant k = tt
    later_in (says.GetState v p) meant k = tt

    pub all_later : (xs : List sent.Message) (ms : List (Message Command Answer)) → AllStandIn past xs ms → AllStandIn later xs ms
    all_later [] [] a = tt
    all_later [] (m ∷ ms) a = absurd a
    all_later (x ∷ xs) [] a = absurd a
    all_later (x ∷ xs) (m ∷ ms) a = (record { stands = a.0.stands; hands_on = later_in x.body m.body a.0.hands_on }, all_later xs ms a.1)

-- what was known stays so, whatever comes
pub was_still : (f : ℕ) (answer : List Command → Answer) (os more : List (ObservedMove Command Answer)) (view : ℕ) (log : List (Request Command)) → WasKnownLog f answer os view log → WasKnownLog f answer (os ++ more) view log
was_still f answer os more view log k = record {
  moment = length (take k.moment os);
  replica = k.replica;
  normal = subst (λ (xs : List (ObservedMove Command Answer)). is_normal (known_at f answer xs k.replica).status ≡ true) (sym front) k.normal;
  view_is = subst (λ (xs : List (ObservedMove Command Answer)). (known_at f answer xs k.replica).view ≡ view) (sym front) k.view_is;
  log_is = subst (λ (xs : List (ObservedMove Command Answer)). (known_at f answer xs k.replica).log ≡ log) (sym front) k.log_is;
}
  where
    cut : {X : Type 0} (n : ℕ) (xs ys : List X) → take (length (take n xs)) (xs ++ ys) ≡ take n xs
    cut zero xs ys = refl
    cut (suc n) [] ys = refl
    cut (suc n) (x ∷ xs) ys = ap (λ zs. x ∷ zs) (cut n xs ys)

    front : take (length (take k.moment os)) (os ++ more) ≡ take k.moment os
    front = cut k.moment os more

-- and who is known to be normal at the end has a log that was known
pub was_last : (f : ℕ) (answer : List Command → Answer) (os : List (ObservedMove Command Answer)) (i : ℕ) → is_normal (known_at f answer os i).status ≡ true → WasKnownLog f answer os (known_at f answer os i).view (known_at f answer os i).log
was_last f answer os i normal =
    let whole : take (length os) os ≡ os = sym (ap (take (length os)) (append-nil os)) ∙ take_front os [] in
    record {
      moment = length os;
      replica = i;
      normal = ap (λ (xs : List (ObservedMove Command Answer)). is_normal (known_at f answer xs i).status) whole ∙ normal;
      view_is = ap (λ (xs : List (ObservedMove Command Answer)). (known_at f answer xs i).view) whole;
      log_is = ap (λ (xs : List (ObservedMove Command Answer)). (known_at f answer xs i).log) whole;
    }
