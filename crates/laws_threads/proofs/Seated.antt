-- Where the code's moves have come to, and how one observed move more leads on.
use Rattle.std.proofs.Common.{◌≡◌, ℕ, ◌<◌, Bool, true, false, List, [], ◌∷◌, ◌++◌, Option, Some, None, refl, sym, ap, ◌∙◌, subst, inl, inr}
use Rattle.std.proofs.lemmas.Bool.{cases_eq}
use Rattle.std.proofs.lemmas.List.{append-nil}
use Rattle.il_model.specs.declared.command.Command.{Command}
use Rattle.il_model.specs.declared.command.Answer.{Answer}
use Rattle.vr_model.specs.declared.message.Message as code
use Rattle.vr_model.specs.Groups.{group_size}
use Rattle.vr_model.specs.Membership.{Group, member}
use Rattle.vr_model.specs.Messages.{Message}
use Rattle.vr_model.specs.Replicas.{is_down, is_normal, put}
use Rattle.vr_model.specs.World.{ClientState}
use Rattle.vr_model.specs.Steps.{first_client}
use Rattle.vr_model.specs.Stores.{Observation, KnownState, MayShow, next, first_known_state}
use Rattle.vr_model.specs.StandsFor.{AllStandFrom}
use Rattle.vr_core.specs.StandsFor.{IsSavedAs}
use Rattle.vr_replica.specs.declared.state.Replica as code_replica
use Rattle.vr_replica.specs.Standing.{StandsFor}
use Rattle.laws_threads.specs.ObservedMoves.{ObservedMove, ByReplica, said, all_said, ObservationTakesSent}
use Rattle.laws_threads.specs.ObservedMoves.{AreFromTheFirst, knowns_after, WasKnownLog}
use Rattle.laws_threads.specs.CodeMoves.{Seat}
use Rattle.laws_threads.proofs.Tables.{put_same, put_other, put_cases}
use Rattle.laws_threads.proofs.Appending.{clients_after, knowns_append, clients_append, said_append, right_append}
use Rattle.laws_threads.proofs.Handed.{AllStandIn, all_append, all_later, sent_stand, was_still, was_last}

module _ {S : Type 0} (holds : S → (ℕ → Bool) → Type 0) (g : Group) where
  abbrev pub known : List (ObservedMove Command Answer) → ℕ → KnownState Command
  known os i = knowns_after g.f g.answer (λ i. first_known_state) os i

  -- what there is of a replica, by what is known of it
  pub record IsSeated (i : ℕ) (k : KnownState Command) (given : ℕ → Bool) (seat : Seat S) : Type 0 where
    pub stands : (q : code_replica.Replica) → seat.replica ≡ Some q → StandsFor q (member g i) k.replica
    pub held : holds seat.store k.may_keep
    pub waits : (n : ℕ) → seat.waits ≡ Some n → (is_down k.replica.status ≡ true) × (k.used n ≡ false) × (given n ≡ true)

  abbrev pub MaySit : ℕ → KnownState Command → (ℕ → Bool) → Option (Seat S) → Type 0
  MaySit i k given None = k ≡ first_known_state
  MaySit i k given (Some seat) = IsSeated i k given seat

  pub record At (seats : ℕ → Option (Seat S)) (given : ℕ → ℕ → Bool) (clients : ℕ → ClientState Command) (sent : List code.Message) (os : List (ObservedMove Command Answer)) : Type 0 where
    pub right : AreFromTheFirst g.f g.answer os
    pub sits : (i : ℕ) → MaySit i (known os i) (given i) (seats i)
    pub used : (i x : ℕ) → (known os i).used x ≡ true → given i x ≡ true
    pub clients_at : (c : ℕ) → clients_after g.f g.answer (λ c. first_client) os c ≡ clients c
    pub handed : AllStandIn g os sent (all_said os)

  -- others are as they were
  sits_other : (j : ℕ) (k l : KnownState Command) (given after : ℕ → Bool) (o : Option (Seat S)) → l ≡ k → after ≡ given → MaySit j k given o → MaySit j l after o
  sits_other j k l given after o same_known same_given h = subst (λ (q : KnownState Command). MaySit j q after o) (sym same_known) (subst (λ (u : ℕ → Bool). MaySit j k u o) (sym same_given) h)

  -- another seat, of which nothing shows
  pub reseated : (seats : ℕ → Option (Seat S)) (given after : ℕ → ℕ → Bool) (clients : ℕ → ClientState Command) (sent : List code.Message) (os : List (ObservedMove Command Answer)) (i : ℕ) (seat : Seat S)
      → At seats given clients sent os → IsSeated i (known os i) (after i) seat → ((j : ℕ) → (j ≡ i → ⊥) → after j ≡ given j) → ((x : ℕ) → given i x ≡ true → after i x ≡ true)
      → At (put seats i (Some seat)) after clients sent os
  reseated seats given after clients sent os i seat at sits others more = record {
    right = at.right;
    sits = λ j. put_cases seats i (Some seat) j (λ o. MaySit j (known os j) (after j) o)
        (λ e. subst (λ q. IsSeated q (known os q) (after q) seat) (sym e) sits)
        (λ ne. sits_other j (known os j) (known os j) (given j) (after j) (seats j) refl (others j ne) (at.sits j));
    used = λ j x u. elim (cases_eq j i) [
      | inl e ↦ subst (λ q. after q x ≡ true) (sym e) (more x (at.used i x (subst (λ q. (known os q).used x ≡ true) e u)))
      | inr ne ↦ ap (λ (h : ℕ → Bool). h x) (others j ne) ∙ at.used j x u
    ];
    clients_at = at.clients_at;
    handed = at.handed;
  }

  -- one observation more
  module _ (seats : ℕ → Option (Seat S)) (given after : ℕ → ℕ → Bool) (clients : ℕ → ClientState Command) (sent : List code.Message) (os : List (ObservedMove Command Answer)) (at : At seats given clients sent os)
      (i place : ℕ) (low : i < group_size g.f) (o : Observation Command Answer) (seat : Seat S) (out : List code.Message) where
    abbrev now : KnownState Command
    now = next g.f i g.answer (known os i) o

    abbrev later : List (ObservedMove Command Answer)
    later = os ++ ByReplica i o place ∷ []

    known_later : (j : ℕ) → known later j ≡ put (λ q. known os q) i now j
    known_later j = knowns_append g.f g.answer (λ q. first_known_state) os (ByReplica i o place ∷ []) j

    known_here : known later i ≡ now
    known_here = known_later i ∙ put_same (λ q. known os q) i now i refl

    known_there : (j : ℕ) → (j ≡ i → ⊥) → known later j ≡ known os j
    known_there j ne = known_later j ∙ put_other (λ q. known os q) i now j ne

    still_said : all_said later ≡ all_said os ++ said o
    still_said = said_append g.f g.answer os (ByReplica i o place ∷ []) ∙ ap (λ (xs : List (Message Command Answer)). all_said os ++ xs) (append-nil (said o))

    pub one_more : MayShow g.f i g.answer (known os i) o → ((q : code_replica.Replica) → seat.replica ≡ Some q → StandsFor q (member g i) now.replica) → AllStandFrom IsSavedAs g now.replica out (said o) → ObservationTakesSent (all_said os) i o place → holds seat.store now.may_keep
        → ((n : ℕ) → seat.waits ≡ Some n → (is_down now.replica.status ≡ true) × (now.used n ≡ false) × (after i n ≡ true))
        → ((x : ℕ) → now.used x ≡ true → after i x ≡ true) → ((j : ℕ) → (j ≡ i → ⊥) → after j ≡ given j)
        → At (put seats i (Some seat)) after clients (sent ++ out) later
    one_more may stands says takes held waits used others =
        let sits : IsSeated i now (after i) seat = record { stands = stands; held = held; waits = waits } in
        let was : is_normal now.replica.status ≡ true → WasKnownLog g.f g.answer later now.replica.view now.replica.log =
        subst (λ (k : KnownState Command). is_normal k.replica.status ≡ true → WasKnownLog g.f g.answer later k.replica.view k.replica.log) known_here (was_last g.f g.answer later i) in
        record {
          right = right_append g.f g.answer (λ q. first_known_state) (λ c. first_client) [] os (ByReplica i o place ∷ []) at.right (low, may, takes, tt);
          sits = λ j. put_cases seats i (Some seat) j (λ x. MaySit j (known later j) (after j) x)
              (λ e. subst (λ q. IsSeated q (known later q) (after q) seat) (sym e) (subst (λ (k : KnownState Command). IsSeated i k (after i) seat) (sym known_here) sits))
              (λ ne. sits_other j (known os j) (known later j) (given j) (after j) (seats j) (known_there j ne) (others j ne) (at.sits j));
          used = λ j x u. elim (cases_eq j i) [
            | inl e ↦ subst (λ q. after q x ≡ true) (sym e) (used x (subst (λ (k : KnownState Command). k.used x ≡ true) (ap (λ q. known later q) e ∙ known_here) u))
            | inr ne ↦ ap (λ (h : ℕ → Bool). h x) (others j ne) ∙ at.used j x (subst (λ (k : KnownState Command). k.used x ≡ true) (known_there j ne) u)
          ];
          clients_at = λ c. clients_append g.f g.answer (λ c. first_client) os (ByReplica i o place ∷ []) c ∙ at.clients_at c;
          handed = subst (λ (ms : List (Message Command Answer)). AllStandIn g later (sent ++ out) ms) (sym still_said)
              (all_append g later sent out (all_said os) (said o) (all_later g os later (was_still g.f g.answer os (ByReplica i o place ∷ [])) sent (all_said os) at.handed)
              (sent_stand g later now.replica out (said o) was says));
        }
