-- What is settled at one machine, as moves that are observed.
use Rattle.std.proofs.Common.{◌≡◌, ℕ, ◌<◌, List, [], ◌∷◌, ◌++◌, Some, refl, sym, ap, ◌∙◌, subst}
use Rattle.std.specs.Prelude.{slice_get}
use Rattle.std.specs.List.{Contains}
use Rattle.std.proofs.lemmas.List.Elements.{Contains-append_left}
use Rattle.std.proofs.lemmas.Option.{slice_get-get_or}
use Rattle.vr_model.specs.Groups.{group_size}
use Rattle.vr_model.specs.Messages.{Message}
use Rattle.vr_model.specs.Replicas.{put}
use Rattle.vr_model.specs.World.{ClientState}
use Rattle.vr_model.specs.Steps.{Input, Takes, TimesOut, Resends}
use Rattle.vr_model.specs.Stores.{Observation, Did, LostStep, LostSave, Crashed, CameUp, StayedDown, KnownState, AreObservations, next, last_known_state}
use Rattle.laws_pauses.specs.Pauses as pauses
use Rattle.laws_threads.specs.ObservedMoves.{ObservedMove, ByReplica, said, all_said, AreObservedMoves, ObservationTakesSent, knowns_after}
use Rattle.laws_threads.proofs.Appending.{clients_after}
use Rattle.laws_threads.proofs.Tables.{put_same, put_other, put_cases}
use Rattle.laws_durable.specs.DurableMoves.{TakesHanded, ShowsHanded, observed_clients}

module _ {C A : Type 0} where
  -- where it stands
  pub place_of : (sent : List (Message C A)) (m : Message C A) → Contains sent m → (n : ℕ) × (slice_get sent n ≡ Some m)
  place_of sent m here = (here.0, slice_get-get_or sent here.0 m here.1 ∙ ap Some here.2)

  -- more may have been sent
  pub takes_more : (sent more : List (Message C A)) (i : ℕ) (x : Input C A) → TakesHanded sent i x → TakesHanded (sent ++ more) i x
  takes_more sent more i (Takes m) h = (Contains-append_left sent more m h.0, h.1)
  takes_more sent more i TimesOut h = tt
  takes_more sent more i Resends h = tt

  pub shows_more : (sent more : List (Message C A)) (i : ℕ) (g : Observation C A) → ShowsHanded sent i g → ShowsHanded (sent ++ more) i g
  shows_more sent more i (Did x sends) h = takes_more sent more i x h
  shows_more sent more i (LostStep x) h = takes_more sent more i x h
  shows_more sent more i (LostSave x) h = takes_more sent more i x h
  shows_more sent more i Crashed h = tt
  shows_more sent more i (CameUp x loaded sends) h = tt
  shows_more sent more i (StayedDown x) h = tt

  -- what is in the one is in the other
  pub takes_among : (sent wider : List (Message C A)) (i : ℕ) (x : Input C A) → ((m : Message C A) → Contains sent m → Contains wider m) → TakesHanded sent i x → TakesHanded wider i x
  takes_among sent wider i (Takes m) among h = (among m h.0, h.1)
  takes_among sent wider i TimesOut among h = tt
  takes_among sent wider i Resends among h = tt

  pub shows_among : (sent wider : List (Message C A)) (i : ℕ) (g : Observation C A) → ((m : Message C A) → Contains sent m → Contains wider m) → ShowsHanded sent i g → ShowsHanded wider i g
  shows_among sent wider i (Did x sends) among h = takes_among sent wider i x among h
  shows_among sent wider i (LostStep x) among h = takes_among sent wider i x among h
  shows_among sent wider i (LostSave x) among h = takes_among sent wider i x among h
  shows_among sent wider i Crashed among h = tt
  shows_among sent wider i (CameUp x loaded sends) among h = tt
  shows_among sent wider i (StayedDown x) among h = tt

  -- with its place
  input_place : (sent : List (Message C A)) (i : ℕ) (x : Input C A) → TakesHanded sent i x → (place : ℕ) × ((sends : List (Message C A)) → ObservationTakesSent sent i (Did x sends) place) × ObservationTakesSent sent i (LostStep x) place × ObservationTakesSent sent i (LostSave x) place
  input_place sent i (Takes m) h = let p = place_of sent m h.0 in (p.0, λ sends. (p.1, h.1), (p.1, h.1), (p.1, h.1))
  input_place sent i TimesOut h = (0, λ sends. tt, tt, tt)
  input_place sent i Resends h = (0, λ sends. tt, tt, tt)

  pub placed : (sent : List (Message C A)) (i : ℕ) (g : Observation C A) → ShowsHanded sent i g → (place : ℕ) × ObservationTakesSent sent i g place
  placed sent i (Did x sends) h = let p = input_place sent i x h in (p.0, p.1 sends)
  placed sent i (LostStep x) h = let p = input_place sent i x h in (p.0, p.2)
  placed sent i (LostSave x) h = let p = input_place sent i x h in (p.0, p.3)
  placed sent i Crashed h = (0, tt)
  placed sent i (CameUp x loaded sends) h = (0, tt)
  placed sent i (StayedDown x) h = (0, tt)

  -- each takes what was sent before the first of them
  abbrev pub AllShowHanded : List (Message C A) → ℕ → List (Observation C A) → Type 0
  AllShowHanded sent i [] = Unit {0}
  AllShowHanded sent i (g ∷ gs) = ShowsHanded sent i g × AllShowHanded sent i gs

  pub all_show_more : (sent more : List (Message C A)) (i : ℕ) (gs : List (Observation C A)) → AllShowHanded sent i gs → AllShowHanded (sent ++ more) i gs
  all_show_more sent more i [] h = tt
  all_show_more sent more i (g ∷ gs) h = (shows_more sent more i g h.0, all_show_more sent more i gs h.1)

  same_said : (g : Observation C A) → said g ≡ pauses.said g
  same_said (Did x sends) = refl
  same_said (LostStep x) = refl
  same_said (LostSave x) = refl
  same_said Crashed = refl
  same_said (CameUp x loaded sends) = refl
  same_said (StayedDown x) = refl

module _ {C A : Type 0} (f : ℕ) (answer : List C → A) where
  -- moves of machine i alone, of which these observations show
  pub record Shown (knowns : ℕ → KnownState C) (clients : ℕ → ClientState C) (sent : List (Message C A)) (i : ℕ) (gs : List (Observation C A)) : Type 0 where
    pub more : List (ObservedMove C A)
    pub right : AreObservedMoves f answer knowns clients sent more
    pub said : all_said more ≡ pauses.all_said gs
    pub known : (j : ℕ) → knowns_after f answer knowns more j ≡ put knowns i (last_known_state f i answer (knowns i) gs) j
    pub same_clients : (c : ℕ) → clients_after f answer clients more c ≡ clients c
    pub none : observed_clients more ≡ []

  pub shown : (knowns : ℕ → KnownState C) (clients : ℕ → ClientState C) (sent : List (Message C A)) (i : ℕ) → i < group_size f → (gs : List (Observation C A)) → AreObservations f i answer (knowns i) gs → AllShowHanded sent i gs
      → Shown knowns clients sent i gs
  shown knowns clients sent i low [] right takes = record {
    more = [];
    right = tt;
    said = refl;
    known = λ j. put_cases knowns i (knowns i) j (λ (k : KnownState C). knowns j ≡ k) (λ e. ap knowns e) (λ d. refl);
    same_clients = λ c. refl;
    none = refl;
  }
  shown knowns clients sent i low (g ∷ gs) right takes =
      let then : ℕ → KnownState C = put knowns i (next f i answer (knowns i) g) in
      let here : then i ≡ next f i answer (knowns i) g = put_same knowns i (next f i answer (knowns i) g) i refl in
      let rest : Shown then clients (sent ++ said g) i gs =
      shown then clients (sent ++ said g) i low gs (subst (λ (k : KnownState C). AreObservations f i answer k gs) (sym here) right.1) (all_show_more sent (said g) i gs takes.1) in
      let place = placed sent i g takes.0 in
      record {
        more = ByReplica i g place.0 ∷ rest.more;
        right = (low, right.0, place.1, rest.right);
        said = ap (λ (xs : List (Message C A)). said g ++ xs) rest.said ∙ ap (λ (xs : List (Message C A)). xs ++ pauses.all_said gs) (same_said g);
        known = λ j. rest.known j ∙ twice j here;
        same_clients = rest.same_clients;
        none = rest.none;
      }
    where
      twice : (j : ℕ) → put knowns i (next f i answer (knowns i) g) i ≡ next f i answer (knowns i) g
          → put (put knowns i (next f i answer (knowns i) g)) i (last_known_state f i answer (put knowns i (next f i answer (knowns i) g) i) gs) j
          ≡ put knowns i (last_known_state f i answer (next f i answer (knowns i) g) gs) j
      twice j here = put_cases knowns i (last_known_state f i answer (next f i answer (knowns i) g) gs) j
          (λ (k : KnownState C). put (put knowns i (next f i answer (knowns i) g)) i (last_known_state f i answer (put knowns i (next f i answer (knowns i) g) i) gs) j ≡ k)
          (λ e. put_same (put knowns i (next f i answer (knowns i) g)) i _ j e ∙ ap (λ (k : KnownState C). last_known_state f i answer k gs) here)
          (λ d. put_other (put knowns i (next f i answer (knowns i) g)) i _ j d ∙ put_other knowns i (next f i answer (knowns i) g) j d)
