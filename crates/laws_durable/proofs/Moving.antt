-- All machines and clients, one move after another.
use Rattle.std.proofs.Common.{◌≡◌, ℕ, ◌<◌, List, [], ◌∷◌, ◌++◌, refl, sym, ap, ◌∙◌, subst, append_assoc, inl, inr}
use Rattle.std.specs.List.{Contains}
use Rattle.std.proofs.lemmas.List.{append-nil}
use Rattle.std.proofs.lemmas.List.Elements.{Contains-append_left, Contains-append_right, Contains-append_cases}
use Rattle.vr_model.specs.Groups.{group_size}
use Rattle.vr_model.specs.Messages.{Message}
use Rattle.vr_model.specs.Replicas.{ReplicaState, put}
use Rattle.vr_model.specs.World.{ClientState}
use Rattle.vr_model.specs.Steps.{ClientStep, ClientAction, Submits, Retries, StartsAgain, Hears, MayClient, client_after, client_sends, first_client}
use Rattle.vr_model.specs.Stores.{Observation, KnownState, AreObservations, first_known_state, last_known_state}
use Rattle.vr_model.specs.Interleaving.{ActionTakesSent}
use Rattle.laws_pauses.specs.Pauses as pauses
use Rattle.laws_pauses.specs.Pauses.{durable, inputs, replayed}
use Rattle.laws_pauses.proofs.Lives.{nothing}
use Rattle.laws_threads.specs.ObservedMoves.{ObservedMove, ByReplica, ByClient, all_said, AreObservedMoves, AreFromTheFirst, IsOneRun, knowns_after, known_at}
use Rattle.laws_threads.proofs.Appending.{clients_after, knowns_append, clients_append, said_append, right_append}
use Rattle.laws_threads.proofs.Tables.{put_same, put_other, put_cases}
use Rattle.laws_durable.specs.Machines.{Deed, TakesUp, HandsOut, Rebases, Resumes, Shows, Machine, first_machine, leaves, settles, machine_after, MayDo}
use Rattle.laws_durable.specs.DurableMoves.{DurableMove, OfMachine, OfClient, DeedTakesHanded, HearsHanded, clients_in, observed_clients, AreMovesFrom, AreDurableMoves, machines_after, handed_from, all_handed, AreOneRun}
use Rattle.laws_durable.proofs.Settling.{place_of, takes_among, shows_among, Shown, shown}
use Rattle.laws_durable.proofs.Lives.{IsSound, IsDone, done, still_sound}

module _ {C A : Type 0} where
  deed_among : (sent wider : List (Message C A)) (i : ℕ) (d : Deed C A) → ((m : Message C A) → Contains sent m → Contains wider m) → DeedTakesHanded sent i d → DeedTakesHanded wider i d
  deed_among sent wider i (TakesUp x w) among h = takes_among sent wider i x among h
  deed_among sent wider i HandsOut among h = tt
  deed_among sent wider i Rebases among h = tt
  deed_among sent wider i (Resumes survives base xs) among h = tt
  deed_among sent wider i (Shows g) among h = shows_among sent wider i g among h

  -- what a client hears, with its place
  client_placed : (sent wider : List (Message C A)) (c : ℕ) (a : ClientAction C A) → ((m : Message C A) → Contains sent m → Contains wider m) → HearsHanded sent c a → (place : ℕ) × ActionTakesSent wider c a place
  client_placed sent wider c (Submits command) among h = (0, tt)
  client_placed sent wider c Retries among h = (0, tt)
  client_placed sent wider c StartsAgain among h = (0, tt)
  client_placed sent wider c (Hears m) among h = let p = place_of wider m (among m h.0) in (p.0, (p.1, h.1))

  clients_append_own : (os ns : List (ObservedMove C A)) → observed_clients (os ++ ns) ≡ observed_clients os ++ observed_clients ns
  clients_append_own [] ns = refl
  clients_append_own (ByReplica i g place ∷ os) ns = clients_append_own os ns
  clients_append_own (ByClient c d place ∷ os) ns = ap (λ (xs : List (ℕ × ClientStep C A)). (c, d) ∷ xs) (clients_append_own os ns)

module _ {C A : Type 0} (f : ℕ) (answer : List C → A) where
  abbrev first_knowns : ℕ → KnownState C
  first_knowns = λ i. first_known_state

  abbrev first_clients : ℕ → ClientState C
  first_clients = λ c. first_client

  abbrev knowns_of : List (ObservedMove C A) → ℕ → KnownState C
  knowns_of os = knowns_after f answer first_knowns os

  abbrev clients_of : List (ObservedMove C A) → ℕ → ClientState C
  clients_of os = clients_after f answer first_clients os

  -- where the machines and the clients are behind some moves is where these observed moves have them
  record At (machines : ℕ → Machine C A) (clients : ℕ → ClientState C) (handed : List (Message C A)) (os : List (ObservedMove C A)) : Type 0 where
    right : AreFromTheFirst f answer os
    known : (j : ℕ) → knowns_of os j ≡ (machines j).known
    client : (c : ℕ) → clients_of os c ≡ clients c
    said : (x : Message C A) → Contains handed x → Contains (all_said os) x
    sound : (j : ℕ) → IsSound f j answer (machines j) (all_said os)

  module _ (machines : ℕ → Machine C A) (clients : ℕ → ClientState C) (handed : List (Message C A)) (os : List (ObservedMove C A)) (at : At machines clients handed os) where
    -- a machine does something
    module _ (i : ℕ) (low : i < group_size f) (d : Deed C A) (may : MayDo f i answer (machines i) d) (takes : DeedTakesHanded handed i d) where
      abbrev gs : List (Observation C A)
      gs = settles f i answer (machines i) d

      abbrev then : Machine C A
      then = machine_after f i answer (machines i) d

      did : IsDone f i answer (machines i) (all_said os) d
      did = done f i answer (machines i) (all_said os) (at.sound i) d may (deed_among handed (all_said os) i d at.said takes)

      shows : Shown f answer (knowns_of os) (clients_of os) (all_said os) i gs
      shows = shown f answer (knowns_of os) (clients_of os) (all_said os) i low gs (subst (λ (k : KnownState C). AreObservations f i answer k gs) (sym (at.known i)) did.right) did.takes

      all_are : all_said (os ++ shows.more) ≡ all_said os ++ pauses.all_said gs
      all_are = said_append f answer os shows.more ∙ ap (λ (xs : List (Message C A)). all_said os ++ xs) shows.said

      known_then : (j : ℕ) → put (knowns_of os) i (last_known_state f i answer (knowns_of os i) gs) j ≡ (put machines i then j).known
      known_then j = put_cases machines i then j (λ (n : Machine C A). put (knowns_of os) i (last_known_state f i answer (knowns_of os i) gs) j ≡ n.known)
          (λ e. put_same (knowns_of os) i (last_known_state f i answer (knowns_of os i) gs) j e ∙ ap (λ (k : KnownState C). last_known_state f i answer k gs) (at.known i))
          (λ ne. put_other (knowns_of os) i (last_known_state f i answer (knowns_of os i) gs) j ne ∙ at.known j)

      sound_then : (j : ℕ) → IsSound f j answer (put machines i then j) (all_said os ++ pauses.all_said gs)
      sound_then j = put_cases machines i then j (λ (n : Machine C A). IsSound f j answer n (all_said os ++ pauses.all_said gs))
          (λ e. subst (λ (k : ℕ). IsSound f k answer then (all_said os ++ pauses.all_said gs)) (sym e) did.sound)
          (λ ne. still_sound f j answer (machines j) (all_said os) (pauses.all_said gs) (at.sound j))

      by_machine : At (put machines i then) clients (handed ++ leaves (machines i) d) (os ++ shows.more)
      by_machine = record {
        right = right_append f answer first_knowns first_clients [] os shows.more at.right shows.right;
        known = λ j. knowns_append f answer first_knowns os shows.more j ∙ shows.known j ∙ known_then j;
        client = λ c. clients_append f answer first_clients os shows.more c ∙ shows.same_clients c ∙ at.client c;
        said = λ x here. subst (λ (xs : List (Message C A)). Contains xs x) (sym all_are) (elim (Contains-append_cases handed (leaves (machines i) d) x here) [
          | inl h ↦ Contains-append_left (all_said os) (pauses.all_said gs) x (at.said x h)
          | inr h ↦ did.told x h
        ]);
        sound = λ j. subst (λ (xs : List (Message C A)). IsSound f j answer (put machines i then j) xs) (sym all_are) (sound_then j);
      }

    -- a client does
    module _ (c : ℕ) (d : ClientStep C A) (may : MayClient f c answer (clients c) d.action) (sends : d.sends ≡ client_sends f c answer (clients c) d.action) (hears : HearsHanded handed c d.action) where
      abbrev next_client : ClientState C
      next_client = client_after f c answer (clients c) d.action

      stands : (place : ℕ) × ActionTakesSent (all_said os) c d.action place
      stands = client_placed handed (all_said os) c d.action at.said hears

      abbrev moved : List (ObservedMove C A)
      moved = ByClient c d stands.0 ∷ []

      right_then : AreObservedMoves f answer (knowns_of os) (clients_of os) (all_said os) moved
      right_then = (
        subst (λ (k : ClientState C). MayClient f c answer k d.action) (sym (at.client c)) may,
        subst (λ (k : ClientState C). d.sends ≡ client_sends f c answer k d.action) (sym (at.client c)) sends,
        stands.1,
        tt,
      )

      client_then : (e : ℕ) → put (clients_of os) c (client_after f c answer (clients_of os c) d.action) e ≡ put clients c next_client e
      client_then e = put_cases clients c next_client e (λ (k : ClientState C). put (clients_of os) c (client_after f c answer (clients_of os c) d.action) e ≡ k)
          (λ is. put_same (clients_of os) c (client_after f c answer (clients_of os c) d.action) e is ∙ ap (λ (k : ClientState C). client_after f c answer k d.action) (at.client c))
          (λ ne. put_other (clients_of os) c (client_after f c answer (clients_of os c) d.action) e ne ∙ at.client e)

      more_said : all_said (os ++ moved) ≡ all_said os ++ d.sends
      more_said = said_append f answer os moved ∙ ap (λ (xs : List (Message C A)). all_said os ++ xs) (append-nil d.sends)

      by_client : At machines (put clients c next_client) (handed ++ d.sends) (os ++ moved)
      by_client = record {
        right = right_append f answer first_knowns first_clients [] os moved at.right right_then;
        known = λ j. knowns_append f answer first_knowns os moved j ∙ at.known j;
        client = λ e. clients_append f answer first_clients os moved e ∙ client_then e;
        said = λ x here. subst (λ (xs : List (Message C A)). Contains xs x) (sym more_said) (elim (Contains-append_cases handed d.sends x here) [
          | inl h ↦ Contains-append_left (all_said os) d.sends x (at.said x h)
          | inr h ↦ Contains-append_right (all_said os) d.sends x h
        ]);
        sound = λ j. subst (λ (xs : List (Message C A)). IsSound f j answer (machines j) xs) (sym more_said) (still_sound f j answer (machines j) (all_said os) d.sends (at.sound j));
      }

  -- where some moves end, and others go on from there
  record Ends (machines : ℕ → Machine C A) (handed : List (Message C A)) (os : List (ObservedMove C A)) (early late : List (DurableMove C A)) : Type 0 where
    clients : ℕ → ClientState C
    more : List (ObservedMove C A)
    at : At (machines_after f answer machines early) clients (handed ++ handed_from f answer machines early) (os ++ more)
    own : observed_clients more ≡ clients_in early
    rest : AreMovesFrom f answer (machines_after f answer machines early) clients (handed ++ handed_from f answer machines early) late

  -- one move, and those behind it
  joined : (machines then : ℕ → Machine C A) (handed left : List (Message C A)) (os one : List (ObservedMove C A)) (early late : List (DurableMove C A)) (m : DurableMove C A)
      → machines_after f answer machines (m ∷ early) ≡ machines_after f answer then early → handed_from f answer machines (m ∷ early) ≡ left ++ handed_from f answer then early
      → observed_clients one ++ clients_in early ≡ clients_in (m ∷ early) → Ends then (handed ++ left) (os ++ one) early late → Ends machines handed os (m ∷ early) late
  joined machines then handed left os one early late m machines_are handed_are own e =
      let sent : (handed ++ left) ++ handed_from f answer then early ≡ handed ++ handed_from f answer machines (m ∷ early) =
      append_assoc handed left (handed_from f answer then early) ∙ ap (λ (xs : List (Message C A)). handed ++ xs) (sym handed_are) in
      record {
        clients = e.clients;
        more = one ++ e.more;
        at = subst (λ (ps : ℕ → Machine C A). At ps e.clients (handed ++ handed_from f answer machines (m ∷ early)) (os ++ (one ++ e.more))) (sym machines_are)
            (subst (λ (xs : List (Message C A)). At (machines_after f answer then early) e.clients xs (os ++ (one ++ e.more))) sent
            (subst (λ (ns : List (ObservedMove C A)). At (machines_after f answer then early) e.clients ((handed ++ left) ++ handed_from f answer then early) ns) (append_assoc os one e.more) e.at));
        own = clients_append_own one e.more ∙ ap (λ (xs : List (ℕ × ClientStep C A)). observed_clients one ++ xs) e.own ∙ own;
        rest = subst (λ (ps : ℕ → Machine C A). AreMovesFrom f answer ps e.clients (handed ++ handed_from f answer machines (m ∷ early)) late) (sym machines_are)
            (subst (λ (xs : List (Message C A)). AreMovesFrom f answer (machines_after f answer then early) e.clients xs late) sent e.rest);
      }

  go : (early late : List (DurableMove C A)) (machines : ℕ → Machine C A) (clients : ℕ → ClientState C) (handed : List (Message C A)) (os : List (ObservedMove C A)) → At machines clients handed os → AreMovesFrom f answer machines clients handed (early ++ late)
      → Ends machines handed os early late
  go [] late machines clients handed os at are = record {
    clients = clients;
    more = [];
    at = subst (λ (xs : List (Message C A)). At machines clients xs (os ++ [])) (sym (append-nil handed)) (subst (λ (ns : List (ObservedMove C A)). At machines clients handed ns) (sym (append-nil os)) at);
    own = refl;
    rest = subst (λ (xs : List (Message C A)). AreMovesFrom f answer machines clients xs late) (sym (append-nil handed)) are;
  }
  go (OfMachine i d ∷ early) late machines clients handed os at are =
      let then : ℕ → Machine C A = put machines i (machine_after f i answer (machines i) d) in
      let s : Shown f answer (knowns_of os) (clients_of os) (all_said os) i (settles f i answer (machines i) d) = shows machines clients handed os at i are.0 d are.1 are.2 in
      joined machines then handed (leaves (machines i) d) os s.more early late (OfMachine i d) refl refl (ap (λ (xs : List (ℕ × ClientStep C A)). xs ++ clients_in early) s.none)
      (go early late then clients (handed ++ leaves (machines i) d) (os ++ s.more) (by_machine machines clients handed os at i are.0 d are.1 are.2) are.3)
  go (OfClient c d ∷ early) late machines clients handed os at are =
      let then : ℕ → ClientState C = put clients c (client_after f c answer (clients c) d.action) in
      let one : List (ObservedMove C A) = moved machines clients handed os at c d are.0 are.1 are.2 in
      joined machines machines handed d.sends os one early late (OfClient c d) refl refl refl
      (go early late machines then (handed ++ d.sends) (os ++ one) (by_client machines clients handed os at c d are.0 are.1 are.2) are.3)

  at_first : At (λ i. first_machine) first_clients [] []
  at_first = record {
    right = tt;
    known = λ j. refl;
    client = λ c. refl;
    said = λ x here. nothing x here;
    sound = λ j. record { stands = refl; now = refl; same = refl; told = λ x here. nothing x here; heard = tt };
  }

  pub runs_as_one : ((early late : List (ObservedMove C A)) → AreFromTheFirst f answer (early ++ late) → IsOneRun f answer early late) → (early late : List (DurableMove C A)) → AreDurableMoves f answer (early ++ late) → AreOneRun f answer early late
  runs_as_one agree early late are =
      let a : Ends (λ i. first_machine) [] [] early late = go early late (λ i. first_machine) first_clients [] [] at_first are in
      let behind : ℕ → Machine C A = machines_after f answer (λ i. first_machine) early in
      let b : Ends behind (all_handed f answer early) a.more late [] = go late [] behind a.clients (all_handed f answer early) a.more a.at (subst (λ (ms : List (DurableMove C A)). AreMovesFrom f answer behind a.clients (all_handed f answer early) ms) (sym (append-nil late)) a.rest) in
      let stored : (i : ℕ) → durable f i answer (behind i).life ≡ known_at f answer a.more i = λ i. sym (a.at.sound i).stands ∙ sym (ap (λ (k : KnownState C). k.replica) (a.at.known i)) in
      record {
        first = a.more;
        second = b.more;
        settled = λ i. sym (ap (λ (k : KnownState C). k.replica) (a.at.known i));
        run = agree a.more b.more b.at.right;
        stored = stored;
        now = λ i. (a.at.sound i).now ∙ ap (λ (r : ReplicaState C). replayed f i answer r (inputs (behind i).life.unflushed)) (stored i);
        handed = a.at.said;
        clients = a.own;
      }
