-- What stores kept is chosen from the next loads back, along the order.
use Rattle.std.proofs.Common.{◌≡◌, ℕ, Bool, true, false, cond, List, [], ◌∷◌, ◌++◌, Option, Some, None, refl, sym, ap, ◌∙◌, subst, inl, inr}
use Rattle.std.proofs.lemmas.Bool.{cases_eq}
use Rattle.vr_model.specs.Messages.{Message}
use Rattle.vr_model.specs.Replicas.{Outcome, put}
use Rattle.vr_model.specs.World.{Done, Lost, saved_view, down, Went, SaveFailed, Ending, ClientState}
use Rattle.vr_model.specs.Steps.{Input, Takes, TimesOut, Resends, Step, Acts, Crashes, ComesUp, LocalState, acts, effect_of, after, sends_of, May, first_local_state, client_after, first_client}
use Rattle.vr_model.specs.Stores.{Observation, Did, LostStep, LostSave, Crashed, CameUp, StayedDown, shown, KnownState, only, settles, adds, local_state, next, MayShow, first_known_state}
use Rattle.vr_model.specs.Interleaving.{Move, OfReplica, OfClient, StepTakesSent, AreMoves}
use Rattle.laws_threads.specs.ObservedMoves.{ObservedMove, ByReplica, ByClient, said, InputTakesSent, ObservationTakesSent, AreObservedMoves, AreFromTheFirst, shown_moves}
use Rattle.laws_threads.proofs.Tables.{put_same, put_other, put_cases}

only_is : (u v : ℕ) → only u v ≡ true → v ≡ u
only_is u v e = elim (cases_eq v u) [
  | inl same ↦ same
  | inr ne ↦ absurd (let c : false ≡ true = sym (put_other (λ x. false) u true v ne) ∙ e in cc)
]

-- the view before a save that was made
settled : (k : ℕ → Bool) (s : Option ℕ) (later some : ℕ) → k some ≡ true → settles k s later ≡ true → (v : ℕ) × (k v ≡ true) × (saved_view v s ≡ later)
settled k None later some ks e = (later, e, refl)
settled k (Some u) later some ks e = (some, ks, sym (only_is u later e))

-- the view before a save that was made or not, and whether it was
added : (k : ℕ → Bool) (s : Option ℕ) (later some : ℕ) → k some ≡ true → adds k s later ≡ true → (v : ℕ) × (saved : Bool) × (k v ≡ true) × (cond saved (saved_view v s) v ≡ later)
added k None later some ks e = (later, false, e, refl)
added k (Some u) later some ks e = elim (cases_eq later u) [
  | inl same ↦ (some, true, ks, sym same)
  | inr ne ↦ (later, false, sym (put_other k u true later ne) ∙ e, refl)
]

settles_some : (k : ℕ → Bool) (s : Option ℕ) (some : ℕ) → k some ≡ true → (v : ℕ) × (settles k s v ≡ true)
settles_some k None some ks = (some, ks)
settles_some k (Some u) some ks = (u, put_same (λ x. false) u true u refl)

adds_some : (k : ℕ → Bool) (s : Option ℕ) (some : ℕ) → k some ≡ true → (v : ℕ) × (adds k s v ≡ true)
adds_some k None some ks = (some, ks)
adds_some k (Some u) some ks = (u, put_same k u true u refl)

some_kept : {C A : Type 0} (f i : ℕ) (answer : List C → A) (n : KnownState C) (g : Observation C A) (some : ℕ) → n.may_keep some ≡ true → (v : ℕ) × ((next f i answer n g).may_keep v ≡ true)
some_kept f i answer n (Did input sends) some k = settles_some n.may_keep (acts f i answer n.replica input).saves some k
some_kept f i answer n (LostStep input) some k = adds_some n.may_keep (acts f i answer n.replica input).saves some k
some_kept f i answer n (LostSave input) some k = adds_some n.may_keep (acts f i answer n.replica input).saves some k
some_kept f i answer n Crashed some k = (some, k)
some_kept f i answer n (CameUp x loaded sends) some k = (loaded, put_same (λ x. false) loaded true loaded refl)
some_kept f i answer n (StayedDown x) some k = (some, k)

input_takes : {C A : Type 0} (sent : List (Message C A)) (i : ℕ) (input : Input C A) (ending : Ending) (sends : List (Message C A)) (place : ℕ) → InputTakesSent sent i input place → StepTakesSent sent i (Acts input ending sends) place
input_takes sent i (Takes m) ending sends place k = k
input_takes sent i TimesOut ending sends place k = tt
input_takes sent i Resends ending sends place k = tt

-- the step of which this shows, where the store keeps that view behind it
record Chosen {C A : Type 0} (f i : ℕ) (answer : List C → A) (n : KnownState C) (g : Observation C A) (later : ℕ) : Type 0 where
  view : ℕ
  kept : n.may_keep view ≡ true
  step : Step C A
  shows : shown (local_state n view) step ≡ g
  may : May f i answer (local_state n view) step
  sends : sends_of step ≡ (effect_of f i answer (local_state n view) step).sends
  says : sends_of step ≡ said g
  goes : after f i answer (local_state n view) step ≡ local_state (next f i answer n g) later
  takes : (sent : List (Message C A)) (place : ℕ) → ObservationTakesSent sent i g place → StepTakesSent sent i step place

choose : {C A : Type 0} (f i : ℕ) (answer : List C → A) (n : KnownState C) (g : Observation C A) (some later : ℕ) → n.may_keep some ≡ true → MayShow f i answer n g → (next f i answer n g).may_keep later ≡ true → Chosen f i answer n g later
choose {C} {A} f i answer n (Did input sends) some later k may kept =
    let o : Outcome C A = acts f i answer n.replica input in
    let x = settled n.may_keep o.saves later some k kept in
    let at : ℕ → LocalState C = (λ z. record { replica = o.replica; store = z; used = n.used }) in
    record {
      view = x.0;
      kept = x.1;
      step = Acts input (Went Done) sends;
      shows = refl;
      may = tt;
      sends = may;
      says = refl;
      goes = ap at x.2;
      takes = λ sent place h. input_takes sent i input (Went Done) sends place h;
    }
choose {C} {A} f i answer n (LostStep input) some later k may kept =
    let x = added n.may_keep (acts f i answer n.replica input).saves later some k kept in
    let at : ℕ → LocalState C = (λ z. record { replica = n.replica; store = z; used = n.used }) in
    record {
      view = x.0;
      kept = x.2;
      step = Acts input (Went (Lost x.1)) [];
      shows = refl;
      may = may;
      sends = refl;
      says = refl;
      goes = ap at x.3;
      takes = λ sent place h. input_takes sent i input (Went (Lost x.1)) [] place h;
    }
choose {C} {A} f i answer n (LostSave input) some later k may kept =
    let x = added n.may_keep (acts f i answer n.replica input).saves later some k kept in
    let at : ℕ → LocalState C = (λ z. record { replica = down n.replica; store = z; used = n.used }) in
    record {
      view = x.0;
      kept = x.2;
      step = Acts input (SaveFailed x.1) [];
      shows = refl;
      may = may;
      sends = refl;
      says = refl;
      goes = ap at x.3;
      takes = λ sent place h. input_takes sent i input (SaveFailed x.1) [] place h;
    }
choose f i answer n Crashed some later k may kept = record { view = later; kept = kept; step = Crashes; shows = refl; may = tt; sends = refl; says = refl; goes = refl; takes = λ sent place h. tt }
choose {C} {A} f i answer n (CameUp x loaded sends) some later k may kept =
    let at : ℕ → LocalState C = (λ z. record { replica = (next f i answer n (CameUp x loaded sends)).replica; store = z; used = put n.used x true }) in
    record {
      view = loaded;
      kept = may.2;
      step = ComesUp x Done sends;
      shows = refl;
      may = (may.0, may.1);
      sends = may.3;
      says = refl;
      goes = ap at (sym (only_is loaded later kept));
      takes = λ sent place h. tt;
    }
choose f i answer n (StayedDown x) some later k may kept = record { view = later; kept = kept; step = ComesUp x (Lost false) []; shows = refl; may = (may.0, may.1); sends = refl; says = refl; goes = refl; takes = λ sent place h. tt }

module _ {C A : Type 0} (f : ℕ) (answer : List C → A) where
  -- moves of which this shows, from views that the stores may keep
  record Resolved (knowns : ℕ → KnownState C) (clients : ℕ → ClientState C) (sent : List (Message C A)) (os : List (ObservedMove C A)) : Type 0 where
    views : ℕ → ℕ
    kept : (i : ℕ) → (knowns i).may_keep (views i) ≡ true
    moves : List (Move C A)
    right : (locals : ℕ → LocalState C) → ((j : ℕ) → locals j ≡ local_state (knowns j) (views j)) → AreMoves f answer locals clients sent moves × (shown_moves f answer locals moves ≡ os)

  resolve : (os : List (ObservedMove C A)) (knowns : ℕ → KnownState C) (clients : ℕ → ClientState C) (sent : List (Message C A)) (some : ℕ → ℕ) → ((i : ℕ) → (knowns i).may_keep (some i) ≡ true) → AreObservedMoves f answer knowns clients sent os → Resolved knowns clients sent os
  resolve [] knowns clients sent some k are = record { views = some; kept = k; moves = []; right = λ locals same. (tt, refl) }
  resolve (ByClient c d place ∷ os) knowns clients sent some k are =
      let rest : Resolved knowns (put clients c (client_after f c answer (clients c) d.action)) (sent ++ d.sends) os = resolve os knowns (put clients c (client_after f c answer (clients c) d.action)) (sent ++ d.sends) some k are.3 in
      record {
        views = rest.views;
        kept = rest.kept;
        moves = OfClient c d place ∷ rest.moves;
        right = λ locals same.
            let then = rest.right locals same in
            ((are.0, are.1, are.2, then.0), ap (λ (xs : List (ObservedMove C A)). ByClient c d place ∷ xs) then.1);
      }
  resolve (ByReplica i g place ∷ os) knowns clients sent some k are =
      let n : KnownState C = knowns i in
      let m : KnownState C = next f i answer n g in
      let x = some_kept f i answer n g (some i) (k i) in
      let rest : Resolved (put knowns i m) clients (sent ++ said g) os = resolve os (put knowns i m) clients (sent ++ said g) (put some i x.0)
      (λ j. put_cases knowns i m j (λ (q : KnownState C). q.may_keep (put some i x.0 j) ≡ true)
      (λ e. subst (λ v. m.may_keep v ≡ true) (sym (put_same some i x.0 j e)) x.1)
      (λ ne. subst (λ v. (knowns j).may_keep v ≡ true) (sym (put_other some i x.0 j ne)) (k j))) are.3 in
      let here : m.may_keep (rest.views i) ≡ true = subst (λ (q : KnownState C). q.may_keep (rest.views i) ≡ true) (put_same knowns i m i refl) (rest.kept i) in
      let c : Chosen f i answer n g (rest.views i) = choose f i answer n g (some i) (rest.views i) (k i) are.1 here in
      record {
        views = put rest.views i c.view;
        kept = λ j. put_cases rest.views i c.view j (λ v. (knowns j).may_keep v ≡ true)
            (λ e. subst (λ q. (knowns q).may_keep c.view ≡ true) (sym e) c.kept)
            (λ ne. subst (λ (q : KnownState C). q.may_keep (rest.views j) ≡ true) (put_other knowns i m j ne) (rest.kept j));
        moves = OfReplica i c.step place ∷ rest.moves;
        right = λ locals same.
            let at : locals i ≡ local_state n c.view = same i ∙ ap (local_state n) (put_same rest.views i c.view i refl) in
            let p : LocalState C = after f i answer (locals i) c.step in
            let went : p ≡ local_state m (rest.views i) = ap (λ (q : LocalState C). after f i answer q c.step) at ∙ c.goes in
            let then = rest.right (put locals i p) (λ j. elim (cases_eq j i) [
              | inl e ↦ put_same locals i p j e ∙ went ∙ ap (λ v. local_state m (rest.views v)) (sym e) ∙ ap (λ (q : KnownState C). local_state q (rest.views j)) (sym (put_same knowns i m j e))
              | inr ne ↦ put_other locals i p j ne ∙ same j ∙ ap (local_state (knowns j)) (put_other rest.views i c.view j ne) ∙ ap (λ (q : KnownState C). local_state q (rest.views j)) (sym (put_other knowns i m j ne))
            ]) in
            let shows : shown (locals i) c.step ≡ g = ap (λ (q : LocalState C). shown q c.step) at ∙ c.shows in (
              (
                are.0,
                subst (λ (q : LocalState C). May f i answer q c.step) (sym at) c.may,
                subst (λ (q : LocalState C). sends_of c.step ≡ (effect_of f i answer q c.step).sends) (sym at) c.sends,
                c.takes sent place are.2,
                subst (λ (ms : List (Message C A)). AreMoves f answer (put locals i p) clients (sent ++ ms) rest.moves) (sym c.says) then.0,
              ),
              ap (λ (q : Observation C A). ByReplica i q place ∷ shown_moves f answer (put locals i p) rest.moves) shows ∙ ap (λ (xs : List (ObservedMove C A)). ByReplica i g place ∷ xs) then.1,
            );
      }

  -- from the first states on
  pub resolved : (os : List (ObservedMove C A)) → AreFromTheFirst f answer os → (ms : List (Move C A)) × AreMoves f answer (λ i. first_local_state) (λ c. first_client) [] ms × (shown_moves f answer (λ i. first_local_state) ms ≡ os)
  resolved os are =
      let r : Resolved (λ i. first_known_state) (λ c. first_client) [] os = resolve os (λ i. first_known_state) (λ c. first_client) [] (λ i. 0) (λ i. put_same (λ v. false) 0 true 0 refl) are in
      let right = r.right (λ i. first_local_state) (λ j. ap (λ v. local_state {C = C} first_known_state v) (sym (only_is 0 (r.views j) (r.kept j)))) in
      (r.moves, right.0, right.1)
