-- Who never crashes takes part.
use Rattle.std.proofs.Common.{◌≡◌, ℕ, ◌<◌, Bool, true, false, if◌then◌else◌, List, [], ◌∷◌, refl, sym, ap, ◌∙◌, subst}
use Rattle.vr_model.specs.Groups.{group_size, IsQuorum}
use Rattle.vr_model.specs.Replicas.{is_down, takes_part, Status, Normal, ViewChange, Recovering, Down, ReplicaState, Outcome, put}
use Rattle.vr_model.specs.Rules.{keep}
use Rattle.vr_model.specs.World.{Event, Completion, run, start}
use Rattle.vr_model.specs.Steps.{Input, acts, by_rule, first_local_state, first_client}
use Rattle.vr_model.specs.Stores.{Observation, Did, LostStep, LostSave, Crashed, CameUp, StayedDown, KnownState, next, last_known_state}
use Rattle.vr_model.specs.Interleaving.{Move, AreMoves, AreLists, EachByItself, InOneOrder, IsRun, steps_of, client_steps_of, events}
use Rattle.vr_model.specs.Steps.{Step, ClientStep}
use Rattle.laws_pauses.specs.Pauses as pauses
use Rattle.laws_pauses.specs.Pauses.{did, durable, inputs, written, surviving}
use Rattle.laws_history.proofs.Counts.{quorums_meet}
use Rattle.laws_cold_start.specs.ColdStarts.{AreFrozen}
use Rattle.laws_cold_start.proofs.Ahead.{Ahead, ahead_by_rule}
use Rattle.laws_threads.specs.ObservedMoves.{known_at}
use Rattle.laws_threads.proofs.Running.{front_right}
use Rattle.laws_threads.proofs.Tables.{put_cases}
use Rattle.laws_durable.specs.Machines.{Deed, TakesUp, HandsOut, Rebases, Resumes, Shows, Machine, first_machine, settles, machine_after}
use Rattle.laws_durable.specs.DurableMoves.{DurableMove, OfMachine, OfClient, machines_after, machine_behind, AreOneRun}
use Rattle.laws_durable.specs.NeverCrashing.{GoesOn, DoesNotCrash, NeverCrashes, NoneCrashes, HasNoEnd}

not_down : (s : Status) → takes_part s ≡ true → is_down s ≡ false
not_down Normal e = refl
not_down ViewChange e = refl
not_down Recovering e = refl
not_down Down e = absurd cc

no_two : (b : Bool) → b ≡ true → b ≡ false → ⊥
no_two true e d = absurd cc
no_two false e d = absurd cc

-- it takes part, and knows of its store what that holds
abbrev Part : {C : Type 0} → ReplicaState C → Type 0
Part r = (takes_part r.status ≡ true) × (r.stored_view ≡ r.view)

abbrev AllGoOn : {C A : Type 0} → List (Observation C A) → Type 0
AllGoOn [] = Unit {0}
AllGoOn (g ∷ gs) = GoesOn g × AllGoOn gs

module _ {C A : Type 0} (f : ℕ) (answer : List C → A) where
  module _ (i : ℕ) where
    part_acts : (r : ReplicaState C) (x : Input C A) → Part r → Part (acts f i answer r x).replica
    part_acts r x p =
        let a : Ahead f i r (by_rule f i answer r x) = ahead_by_rule f i answer r x p.0 p.1 in
        subst (λ (o : Outcome C A). Part o.replica) (sym (up (is_down r.status) (not_down r.status p.0) refl)) (a.part, a.even)
      where
        up : (b : Bool) → b ≡ false → is_down r.status ≡ b → acts f i answer r x ≡ by_rule f i answer r x
        up true e is = absurd cc
        up false e is = ap (λ (b : Bool). if b then keep f i answer r else by_rule f i answer r x) is

    part_next : (k : KnownState C) (g : Observation C A) → GoesOn g → Part k.replica → Part (next f i answer k g).replica
    part_next k (Did x sends) goes p = part_acts k.replica x p
    part_next k (LostStep x) goes p = p
    part_next k (LostSave x) goes p = absurd goes
    part_next k Crashed goes p = absurd goes
    part_next k (CameUp x loaded sends) goes p = absurd goes
    part_next k (StayedDown x) goes p = absurd goes

    part_last : (k : KnownState C) (gs : List (Observation C A)) → AllGoOn gs → Part k.replica → Part (last_known_state f i answer k gs).replica
    part_last k [] goes p = p
    part_last k (g ∷ gs) goes p = part_last (next f i answer k g) gs goes.1 (part_next k g goes.0 p)

    did_go_on : (r : ReplicaState C) (xs : List (Input C A)) → AllGoOn (did f i answer r xs)
    did_go_on r [] = tt
    did_go_on r (x ∷ xs) = (tt, did_go_on (acts f i answer r x).replica xs)

    settled_go_on : (m : Machine C A) (d : Deed C A) → DoesNotCrash d → AllGoOn (settles f i answer m d)
    settled_go_on m (TakesUp x w) goes = tt
    settled_go_on m HandsOut goes = did_go_on (durable f i answer m.life) (inputs m.life.unflushed)
    settled_go_on m Rebases goes = did_go_on (durable f i answer m.life) (inputs m.life.unflushed)
    settled_go_on m (Resumes survives base xs) goes = did_go_on (durable f i answer m.life) (surviving survives 0 (written m.life.unflushed))
    settled_go_on m (Shows g) goes = (goes, tt)

    part_deed : (m : Machine C A) (d : Deed C A) → DoesNotCrash d → Part m.known.replica → Part (machine_after f i answer m d).known.replica
    part_deed m d goes p = part_last m.known (settles f i answer m d) (settled_go_on m d goes) p

  part_moves : (i : ℕ) (ms : List (DurableMove C A)) (machines : ℕ → Machine C A) → NeverCrashes i ms → Part (machines i).known.replica → Part (machines_after f answer machines ms i).known.replica
  part_moves i [] machines never p = p
  part_moves i (OfMachine j d ∷ ms) machines never p =
      part_moves i ms (put machines j (machine_after f j answer (machines j) d)) never.1
      (put_cases machines j (machine_after f j answer (machines j) d) i (λ (m : Machine C A). Part m.known.replica)
      (λ e. subst (λ (k : ℕ). Part (machine_after f k answer (machines k) d).known.replica) e (part_deed i (machines i) d (never.0 (sym e)) p))
      (λ ne. p))
  part_moves i (OfClient c d ∷ ms) machines never p = part_moves i ms machines never p

  part_behind : (i : ℕ) (ms : List (DurableMove C A)) → NeverCrashes i ms → takes_part (machine_behind f answer ms i).known.replica.status ≡ true
  part_behind i ms never = (part_moves i ms (λ j. first_machine) never (refl, refl)).0

  pub has_no_end : ((moves : List (Move C A)) → AreMoves f answer (λ i. first_local_state) (λ c. first_client) [] moves → AreLists f answer moves)
      → ((steps : ℕ → List (Step C A)) (client_steps : ℕ → List (ClientStep C A)) (moves : List (Move C A)) → EachByItself f answer steps client_steps → InOneOrder steps client_steps moves → IsRun f answer steps client_steps moves)
      → (early late : List (DurableMove C A)) (steady : ℕ → Bool) → AreOneRun f answer early late → IsQuorum f steady → NoneCrashes f steady early → HasNoEnd f answer early late
  has_no_end lists inter early late steady one many none = record { one = one; take_part = part; never_frozen = frozen }
    where
      part : (i : ℕ) → i < group_size f → NeverCrashes i early → takes_part (known_at f answer one.first i).status ≡ true
      part i low never = subst (λ (r : ReplicaState C). takes_part r.status ≡ true) (one.settled i) (part_behind i early never)

      world_at : (i : ℕ) → (run f answer (events one.run.first) (start {C = C} {A = A})).replicas i ≡ known_at f answer one.first i
      world_at i =
          let right = front_right f answer (λ j. first_local_state) (λ c. first_client) [] one.run.first one.run.second one.run.right in
          let l : AreLists f answer one.run.first = lists one.run.first right in
          let ran : IsRun f answer (λ j. steps_of j one.run.first) (λ c. client_steps_of c one.run.first) one.run.first = inter (λ j. steps_of j one.run.first) (λ c. client_steps_of c one.run.first) one.run.first l.each l.order in
          ran.end.replicas i ∙ one.run.replicas i

      frozen : (later : List (Event C × Completion)) (who : ℕ → Bool) (nonces : ℕ → ℕ) → AreFrozen f answer (events one.run.first) later who nonces → ⊥
      frozen later who nonces are =
          let both = quorums_meet f steady who many are.many in
          no_two (takes_part (known_at f answer one.first both.0).status) (part both.0 both.1 (none both.0 both.1 both.2))
          (subst (λ (r : ReplicaState C). takes_part r.status ≡ false) (world_at both.0) (are.out both.0 both.1 both.3).0)
