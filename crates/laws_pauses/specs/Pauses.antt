-- A replica whose store keeps what it takes up, and what a power cut leaves of it.
use Rattle.std.specs.Prelude.{◌≡◌, ℕ, ◌+◌, Bool, true, false, if◌then◌else◌, List, [], ◌∷◌, ◌++◌, Contains}
use Rattle.std.specs.List.{AllByRecursion}
use Rattle.vr_model.specs.Messages.{Message}
use Rattle.vr_model.specs.Replicas.{ReplicaState}
use Rattle.vr_model.specs.Steps.{Input, acts}
use Rattle.vr_model.specs.Stores.{Observation, Did, LostStep, LostSave, Crashed, CameUp, StayedDown, KnownState}
use Rattle.vr_model.specs.Stores.{AreObservations, last_known_state}

-- an input that was taken up, and whether it's written to the store, or will be with the next flush
pub record Taken (C A : Type 0) : Type 0 where
  pub input : Input C A
  pub written : Bool

-- What there is of a replica. In memory: what it is, and messages that aren't handed out yet. In its store: what it was
-- at some time, its base, and the inputs that it took up since, which are flushed. What it took up behind those isn't
-- flushed yet.
pub record Durable (C A : Type 0) : Type 0 where
  pub now : ReplicaState C
  pub held : List (Message C A)
  pub base : ReplicaState C
  pub kept : List (Input C A)
  pub unflushed : List (Taken C A)

-- What becomes of it. It takes an input up; it flushes, and hands out what it holds; it puts what it is in place of the
-- base and all inputs behind that; or the power goes. Of what was written and not flushed a power cut leaves any part,
-- told by places, and with that the replica goes on.
pub data DurableStep (C A : Type 0) : Type 0 where
  TakesUp : (input : Input C A) (written : Bool) → DurableStep C A
  HandsOut : DurableStep C A
  Rebases : DurableStep C A
  PowerCut : (survives : ℕ → Bool) → DurableStep C A

module _ {C A : Type 0} where
  -- all that was taken up, in order
  abbrev pub inputs : List (Taken C A) → List (Input C A)
  inputs [] = []
  inputs (t ∷ ts) = t.input ∷ inputs ts

  -- those of it that are written
  abbrev pub written : List (Taken C A) → List (Input C A)
  written [] = []
  written (t ∷ ts) = if t.written then t.input ∷ written ts else written ts

  -- those that survive, where the first has place n
  abbrev pub surviving : (ℕ → Bool) → ℕ → List (Input C A) → List (Input C A)
  surviving survives n [] = []
  surviving survives n (x ∷ xs) =
      if survives n then x ∷ surviving survives (n + 1) xs else surviving survives (n + 1) xs

  -- the messages of an observation
  abbrev pub said : Observation C A → List (Message C A)
  said (Did x sends) = sends
  said (LostStep x) = []
  said (LostSave x) = []
  said Crashed = []
  said (CameUp x loaded sends) = sends
  said (StayedDown x) = []

  -- the messages of all, in order
  abbrev pub all_said : List (Observation C A) → List (Message C A)
  all_said [] = []
  all_said (g ∷ gs) = said g ++ all_said gs

  -- the input of an observation
  abbrev pub heard : Observation C A → List (Input C A)
  heard (Did x sends) = x ∷ []
  heard (LostStep x) = x ∷ []
  heard (LostSave x) = x ∷ []
  heard Crashed = []
  heard (CameUp x loaded sends) = []
  heard (StayedDown x) = []

  -- the inputs of all, in order
  abbrev pub all_heard : List (Observation C A) → List (Input C A)
  all_heard [] = []
  all_heard (g ∷ gs) = heard g ++ all_heard gs

  -- no crash, no restart and no failure: an input was taken up, and the rule was done
  abbrev pub IsDone : Observation C A → Type 0
  IsDone (Did x sends) = Unit {0}
  IsDone (LostStep x) = ⊥
  IsDone (LostSave x) = ⊥
  IsDone Crashed = ⊥
  IsDone (CameUp x loaded sends) = ⊥
  IsDone (StayedDown x) = ⊥

  -- the input that was taken up in a step
  abbrev pub taken_by : DurableStep C A → List (Input C A)
  taken_by (TakesUp x w) = x ∷ []
  taken_by HandsOut = []
  taken_by Rebases = []
  taken_by (PowerCut survives) = []

  -- the inputs that were taken up in all steps, in order
  abbrev pub all_taken : List (DurableStep C A) → List (Input C A)
  all_taken [] = []
  all_taken (s ∷ ss) = taken_by s ++ all_taken ss

-- the replica i of 2f+1
module _ {C A : Type 0} (f i : ℕ) (answer : List C → A) where
  -- what it becomes by these inputs
  abbrev pub replayed : ReplicaState C → List (Input C A) → ReplicaState C
  replayed r [] = r
  replayed r (x ∷ xs) = replayed (acts f i answer r x).replica xs

  -- what it sends at them
  abbrev pub all_sends : ReplicaState C → List (Input C A) → List (Message C A)
  all_sends r [] = []
  all_sends r (x ∷ xs) = (acts f i answer r x).sends ++ all_sends (acts f i answer r x).replica xs

  -- the observations of that: each rule was done
  abbrev pub did : ReplicaState C → List (Input C A) → List (Observation C A)
  did r [] = []
  did r (x ∷ xs) = Did x (acts f i answer r x).sends ∷ did (acts f i answer r x).replica xs

  -- what its store makes of it: the base, with the inputs that are flushed
  abbrev pub durable : Durable C A → ReplicaState C
  durable d = replayed d.base d.kept

  -- it goes on where these inputs survived of what wasn't flushed; what it held is gone
  abbrev pub resumed : Durable C A → List (Input C A) → Durable C A
  resumed d survivors = record {
    now = replayed (durable d) survivors;
    held = [];
    base = d.base;
    kept = d.kept ++ survivors;
    unflushed = [];
  }

  -- what a step leaves
  abbrev pub durable_after : Durable C A → DurableStep C A → Durable C A
  durable_after d (TakesUp x w) =
      let o = acts f i answer d.now x in record d {
        now = o.replica;
        held = d.held ++ o.sends;
        unflushed = d.unflushed ++ record { input = x; written = w } ∷ [];
      }
  durable_after d HandsOut = record d { held = []; kept = d.kept ++ written d.unflushed; unflushed = [] }
  durable_after d Rebases = record d { base = d.now; kept = []; unflushed = [] }
  durable_after d (PowerCut survives) = resumed d (surviving survives 0 (written d.unflushed))

  -- what all steps leave
  abbrev pub durable_ends : Durable C A → List (DurableStep C A) → Durable C A
  durable_ends d [] = d
  durable_ends d (s ∷ ss) = durable_ends (durable_after d s) ss

  -- an input needn't be written where it changes nothing of the replica
  abbrev pub MayDurable : Durable C A → DurableStep C A → Type 0
  MayDurable d (TakesUp x true) = Unit {0}
  MayDurable d (TakesUp x false) = (acts f i answer d.now x).replica ≡ d.now
  MayDurable d HandsOut = Unit {0}
  MayDurable d Rebases = Unit {0}
  MayDurable d (PowerCut survives) = Unit {0}

  -- each step may be, from where the one before it ended
  abbrev pub AreDurable : Durable C A → List (DurableStep C A) → Type 0
  AreDurable d [] = Unit {0}
  AreDurable d (s ∷ ss) = MayDurable d s × AreDurable (durable_after d s) ss

  -- what leaves the machine in a step: all that was held, once all that was taken up before is flushed
  abbrev pub handed : Durable C A → DurableStep C A → List (Message C A)
  handed d (TakesUp x w) = []
  handed d HandsOut = d.held
  handed d Rebases = []
  handed d (PowerCut survives) = []

  -- what leaves it in all steps, in order
  abbrev pub all_handed : Durable C A → List (DurableStep C A) → List (Message C A)
  all_handed d [] = []
  all_handed d (s ∷ ss) = handed d s ++ all_handed (durable_after d s) ss

  -- the observations that are settled by a step: from then on no power cut undoes them
  abbrev pub settled : Durable C A → DurableStep C A → List (Observation C A)
  settled d (TakesUp x w) = []
  settled d HandsOut = did (durable d) (inputs d.unflushed)
  settled d Rebases = did (durable d) (inputs d.unflushed)
  settled d (PowerCut survives) = did (durable d) (surviving survives 0 (written d.unflushed))

  -- those of all steps, in order
  abbrev pub all_settled : Durable C A → List (DurableStep C A) → List (Observation C A)
  all_settled d [] = []
  all_settled d (s ∷ ss) = settled d s ++ all_settled (durable_after d s) ss

  -- The whole life of a durable replica, over any number of power cuts, is steps of one replica that never crashed.
  pub record IsUnbroken (known : KnownState C) (d : Durable C A) (ss : List (DurableStep C A)) : Type 0 where
    -- each is right by the rules, from where the one before it ended
    pub right : AreObservations f i answer known (all_settled d ss)
    -- none is a crash, a restart or a failure
    pub done : AllByRecursion IsDone (all_settled d ss)
    -- they lead to what the store makes of the replica
    pub stands : (last_known_state f i answer known (all_settled d ss)).replica ≡ durable (durable_ends d ss)
    -- in memory it's that, with what it took up since
    pub now : (durable_ends d ss).now
        ≡ replayed (durable (durable_ends d ss)) (inputs (durable_ends d ss).unflushed)
    -- what left the machine they said
    pub said : (m : Message C A) → Contains (all_handed d ss) m → Contains (all_said (all_settled d ss)) m
    -- what they heard was taken up
    pub heard : (x : Input C A) → Contains (all_heard (all_settled d ss)) x → Contains (all_taken ss) x

-- a replica whose store has it as it is: one that took nothing up yet, or was recovered, or has a new base
abbrev pub begun : {C A : Type 0} → ReplicaState C → Durable C A
begun r = record { now = r; held = []; base = r; kept = []; unflushed = [] }
