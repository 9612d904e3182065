-- A machine, durable or plain, over any power cuts: what it does, what is settled by that, and what leaves it.
use Rattle.std.specs.Prelude.{◌≡◌, ℕ, Bool, List, [], ◌∷◌, ◌++◌}
use Rattle.vr_model.specs.Messages.{Message}
use Rattle.vr_model.specs.Replicas.{ReplicaState}
use Rattle.vr_model.specs.Steps.{Input}
use Rattle.vr_model.specs.Stores.{Observation, KnownState, MayShow, next, last_known_state, first_known_state}
use Rattle.vr_model.specs.World.{first_replica}
use Rattle.laws_pauses.specs.Pauses as pauses
use Rattle.laws_pauses.specs.Pauses.{Durable, begun, durable_after, MayDurable, replayed, settled, surviving, written}
use Rattle.laws_pauses.specs.Pauses.{said}

-- What a machine does. A durable one takes an input up, and writes it, or not yet; it flushes, and hands out what it
-- holds; it puts what it is in place of the base; or, behind a power cut that left so much of what wasn't flushed, its
-- next process resumes from what it reads: a base, and the inputs behind that. What else becomes of a machine shows as
-- an observation, from what is settled of it: each step of a plain one, and that one lost its store.
pub data Deed (C A : Type 0) : Type 0 where
  TakesUp : (input : Input C A) (is_written : Bool) → Deed C A
  HandsOut : Deed C A
  Rebases : Deed C A
  Resumes : (survives : ℕ → Bool) (base : ReplicaState C) (inputs : List (Input C A)) → Deed C A
  Shows : (observation : Observation C A) → Deed C A

-- what there is of a machine: what is settled of its replica, and its life behind that
pub record Machine (C A : Type 0) : Type 0 where
  pub known : KnownState C
  pub life : Durable C A

-- What is trusted of a disk: what was flushed is read back, the base and the inputs behind it, whole and in order. Of
-- what was written and not flushed that is read which survived the cut.
pub record ReadsBack {C A : Type 0} (life : Durable C A) (survives : ℕ → Bool) (base : ReplicaState C)
    (inputs : List (Input C A)) : Type 0 where
  pub base_is : base ≡ life.base
  pub inputs_are : inputs ≡ life.kept ++ surviving survives 0 (written life.unflushed)

-- what leaves a machine
abbrev pub leaves : {C A : Type 0} → Machine C A → Deed C A → List (Message C A)
leaves m (TakesUp x w) = []
leaves m HandsOut = m.life.held
leaves m Rebases = []
leaves m (Resumes survives base xs) = []
leaves m (Shows g) = said g

-- a machine before its first start
abbrev pub first_machine : {C A : Type 0} → Machine C A
first_machine = record { known = first_known_state; life = begun first_replica }

-- machine i of 2f+1
module _ {C A : Type 0} (f i : ℕ) (answer : List C → A) where
  -- it goes on from what it reads: it takes the inputs up again, and hands nothing out
  abbrev pub resumed_from : ReplicaState C → List (Input C A) → Durable C A
  resumed_from base xs =
      record { now = replayed f i answer base xs; held = []; base = base; kept = xs; unflushed = [] }

  abbrev pub life_after : Machine C A → Deed C A → Durable C A
  life_after m (TakesUp x w) = durable_after f i answer m.life (pauses.TakesUp x w)
  life_after m HandsOut = durable_after f i answer m.life pauses.HandsOut
  life_after m Rebases = durable_after f i answer m.life pauses.Rebases
  life_after m (Resumes survives base xs) = resumed_from base xs
  life_after m (Shows g) = begun (next f i answer m.known g).replica

  -- what is settled by it: from then on no power cut undoes it
  abbrev pub settles : Machine C A → Deed C A → List (Observation C A)
  settles m (TakesUp x w) = []
  settles m HandsOut = settled f i answer m.life pauses.HandsOut
  settles m Rebases = settled f i answer m.life pauses.Rebases
  settles m (Resumes survives base xs) = settled f i answer m.life (pauses.PowerCut survives)
  settles m (Shows g) = g ∷ []

  abbrev pub machine_after : Machine C A → Deed C A → Machine C A
  machine_after m d =
      record { known = last_known_state f i answer m.known (settles m d); life = life_after m d }

  -- What isn't written changes nothing; who resumes reads back what was flushed; and an observation is right by the
  -- rules.
  abbrev pub MayDo : Machine C A → Deed C A → Type 0
  MayDo m (TakesUp x w) = MayDurable f i answer m.life (pauses.TakesUp x w)
  MayDo m HandsOut = Unit {0}
  MayDo m Rebases = Unit {0}
  MayDo m (Resumes survives base xs) = ReadsBack m.life survives base xs
  MayDo m (Shows g) = MayShow f i answer m.known g
