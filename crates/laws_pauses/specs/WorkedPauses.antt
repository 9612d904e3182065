-- Worked lives of a durable primary of three, for any command and any answers.
use Rattle.std.specs.Prelude.{◌≡◌, ℕ, Bool, true, false, List, [], ◌∷◌, ◌++◌}
use Rattle.vr_model.specs.Logs.{Request}
use Rattle.vr_model.specs.Messages.{Message, Replica, Client, RequestMessage, Prepare, PrepareOk, Reply}
use Rattle.vr_model.specs.Steps.{Input, Takes}
use Rattle.vr_model.specs.Stores.{Observation, Did}
use Rattle.vr_model.specs.World.{first_replica}
use Rattle.laws_pauses.specs.Pauses.{Durable, DurableStep, TakesUp, HandsOut, PowerCut, begun, durable_ends}
use Rattle.laws_pauses.specs.Pauses.{all_handed, all_settled}

-- the first request of client 0
abbrev pub request : {C : Type 0} → C → Request C
request a = record { client = 0; number = 1; command = a }

-- REQUEST comes to replica 0, the primary of view 0
abbrev pub asked : {C A : Type 0} → C → Input C A
asked a = Takes (record { from = Client 0; to = Replica 0; body = RequestMessage (request a) })

-- PREPAREOK of replica 1, by which the request is committed
abbrev pub acknowledged : {C A : Type 0} → Input C A
acknowledged = Takes (record { from = Replica 1; to = Replica 0; body = PrepareOk 0 1 })

-- what the primary says to the backup s behind the request
abbrev pub prepare : {C A : Type 0} → C → ℕ → Message C A
prepare a s = record { from = Replica 0; to = Replica s; body = Prepare 0 (request a) 1 0 }

-- and so to both
abbrev pub prepares : {C A : Type 0} → C → List (Message C A)
prepares a = prepare a 1 ∷ prepare a 2 ∷ []

-- and what to the client behind the PREPAREOK
abbrev pub reply : {C A : Type 0} → (List C → A) → C → Message C A
reply answer a = record { from = Replica 0; to = Client 0; body = Reply 0 1 (answer (a ∷ [])) }

-- The primary hands out its PREPAREs. The PREPAREOK comes, and the power goes before the REPLY may be handed out: the
-- input that wasn't flushed survives, or is lost.
abbrev pub cut_before_the_reply : {C A : Type 0} → C → Bool → List (DurableStep C A)
cut_before_the_reply a survives =
    TakesUp (asked a) true ∷ HandsOut ∷ TakesUp acknowledged true ∷ PowerCut (λ n. survives) ∷ []

-- the same, and it hands out its REPLY
abbrev pub replies : {C A : Type 0} → C → List (DurableStep C A)
replies a = TakesUp (asked a) true ∷ HandsOut ∷ TakesUp acknowledged true ∷ HandsOut ∷ []

-- its store is as it was at the base: a disk that kept nothing of what was flushed, or an older copy of it
abbrev pub forgets : {C A : Type 0} → Durable C A → Durable C A
forgets d = begun d.base

module _ {C A : Type 0} (answer : List C → A) where
  -- what a life leaves, of the primary of three
  abbrev pub leaves : List (DurableStep C A) → Durable C A
  leaves ss = durable_ends 1 0 answer (begun first_replica) ss

  -- what leaves the machine in it
  abbrev pub hands_out : List (DurableStep C A) → List (Message C A)
  hands_out ss = all_handed 1 0 answer (begun first_replica) ss

  -- and what is settled
  abbrev pub settles : List (DurableStep C A) → List (Observation C A)
  settles ss = all_settled 1 0 answer (begun first_replica) ss

pub record WorkedPauses {C A : Type 0} (answer : List C → A) (a : C) : Type 0 where
  -- the PREPAREOK is lost: it's as if it had never come
  pub lost : settles answer (cut_before_the_reply a false) ≡ Did (asked a) (prepares a) ∷ []
  pub uncommitted : (leaves answer (cut_before_the_reply a false)).now.commit_number ≡ 0
  -- it survives: the request is committed and the REPLY said, as if that were lost on its way
  pub survived : settles answer (cut_before_the_reply a true)
      ≡ Did (asked a) (prepares a) ∷ Did acknowledged (reply answer a ∷ []) ∷ []
  pub committed : (leaves answer (cut_before_the_reply a true)).now.commit_number ≡ 1
  -- both ways the log has the request, and the PREPAREs alone left the machine
  pub logs : ((leaves answer (cut_before_the_reply a false)).now.log ≡ request a ∷ [])
      × ((leaves answer (cut_before_the_reply a true)).now.log ≡ request a ∷ [])
  pub handed : (hands_out answer (cut_before_the_reply a false) ≡ prepares a)
      × (hands_out answer (cut_before_the_reply a true) ≡ prepares a)
  -- what is asked of a disk: where it forgets what was flushed, a request was answered that is in no log
  pub replied : hands_out answer (replies a) ≡ prepares a ++ reply answer a ∷ []
  pub forgotten : (forgets (leaves answer (replies a))).now.log ≡ []
