-- Worked schedules of a group of three, for any commands and any answers: two replicas whose memory is lost, and what
-- goes wrong where one is too few, or an answer is handed over.
use Rattle.std.specs.Prelude.{◌≡◌, ℕ, ◌==◌, true, not, List, [], ◌∷◌, ◌++◌, None, is_some}
use Rattle.vr_model.specs.Logs.{Request}
use Rattle.vr_model.specs.Replicas.{is_normal, is_recovering, put}
use Rattle.vr_model.specs.World.{Event, Submit, Deliver, Crash, Restart, Completion, start}
use Rattle.vr_model.specs.Report.{all_done, first_refusal}
use Rattle.vr_model.specs.Views.{world}
use Rattle.laws_cold_start.specs.ColdStarts.{RecoversUnder, HandsAnswer, IsInNoLog, behind, AreOutUnanswered}
use Rattle.laws_cold_start.specs.ColdStarts.{AreFrozen, IsNeverCommitted}

-- the first request of a client
abbrev pub request : {C : Type 0} → ℕ → C → Request C
request client command = record { client = client; number = 1; command = command }

-- Replica 0 has a request in its log that no other has. Replicas 1 and 2 crash, come up, and ask; replica 0 has
-- answered 1, and the answer is under way.
abbrev pub memory_lost : {C : Type 0} → C → List (Event C × Completion)
memory_lost a = all_done (Submit 0 a ∷ Deliver 0 ∷ Crash 1 ∷ Restart 1 7 ∷ Deliver 3 ∷ Crash 2 ∷ Restart 2 9 ∷ [])

-- Replica 0 takes one more request, and sends it to both; 1 comes up anew, asks, and takes an answer of 0.
abbrev pub goes_on : {C : Type 0} → C → List (Event C × Completion)
goes_on b = all_done
    (Submit 1 b ∷ Deliver 8 ∷ Deliver 9 ∷ Deliver 10 ∷ Crash 1 ∷ Restart 1 8 ∷ Deliver 11 ∷ Deliver 13 ∷ [])

-- replica 1 alone has lost its memory
abbrev pub one_lost : {C : Type 0} → List (Event C × Completion)
one_lost = all_done (Crash 1 ∷ Restart 1 7 ∷ [])

-- and the others commit a request
abbrev pub others_commit : {C : Type 0} → C → List (Event C × Completion)
others_commit a = all_done (Submit 0 a ∷ Deliver 2 ∷ Deliver 4 ∷ Deliver 5 ∷ [])

-- replica 0 has answered 1, and then lost its memory too
abbrev pub answer_under_way : {C : Type 0} → List (Event C × Completion)
answer_under_way = all_done (Crash 1 ∷ Restart 1 7 ∷ Deliver 0 ∷ Crash 0 ∷ Restart 0 5 ∷ [])

-- replica 1 is handed that answer, and one of replica 2
abbrev pub is_handed : {C : Type 0} → List (Event C × Completion)
is_handed = all_done (Deliver 2 ∷ Deliver 1 ∷ Deliver 5 ∷ [])

pub record WorkedColdStarts {C A : Type 0} (answer : List C → A) (a b : C) : Type 0 where
  -- replicas 1 and 2 are frozen: the request that comes behind is in the log of 0, and stays uncommitted
  pub steps : first_refusal 1 answer 0 (memory_lost a ++ goes_on b) start ≡ None
  pub frozen : AreFrozen 1 answer (memory_lost a) (goes_on b) (λ i. not (i == 0)) (put (λ i. 7) 2 9)
  pub in_log : ((behind 1 answer (memory_lost a) (goes_on b) 8).replicas 0).log ≡ request 0 a ∷ request 1 b ∷ []
  pub uncommitted : (behind 1 answer (memory_lost a) (goes_on b) 8).order ≡ []
  pub answered_anew : is_some (((behind 1 answer (memory_lost a) (goes_on b) 8).replicas 1).responses 0) ≡ true
  pub still_out : (is_recovering ((behind 1 answer (memory_lost a) (goes_on b) 8).replicas 1).status ≡ true)
      × (is_recovering ((behind 1 answer (memory_lost a) (goes_on b) 8).replicas 2).status ≡ true)
  -- f in place of f+1: a request that was in no log is committed behind it
  pub too_few : AreOutUnanswered 1 answer one_lost (others_commit a) 1 (λ i. i == 1) (λ i. 7)
  pub in_no_log : IsInNoLog 1 answer one_lost (request 0 a)
  pub too_few_shows : IsNeverCommitted 1 answer one_lost (others_commit a) (request 0 a) → ⊥
  -- an answer that was under way is handed over: of f+1 that recover one is normal behind it
  pub recover : RecoversUnder ((world 1 answer answer_under_way).replicas 0) 5
      × RecoversUnder ((world 1 answer answer_under_way).replicas 1) 7
  pub handed : HandsAnswer (world 1 answer answer_under_way) (Deliver 2) 1 7
  pub handed_shows : is_normal ((behind 1 answer answer_under_way is_handed 3).replicas 1).status ≡ true
