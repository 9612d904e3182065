-- One history, said of what clients did alone: no rule and no replica stands below it.
use Rattle.std.specs.Prelude.{◌≡◌, ℕ, suc, ◌<◌, ◌≤◌, List, [], ◌∷◌, length, take, Some, slice_get}
use Rattle.vr_model.specs.Choices.{commands}
use Rattle.vr_model.specs.Interleaving.{Move, OfReplica, OfClient, submitted_in}
use Rattle.vr_model.specs.Logs.{Request}
use Rattle.vr_model.specs.Messages.{Message, Party, Reply}
use Rattle.vr_model.specs.Steps.{ClientStep, Hears}

-- the list has this request at this place
abbrev pub Has : {C : Type 0} → List (Request C) → ℕ → Request C → Type 0
Has order place m = slice_get order place ≡ Some m

module _ {C A : Type 0} where
  -- what clients did, in order: each step with the number of its client
  abbrev pub clients_of : List (Move C A) → List (ℕ × ClientStep C A)
  clients_of [] = []
  clients_of (OfReplica i s place ∷ ms) = clients_of ms
  clients_of (OfClient c d place ∷ ms) = (c, d) ∷ clients_of ms

  -- by one of the steps its client submitted the request, when the list had not yet come to this place
  pub record WasSubmitted (did : List (ℕ × ClientStep C A)) (had : ℕ → ℕ) (place : ℕ) (m : Request C) : Type 0 where
    pub at : ℕ
    pub client_step : ClientStep C A
    pub is : slice_get did at ≡ Some (m.client, client_step)
    pub submits : submitted_in client_step.action client_step.sends ≡ m ∷ []
    pub before : had at ≤ place

  -- The answer is that to the request of this client and number: what the commands up to its place give. The list had
  -- come to that place when the client heard it.
  pub record IsAnswered (answer : List C → A) (order : List (Request C)) (had : ℕ → ℕ) (at client number : ℕ) (a : A)
      : Type 0 where
    pub place : ℕ
    pub request : Request C
    pub entry : Has order place request
    pub client_is : request.client ≡ client
    pub number_is : request.number ≡ number
    pub answer_is : a ≡ answer (commands (take (suc place) order))
    pub below : place < had at

  -- There is one list of requests, and it only grows.
  pub record IsHistoryOf (answer : List C → A) (did : List (ℕ × ClientStep C A)) : Type 0 where
    pub order : List (Request C)
    -- before step number e it had this length
    pub had : ℕ → ℕ
    pub grows : (d e : ℕ) → d ≤ e → had d ≤ had e
    pub within : (e : ℕ) → had e ≤ length order
    -- each request in it was submitted, and not put there before
    pub submitted : (place : ℕ) (m : Request C) → Has order place m → WasSubmitted did had place m
    -- each stands there once, and a client's in rising order
    pub rising : (p q : ℕ) (m n : Request C) → p < q → Has order p m → Has order q n → m.client ≡ n.client
        → m.number < n.number
    -- and each answer that a client heard is the one to its request
    pub answered : (at client view number : ℕ) (a : A) (from to : Party) (sends : List (Message C A))
        → slice_get did at
        ≡ Some
        (client, record { action = Hears (record { from = from; to = to; body = Reply view number a }); sends = sends })
        → IsAnswered answer order had at client number a
