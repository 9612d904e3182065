-- Two ends of a connection that meet: what each accepts of the other.
use Rattle.std.specs.Prelude.{◌≡◌, ℕ, ◌==◌, ◌||◌, not, List, [], ◌++◌, bytes_eq, if◌then◌else◌}
use Rattle.std.specs.Prelude.{Option, Some, None, Result, Ok, Err}
use Rattle.net_keys.specs.Hmac.{hmac}
use Rattle.net_keys.specs.Keys.{key_named, pair_key}
use Rattle.net_keys.specs.Challenges.{challenge_bytes}
use Rattle.net_keys.specs.Sealing.{sum_of}
use Rattle.net_keys.specs.declared.key.Key.{Key}
use Rattle.net_keys.specs.declared.keys.Keys.{Keys}
use Rattle.net_keys.specs.declared.challenge.Challenge.{Challenge}
use Rattle.net_keys.specs.declared.challenge.ChallengeFault.{ChallengeFault}
use Rattle.net_keys.specs.declared.challenge.ChallengeFault.TheVariants.{OwnChallenge, OtherMachine, OwnMachine}
use Rattle.net_keys.specs.declared.challenge.ChallengeFault.TheVariants.{OtherKey, Forged}
use Rattle.net_keys.specs.declared.sealing.Side.TheVariants.{Dialler, Listener}
use Rattle.net_keys.specs.declared.meeting.Ends.{Ends}
use Rattle.net_keys.specs.declared.meeting.Dialled.{Dialled}
use Rattle.net_keys.specs.declared.meeting.Answered.{Answered}

-- what tells one connection from another: both challenges, that of the end which dialled first
abbrev pub terms_of : Challenge → Challenge → List ℕ
terms_of dialler listener = challenge_bytes dialler ++ challenge_bytes listener

-- the key of a connection, by the key of its two machines
abbrev pub connection_key : List ℕ → Challenge → Challenge → List ℕ
connection_key pair dialler listener = hmac pair (terms_of dialler listener)

-- ---- the end that dials

-- how a challenge is judged that comes as the answer to one's own; the first reason to refuse it is told
abbrev pub judged_answer : Challenge → Challenge → Result (Unit {0}) ChallengeFault
judged_answer own answer = if bytes_eq answer.nonce own.nonce then Err OwnChallenge
    else (if not (answer.from == own.to) || not (answer.to == own.from) then Err OtherMachine
    else (if not (bytes_eq answer.key own.key) then Err OtherKey else Ok tt))

-- The machine that was dialled is met: its challenge is of that machine, to this one, under this key, with a nonce of
-- its own, and its first record, number 0 with no body, has the sum that only the key makes, of just these two
-- challenges. From now on this end seals from number 0 on, and opens from number 1 on.
pub record MeetsListener (d : Dialled) (answer : Challenge) (sum : List ℕ) (ends : Ends) : Type 0 where
  pub judged : judged_answer d.own answer ≡ Ok tt
  pub proved : sum ≡ sum_of (connection_key d.pair d.own answer) Listener 0 []
  pub sealer : ends.sealer ≡ record { key = connection_key d.pair d.own answer; side = Dialler; next = 0 }
  pub opener : ends.opener ≡ record { key = connection_key d.pair d.own answer; side = Listener; next = 1 }

-- it's refused for the first reason that its challenge has, or else for its sum
abbrev pub RefusesListener : Dialled → Challenge → List ℕ → ChallengeFault → Type 0
RefusesListener d answer sum Forged = (judged_answer d.own answer ≡ Ok tt)
    × (sum ≡ sum_of (connection_key d.pair d.own answer) Listener 0 [] → ⊥)
RefusesListener d answer sum fault = judged_answer d.own answer ≡ Err fault

-- ---- the end that listens

abbrev pub key_or_none : Option Key → Result Key ChallengeFault
key_or_none None = Err OtherKey
key_or_none (Some key) = Ok key

-- how the challenge of an end that dialled is judged by the machine of this number, where this nonce was drawn
abbrev pub judged_challenge : Keys → ℕ → Challenge → List ℕ → Result Key ChallengeFault
judged_challenge keys own challenge nonce = if bytes_eq challenge.nonce nonce then Err OwnChallenge
    else (if not (challenge.to == own) then Err OtherMachine
    else (if challenge.from == own then Err OwnMachine else key_or_none (key_named keys challenge.key)))

-- what a machine answers
abbrev pub answer_of : ℕ → Challenge → List ℕ → Challenge
answer_of own challenge nonce = record { from = own; to = challenge.from; key = challenge.key; nonce = nonce }

-- A challenge is answered by the key that it names: with both challenges that makes the key of the connection.
pub record HasAnswered (keys : Keys) (own : ℕ) (challenge : Challenge) (nonce : List ℕ) (answered : Answered)
    : Type 0 where
  pub key : Key
  pub judged : judged_challenge keys own challenge nonce ≡ Ok key
  pub answered_is : answered ≡ record {
    own = answer_of own challenge nonce;
    key = connection_key (pair_key key challenge.from own) challenge (answer_of own challenge nonce);
  }

-- The machine that dialled is met: its first record, number 0 with this body, has the sum that only the key makes, of
-- just these two challenges. From now on this end opens from number 1 on, and seals from number 1 on: its own first
-- record went with the answer.
pub record MeetsDialler (a : Answered) (body sum : List ℕ) (ends : Ends) : Type 0 where
  pub proved : sum ≡ sum_of a.key Dialler 0 body
  pub sealer : ends.sealer ≡ record { key = a.key; side = Listener; next = 1 }
  pub opener : ends.opener ≡ record { key = a.key; side = Dialler; next = 1 }
