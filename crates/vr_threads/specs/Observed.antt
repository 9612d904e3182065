-- What a restart did, as an observation or none that goes on from whatever is known of the replica; lists of these.
use Rattle.std.specs.Prelude.{◌≡◌, ℕ, List, [], ◌∷◌, ◌++◌, Option, IfSome, option_to_list}
use Rattle.il_model.specs.declared.command.Command.{Command}
use Rattle.il_model.specs.declared.command.Answer.{Answer}
use Rattle.vr_model.specs.declared.message.Message as code
use Rattle.vr_model.specs.Membership.{Membership}
use Rattle.vr_model.specs.Messages.{Message}
use Rattle.vr_model.specs.Stores.{Observation, Did, LostStep, LostSave, Crashed, CameUp, StayedDown, KnownState}
use Rattle.vr_model.specs.Stores.{AreObservations, last_known_state, next}
use Rattle.vr_model.specs.StandsFor.{AllStandFrom}
use Rattle.vr_core.specs.StandsFor.{IsSavedAs}
use Rattle.vr_replica.specs.declared.state.Replica.{Replica}
use Rattle.vr_replica.specs.Standing.{StandsFor}

abbrev pub said : Observation Command Answer → List (Message Command Answer)
said (Did x sends) = sends
said (LostStep x) = []
said (LostSave x) = []
said Crashed = []
said (CameUp n loaded sends) = sends
said (StayedDown n) = []

-- it came up with this nonce, or stayed down for want of memory
abbrev pub IsRestartWith : ℕ → Observation Command Answer → Type 0
IsRestartWith nonce (Did x sends) = ⊥
IsRestartWith nonce (LostStep x) = ⊥
IsRestartWith nonce (LostSave x) = ⊥
IsRestartWith nonce Crashed = ⊥
IsRestartWith nonce (CameUp n loaded sends) = n ≡ nonce
IsRestartWith nonce (StayedDown n) = n ≡ nonce

-- In order, what was sent at each observation stands for what it says, by who the replica is then.
abbrev pub AllSaid : Membership → KnownState Command → List (Observation Command Answer) → List code.Message → Type 0
AllSaid m k [] out = out ≡ []
AllSaid m k (g ∷ gs) out =
    let now : KnownState Command = next m.f m.number m.answer k g in
    (first : List code.Message) × (rest : List code.Message) × AllStandFrom IsSavedAs m.group now.replica first (said g)
    × AllSaid m now gs rest × (out ≡ first ++ rest)

module _ (m : Membership) (k : KnownState Command) where
  abbrev pub AreRight : List (Observation Command Answer) → Type 0
  AreRight gs = AreObservations m.f m.number m.answer k gs

  abbrev pub known_after : List (Observation Command Answer) → KnownState Command
  known_after gs = last_known_state m.f m.number m.answer k gs

  -- A restart with this nonce shows as one observation or none, right by the rules from what was known; the replica
  -- stands for where that ends, and sent what it says. None: its store failed, and nothing happened.
  pub record Restarted (nonce : ℕ) (end : Replica) (out : List code.Message) : Type 0 where
    pub shown : Option (Observation Command Answer)
    pub of_nonce : IfSome shown (IsRestartWith nonce)
    pub right : AreRight (option_to_list shown)
    pub stands : StandsFor end m (known_after (option_to_list shown)).replica
    pub sends : AllSaid m k (option_to_list shown) out
