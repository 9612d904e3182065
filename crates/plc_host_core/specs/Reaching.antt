-- What reaches the replica of a host.
use Rattle.std.specs.Prelude.{Bool, true, false, ◌&&◌, not, ℕ, Option, Some, None}
use Rattle.vr_model.specs.declared.message.Body.{Body}
use Rattle.vr_model.specs.declared.message.Body.TheVariants as bodies
use Rattle.vr_model.specs.declared.message.Message.{Message}
use Rattle.vr_model.specs.declared.message.Party.{Party}
use Rattle.vr_model.specs.declared.message.Party.TheVariants as parties
use Rattle.plc_epochs.specs.declared.cold_start.Phase.{Phase}
use Rattle.plc_epochs.specs.Table.{recovers_in, takes_answers_in}

abbrev pub is_answer_in : Body → Bool
is_answer_in (bodies.RecoveryResponse view nonce state) = true
is_answer_in body = false

-- an answer to a RECOVERY
abbrev pub is_answer : Message → Bool
is_answer message = is_answer_in message.body

-- its replica recovers, and takes no answer: whatever comes then is too late for what it asked under its nonce
abbrev pub is_frozen : Phase → Bool
is_frozen phase = recovers_in phase && not (takes_answers_in phase)

-- no answer reaches a replica that is frozen; all else reaches it
abbrev pub lets_through : Phase → Message → Bool
lets_through phase message = not (is_frozen phase && is_answer message)

abbrev pub replica_in : Party → Option ℕ
replica_in (parties.Replica number) = Some number
replica_in (parties.Client client) = None

abbrev pub recovering_by : Body → Party → Option ℕ
recovering_by (bodies.Recovery nonce view) from = replica_in from
recovering_by body from = None

-- the replica whose RECOVERY it is, if it's one
abbrev pub recovering_in : Message → Option ℕ
recovering_in message = recovering_by message.body message.from
