-- Which client of the world a client of the code is, and what it owes.
use Rattle.std.specs.Prelude.{ℕ, zero, suc, ◌+◌, ◌^◌, nat_lt, List, [], ◌∷◌, ◌++◌, Option, None, option_map}
use Rattle.il_model.specs.declared.command.Command.{Command}
use Rattle.vr_schedules.specs.declared.client.Client.{Client}
use Rattle.vr_model.specs.World.{Reason, ClientState, is_free, require, WaitsOrNot, NumbersUsedUp}
use Rattle.vr_model.specs.StandsFor.{request_of}
use Rattle.vr_model.specs.declared.client.ClientNumber.{ClientNumber}
use Rattle.vr_model.specs.declared.message.Message as sent
use Rattle.vr_model.specs.declared.message.Request as asked
use Rattle.vr_model.specs.declared.message.Party.TheVariants as party
use Rattle.vr_model.specs.declared.message.Body.TheVariants as says

abbrev pub client_of : Client → ClientState Command
client_of k = record { starts = k.starts; sequence = k.sequence; view = k.view; waits = option_map request_of k.waits }

-- why a client that is in range can't submit
abbrev pub submit_refusal : ClientState Command → Option Reason
submit_refusal k = require (is_free k.waits) WaitsOrNot
    (require (nat_lt (k.sequence + 1) (2 ^ 32)) NumbersUsedUp None)

-- why it can't start again
abbrev pub restart_refusal : ClientState Command → Option Reason
restart_refusal k = require (nat_lt (k.starts + 1) (2 ^ 32)) NumbersUsedUp None

-- what a client is that has submitted nothing
abbrev pub fresh_client : Client
fresh_client = record { starts = 0; sequence = 0; view = 0; waits = None }

-- REQUEST of a client to a replica
abbrev pub request_to : ClientNumber → ℕ → asked.Request → sent.Message
request_to c i m = record { from = party.Client c; to = party.Replica i; body = says.Request m }

-- and to all below this one
abbrev pub requests_below : ClientNumber → ℕ → asked.Request → List sent.Message
requests_below c zero m = []
requests_below c (suc n) m = requests_below c n m ++ request_to c n m ∷ []
