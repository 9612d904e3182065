-- What a log says of its clients, and how a table of clients keeps it.
use Rattle.std.specs.Prelude.{◌≡◌, ℕ, ◌<◌, List, ◌++◌, length, Option, Some, None, slice_index_or, if◌then◌else◌, map}
use Rattle.std.specs.Option.{option_map}
use Rattle.il_model.specs.declared.command.Command.{Command}
use Rattle.il_model.specs.declared.command.Answer.{Answer}
use Rattle.vr_model.specs.declared.log.Executed.{Executed}
use Rattle.vr_model.specs.Groups.{client_count}
use Rattle.vr_model.specs.Logs.{Request, last_number, greater, is_above}
pub use Rattle.vr_model.specs.Checkpoints.{executed_with, last_executed}
use Rattle.vr_clients.specs.declared.clients.Client.{Client}

abbrev pub no_client : Client
no_client = record { last_number = None; executed = None }

abbrev pub client_at : List Client → ℕ → Client
client_at table c = slice_index_or table c no_client

-- one more number of the client is in the log
abbrev pub noted : Client → ℕ → Client
noted k number = record k { last_number = greater (k.last_number) (Some number) }

abbrev pub number_of : Option Executed → Option ℕ
number_of e = option_map (λ (x : Executed). x.number) e

-- one more request of the client was executed
abbrev pub answered : Client → ℕ → Answer → Client
answered k number answer =
    let e : Executed = record { number = number; answer = answer } in
    if is_above number (number_of k.executed) then record k { executed = Some e } else k

-- what is in the log and not executed is forgotten
abbrev pub only_executed : Client → Client
only_executed k = record k { last_number = number_of k.executed }

-- what was executed of the client and answered so, and nothing else, is known
abbrev pub restored : Option Executed → Client
restored e = record { last_number = number_of e; executed = e }

-- the clients' last numbers in the log are known
pub record KnowsNumbers (clients : List Client) (log : List (Request Command)) : Type 0 where
  pub whole : length clients ≡ client_count
  pub numbers : (c : ℕ) → c < client_count → (client_at clients c).last_number ≡ last_number log c

-- a table that knew a log knows it now with these requests behind it; what was executed is as it was
pub record KnowsMore (old : List Client) (requests : List (Request Command)) (new : List Client) : Type 0 where
  pub size : length new ≡ length old
  pub numbers : (log : List (Request Command)) → KnowsNumbers old log → KnowsNumbers new (log ++ requests)
  pub executed : (c : ℕ) → c < length old → (client_at new c).executed ≡ (client_at old c).executed

-- ---- what the table tells a checkpoint

-- of each client the last request that was executed, with its answer
abbrev pub answers_of : List Client → List (Option Executed)
answers_of table = map (λ (k : Client). k.executed) table
