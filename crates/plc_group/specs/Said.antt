-- The group that a table says.
use Rattle.std.specs.Prelude.{◌≡◌, ℕ, ◌+◌, Bool, false, Option, Some, option_map, unwrap_or, string_bytes, String}
use Rattle.std.specs.Global.{Global}
use Rattle.toml.specs.Data.{Members, as_bool}
use Rattle.net_addresses.specs.declared.clients.Clients.{Clients}
use Rattle.plc_group.specs.declared.group.ColdStart.TheVariants.{Auto}
use Rattle.plc_group.specs.declared.group.Group.{Group}
use Rattle.plc_group.specs.declared.group.Times.{Times}
use Rattle.plc_group.specs.declared.key.Key.TheVariants as keys
use Rattle.plc_group.specs.declared.key.TheConstants.{PERIODS, BUDGETS, DISTANCES, PATIENCES, RESENDS}
use Rattle.plc_group.specs.declared.key.TheConstants.{FRESHNESSES, IDLES}
use Rattle.plc_group.specs.declared.reading.Settings.{Settings}
use Rattle.plc_group.specs.Values.{value_at, number_or, name_of, identity_of, cold_start_of, console_key_of}
use Rattle.plc_group.specs.Values.{path_of, machines_said, networks_of, usual_resend}

-- outputs are shown for a period and 40 ms, where nothing is said
abbrev pub SaysTimes : Members → ℕ → Times → Type 0
SaysTimes table period times = (times.patience ≡ number_or 100 PATIENCES keys.Patience table)
    × (times.resend ≡ number_or (usual_resend times.patience) RESENDS keys.Resend table)
    × (times.fresh ≡ number_or (period + 40) FRESHNESSES keys.Fresh table)
    × (times.idle ≡ number_or 300 IDLES keys.Idle table)

-- the texts of consoles
abbrev pub SaysConsoles : Members → Option (String Global) → Option (String Global) → Type 0
SaysConsoles table key sockets = (value_at console_key_of keys.ConsoleKey table ≡ option_map string_bytes key)
    × (value_at path_of keys.ConsoleSockets table ≡ option_map string_bytes sockets)

-- the file of the key, and whether there's leave to do without one
abbrev pub SaysKey : Members → Option (String Global) → Bool → Type 0
SaysKey table file insecure = (value_at path_of keys.KeyFile table ≡ option_map string_bytes file)
    × (insecure ≡ unwrap_or (value_at as_bool keys.Insecure table) false)

-- who may be a Modbus client, and who of them may only read
abbrev pub SaysClients : Members → Clients → Type 0
SaysClients table clients = (value_at networks_of keys.ModbusAllow table ≡ option_map (λ n. n.networks.items) clients.allowed)
    × (value_at networks_of keys.ModbusReadOnly table ≡ option_map (λ n. n.networks.items) clients.readers)

-- what the table says of the whole group
pub record SaysSettings (table : Members) (settings : Settings) : Type 0 where
  pub name : value_at name_of keys.Name table ≡ Some (string_bytes settings.name)
  pub period : settings.period ≡ number_or 100 PERIODS keys.Period table
  pub budget : settings.budget.instructions ≡ number_or 10000 BUDGETS keys.Budget table
  pub every : settings.every ≡ number_or 64 DISTANCES keys.Every table
  pub times : SaysTimes table settings.period settings.times
  pub cold_start : settings.cold_start ≡ unwrap_or (value_at cold_start_of keys.ColdStart table) Auto
  pub consoles : SaysConsoles table settings.console_key settings.console_sockets
  pub key : SaysKey table settings.key_file settings.is_insecure
  pub clients : SaysClients table settings.clients

-- the table says this group
pub record Says (table : Members) (group : Group) : Type 0 where
  pub name : value_at name_of keys.Name table ≡ Some (string_bytes group.name)
  pub identity : value_at identity_of keys.Identity table ≡ Some group.identity
  pub period : group.period ≡ number_or 100 PERIODS keys.Period table
  pub budget : group.budget.instructions ≡ number_or 10000 BUDGETS keys.Budget table
  pub every : group.config.every ≡ number_or 64 DISTANCES keys.Every table
  pub times : SaysTimes table group.period group.times
  pub cold_start : group.cold_start ≡ unwrap_or (value_at cold_start_of keys.ColdStart table) Auto
  pub consoles : SaysConsoles table group.console_key group.console_sockets
  pub key : SaysKey table group.key_file group.is_insecure
  pub clients : SaysClients table group.clients
  pub machines : machines_said table ≡ Some group.machines.items
