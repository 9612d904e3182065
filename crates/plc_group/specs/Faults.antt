-- The faults of a group file, in their order: keys that no group has, then what stands at the other keys, as `Key` has
-- them, then machine by machine, the addresses that stand twice, consoles that are two things at once, replicas that
-- others reach without a key, and at last an identity that's missing. The first of them is told.
use Rattle.std.specs.Prelude.{◌≡◌, ℕ, ◌+◌, ◌/◌, ◌&&◌, ◌||◌, is_some, nat_lt, Bool, false, not, List, [], ◌∷◌, ◌++◌, map, filter, bytes_eq, Option, Some, None}
use Rattle.std.specs.Prelude.{Result, Ok, Err, unwrap_or, string_bytes, IsUtf8, if◌then◌else◌}
use Rattle.std.specs.List.{flat_map, enumerate_from, list_any}
use Rattle.std.specs.declared.net.socket_addr.SocketAddr.{SocketAddr}
use Rattle.std.specs.declared.net.socket_addr.SocketAddr.TheVariants.{V4, V6}
use Rattle.toml.specs.Data.{Data, table}
use Rattle.toml.specs.Data.{Members, no_members, member, get_member, as_bool}
use Rattle.toml.specs.Parse.{parse_document}
use Rattle.plc_group.specs.declared.fault.GroupFault.{GroupFault}
use Rattle.plc_group.specs.declared.fault.GroupFault.TheVariants as told
use Rattle.plc_group.specs.declared.fault.Why.{Why}
use Rattle.plc_group.specs.declared.fault.Why.TheVariants.{Missing, Refused, Twice, BelowPeriod}
use Rattle.plc_group.specs.declared.fault.Why.TheVariants.{AbovePatience, Everywhere, BesidePorts, WithoutKey}
use Rattle.plc_group.specs.declared.group.Machine.{Machine}
use Rattle.plc_group.specs.declared.key.Key.{Key}
use Rattle.plc_group.specs.declared.machines.Place.{Place}
use Rattle.plc_group.specs.declared.key.Key.TheVariants as keys
use Rattle.plc_group.specs.declared.key.TheConstants.{GROUP_KEYS, MACHINE_KEYS, PERIODS, BUDGETS}
use Rattle.plc_group.specs.declared.key.TheConstants.{DISTANCES, PATIENCES, RESENDS, FRESHNESSES, IDLES}
use Rattle.plc_group.specs.Values.{word_of, is_among, number_in, number_or, name_of, cold_start_of, address_of}
use Rattle.plc_group.specs.Values.{machines_of, machine_of, all_of, console_key_of, path_of, identity_of, value_at}
use Rattle.plc_group.specs.Values.{networks_of}
use Rattle.plc_group.specs.Values.{is_loopback, machines_said, usual_resend}

-- a fault, with a machine's place in the file, from 0, where it's one of a machine
pub data Fault : Type 0 where
  Unknown : (machine : Option ℕ) (key : List ℕ) → Fault
  At : (machine : Option ℕ) (key : Key) (why : Why) → Fault

-- ---- keys that no group has

abbrev pub keys_in : Members → List (List ℕ)
keys_in no_members = []
keys_in (member k d more) = k ∷ keys_in more

abbrev pub is_unknown : List Key → List ℕ → Bool
is_unknown known word = not (is_among known word)

abbrev pub unknown_faults : Option ℕ → List Key → Members → List Fault
unknown_faults machine known members = map (Unknown machine) (filter (is_unknown known) (keys_in members))

-- ---- what stands at a key

abbrev pub unread : {A : Type 0} → Option ℕ → Key → Option A → List Fault
unread machine key (Some x) = []
unread machine key None = At machine key Refused ∷ []

-- what stands there, if anything does, is read so
abbrev pub wanted : {A : Type 0} → (Data → Option A) → Option ℕ → Key → Option Data → List Fault
wanted read machine key None = []
wanted read machine key (Some d) = unread machine key (read d)

-- something stands there, and is read so
abbrev pub needed : {A : Type 0} → (Data → Option A) → Option ℕ → Key → Option Data → List Fault
needed read machine key None = At machine key Missing ∷ []
needed read machine key (Some d) = unread machine key (read d)

abbrev pub wanted_faults : {A : Type 0} → (Data → Option A) → Option ℕ → Key → Members → List Fault
wanted_faults read machine key members = wanted read machine key (get_member (word_of key) members)

abbrev pub needed_faults : {A : Type 0} → (Data → Option A) → Option ℕ → Key → Members → List Fault
needed_faults read machine key members = needed read machine key (get_member (word_of key) members)

-- what is sent again later than a fifth of the patience would be missed
abbrev pub late_faults : ℕ → ℕ → List Fault
late_faults patience resend = if nat_lt (patience / 5) resend then At None keys.Resend AbovePatience ∷ [] else []

abbrev pub resend_faults : ℕ → Members → List Fault
resend_faults patience members = wanted_faults (number_in RESENDS) None keys.Resend members
    ++ late_faults patience (number_or (usual_resend patience) RESENDS keys.Resend members)

-- what is shown for less than a period and 20 ms would come and go with each scan
abbrev pub short_faults : ℕ → ℕ → List Fault
short_faults period fresh = if nat_lt fresh (period + 20) then At None keys.Fresh BelowPeriod ∷ [] else []

abbrev pub fresh_faults : ℕ → Members → List Fault
fresh_faults period members = wanted_faults (number_in FRESHNESSES) None keys.Fresh members
    ++ short_faults period (number_or (period + 40) FRESHNESSES keys.Fresh members)

-- with this period
abbrev pub times_faults : ℕ → Members → List Fault
times_faults period members = wanted_faults (number_in PATIENCES) None keys.Patience members
    ++ (resend_faults (number_or 100 PATIENCES keys.Patience members) members
    ++ (fresh_faults period members ++ wanted_faults (number_in IDLES) None keys.Idle members))

-- ---- machines

-- 0.0.0.0, or ::
abbrev pub is_everywhere : SocketAddr → Bool
is_everywhere (V4 a) = bytes_eq a.ip.octets (0 ∷ 0 ∷ 0 ∷ 0 ∷ [])
is_everywhere (V6 a) = bytes_eq a.ip.segments (0 ∷ 0 ∷ 0 ∷ 0 ∷ 0 ∷ 0 ∷ 0 ∷ 0 ∷ [])

-- an address by which others reach a machine is one of its own
abbrev pub everywhere_faults : ℕ → Key → Option SocketAddr → List Fault
everywhere_faults i key None = []
everywhere_faults i key (Some address) = if is_everywhere address then At (Some i) key Everywhere ∷ [] else []

abbrev pub replica_faults : ℕ → Members → List Fault
replica_faults i members = needed_faults address_of (Some i) keys.Replica members
    ++ everywhere_faults i keys.Replica (value_at address_of keys.Replica members)

abbrev pub status_faults : ℕ → Members → List Fault
status_faults i members = wanted_faults address_of (Some i) keys.Status members
    ++ everywhere_faults i keys.Status (value_at address_of keys.Status members)

abbrev pub addresses_faults : ℕ → Members → List Fault
addresses_faults i members = replica_faults i members
    ++ (needed_faults address_of (Some i) keys.Modbus members
    ++ (wanted_faults address_of (Some i) keys.ModbusRead members
    ++ (wanted_faults address_of (Some i) keys.Console members ++ status_faults i members)))

-- those of the machine at place i
abbrev pub machine_faults : ℕ → Data → List Fault
machine_faults i (table members) = unknown_faults (Some i) MACHINE_KEYS members ++ addresses_faults i members
machine_faults i d = At (Some i) keys.Machine Refused ∷ []

abbrev pub each_faults : List Data → List Fault
each_faults ds = flat_map (λ p. machine_faults p.0 p.1) (enumerate_from 0 ds)

-- ---- addresses that stand twice

abbrev pub place_at : ℕ → Key → SocketAddr → Place
place_at i key address = record { machine = i; key = key; address = address }

abbrev pub wanted_place : ℕ → Key → Option SocketAddr → List Place
wanted_place i key None = []
wanted_place i key (Some address) = place_at i key address ∷ []

abbrev pub places_of : ℕ → Machine → List Place
places_of i machine = place_at i keys.Replica machine.replica ∷ (place_at i keys.Modbus machine.modbus
    ∷ (wanted_place i keys.ModbusRead machine.modbus_read
    ++ (wanted_place i keys.Console machine.console ++ wanted_place i keys.Status machine.status)))

abbrev pub places_in : List Machine → List Place
places_in machines = flat_map (λ p. places_of p.0 p.1) (enumerate_from 0 machines)

-- an address as numbers
abbrev pub numbers_of : SocketAddr → List ℕ
numbers_of (V4 a) = 4 ∷ (a.port ∷ a.ip.octets)
numbers_of (V6 a) = 6 ∷ (a.port ∷ (a.flowinfo ∷ (a.scope_id ∷ a.ip.segments)))

abbrev pub is_same : SocketAddr → SocketAddr → Bool
is_same a b = bytes_eq (numbers_of a) (numbers_of b)

-- the address of a place stands at one of these too
abbrev pub stands_in : List Place → Place → Bool
stands_in before place = list_any (λ earlier. is_same earlier.address place.address) before

abbrev pub again : Place → Fault
again place = At (Some place.machine) place.key Twice

-- each place whose address stands before it, after these
abbrev pub twice_after : List Place → List Place → List Fault
twice_after before [] = []
twice_after before (place ∷ more) =
    (if stands_in before place then again place ∷ [] else []) ++ twice_after (before ++ place ∷ []) more

abbrev pub twice_faults : List Machine → List Fault
twice_faults machines = twice_after [] (places_in machines)

-- ---- the whole

abbrev pub machines_list : Option (List Data) → List Fault
machines_list None = At None keys.Machine Refused ∷ []
machines_list (Some ds) = each_faults ds ++ twice_faults (unwrap_or (all_of machine_of ds) [])

abbrev pub machines_at : Option Data → List Fault
machines_at None = At None keys.Machine Missing ∷ []
machines_at (Some d) = machines_list (machines_of d)

abbrev pub machines_faults : Members → List Fault
machines_faults members = machines_at (get_member (word_of keys.Machine) members)

-- the lists of Modbus clients
abbrev pub clients_faults : Members → List Fault
clients_faults members = wanted_faults networks_of None keys.ModbusAllow members
    ++ wanted_faults networks_of None keys.ModbusReadOnly members

-- the file of the key, the leave to do without one, and who may be a client
abbrev pub access_faults : Members → List Fault
access_faults members = wanted_faults path_of None keys.KeyFile members
    ++ (wanted_faults as_bool None keys.Insecure members ++ clients_faults members)

-- what is wrong at the keys of the group, its machines apart
abbrev pub settings_faults : Members → List Fault
settings_faults members = needed_faults name_of None keys.Name members
    ++ (wanted_faults (number_in PERIODS) None keys.Period members
    ++ (wanted_faults (number_in BUDGETS) None keys.Budget members
    ++ (wanted_faults (number_in DISTANCES) None keys.Every members
    ++ (times_faults (number_or 100 PERIODS keys.Period members) members
    ++ (wanted_faults cold_start_of None keys.ColdStart members
    ++ (wanted_faults console_key_of None keys.ConsoleKey members
    ++ (wanted_faults path_of None keys.ConsoleSockets members ++ access_faults members)))))))

abbrev pub has_console : Machine → Bool
has_console machine = is_some machine.console

-- sockets for consoles beside a console at a port
abbrev pub beside_faults : Bool → List Machine → List Fault
beside_faults has_sockets machines =
    if has_sockets && list_any has_console machines then At None keys.ConsoleSockets BesidePorts ∷ [] else []

abbrev pub consoles_faults : Members → List Fault
consoles_faults members = beside_faults (is_some (value_at path_of keys.ConsoleSockets members))
    (unwrap_or (machines_said members) [])

-- others than a machine reach its replica
abbrev pub is_reached : Machine → Bool
is_reached machine = not (is_loopback machine.replica)

abbrev pub exposed_faults : ℕ → Machine → List Fault
exposed_faults i machine = if is_reached machine then At (Some i) keys.Replica WithoutKey ∷ [] else []

-- those of a group that may have such replicas, or not
abbrev pub all_exposed_faults : Bool → List Machine → List Fault
all_exposed_faults may_be machines =
    if may_be then [] else flat_map (λ p. exposed_faults p.0 p.1) (enumerate_from 0 machines)

-- a group may have such replicas if it has a key, or leave to do without one
abbrev pub may_be_exposed : Members → Bool
may_be_exposed members = is_some (value_at path_of keys.KeyFile members)
    || unwrap_or (value_at as_bool keys.Insecure members) false

abbrev pub replicas_faults : Members → List Fault
replicas_faults members = all_exposed_faults (may_be_exposed members) (unwrap_or (machines_said members) [])

-- of what is good otherwise, that it has no identity
abbrev pub identity_faults : Members → List Fault
identity_faults members = needed_faults identity_of None keys.Identity members

abbrev pub faults_of : Members → List Fault
faults_of members = unknown_faults None GROUP_KEYS members ++ (settings_faults members
    ++ (machines_faults members ++ (consoles_faults members ++ (replicas_faults members ++ identity_faults members))))

-- ---- which is told

abbrev pub first : {A : Type 0} → List A → Option A
first [] = None
first (x ∷ xs) = Some x

-- a fault that is told is the first of these; want of memory is no fault of the file
abbrev pub IsFirst : List Fault → GroupFault → Type 0
IsFirst faults (told.Toml line column) = ⊥
IsFirst faults (told.Unknown machine key) = first faults ≡ Some (Unknown machine (string_bytes key))
IsFirst faults (told.At machine key why) = first faults ≡ Some (At machine key why)
IsFirst faults told.Memory = Unit {0}

-- there are no faults, and the value is this; or the first of them is told
abbrev pub Judges : {A : Type 0} → List Fault → (A → Type 0) → Result A GroupFault → Type 0
Judges faults Is (Ok x) = (faults ≡ []) × Is x
Judges faults Is (Err fault) = IsFirst faults fault

-- the bytes are this table
abbrev pub IsTable : List ℕ → Members → Type 0
IsTable bytes members = IsUtf8 bytes × (parse_document bytes ≡ Some members)

-- the file's first fault: it's no TOML, or the first of its table's
abbrev pub IsFileFault : List ℕ → GroupFault → Type 0
IsFileFault bytes (told.Toml line column) = IsUtf8 bytes → parse_document bytes ≡ None
IsFileFault bytes told.Memory = Unit {0}
IsFileFault bytes fault = (members : Members) × IsTable bytes members × IsFirst (faults_of members) fault
