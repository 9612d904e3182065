-- The keys of a group file, and what a value is read as: nothing, where the key doesn't take it.
use Rattle.std.specs.Prelude.{ℕ, Bool, true, false, List, bytes_eq, codes, ◌≡◌, ◌⊎◌, ◌==◌, ◌&&◌, ◌||◌, ℤ, pos, negsuc, [], ◌∷◌}
use Rattle.std.specs.Prelude.{length, Option, Some, None, option_and_then, option_map, nat_eq, nat_le, if◌then◌else◌}
use Rattle.std.specs.Prelude.{Result, Ok, Err, unwrap_or, nat_lt, ◌/◌, take}
use Rattle.std.specs.List.{list_any, list_all, starts_with}
use Rattle.std.specs.Result.{result_ok}
use Rattle.hex.specs.Hex.{decode_sized}
use Rattle.hex.specs.declared.error.FromHexError.{FromHexError}
use Rattle.std.specs.Net.Reader.{read_socket_v4, read_socket_v6, whole_value}
use Rattle.std.specs.Net.Socket.{socket_port}
use Rattle.std.specs.declared.net.ipv4_addr.Ipv4Addr.{Ipv4Addr}
use Rattle.std.specs.declared.net.ipv6_addr.Ipv6Addr.{Ipv6Addr}
use Rattle.std.specs.declared.net.socket_addr.SocketAddr.{SocketAddr}
use Rattle.std.specs.declared.net.socket_addr.SocketAddr.TheVariants.{V4, V6}
use Rattle.std.specs.declared.net.socket_addr.SocketAddrV4.{SocketAddrV4}
use Rattle.std.specs.declared.net.socket_addr.SocketAddrV6.{SocketAddrV6}
use Rattle.toml.specs.Data.{Data, Items, no_items, item, Members, get_member, as_integer, as_str, as_array, as_table}
use Rattle.net_addresses.specs.declared.network.Network.{Network}
use Rattle.net_addresses.specs.Texts.{with_text}
use Rattle.plc_group.specs.declared.key.Key.{Key}
use Rattle.plc_group.specs.declared.group.ColdStart.{ColdStart}
use Rattle.plc_group.specs.declared.group.ColdStart.TheVariants.{Auto, ByHand}
use Rattle.plc_group.specs.declared.group.Machine.{Machine}
use Rattle.plc_group.specs.declared.key.Range.{Range}
use Rattle.plc_group.specs.declared.key.Key.TheVariants as keys
use Rattle.plc_group.specs.declared.key.Sharing.{Sharing}
use Rattle.plc_group.specs.declared.key.Sharing.TheVariants as shared

-- ---- the words of the keys

abbrev pub word_of : Key → List ℕ
word_of keys.Name = codes "name"
word_of keys.Period = codes "period"
word_of keys.Budget = codes "budget"
word_of keys.Every = codes "every"
word_of keys.Patience = codes "patience"
word_of keys.Resend = codes "resend"
word_of keys.Fresh = codes "fresh"
word_of keys.Idle = codes "idle"
word_of keys.ColdStart = codes "cold_start"
word_of keys.ConsoleKey = codes "console_key"
word_of keys.ConsoleSockets = codes "console_sockets"
word_of keys.KeyFile = codes "key"
word_of keys.Insecure = codes "insecure"
word_of keys.ModbusAllow = codes "modbus_allow"
word_of keys.ModbusReadOnly = codes "modbus_read_only"
word_of keys.Machine = codes "machine"
word_of keys.Replica = codes "replica"
word_of keys.Modbus = codes "modbus"
word_of keys.ModbusRead = codes "modbus_read"
word_of keys.Console = codes "console"
word_of keys.Status = codes "status"
word_of keys.Identity = codes "identity"

-- What makes a group is as old as its stores. No two machines may show outputs for another time. All else is a
-- machine's own.
abbrev pub sharing_of : Key → Sharing
sharing_of keys.Name = shared.Store
sharing_of keys.Identity = shared.Store
sharing_of keys.Budget = shared.Store
sharing_of keys.Every = shared.Store
sharing_of keys.Machine = shared.Store
sharing_of keys.Fresh = shared.Group
sharing_of key = shared.Machine

-- the word is that of one of the keys
abbrev pub is_among : List Key → List ℕ → Bool
is_among keys word = list_any (λ key. bytes_eq (word_of key) word) keys

-- ---- values

infixl 10 ◌>>=◌
abbrev ◌>>=◌ : {A B : Type 0} → Option A → (A → Option B) → Option B
o >>= f = option_and_then f o

-- what a table has at a key, read so
abbrev pub value_at : {A : Type 0} → (Data → Option A) → Key → Members → Option A
value_at read key table = option_and_then read (get_member (word_of key) table)

-- ---- numbers

abbrev pub within : Range → ℤ → Option ℕ
within range (pos n) = if nat_le range.least n && nat_le n range.most then Some n else None
within range (negsuc n) = None

-- a whole number of this range
abbrev pub number_in : Range → Data → Option ℕ
number_in range d = option_and_then (within range) (as_integer d)

-- the number at a key, or the one that is taken where nothing stands there
abbrev pub number_or : ℕ → Range → Key → Members → ℕ
number_or default range key table = unwrap_or (value_at (number_in range) key table) default

-- what may have been lost is sent again behind 20 ms, or behind a fifth of the patience where that's less
abbrev pub usual_resend : ℕ → ℕ
usual_resend patience = if nat_lt (patience / 5) 20 then patience / 5 else 20

-- ---- texts

-- a byte of ASCII that is printed, and no space
abbrev pub is_visible : ℕ → Bool
is_visible byte = nat_le 33 byte && nat_le byte 126

-- from 1 to 64 visible bytes
abbrev pub is_name : List ℕ → Bool
is_name text = (nat_le 1 (length text) && nat_le (length text) 64) && list_all is_visible text

abbrev pub named : List ℕ → Option (List ℕ)
named text = if is_name text then Some text else None

abbrev pub name_of : Data → Option (List ℕ)
name_of d = option_and_then named (as_str d)

-- from 8 to 128 visible bytes
abbrev pub is_console_key : List ℕ → Bool
is_console_key text = (nat_le 8 (length text) && nat_le (length text) 128) && list_all is_visible text

abbrev pub console_key_in : List ℕ → Option (List ℕ)
console_key_in text = if is_console_key text then Some text else None

abbrev pub console_key_of : Data → Option (List ℕ)
console_key_of d = option_and_then console_key_in (as_str d)

-- a path from the root, of at most 90 visible bytes
abbrev pub is_path : List ℕ → Bool
is_path text = (starts_with nat_eq text (codes "/") && nat_le (length text) 90) && list_all is_visible text

abbrev pub path_in : List ℕ → Option (List ℕ)
path_in text = if is_path text then Some text else None

abbrev pub path_of : Data → Option (List ℕ)
path_of d = option_and_then path_in (as_str d)

abbrev pub read_well : Result (List ℕ) FromHexError → Option (List ℕ)
read_well (Ok bytes) = Some bytes
read_well (Err error) = None

-- sixteen bytes, as 32 hexadecimal digits
abbrev pub identity_in : List ℕ → Option (List ℕ)
identity_in text = read_well (decode_sized text 16)

abbrev pub identity_of : Data → Option (List ℕ)
identity_of d = option_and_then identity_in (as_str d)

abbrev pub cold_start_in : List ℕ → Option ColdStart
cold_start_in text = if bytes_eq text (codes "auto") then Some Auto
    else (if bytes_eq text (codes "by hand") then Some ByHand else None)

abbrev pub cold_start_of : Data → Option ColdStart
cold_start_of d = option_and_then cold_start_in (as_str d)

-- ---- addresses

-- 127.0.0.0/8, or ::1
abbrev pub is_loopback : SocketAddr → Bool
is_loopback (V4 a) = bytes_eq (take 1 a.ip.octets) (127 ∷ [])
is_loopback (V6 a) = bytes_eq a.ip.segments (0 ∷ 0 ∷ 0 ∷ 0 ∷ 0 ∷ 0 ∷ 0 ∷ 1 ∷ [])

abbrev pub v4_of : List ℕ × ℕ → SocketAddr
v4_of parts = let ip : Ipv4Addr = record { octets = parts.0 } in
    let address : SocketAddrV4 = record { ip = ip; port = parts.1 } in V4 address

abbrev pub v6_of : List ℕ × ℕ × ℕ × ℕ → SocketAddr
v6_of parts = let ip : Ipv6Addr = record { segments = parts.0 } in
    let address : SocketAddrV6 = record { ip = ip; port = parts.1; flowinfo = parts.2; scope_id = parts.3 } in
    V6 address

abbrev pub first_of : {A : Type 0} → Option A → Option A → Option A
first_of None other = other
first_of (Some x) other = Some x

-- The address that a text writes: one of IPv4, else one of IPv6 (std's readers, of which `addresses_are_written` tells
-- that they read the grammar).
unfoldable pub written_address : List ℕ → Option SocketAddr
written_address text = first_of (option_map v4_of (whole_value (read_socket_v4 text)))
    (option_map v6_of (whole_value (read_socket_v6 text)))

-- port 0 is none
abbrev pub with_port : SocketAddr → Option SocketAddr
with_port address = if socket_port address == 0 then None else Some address

abbrev pub address_in : List ℕ → Option SocketAddr
address_in text = option_and_then with_port (written_address text)

abbrev pub address_of : Data → Option SocketAddr
address_of d = option_and_then address_in (as_str d)

-- ---- networks

abbrev pub items_in : Items → List Data
items_in no_items = []
items_in (item d more) = d ∷ items_in more

-- these networks and that of a text, of at most 32
abbrev pub with_network : List Network → List ℕ → Option (List Network)
with_network networks text = result_ok (with_text networks text)

-- and that of a value, which has to be a text
abbrev pub with_value : List Network → Data → Option (List Network)
with_value networks d = option_and_then (with_network networks) (as_str d)

-- what a list is behind that, if that could be
abbrev pub added : Bool → List Network → Option (List Network)
added true networks = Some networks
added false networks = None

-- these networks, and behind them those of values, each of which has to have one
abbrev pub networks_from : List Network → List Data → Option (List Network)
networks_from networks [] = Some networks
networks_from networks (d ∷ ds) = option_and_then (λ more. networks_from more ds) (with_value networks d)

-- the networks of an array of texts
abbrev pub networks_of : Data → Option (List Network)
networks_of d = option_and_then (λ items. networks_from [] (items_in items)) (as_array d)

-- ---- machines

abbrev pub is_size : ℕ → Bool
is_size n = (nat_eq n 3 || nat_eq n 5) || nat_eq n 7

-- three, five or seven
abbrev pub IsSize : ℕ → Type 0
IsSize n = (n ≡ 3) ⊎ ((n ≡ 5) ⊎ (n ≡ 7))

abbrev pub sized : List Data → Option (List Data)
sized ds = if is_size (length ds) then Some ds else None

-- three, five or seven values
abbrev pub machines_of : Data → Option (List Data)
machines_of d = option_and_then (λ items. sized (items_in items)) (as_array d)

abbrev pub machine_in : Members → Option Machine
machine_in table =
    value_at address_of keys.Replica table >>= λ replica. value_at address_of keys.Modbus table >>= λ modbus.
    Some (record {
      replica = replica;
      modbus = modbus;
      modbus_read = value_at address_of keys.ModbusRead table;
      console = value_at address_of keys.Console table;
      status = value_at address_of keys.Status table;
    })

-- a machine with its addresses
abbrev pub machine_of : Data → Option Machine
machine_of d = option_and_then machine_in (as_table d)

-- what each of a list gives, if each gives something
abbrev pub all_of : {A B : Type 0} → (A → Option B) → List A → Option (List B)
all_of f [] = Some []
all_of f (x ∷ xs) = option_and_then (λ y. option_map (λ ys. y ∷ ys) (all_of f xs)) (f x)

-- the machines of a table
abbrev pub machines_said : Members → Option (List Machine)
machines_said table = option_and_then (λ ds. all_of machine_of ds) (value_at machines_of keys.Machine table)
