-- The texts of networks: an address, which is a network by itself, or an address with the count of its first bits that
-- make the network, as 10.0.0.0/24 (RFC 4632, section 3.1).
use Rattle.std.specs.Prelude.{◌≡◌, ⊤, ℕ, ◌+◌, ◌*◌, ◌-◌, Bool, ◌&&◌, nat_eq, nat_le, nat_lt, if◌then◌else◌, List, [], ◌∷◌, ◌++◌}
use Rattle.std.specs.Prelude.{length, take, drop, position, Option, Some, None, option_map, Result, Ok, Err}
use Rattle.std.specs.Net.Reader.{read_ipv4, whole_value}
use Rattle.std.specs.declared.net.ipv4_addr.Ipv4Addr.{Ipv4Addr}
use Rattle.net_addresses.specs.declared.network.Network.{Network}
use Rattle.net_addresses.specs.declared.network.NetworkFault.{NetworkFault}
use Rattle.net_addresses.specs.declared.network.NetworkFault.TheVariants.{Address, Prefix, HostBits}
use Rattle.net_addresses.specs.declared.networks.NetworksFault.{NetworksFault}
use Rattle.net_addresses.specs.declared.networks.NetworksFault.TheVariants.{Entry, Memory, TooMany}
use Rattle.net_addresses.specs.declared.networks.Networks.{Networks}
use Rattle.net_addresses.specs.Addresses.{host_bits}

abbrev pub of_octets : List ℕ → Ipv4Addr
of_octets octets = record { octets = octets }

-- The address that a text writes, by std's reader: four numbers below 256, with dots between them and no leading zeros
-- (`networks_are_written`).
unfoldable pub address_in : List ℕ → Option Ipv4Addr
address_in text = option_map of_octets (whole_value (read_ipv4 text))

-- ---- the count of bits

abbrev pub is_digit : ℕ → Bool
is_digit byte = nat_le 48 byte && nat_le byte 57

abbrev pub tens : ℕ → ℕ → ℕ
tens a b = (a - 48) * 10 + (b - 48)

abbrev pub two_digits : ℕ → ℕ → Option ℕ
two_digits a b = if (nat_le 49 a && nat_le a 57) && is_digit b then (if nat_le (tens a b) 32 then Some (tens a b) else None)
    else None

-- a decimal number from 0 to 32, with no leading zero
abbrev pub prefix_in : List ℕ → Option ℕ
prefix_in (a ∷ []) = if is_digit a then Some (a - 48) else None
prefix_in (a ∷ b ∷ []) = two_digits a b
prefix_in text = None

-- ---- a network

-- of an address and a count; a network's own address names no host
abbrev pub network_by : Option Ipv4Addr → Option ℕ → Result Network NetworkFault
network_by None prefix = Err Address
network_by (Some address) None = Err Prefix
network_by (Some address) (Some prefix) = if nat_eq (host_bits prefix address) 0
    then Ok (record { address = address; prefix = prefix }) else Err HostBits

-- by where its first `/` stands, if it has one
abbrev pub network_at : List ℕ → Option ℕ → Result Network NetworkFault
network_at text None = network_by (address_in text) (Some 32)
network_at text (Some slash) = network_by (address_in (take slash text)) (prefix_in (drop (slash + 1) text))

abbrev pub network_in : List ℕ → Result Network NetworkFault
network_in text = network_at text (position (nat_eq 47) text)

-- ---- lists

abbrev pub with_read : List Network → Result Network NetworkFault → Result (List Network) NetworksFault
with_read networks (Err fault) = Err (Entry (length networks) fault)
with_read networks (Ok network) = Ok (networks ++ network ∷ [])

-- the network of one text more, of at most 32
abbrev pub with_text : List Network → List ℕ → Result (List Network) NetworksFault
with_text networks text = if nat_lt (length networks) 32 then with_read networks (network_in text) else Err TooMany

abbrev pub and_then : {A B E : Type 0} → (A → Result B E) → Result A E → Result B E
and_then next (Err fault) = Err fault
and_then next (Ok x) = next x

-- those of these texts behind them, or the first fault
abbrev pub with_texts : List Network → List (List ℕ) → Result (List Network) NetworksFault
with_texts networks [] = Ok networks
with_texts networks (text ∷ texts) = and_then (λ more. with_texts more texts) (with_text networks text)

abbrev pub put_front : ℕ → List (List ℕ) → List (List ℕ)
put_front byte [] = (byte ∷ []) ∷ []
put_front byte (text ∷ texts) = (byte ∷ text) ∷ texts

-- the texts between commas
abbrev pub texts_in : List ℕ → List (List ℕ)
texts_in [] = [] ∷ []
texts_in (byte ∷ rest) = if nat_eq 44 byte then [] ∷ texts_in rest else put_front byte (texts_in rest)

-- the networks of a text with commas between them
abbrev pub networks_in : List ℕ → Result (List Network) NetworksFault
networks_in text = with_texts [] (texts_in text)

-- What a call gave is this; want of memory is no fault of a text.
abbrev pub Gives : Result (List Network) NetworksFault → Result Networks NetworksFault → Type 0
Gives said (Ok networks) = said ≡ Ok networks.networks.items
Gives said (Err Memory) = ⊤
Gives said (Err fault) = said ≡ Err fault

-- The same of what a call added.
abbrev pub Leaves : Result (List Network) NetworksFault → List Network → List Network
    → Result (Unit {0}) NetworksFault → Type 0
Leaves said before after (Ok done) = said ≡ Ok after
Leaves said before after (Err Memory) = after ≡ before
Leaves said before after (Err fault) = (said ≡ Err fault) × (after ≡ before)
