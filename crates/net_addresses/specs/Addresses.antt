-- IPv4 addresses and networks of them, by their 32 bits, of which the one that counts most is the first (RFC 4632,
-- section 3.1).
use Rattle.std.specs.Prelude.{ℕ, ◌-◌, ◌^◌, ◌/◌, ◌%◌, Bool, true, false, nat_eq, List, Option, Some, None, option_map}
use Rattle.std.specs.List.{list_any}
use Rattle.std.specs.Net.Addr.{ipv4_bits}
use Rattle.std.specs.declared.net.ip_addr.IpAddr.{IpAddr}
use Rattle.std.specs.declared.net.ip_addr.IpAddr.TheVariants.{V4, V6}
use Rattle.std.specs.declared.net.ipv4_addr.Ipv4Addr.{Ipv4Addr}
use Rattle.net_addresses.specs.declared.network.Network.{Network}
use Rattle.net_addresses.specs.declared.networks.Networks.{Networks}

-- the number that the first bits of an address write
abbrev pub first_bits : ℕ → Ipv4Addr → ℕ
first_bits count address = ipv4_bits address / 2 ^ (32 - count)

-- the number that the bits behind them write: of a network they name the host
abbrev pub host_bits : ℕ → Ipv4Addr → ℕ
host_bits count address = ipv4_bits address % 2 ^ (32 - count)

-- a network has exactly the addresses whose first bits are its own
abbrev pub has : Network → Ipv4Addr → Bool
has network address = nat_eq (first_bits network.prefix address) (first_bits network.prefix network.address)

-- one of the networks has it; none has an address of IPv6
abbrev pub hold : List Network → IpAddr → Bool
hold networks (V4 address) = list_any (λ network. has network address) networks
hold networks (V6 address) = false

-- the networks of a list, if there is one
abbrev pub items_of : Option Networks → Option (List Network)
items_of list = option_map (λ n. n.networks.items) list

-- who is let in, of those that come from somewhere: without a list everybody, and else whom it holds
abbrev pub admits : Option Networks → Option IpAddr → Bool
admits None peer = true
admits (Some allowed) None = false
admits (Some allowed) (Some peer) = hold allowed.networks.items peer

-- who may only read: whom the list holds, if there is one
abbrev pub reads_alone : Option Networks → Option IpAddr → Bool
reads_alone (Some readers) (Some peer) = hold readers.networks.items peer
reads_alone readers peer = false
