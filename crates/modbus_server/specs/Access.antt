-- What a client may do, by the port that he has come to and by where he comes from.
use Rattle.std.specs.Prelude.{◌≡◌, ℕ, Bool, true, false, ◌||◌, List, Option, Some, None, if◌then◌else◌}
use Rattle.std.specs.declared.net.ip_addr.IpAddr.{IpAddr}
use Rattle.std.specs.declared.net.ip_addr.IpAddr.TheVariants.{V6}
use Rattle.net_addresses.specs.declared.clients.Clients.{Clients}
use Rattle.net_addresses.specs.declared.networks.Networks.{Networks}
use Rattle.net_addresses.specs.Addresses.{reads_alone}
use Rattle.modbus_replies.specs.declared.permitted.Access.{Access}
use Rattle.modbus_replies.specs.declared.permitted.Access.TheVariants.{ReadsAndWrites, ReadsAlone}
use Rattle.modbus_server.specs.declared.serve.SessionEnd.{SessionEnd}
use Rattle.modbus_server.specs.Sessions.{Images, Talks}

-- There's a list, and it can't tell whether the client is on it: he's gone already, so nobody knows where he came from,
-- and what he left may be a write; or he has come by IPv6, as which a socket of both shows addresses of IPv4, too.
abbrev pub is_unknown : Option Networks → Option IpAddr → Bool
is_unknown (Some readers) None = true
is_unknown (Some readers) (Some (V6 address)) = true
is_unknown readers peer = false

-- At a port for reading alone everybody may only read. At another one those may only read who are on the list, if there
-- is one, and who may be on it.
abbrev pub access_of : Access → Clients → Option IpAddr → Access
access_of ReadsAlone clients peer = ReadsAlone
access_of ReadsAndWrites clients peer =
    if reads_alone clients.readers peer || is_unknown clients.readers peer then ReadsAlone else ReadsAndWrites

-- whatever a session did with who may only read: the staged inputs are as they were
abbrev pub ReadersStageNothing : Type 0
ReadersStageNothing = (end : SessionEnd) (left left' held held' : Option (List ℕ)) (r r' w w' : ℕ) (images images' : Images)
    → images.access ≡ ReadsAlone → Talks end left left' r r' held held' w w' images images' → images'.told ≡ images.told
