-- Which addresses are loopbacks, and which stand for all of a machine.
use Rattle.std.proofs.Common.{◌≡◌, Bool, IsTrue, ◌↔◌, ◌∷◌, [], take, subst}
use Rattle.std.proofs.lemmas.Bool.Decides.{same_from_decides}
use Rattle.std.proofs.lemmas.Slice.Eq.{bytes_eq-Decides}
use Rattle.std.specs.Net.Addr.{MatchIp, IsLoopbackV4, IsLoopbackV6, IsUnspecifiedV4, IsUnspecifiedV6}
use Rattle.std.specs.Net.Socket.{socket_ip}
use Rattle.std.specs.declared.net.ip_addr.IpAddr.{IpAddr}
use Rattle.std.specs.declared.net.socket_addr.SocketAddr.{SocketAddr}
use Rattle.std.specs.declared.net.socket_addr.SocketAddr.TheVariants.{V4, V6}
use Rattle.plc_group.specs.Faults.{is_everywhere}
use Rattle.plc_group.specs.Values.{is_loopback}

at_socket : (b : Bool) (a : SocketAddr) → IsTrue b ↔ MatchIp (socket_ip a) IsLoopbackV4 IsLoopbackV6 → b ≡ is_loopback a
at_socket b (V4 a) d = same_from_decides b (is_loopback (V4 a)) d (bytes_eq-Decides (take 1 a.ip.octets) (127 ∷ []))
at_socket b (V6 a) d = same_from_decides b (is_loopback (V6 a)) d (bytes_eq-Decides a.ip.segments (0 ∷ 0 ∷ 0 ∷ 0 ∷ 0 ∷ 0 ∷ 0 ∷ 1 ∷ []))

-- what std answers of the IP address is what is defined of the socket's
pub loopback : (b : Bool) (ip : IpAddr) (a : SocketAddr) → ip ≡ socket_ip a → IsTrue b ↔ MatchIp ip IsLoopbackV4 IsLoopbackV6 → b ≡ is_loopback a
loopback b ip a is h = at_socket b a (subst (λ i. IsTrue b ↔ MatchIp i IsLoopbackV4 IsLoopbackV6) is h)

at_any : (b : Bool) (a : SocketAddr) → IsTrue b ↔ MatchIp (socket_ip a) IsUnspecifiedV4 IsUnspecifiedV6 → b ≡ is_everywhere a
at_any b (V4 a) d = same_from_decides b (is_everywhere (V4 a)) d (bytes_eq-Decides a.ip.octets (0 ∷ 0 ∷ 0 ∷ 0 ∷ []))
at_any b (V6 a) d = same_from_decides b (is_everywhere (V6 a)) d (bytes_eq-Decides a.ip.segments (0 ∷ 0 ∷ 0 ∷ 0 ∷ 0 ∷ 0 ∷ 0 ∷ 0 ∷ []))

-- what std answers of an address that stands for all is what is defined of the socket's
pub everywhere : (b : Bool) (ip : IpAddr) (a : SocketAddr) → ip ≡ socket_ip a → IsTrue b ↔ MatchIp ip IsUnspecifiedV4 IsUnspecifiedV6 → b ≡ is_everywhere a
everywhere b ip a is h = at_any b a (subst (λ i. IsTrue b ↔ MatchIp i IsUnspecifiedV4 IsUnspecifiedV6) is h)
