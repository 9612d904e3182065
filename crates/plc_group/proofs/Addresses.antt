-- What std's `parse` gives of a text is the address that is written there.
use Rattle.std.proofs.Common.{◌≡◌, ℕ, List, [], ◌∷◌, ◌++◌, Bool, false, ◌==◌, length, Option, Some, None, option_map, ap, Result, Ok, Err, arith, refl, sym, ◌∙◌, subst, append-nil}
use Rattle.std.proofs.lemmas.Bool.Decides.{nat_tests}
use Rattle.std.proofs.lemmas.Option.{none-some, same_Some}
use Rattle.std.specs.Result.{result_ok}
use Rattle.std.specs.declared.net.socket_addr.SocketAddr.{SocketAddr}
use Rattle.std.specs.declared.net.socket_addr.SocketAddr.TheVariants.{V4, V6}
use Rattle.std.specs.declared.net.socket_addr.SocketAddrV4.{SocketAddrV4}
use Rattle.std.specs.declared.net.socket_addr.SocketAddrV6.{SocketAddrV6}
use Rattle.std.specs.declared.net.ipv4_addr.Ipv4Addr.{Ipv4Addr}
use Rattle.std.specs.declared.net.ipv6_addr.Ipv6Addr.{Ipv6Addr}
use Rattle.std.specs.Net.Grammar.{Parses, IsSocketV4Text, IsSocketV6Text, IsSocketText}
use Rattle.std.specs.Net.Reader.{Read, read_socket_v4, read_socket_v6, whole_value, v4_parts, v6_parts}
use Rattle.std.proofs.NetLemmas.Sockets.{read_socket_v4_complete, read_socket_v4_sound, read_socket_v6_complete, read_socket_v6_sound, IsSocketV4Text-not_v6}
use Rattle.plc_group.specs.Values.{first_of, v4_of, v6_of, written_address}

-- nothing is the whole value where no value takes the whole text
whole_none : {A : Type 0} (r : Read A) → ((x : A) → r ≡ Some (x, []) → ⊥) → whole_value r ≡ None
whole_none None h = refl
whole_none (Some (x, [])) h = absurd (h x refl)
whole_none (Some (x, (b ∷ rest))) h =
    let long : (length (b ∷ rest) == 0) ≡ false = grind (arith, nat_tests) in
    rw long refl

-- the address of the octets and the port
address_v4 : List ℕ × ℕ → SocketAddrV4
address_v4 p = let ip : Ipv4Addr = record { octets = p.0 } in record { ip = ip; port = p.1 }

no_v4 : (text : List ℕ) → ((a : SocketAddrV4) → ¬ (IsSocketV4Text text a)) → whole_value (read_socket_v4 text) ≡ None
unfolding address_v4
no_v4 text h = whole_none (read_socket_v4 text) λ p e.
    let found = read_socket_v4_sound text [] (address_v4 p) e in
    h (address_v4 p) (subst (λ t. IsSocketV4Text t (address_v4 p)) (sym (found.1 ∙ append-nil found.0)) found.2)

address_v6 : List ℕ × ℕ × ℕ × ℕ → SocketAddrV6
address_v6 p =
    let ip : Ipv6Addr = record { segments = p.0 } in
    record { ip = ip; port = p.1; flowinfo = p.2; scope_id = p.3 }

no_v6 : (text : List ℕ) → ((a : SocketAddrV6) → ¬ (IsSocketV6Text text a)) → whole_value (read_socket_v6 text) ≡ None
unfolding address_v6
no_v6 text h = whole_none (read_socket_v6 text) λ p e.
    let found = read_socket_v6_sound text [] (address_v6 p) e in
    h (address_v6 p) (subst (λ t. IsSocketV6Text t (address_v6 p)) (sym (found.1 ∙ append-nil found.0)) found.2)

pub written_v4 : (text : List ℕ) (a : SocketAddrV4) → IsSocketV4Text text a → written_address text ≡ Some (V4 a)
unfolding written_address
written_v4 text a h = rw (read_socket_v4_complete text a h) refl

pub written_v6 : (text : List ℕ) (a : SocketAddrV6) → IsSocketV6Text text a → written_address text ≡ Some (V6 a)
unfolding written_address
written_v6 text a h =
    let no : whole_value (read_socket_v4 text) ≡ None = no_v4 text (λ b k. IsSocketV4Text-not_v6 text b a k h) in
    rw (no, read_socket_v6_complete text a h) refl

pub written : (text : List ℕ) (a : SocketAddr) → IsSocketText text a → written_address text ≡ Some a
written text (V4 a) h = written_v4 text a h
written text (V6 a) h = written_v6 text a h

pub unwritten : (text : List ℕ) → ((a : SocketAddr) → ¬ (IsSocketText text a)) → written_address text ≡ None
unfolding written_address
unwritten text h = rw (no_v4 text (λ a. h (V4 a)), no_v6 text (λ a. h (V6 a))) refl

-- what `parse` gives
pub parsed : {E : Type 0} (text : List ℕ) (r : Result SocketAddr E) → Parses IsSocketText text r → written_address text ≡ result_ok r
parsed text (Ok a) h = written text a h
parsed text (Err e) h = unwritten text h

whole_some : {A : Type 0} (r : Read A) (x : A) → whole_value r ≡ Some x → r ≡ Some (x, [])
whole_some None x h = absurd (none-some x h)
whole_some (Some (y, [])) x h = ap (λ z. Some (z, [])) (same_Some y x h)
whole_some (Some (y, (b ∷ rest))) x h =
    let long : (length (b ∷ rest) == 0) ≡ false = grind (arith, nat_tests) in
    absurd (none-some x (rw long at h))

some_v4 : (text : List ℕ) (p : List ℕ × ℕ) → whole_value (read_socket_v4 text) ≡ Some p → IsSocketV4Text text (address_v4 p)
unfolding address_v4
some_v4 text p h =
    let found = read_socket_v4_sound text [] (address_v4 p) (whole_some (read_socket_v4 text) p h) in
    subst (λ t. IsSocketV4Text t (address_v4 p)) (sym (found.1 ∙ append-nil found.0)) found.2

some_v6 : (text : List ℕ) (p : List ℕ × ℕ × ℕ × ℕ) → whole_value (read_socket_v6 text) ≡ Some p → IsSocketV6Text text (address_v6 p)
unfolding address_v6
some_v6 text p h =
    let found = read_socket_v6_sound text [] (address_v6 p) (whole_some (read_socket_v6 text) p h) in
    subst (λ t. IsSocketV6Text t (address_v6 p)) (sym (found.1 ∙ append-nil found.0)) found.2

first_sound : (text : List ℕ) (a : SocketAddr) (four : Option (List ℕ × ℕ)) (six : Option (List ℕ × ℕ × ℕ × ℕ)) → whole_value (read_socket_v4 text) ≡ four → whole_value (read_socket_v6 text) ≡ six
    → first_of (option_map v4_of four) (option_map v6_of six) ≡ Some a → IsSocketText text a
unfolding address_v4 address_v6
first_sound text a (Some p) six h k e = subst (IsSocketText text) (same_Some (v4_of p) a e) (some_v4 text p h)
first_sound text a None (Some p) h k e = subst (IsSocketText text) (same_Some (v6_of p) a e) (some_v6 text p k)
first_sound text a None None h k e = absurd (none-some a e)

-- what is read is written so
pub sound : (text : List ℕ) (a : SocketAddr) → written_address text ≡ Some a → IsSocketText text a
unfolding written_address
sound text a e = first_sound text a (whole_value (read_socket_v4 text)) (whole_value (read_socket_v6 text)) refl refl e
