-- What std's `parse_ascii` gives of a text is the address that is written there.
use Rattle.std.proofs.Common.{◌≡◌, ℕ, List, [], ◌∷◌, ◌++◌, Bool, false, ◌==◌, length, Option, Some, None, option_map, ap, Result, Ok, Err, arith, refl, sym, ◌∙◌, subst, append-nil, lit≤}
use Rattle.std.proofs.lemmas.Bool.Decides.{nat_tests}
use Rattle.std.specs.Result.{result_ok}
use Rattle.std.specs.declared.net.ipv4_addr.Ipv4Addr.{Ipv4Addr}
use Rattle.std.specs.Net.Grammar.{Parses, IsIpv4Text}
use Rattle.std.specs.Net.Reader.{Read, read_ipv4, whole_value}
use Rattle.std.proofs.NetLemmas.Ipv4.{read_ipv4_complete, read_ipv4_sound}
use Rattle.net_addresses.specs.Texts.{address_in, of_octets}

-- nothing is the whole value where no value takes the whole text
whole_none : {A : Type 0} (r : Read A) → ((x : A) → r ≡ Some (x, []) → ⊥) → whole_value r ≡ None
whole_none None h = refl
whole_none (Some (x, [])) h = absurd (h x refl)
whole_none (Some (x, (b ∷ rest))) h =
    let long : (length (b ∷ rest) == 0) ≡ false = grind (arith, nat_tests) in
    rw long refl

written : (text : List ℕ) (a : Ipv4Addr) → IsIpv4Text text a → address_in text ≡ Some a
unfolding address_in
written text a h =
    let whole : read_ipv4 text ≡ Some (a.octets, []) = ap read_ipv4 (sym (append-nil text)) ∙ read_ipv4_complete text a.octets [] h (lit≤ tt) in
    rw whole refl

unwritten : (text : List ℕ) → ((a : Ipv4Addr) → ¬ (IsIpv4Text text a)) → address_in text ≡ None
unfolding address_in
unwritten text h =
    let none : whole_value (read_ipv4 text) ≡ None = whole_none (read_ipv4 text) λ octets e.
    let found = read_ipv4_sound text octets [] e in
    h (of_octets octets) (subst (λ t. IsIpv4Text t (of_octets octets)) (sym (found.1 ∙ append-nil found.0)) found.2) in
    rw none refl

-- what `parse_ascii` gives
pub parsed : {E : Type 0} (text : List ℕ) (r : Result Ipv4Addr E) → Parses IsIpv4Text text r → address_in text ≡ result_ok r
parsed text (Ok a) h = written text a h
parsed text (Err e) h = unwritten text h
