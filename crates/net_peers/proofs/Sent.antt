-- What came is a prefix of what was taken.
use Rattle.std.proofs.Common.{◌≡◌, ℕ, List, ◌++◌, Option, Some, None, sym, ap, ◌∙◌, append_assoc}
use Rattle.net_records.specs.declared.place.Place.{Place}
use Rattle.net_records.specs.declared.place.Place.TheVariants.{Length, LowByte, Body}
use Rattle.net_records.specs.Records.{bodies_from, place_behind, AreJoined}
use Rattle.net_records.specs.Ends.{at_boundary, whole_bodies}

at_end : (place : Place) (bodies took : List ℕ) → at_boundary place bodies ≡ Some took → bodies ≡ took
at_end Length bodies took e = cc
at_end (LowByte high) bodies took e = absurd cc
at_end (Body left) bodies took e = absurd cc

pub came_first : AreJoined → (came more took rest all : List ℕ) → whole_bodies (came ++ more) ≡ Some took
    → took ++ rest ≡ all → (behind : List ℕ) × (bodies_from Length came ++ behind ≡ all)
came_first law came more took rest all whole is =
    let prefix = law.prefixes came more in
    let taken : bodies_from Length came ++ prefix.0 ≡ took =
    sym prefix.1 ∙ at_end (place_behind Length (came ++ more)) (bodies_from Length (came ++ more)) took whole in (
      prefix.0 ++ rest,
      sym (append_assoc (bodies_from Length came) prefix.0 rest) ∙
          (ap (λ (t : List ℕ). t ++ rest) taken ∙ is),
    )
