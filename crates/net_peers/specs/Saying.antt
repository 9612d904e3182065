-- What is heard of a record that came: its body, by the sum that stands behind it there.
use Rattle.std.specs.Prelude.{◌≡◌, ℕ, ◌+◌, ◌*◌, List, ◌∷◌, ◌++◌, length, Result, Ok, Err}
use Rattle.net_hello.specs.Hellos.{IsHello}
use Rattle.net_keys.specs.declared.challenge.ChallengeFault.{ChallengeFault}
use Rattle.net_peers.specs.declared.proved.Word.{Word}
use Rattle.net_peers.specs.declared.proved.Word.TheVariants as word
use Rattle.net_peers.specs.declared.meeting.Met.{Met}
use Rattle.net_peers.specs.declared.meeting.Met.TheVariants as met

-- these bytes begin with the length of this body in two bytes, the body, and this sum
pub record IsRecord (bytes body sum : List ℕ) : Type 0 where
  pub high : ℕ
  pub low : ℕ
  pub rest : List ℕ
  pub bytes_are : bytes ≡ high ∷ low ∷ (body ++ (sum ++ rest))
  pub length_is : length body ≡ 256 * high + low

-- what is believed is what this body says, by this sum
abbrev pub Says : Word → List ℕ → List ℕ → Type 0
Says (word.Hello proved) body sum = IsHello proved.hello body × (proved.sum ≡ sum)
Says (word.Visit left) body sum = (left.bytes ≡ body) × (left.sum ≡ sum)
Says word.Other body sum = Unit {0}

-- what is believed came as a record at the front of these bytes
pub record CameAs (word : Word) (came : List ℕ) : Type 0 where
  pub body : List ℕ
  pub sum : List ℕ
  pub stands : IsRecord came body sum
  pub says : Says word body sum

abbrev pub HeardIn : Result Met ChallengeFault → List ℕ → Type 0
HeardIn (Ok (met.Says word)) came = CameAs word came
HeardIn (Ok met.Waits) came = Unit {0}
HeardIn (Ok (met.Unmet machine fault)) came = Unit {0}
HeardIn (Ok met.Over) came = Unit {0}
HeardIn (Err fault) came = Unit {0}
