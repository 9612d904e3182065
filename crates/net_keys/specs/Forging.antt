-- What sums promise of a connection between two machines, as long as nobody makes one without their key.
use Rattle.std.specs.Prelude.{◌≡◌, ℕ, ◌+◌, ◌^◌, ◌<◌, ◌≤◌, ◌⊎◌, List, [], ◌∷◌, ◌++◌, length, map, take, Contains, Some, slice_get}
use Rattle.std.specs.List.{AllByRecursion, flat_map}
use Rattle.net_keys.specs.Hmac.{hmac}
use Rattle.net_keys.specs.Challenges.{FitsChallenge}
use Rattle.net_keys.specs.Sealing.{sum_of, text_of}
use Rattle.net_keys.specs.Meeting.{connection_key, terms_of}
use Rattle.net_keys.specs.declared.challenge.Challenge.{Challenge}
use Rattle.net_keys.specs.declared.sealing.Side.{Side}

-- ---- before they are summed, texts tell what they are of

-- records at another place or of another body have other texts, and connections of other challenges other terms
pub record AreTold : Type 0 where
  pub records : (side side' : Side) (number number' : ℕ) (body body' : List ℕ) → number < 2 ^ 64 → number' < 2 ^ 64
      → text_of side number body ≡ text_of side' number' body' → (side ≡ side') × (number ≡ number') × (body ≡ body')
  pub connections : (dialler listener dialler' listener' : Challenge) → FitsChallenge dialler → FitsChallenge listener
      → FitsChallenge dialler' → FitsChallenge listener' → terms_of dialler listener ≡ terms_of dialler' listener'
      → (dialler ≡ dialler') × (listener ≡ listener')

-- ---- which sums were made

-- what one end sealed over a connection: the bodies of its records, from number 0 on
pub record Sealed : Type 0 where
  pub dialler : Challenge
  pub listener : Challenge
  pub side : Side
  pub bodies : List (List ℕ)

pub record FitsSealed (s : Sealed) : Type 0 where
  pub dialler : FitsChallenge s.dialler
  pub listener : FitsChallenge s.listener
  pub count : length s.bodies ≤ 2 ^ 64

abbrev pub texts_from : Side → ℕ → List (List ℕ) → List (List ℕ)
texts_from side number [] = []
texts_from side number (body ∷ bodies) = text_of side number body ∷ texts_from side (number + 1) bodies

-- what was summed by one end: each text, with the terms of its connection
abbrev pub summed_by : Sealed → List (List ℕ × List ℕ)
summed_by s = map (λ text. (terms_of s.dialler s.listener, text)) (texts_from s.side 0 s.bodies)

-- by both machines, over all of their connections
abbrev pub all_summed : List Sealed → List (List ℕ × List ℕ)
all_summed all = flat_map summed_by all

-- This is the sum of that text over the connection of those terms, by the key of two machines, and nobody who has the
-- key made it.
abbrev pub IsForged : List ℕ → List (List ℕ × List ℕ) → List ℕ → List ℕ → List ℕ → Type 0
IsForged pair summed terms text sum = (sum ≡ take 16 (hmac (hmac pair terms) text))
    × (Contains summed (terms, text) → ⊥)

-- ---- what is opened

-- bodies that were opened one after the other, from this number on, each with its sum
abbrev pub AreOpened : List ℕ → Side → ℕ → List (List ℕ × List ℕ) → Type 0
AreOpened key side number [] = Unit {0}
AreOpened key side number ((body, sum) ∷ rest) = (sum ≡ sum_of key side number body)
    × AreOpened key side (number + 1) rest

abbrev pub bodies_of : List (List ℕ × List ℕ) → List (List ℕ)
bodies_of opened = map (λ (o : List ℕ × List ℕ). o.0) opened

-- whoever sealed anything as this end of the connection of these two challenges, sealed just these bodies: by the
-- nonces there is one such end
abbrev pub IsSealedThere : List Sealed → Challenge → Challenge → Side → List (List ℕ) → Type 0
IsSealedThere all dialler listener side bodies = (s : Sealed) → Contains all s → s.dialler ≡ dialler
    → s.listener ≡ listener → s.side ≡ side → s.bodies ≡ bodies

-- Of the records that were opened over a connection, as sealed by this end, the one at this place was made by somebody
-- who hasn't the key of its two machines: its sum is right, and of all that whoever has the key has sealed nothing has
-- that text.
pub record HasForged (pair : List ℕ) (all : List Sealed) (dialler listener : Challenge) (side : Side)
    (opened : List (List ℕ × List ℕ)) : Type 0 where
  pub place : ℕ
  pub body : List ℕ
  pub sum : List ℕ
  pub there : slice_get opened place ≡ Some (body, sum)
  pub forged : IsForged pair (all_summed all) (terms_of dialler listener) (text_of side place body) sum

-- Of all that was sealed by whoever has the key of two machines: what is opened over a connection, as sealed by this
-- end, is a prefix of what that end sealed there, in order; or one of these records was forged.
abbrev pub OnlySealedIsHeard : Type 0
OnlySealedIsHeard =
    (pair : List ℕ) (all : List Sealed) (dialler listener : Challenge) (side : Side) (bodies : List (List ℕ))
    (opened : List (List ℕ × List ℕ))
    → AllByRecursion FitsSealed all → FitsChallenge dialler → FitsChallenge listener → length opened ≤ 2 ^ 64
    → IsSealedThere all dialler listener side bodies → AreOpened (connection_key pair dialler listener) side 0 opened
    → ((later : List (List ℕ)) × (bodies ≡ bodies_of opened ++ later))
    ⊎ HasForged pair all dialler listener side opened
