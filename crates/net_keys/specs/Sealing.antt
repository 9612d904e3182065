-- The sum of a record, and what seals and opens them.
use Rattle.std.specs.Prelude.{◌≡◌, ℕ, ◌+◌, List, ◌∷◌, ◌++◌, take}
use Rattle.std.specs.Int.{w64, to_be_bytes}
use Rattle.net_keys.specs.Hmac.{hmac}
use Rattle.net_keys.specs.declared.sealing.Side.{Side}
use Rattle.net_keys.specs.declared.sealing.Side.TheVariants.{Dialler, Listener}
use Rattle.net_keys.specs.declared.sealing.Sealer.{Sealer}
use Rattle.net_keys.specs.declared.sealing.Opener.{Opener}

abbrev pub side_byte : Side → ℕ
side_byte Dialler = 0
side_byte Listener = 1

-- which end seals the record, its number from 0 on, and its body
abbrev pub text_of : Side → ℕ → List ℕ → List ℕ
text_of side number body = side_byte side ∷ (to_be_bytes w64 number ++ body)

-- the first 16 bytes of the text's sum
abbrev pub sum_of : List ℕ → Side → ℕ → List ℕ → List ℕ
sum_of key side number body = take 16 (hmac key (text_of side number body))

-- a record of this body was sealed under the next number, and has this sum
pub record Seals (before after : Sealer) (body sum : List ℕ) : Type 0 where
  pub sum_is : sum ≡ sum_of before.key before.side before.next body
  pub after_is : after ≡ record before { next = before.next + 1 }

-- a record of this body and this sum was opened under the next number
pub record Opens (before after : Opener) (body sum : List ℕ) : Type 0 where
  pub sum_is : sum ≡ sum_of before.key before.side before.next body
  pub after_is : after ≡ record before { next = before.next + 1 }
