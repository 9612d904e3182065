-- A challenge as bytes, and reading it.
use Rattle.std.specs.Prelude.{◌≡◌, ℕ, List, [], ◌∷◌, ◌++◌, length, take, drop, slice_index, nat_eq}
use Rattle.std.specs.Prelude.{if◌then◌else◌, Result, Ok, Err}
use Rattle.std.specs.List.{starts_with}
use Rattle.net_keys.specs.declared.challenge.Challenge.{Challenge}
use Rattle.net_keys.specs.declared.challenge.ChallengeFault.{ChallengeFault}
use Rattle.net_keys.specs.declared.challenge.ChallengeFault.TheVariants.{NoChallenge, NoKey, OtherVersion}

-- "PLC-VR", and the version
abbrev pub magic : List ℕ
magic = 0x50 ∷ 0x4C ∷ 0x43 ∷ 0x2D ∷ 0x56 ∷ 0x52 ∷ []

abbrev pub front : List ℕ
front = 0x50 ∷ 0x4C ∷ 0x43 ∷ 0x2D ∷ 0x56 ∷ 0x52 ∷ 0 ∷ 3 ∷ []

-- with which the hello of a group without a key begins
abbrev pub front_without_key : List ℕ
front_without_key = 0x50 ∷ 0x4C ∷ 0x43 ∷ 0x2D ∷ 0x56 ∷ 0x52 ∷ 0 ∷ 2 ∷ []

-- both machines, the name of the key and the nonce
abbrev pub said_bytes : Challenge → List ℕ
said_bytes c = c.from ∷ c.to ∷ (c.key ++ c.nonce)

abbrev pub challenge_bytes : Challenge → List ℕ
challenge_bytes c = front ++ said_bytes c

-- what has a spelling
pub record FitsChallenge (c : Challenge) : Type 0 where
  pub key : length c.key ≡ 8
  pub nonce : length c.nonce ≡ 32

-- ---- reading it

-- in 42 bytes
abbrev pub said_in : List ℕ → Challenge
said_in said = record {
  from = slice_index said 0;
  to = slice_index said 1;
  key = take 8 (drop 2 said);
  nonce = drop 8 (drop 2 said);
}

-- what other bytes are
abbrev pub fault_of : List ℕ → ChallengeFault
fault_of bytes = if starts_with nat_eq bytes front_without_key then NoKey
    else (if starts_with nat_eq bytes magic then OtherVersion else NoChallenge)

-- the challenge that these 50 bytes are
abbrev pub challenge_in : List ℕ → Result Challenge ChallengeFault
challenge_in bytes = if starts_with nat_eq bytes front then Ok (said_in (drop 8 bytes)) else Err (fault_of bytes)
