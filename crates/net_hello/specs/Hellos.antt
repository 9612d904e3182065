-- A hello as bytes, and reading it: what each end of a connection says first.
use Rattle.std.specs.Prelude.{◌≡◌, ℕ, ◌+◌, ◌*◌, ◌^◌, ◌<◌, List, [], ◌∷◌, ◌++◌, length, ◌/◌, ◌%◌, ◌≤◌, ◌==◌, ◌⊎◌, not}
use Rattle.std.specs.Prelude.{nat_lt, if◌then◌else◌, take, drop, slice_index, Option, Some, None, Result, Ok, Err}
use Rattle.std.specs.Int.{w32, w64, to_be_bytes, from_be_bytes}
use Rattle.std.proofs.Common.{inl, inr}
use Rattle.std.proofs.lemmas.Bool.{cases_lt}
use Rattle.vr_model.specs.declared.message.Party.{Party}
use Rattle.vr_model.specs.declared.message.Party.TheVariants.{Replica, Client}
use Rattle.vr_model.specs.Groups.{client_count}
use Rattle.net_hello.specs.declared.hello.Known.{Known}
use Rattle.net_hello.specs.declared.hello.Hello.{Hello}
use Rattle.net_hello.specs.declared.hello.HelloFault.{HelloFault}
use Rattle.net_hello.specs.declared.hello.HelloFault.TheVariants.{NoHello, OtherVersion}

-- ---- spelling a hello; all numbers are big-endian

-- "PLC-VR", in six bytes
abbrev pub magic : ℕ
magic = 0x504C432D5652

abbrev pub version : ℕ
version = 2

-- so many bytes
abbrev pub hello_length : ℕ
hello_length = 118

-- a kind and a number
abbrev pub party_bytes : Party → List ℕ
party_bytes (Replica number) = 0 ∷ number ∷ []
party_bytes (Client client) = 1 ∷ client.number ∷ []

-- the number of a party's store, and the most starts that it told
abbrev pub known_bytes : Known → List ℕ
known_bytes k = to_be_bytes w64 k.store ++ to_be_bytes w64 k.starts

-- how often the party was started in this epoch, for how long its machine shows outputs, the number of its store, and
-- what it knows of the party that it speaks to
abbrev pub numbers_bytes : Hello → List ℕ
numbers_bytes h = to_be_bytes w64 h.starts ++ (to_be_bytes w32 h.fresh ++ (to_be_bytes w64 h.store ++ known_bytes h.known))

-- the group's identity; the epoch, with the digest of the image with which it began; the party that speaks, and its
-- numbers
abbrev pub said_bytes : Hello → List ℕ
said_bytes h = h.identity ++ (to_be_bytes w64 h.epoch.number
    ++ (h.epoch.image ++ (party_bytes h.party ++ numbers_bytes h)))

-- the magic and the version, and what is said
abbrev pub hello_bytes : Hello → List ℕ
hello_bytes h = to_be_bytes w64 (65536 * magic + version) ++ said_bytes h

abbrev pub FitsParty : Party → Type 0
FitsParty (Replica number) = number < 256
FitsParty (Client client) = client.number < client_count

abbrev pub FitsKnown : Known → Type 0
FitsKnown k = (k.store < 2 ^ 64) × (k.starts < 2 ^ 64)

pub record FitsNumbers (h : Hello) : Type 0 where
  pub starts : h.starts < 2 ^ 64
  pub fresh : h.fresh < 2 ^ 32
  pub store : h.store < 2 ^ 64
  pub known : FitsKnown h.known

-- what has a spelling
pub record FitsHello (h : Hello) : Type 0 where
  pub identity : length h.identity ≡ 32
  pub number : h.epoch.number < 2 ^ 64
  pub image : length h.epoch.image ≡ 32
  pub party : FitsParty h.party
  pub numbers : FitsNumbers h

-- What is spelled so is read, and nothing else is a hello.
abbrev pub IsHello : Hello → List ℕ → Type 0
IsHello h bytes = (bytes ≡ hello_bytes h) × FitsHello h

-- ---- reading a hello: the inverse of its spelling

abbrev pub client_by : (n : ℕ) → (n < client_count) ⊎ (client_count ≤ n) → Option Party
client_by n (inl lt) = Some (Client (record { number = n; below = lt }))
client_by n (inr le) = None

abbrev pub party_of : ℕ → ℕ → Option Party
party_of kind number = if kind == 0 then Some (Replica number)
    else (if kind == 1 then client_by number (cases_lt number client_count) else None)

-- from 16 bytes
abbrev pub known_of : List ℕ → Known
known_of bytes = record { store = from_be_bytes w64 (take 8 bytes); starts = from_be_bytes w64 (drop 8 bytes) }

-- with the numbers in these 36 bytes
abbrev pub said_with : Option Party → List ℕ → List ℕ → List ℕ → List ℕ → Option Hello
said_with None identity number image numbers = None
said_with (Some party) identity number image numbers = Some (record {
  identity = identity;
  epoch = record { number = from_be_bytes w64 number; image = image };
  party = party;
  starts = from_be_bytes w64 (take 8 numbers);
  fresh = from_be_bytes w32 (take 4 (drop 8 numbers));
  store = from_be_bytes w64 (take 8 (drop 4 (drop 8 numbers)));
  known = known_of (drop 8 (drop 4 (drop 8 numbers)));
})

-- from the epoch's image on
abbrev pub said_behind : List ℕ → List ℕ → List ℕ → Option Hello
said_behind identity number rest =
    said_with (party_of (slice_index (drop 32 rest) 0) (slice_index (drop 32 rest) 1)) identity number (take 32 rest)
    (drop 2 (drop 32 rest))

-- what is said, in 110 bytes
abbrev pub said_of : List ℕ → Option Hello
said_of bytes = said_behind (take 32 bytes) (take 8 (drop 32 bytes)) (drop 8 (drop 32 bytes))

abbrev pub if_said : Option Hello → Result (Option Hello) HelloFault
if_said None = Err NoHello
if_said (Some hello) = Ok (Some hello)

abbrev pub whole_of : List ℕ → Result (Option Hello) HelloFault
whole_of rest = if nat_lt (length rest) 110 then Ok None
    else (if nat_lt 110 (length rest) then Err NoHello else if_said (said_of rest))

-- behind the magic and the version
abbrev pub behind_front : ℕ → List ℕ → Result (Option Hello) HelloFault
behind_front front rest = if not (front / 65536 == magic) then Err NoHello
    else (if not (front % 65536 == version) then Err OtherVersion else whole_of rest)

-- the hello that these bytes are, none where it isn't whole, or the fault of its first bytes
unfoldable pub hello_of : List ℕ → Result (Option Hello) HelloFault
hello_of bytes = if nat_lt (length bytes) 8 then Ok None
    else behind_front (from_be_bytes w64 (take 8 bytes)) (drop 8 bytes)
