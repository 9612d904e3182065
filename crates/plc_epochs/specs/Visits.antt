-- A visit as bytes, and reading it: a word that a machine says to another, over a connection of its own.
use Rattle.std.specs.Prelude.{◌≡◌, ℕ, ◌+◌, ◌*◌, ◌^◌, ◌<◌, List, [], ◌∷◌, ◌++◌, length, replicate, Option, Some, None}
use Rattle.std.specs.Prelude.{zero, suc, ◌==◌, not, Bool, take, drop, slice_index, if◌then◌else◌}
use Rattle.std.specs.List.{flat_map, AllByRecursion, list_all}
use Rattle.std.specs.Int.{w64, to_be_bytes, from_be_bytes}
use Rattle.vr_model.specs.Groups.{most_replicas}
use Rattle.plc_epochs.specs.declared.visit.Visit.{Visit}
use Rattle.plc_epochs.specs.declared.word.Answer.{Answer}
use Rattle.plc_epochs.specs.declared.word.Word.{Word}
use Rattle.plc_epochs.specs.declared.word.Word.TheVariants.{Freeze, Frozen, Confirm, StillFrozen, Marked}

-- ---- spelling a visit; all numbers are big-endian

-- "PLC-CS", in six bytes
abbrev pub magic : ℕ
magic = 0x504C432D4353

abbrev pub version : ℕ
version = 2

-- the nonce that a machine told, in nine bytes
abbrev pub nonce_bytes : Option ℕ → List ℕ
nonce_bytes None = replicate 9 0
nonce_bytes (Some nonce) = 1 ∷ to_be_bytes w64 nonce

-- the nonce that is answered, and the one that answers, filled up with zeros
abbrev pub answer_bytes : Answer → List ℕ
answer_bytes a = to_be_bytes w64 a.question ++ (to_be_bytes w64 a.nonce ++ replicate 55 0)

-- a kind, the nonce that asks, and what is told, in 72 bytes
abbrev pub word_bytes : Word → List ℕ
word_bytes (Freeze question) = 0 ∷ (to_be_bytes w64 question ++ replicate 63 0)
word_bytes (Frozen a) = 1 ∷ answer_bytes a
word_bytes (Confirm question asked) = 2 ∷ (to_be_bytes w64 question ++ flat_map nonce_bytes asked)
word_bytes (StillFrozen a) = 3 ∷ answer_bytes a
word_bytes (Marked question) = 4 ∷ (to_be_bytes w64 question ++ replicate 63 0)

-- the group's identity; the epoch, with the digest of the image with which it began; the machine that says the word
abbrev pub said_bytes : Visit → List ℕ
said_bytes v = v.identity ++ (to_be_bytes w64 v.epoch.number ++ (v.epoch.image ++ (v.from ∷ word_bytes v.word)))

-- the magic and the version, and what is said: 153 bytes
abbrev pub visit_bytes : Visit → List ℕ
visit_bytes v = to_be_bytes w64 (65536 * magic + version) ++ said_bytes v

-- ---- what has a spelling

abbrev pub FitsNonce : Option ℕ → Type 0
FitsNonce None = Unit {0}
FitsNonce (Some nonce) = nonce < 2 ^ 64

abbrev pub FitsAnswer : Answer → Type 0
FitsAnswer a = (a.question < 2 ^ 64) × (a.nonce < 2 ^ 64)

-- a place for each machine
abbrev pub FitsTold : List (Option ℕ) → Type 0
FitsTold told = (length told ≡ most_replicas) × AllByRecursion FitsNonce told

abbrev pub FitsWord : Word → Type 0
FitsWord (Freeze question) = question < 2 ^ 64
FitsWord (Frozen a) = FitsAnswer a
FitsWord (Confirm question asked) = (question < 2 ^ 64) × FitsTold asked
FitsWord (StillFrozen a) = FitsAnswer a
FitsWord (Marked question) = question < 2 ^ 64

pub record FitsVisit (v : Visit) : Type 0 where
  pub identity : length v.identity ≡ 32
  pub number : v.epoch.number < 2 ^ 64
  pub image : length v.epoch.image ≡ 32
  pub from : v.from < 256
  pub word : FitsWord v.word

-- What is spelled so is read, and nothing else is a visit.
abbrev pub IsVisit : Visit → List ℕ → Type 0
IsVisit v bytes = (bytes ≡ visit_bytes v) × FitsVisit v

-- ---- reading a visit: the inverse of its spelling

abbrev pub is_zero : ℕ → Bool
is_zero byte = byte == 0

-- ---- what machines told

-- from a kind, and eight bytes
abbrev pub nonce_by : ℕ → List ℕ → Option (Option ℕ)
nonce_by kind rest = if kind == 0 then (if list_all is_zero rest then Some None else None)
    else (if kind == 1 then Some (Some (from_be_bytes w64 rest)) else None)

-- what one machine told, from nine bytes
abbrev pub nonce_of : List ℕ → Option (Option ℕ)
nonce_of bytes = nonce_by (slice_index bytes 0) (drop 1 bytes)

abbrev pub with_nonce : Option (Option ℕ) → Option (List (Option ℕ)) → Option (List (Option ℕ))
with_nonce None others = None
with_nonce (Some told) None = None
with_nonce (Some told) (Some others) = Some (told ∷ others)

-- what so many machines told, one behind the other
abbrev pub nonces_of : ℕ → List ℕ → Option (List (Option ℕ))
nonces_of zero bytes = Some []
nonces_of (suc n) bytes = with_nonce (nonce_of (take 9 bytes)) (nonces_of n (drop 9 bytes))

unfoldable pub told_of : List ℕ → Option (List (Option ℕ))
told_of bytes = nonces_of most_replicas bytes

-- ---- words

abbrev pub freeze_of : ℕ → List ℕ → Option Word
freeze_of question rest = if list_all is_zero rest then Some (Freeze question) else None

abbrev pub marked_of : ℕ → List ℕ → Option Word
marked_of question rest = if list_all is_zero rest then Some (Marked question) else None

abbrev pub answer_of : ℕ → List ℕ → Option Answer
answer_of question rest = if list_all is_zero (drop 8 rest)
    then Some (record { question = question; nonce = from_be_bytes w64 (take 8 rest) }) else None

abbrev pub frozen_by : Option Answer → Option Word
frozen_by None = None
frozen_by (Some answer) = Some (Frozen answer)

abbrev pub confirm_by : ℕ → Option (List (Option ℕ)) → Option Word
confirm_by question None = None
confirm_by question (Some asked) = Some (Confirm question asked)

abbrev pub still_frozen_by : Option Answer → Option Word
still_frozen_by None = None
still_frozen_by (Some answer) = Some (StillFrozen answer)

-- by its kind, behind which stand the nonce that asks and 63 bytes
abbrev pub word_by : ℕ → ℕ → List ℕ → Option Word
word_by kind question rest = if kind == 0 then freeze_of question rest
    else (if kind == 1 then frozen_by (answer_of question rest)
    else (if kind == 2 then confirm_by question (told_of rest)
    else (if kind == 3 then still_frozen_by (answer_of question rest)
    else (if kind == 4 then marked_of question rest else None))))

-- from 72 bytes
unfoldable pub word_of : List ℕ → Option Word
word_of bytes = word_by (slice_index bytes 0) (from_be_bytes w64 (take 8 (drop 1 bytes))) (drop 8 (drop 1 bytes))

-- ---- visits

abbrev pub said_with : Option Word → List ℕ → List ℕ → List ℕ → ℕ → Option Visit
said_with None identity number image from = None
said_with (Some word) identity number image from = Some (record {
  identity = identity;
  epoch = record { number = from_be_bytes w64 number; image = image };
  from = from;
  word = word;
})

-- from the epoch's image on
abbrev pub said_behind : List ℕ → List ℕ → List ℕ → Option Visit
said_behind identity number rest =
    said_with (word_of (drop 1 (drop 32 rest))) identity number (take 32 rest) (slice_index (drop 32 rest) 0)

-- what is said, in 145 bytes
unfoldable pub said_of : List ℕ → Option Visit
said_of bytes = said_behind (take 32 bytes) (take 8 (drop 32 bytes)) (drop 8 (drop 32 bytes))

-- the visit that these bytes are, if they are one
unfoldable pub visit_of : List ℕ → Option Visit
visit_of bytes = if not (length bytes == 153) then None
    else (if not (from_be_bytes w64 (take 8 bytes) == 65536 * magic + version) then None else said_of (drop 8 bytes))
