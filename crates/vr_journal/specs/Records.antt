-- The records of a journal's file: their bytes, and which records bytes are read as. Numbers are big-endian.
use Rattle.std.specs.Prelude.{◌≡◌, ℕ, ◌*◌, ◌^◌, ◌%◌, ◌<◌, List, [], ◌∷◌, ◌++◌, length, drop, replicate}
use Rattle.std.specs.Prelude.{bit_xor}
use Rattle.std.specs.List.{AllByRecursion}
use Rattle.byteorder.specs.Endian.{big_bytes, big_number}
use Rattle.vr_journal.specs.declared.record.Kind.{Kind}
use Rattle.vr_journal.specs.declared.record.Kind.TheVariants.{Head, Start, Base, Input, Time}
use Rattle.vr_journal.specs.declared.record.Record.{Record}

-- a record, by its kind and its bytes
pub record Entry : Type 0 where
  pub kind : Kind
  pub bytes : List ℕ

-- a record of the code as that
abbrev pub entry : Record → Entry
entry r = record { kind = r.kind; bytes = r.bytes.items }

-- ---- sums

-- what a sum begins with, and what it's multiplied by at each byte: FNV-1a of 64 bits
abbrev pub first_sum : ℕ
first_sum = 0xCBF29CE484222325

abbrev pub prime : ℕ
prime = 0x100000001B3

-- a sum that goes on over these bytes
abbrev pub sum_over : ℕ → List ℕ → ℕ
sum_over sum [] = sum
sum_over sum (byte ∷ bytes) = sum_over (bit_xor sum byte * prime % 2 ^ 64) bytes

-- ---- the bytes of records

abbrev pub code : Kind → ℕ
code Head = 0
code Start = 1
code Base = 2
code Input = 3
code Time = 4

-- what a record's sum is over: its kind and its bytes
abbrev pub body : Entry → List ℕ
body e = code e.kind ∷ e.bytes

-- the sum over all bodies up to this one, where it was so before it
abbrev pub sum_behind : ℕ → Entry → ℕ
sum_behind sum e = sum_over sum (body e)

-- and where several follow
abbrev pub sum_behind_all : ℕ → List Entry → ℕ
sum_behind_all sum [] = sum
sum_behind_all sum (e ∷ es) = sum_behind_all (sum_behind sum e) es

-- the length of the body in four bytes, the sum in eight, and the body
abbrev pub record_bytes : ℕ → Entry → List ℕ
record_bytes sum e = big_bytes 4 (length (body e)) ++ (big_bytes 8 (sum_behind sum e) ++ body e)

-- records one behind the other
abbrev pub spelt : ℕ → List Entry → List ℕ
spelt sum [] = []
spelt sum (e ∷ es) = record_bytes sum e ++ spelt (sum_behind sum e) es

-- a body has at most so many bytes
abbrev pub Fits : Entry → Type 0
Fits e = length (body e) < 2 ^ 32

-- ---- which records bytes are read as

-- this record stands first in these bytes, behind this sum, whole and with its sum right; and behind it stands the rest
pub record StandsFirst (sum : ℕ) (bytes : List ℕ) (e : Entry) (rest : List ℕ) : Type 0 where
  pub length_is : big_number 4 bytes ≡ length (body e)
  pub sum_is : big_number 8 (drop 4 bytes) ≡ sum_behind sum e
  pub parts : drop 12 bytes ≡ body e ++ rest

-- no record stands first in them
abbrev pub NoneStands : ℕ → List ℕ → Type 0
NoneStands sum bytes = (e : Entry) (rest : List ℕ) → StandsFirst sum bytes e rest → ⊥

-- these records stand first, one behind the other
abbrev pub Stand : ℕ → List ℕ → List Entry → List ℕ → Type 0
Stand sum bytes [] rest = bytes ≡ rest
Stand sum bytes (e ∷ es) rest = (more : List ℕ) × StandsFirst sum bytes e more × Stand (sum_behind sum e) more es rest

-- Bytes are read as the records that stand first in them, up to where none does.
pub record AreRead (sum : ℕ) (bytes : List ℕ) (es : List Entry) (rest : List ℕ) : Type 0 where
  pub stand : Stand sum bytes es rest
  pub ends : NoneStands (sum_behind_all sum es) rest

-- ---- what is trusted of sums

-- Of these bytes, which a power cut left where the records were to stand, a record whose sum is right is the one that
-- was written there. It's so of bytes that weren't changed, however many of them came to the disk. Where bytes were
-- changed, it says that no sum over them is right by chance.
abbrev pub AreHonest : ℕ → List Entry → List ℕ → Type 0
AreHonest sum [] bytes = NoneStands sum bytes
AreHonest sum (e ∷ es) bytes = (found : Entry) (more : List ℕ) → StandsFirst sum bytes found more
    → (found ≡ e) × AreHonest (sum_behind sum e) es more

-- ---- what is promised of every file

-- the first list is a prefix of the second
abbrev pub IsPrefix : List Entry → List Entry → Type 0
IsPrefix prefix es = (later : List Entry) × (es ≡ prefix ++ later)

pub record ReadBack : Type 0 where
  -- what was written is read, whatever stands behind it; and that is read as by itself
  pub whole : (sum : ℕ) (es found : List Entry) (tail rest : List ℕ) → AllByRecursion Fits es
      → AreRead sum (spelt sum es ++ tail) found rest
      → (later : List Entry) × (found ≡ es ++ later) × AreRead (sum_behind_all sum es) tail later rest
  -- of bytes that were cut short a prefix of what was written is read
  pub cut : (sum : ℕ) (es found : List Entry) (bytes lost rest : List ℕ) → AllByRecursion Fits es
      → bytes ++ lost ≡ spelt sum es → AreRead sum bytes found rest → IsPrefix found es
  -- and of bytes that were changed, where they are honest
  pub changed : (sum : ℕ) (es found : List Entry) (bytes rest : List ℕ) → AreHonest sum es bytes
      → AreRead sum bytes found rest → IsPrefix found es
  -- bytes that were cut short are honest
  pub honest : (sum : ℕ) (es : List Entry) (bytes lost : List ℕ) → AllByRecursion Fits es
      → bytes ++ lost ≡ spelt sum es → AreHonest sum es bytes
  -- no record stands in zeros
  pub zeros : (sum n : ℕ) → NoneStands sum (replicate n 0)
