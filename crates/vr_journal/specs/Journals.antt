-- What a file of a journal keeps: whose it is, in which starts it was in use, what its replica was and what it took up.
use Rattle.std.specs.Prelude.{◌≡◌, ℕ, ◌+◌, ◌^◌, ◌<◌, ◌==◌, nat_lt, ◌&&◌, if◌then◌else◌, List}
use Rattle.std.specs.Prelude.{[], ◌∷◌, ◌++◌, length, drop, map}
use Rattle.std.specs.Prelude.{Option, Some, None, unwrap_or}
use Rattle.std.specs.List.{AllByRecursion, filter_map}
use Rattle.byteorder.specs.Endian.{big_bytes, big_number}
use Rattle.vr_journal.specs.declared.record.Kind.{Kind}
use Rattle.vr_journal.specs.declared.record.Kind.TheVariants.{Head, Start, Base, Input, Time}
use Rattle.vr_journal.specs.declared.kept.Kept.{Kept}
use Rattle.vr_journal.specs.declared.choosing.File.{File}
use Rattle.vr_journal.specs.declared.choosing.File.TheVariants.{First, Second}
use Rattle.vr_journal.specs.Records.{Entry, Fits, code, first_sum, spelt, sum_behind_all, AreRead}

-- "PLC-JRN1", of which the last byte is the version
abbrev pub magic : ℕ
magic = 0x504C432D4A524E31

-- the head of a file: the magic, its generation among the files of its replica, and whose it is
abbrev pub head_bytes : List ℕ → ℕ → List ℕ
head_bytes owner generation = big_bytes 8 magic ++ (big_bytes 8 generation ++ owner)

abbrev pub head : List ℕ → ℕ → Entry
head owner generation = record { kind = Head; bytes = head_bytes owner generation }

-- a record of a number, in eight bytes
abbrev pub number : Kind → ℕ → Entry
number kind n = record { kind = kind; bytes = big_bytes 8 n }

-- what the replica was
abbrev pub base : List ℕ → Entry
base bytes = record { kind = Base; bytes = bytes }

-- what a new file has
abbrev pub beginning : List ℕ → ℕ → ℕ → List ℕ → List Entry
beginning owner generation start bytes = head owner generation ∷ number Start start ∷ base bytes ∷ []

-- ---- reading

-- this is the head of a file of this owner's, with this generation
pub record IsHead (owner : List ℕ) (generation : ℕ) (e : Entry) : Type 0 where
  pub kind : e.kind ≡ Head
  pub long : length e.bytes ≡ 16 + length owner
  pub begins : big_number 8 e.bytes ≡ magic
  pub numbered : big_number 8 (drop 8 e.bytes) ≡ generation
  pub owned : drop 16 e.bytes ≡ owner

-- the number that a record of this kind tells, if this is one
abbrev pub number_in : Kind → Entry → Option ℕ
number_in kind e =
    if (code e.kind == code kind) && (length e.bytes == 8) then Some (big_number 8 e.bytes) else None

-- the numbers that records of this kind tell, in order
abbrev pub numbers : Kind → List Entry → List ℕ
numbers kind es = filter_map (number_in kind) es

-- the last of these, or this one where there are none
abbrev pub last_behind : Option ℕ → List ℕ → Option ℕ
last_behind before [] = before
last_behind before (n ∷ ns) = last_behind (Some n) ns

-- the last of these, if there are any
abbrev pub last : List ℕ → Option ℕ
last ns = last_behind None ns

-- what an input's record says
abbrev pub input_in : Entry → Option (List ℕ)
input_in e = if code e.kind == code Input then Some e.bytes else None

-- the inputs that were taken up, in order
abbrev pub inputs : List Entry → List (List ℕ)
inputs es = filter_map input_in es

-- these records are those of a whole file: a head, a start, a base, and what was added later
pub record AreWhole (owner : List ℕ) (generation start : ℕ) (bytes : List ℕ) (es later : List Entry) : Type 0 where
  pub first : Entry
  pub second : Entry
  pub headed : IsHead owner generation first
  pub started : number_in Start second ≡ Some start
  pub parts : es ≡ first ∷ second ∷ base bytes ∷ later

abbrev pub AreNotWhole : List ℕ → List Entry → Type 0
AreNotWhole owner es = (generation start : ℕ) (base : List ℕ) (later : List Entry)
    → AreWhole owner generation start base es later → ⊥

-- what is kept by the records of a whole file
pub record KeepsRecords (owner : List ℕ) (es : List Entry) (k : Kept) : Type 0 where
  pub first_start : ℕ
  pub later : List Entry
  pub are_whole : AreWhole owner k.generation first_start k.base.items es later
  pub start : k.start ≡ unwrap_or (last (numbers Start later)) first_start
  pub time : k.time ≡ last (numbers Time later)
  pub taken : map (λ v. v.items) k.inputs.items ≡ inputs later

-- what a file keeps: its records are whole, and behind them it goes on
pub record Keeps (owner bytes : List ℕ) (k : Kept) : Type 0 where
  pub es : List Entry
  pub read : AreRead first_sum bytes es (drop k.length bytes)
  pub kept : KeepsRecords owner es k
  pub sum : k.sum ≡ sum_behind_all first_sum es

-- a file keeps nothing: its records aren't whole, or not this owner's
pub record KeepsNothing (owner bytes : List ℕ) : Type 0 where
  pub es : List Entry
  pub rest : List ℕ
  pub read : AreRead first_sum bytes es rest
  pub are_not_whole : AreNotWhole owner es

-- ---- two files

-- the file whose generation is greater is gone on with, or the first
abbrev pub Chooses : Option Kept → Option Kept → Option (File × Kept) → Type 0
Chooses None None chosen = chosen ≡ None
Chooses (Some a) None chosen = chosen ≡ Some (First, a)
Chooses None (Some b) chosen = chosen ≡ Some (Second, b)
Chooses (Some a) (Some b) chosen =
    chosen ≡ (if nat_lt a.generation b.generation then Some (Second, b) else Some (First, a))

-- ---- what is promised of every file

pub record KeepsWhatWasWritten : Type 0 where
  -- a file that was begun so, with these records behind, keeps that generation, that base and those inputs first,
  -- whatever stands behind them
  pub kept : (owner what tail : List ℕ) (generation start : ℕ) (later : List Entry) (k : Kept) → generation < 2 ^ 64
      → start < 2 ^ 64 → AllByRecursion Fits (beginning owner generation start what ++ later)
      → Keeps owner (spelt first_sum (beginning owner generation start what ++ later) ++ tail) k
      → (k.generation ≡ generation) × (k.base.items ≡ what) × (more : List (List ℕ))
      × (map (λ v. v.items) k.inputs.items ≡ inputs later ++ more)
  -- it never keeps nothing
  pub some : (owner what tail : List ℕ) (generation start : ℕ) (later : List Entry) → generation < 2 ^ 64
      → start < 2 ^ 64 → AllByRecursion Fits (beginning owner generation start what ++ later)
      → KeepsNothing owner (spelt first_sum (beginning owner generation start what ++ later) ++ tail) → ⊥
