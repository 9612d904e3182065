-- Two files on a disk: what was done with them, and what stands in them.
use Rattle.std.specs.Prelude.{◌≡◌, ℕ, ◌+◌, Bool, List, ◌++◌, length, take, drop, replicate}
use Rattle.std.specs.Prelude.{Option, None, Some, Result, Ok, Err}
use Rattle.std.specs.declared.alloc.Global.{Global}
use Rattle.std.specs.declared.vec.Vec.{Vec}
use Rattle.vr_journal.specs.declared.choosing.File.{File}
use Rattle.vr_journal.specs.Records.{Entry, first_sum, spelt, sum_behind_all}
use Rattle.vr_disk.specs.declared.writing.Writing.{Writing}

-- What was done with a file: some bytes were written from a place on, or it was flushed; and whether that was answered
-- as done. One that wasn't may have been done in part. Or its bytes were read, if they were.
pub data DiskDeed : Type 0 where
  Wrote : (file : File) (at : ℕ) (bytes : List ℕ) (is_done : Bool) → DiskDeed
  Flushed : (file : File) (is_done : Bool) → DiskDeed
  Read : (file : File) (bytes : Option (List ℕ)) → DiskDeed

-- the bytes that a read gave, if it gave some
abbrev pub read_as : {E : Type 0} → Result (Vec ℕ Global) E → Option (List ℕ)
read_as (Ok bytes) = Some bytes.items
read_as (Err fault) = None

-- bytes written over others, from a place on: between their end and that place stand zeros
abbrev pub written_over : List ℕ → ℕ → List ℕ → List ℕ
written_over old at new = take at (old ++ replicate at 0) ++ (new ++ drop (at + length new) old)

-- This writing has the bytes of these records, behind those of the others.
pub record Writes (w : Writing) (before es : List Entry) : Type 0 where
  pub at : w.at ≡ length (spelt first_sum before)
  pub bytes : w.bytes.items ≡ spelt (sum_behind_all first_sum before) es

-- these records stand in a file, from its beginning on
pub record BeginsWith (bytes : List ℕ) (es : List Entry) : Type 0 where
  pub rest : List ℕ
  pub is : bytes ≡ spelt first_sum es ++ rest

-- a writing puts its records behind those of a file
abbrev pub WritesBehind : Type 0
WritesBehind = (w : Writing) (before es : List Entry) (bytes : List ℕ) → Writes w before es → BeginsWith bytes before
    → BeginsWith (written_over bytes w.at w.bytes.items) (before ++ es)
