-- What a file has of a durable replica's records, and what comes behind them.
use Rattle.std.specs.Prelude.{◌≡◌, ℕ, List, [], ◌∷◌, ◌++◌, length}
use Rattle.vr_filed.specs.declared.filed.Filed.{Filed}
use Rattle.vr_disk.specs.declared.writing.Writing.{Writing}
use Rattle.vr_disk.specs.Disks.{Writes}
use Rattle.vr_journal.specs.Records.{Entry, first_sum, spelt, sum_behind_all}
use Rattle.vr_kept.specs.Inputs.{input_record}
use Rattle.vr_model.specs.declared.event.Event.{Event}
use Rattle.vr_outbox.specs.declared.stage.Stage.{Stage}
use Rattle.vr_outbox.specs.declared.stage.Stage.TheVariants.{Flushed, Unflushed, Flushing, Behind}

-- The records of a file, in order: those that stand in it and are flushed; behind them those that are being written and
-- flushed; and behind these what was taken up since, which the next writing has.
pub record Records : Type 0 where
  pub flushed : List Entry
  pub writing : List Entry
  pub put : List Entry

-- those that stand in the file once the writing under way is over
abbrev pub written : Records → List Entry
written r = r.flushed ++ r.writing

-- how far all of them are flushed
abbrev pub IsAt : Stage → Records → Type 0
IsAt Flushed r = (r.writing ≡ []) × (r.put ≡ [])
IsAt Unflushed r = r.writing ≡ []
IsAt Flushing r = r.put ≡ []
IsAt Behind r = Unit {0}

-- A replica's file has these records: it goes on where they end, with the sum over them, and what it's to write next
-- are the bytes of those that were put.
pub record Holds (q : Filed) (r : Records) : Type 0 where
  pub stage : IsAt q.durable.outbox.stage r
  pub long : q.length ≡ length (spelt first_sum (written r))
  pub bytes : q.durable.pending.bytes.items ≡ spelt (sum_behind_all first_sum (written r)) r.put
  pub sum : q.durable.pending.sum ≡ sum_behind_all (sum_behind_all first_sum (written r)) r.put

-- ---- what each call makes of them

-- all of these are flushed
abbrev pub flushed_only : List Entry → Records
flushed_only es = record { flushed = es; writing = []; put = [] }

-- one more was taken up
abbrev pub with_put : Event → Records → Records
with_put e r = record { flushed = r.flushed; writing = r.writing; put = r.put ++ input_record e ∷ [] }

-- what was put is being written
abbrev pub begun : Records → Records
begun r = record { flushed = r.flushed; writing = r.put; put = [] }

-- what was being written is flushed
abbrev pub ended : Records → Records
ended r = record { flushed = r.flushed ++ r.writing; writing = []; put = r.put }

-- whatever records its file had, it has what a call makes of them
abbrev pub Makes : Filed → Filed → (Records → Records) → Type 0
Makes old new change = (r : Records) → Holds old r → Holds new (change r)

-- and it has the same
abbrev pub Stays : Filed → Filed → Type 0
Stays old new = (r : Records) → Holds old r → Holds new r

-- a writing begins of all that was put, where none was under way
pub record BeginsWith (old new : Filed) (w : Writing) (r : Records) : Type 0 where
  pub none : r.writing ≡ []
  pub writes : Writes w r.flushed r.put
  pub holds : Holds new (begun r)

abbrev pub Begins : Filed → Filed → Writing → Type 0
Begins old new w = (r : Records) → Holds old r → BeginsWith old new w r

-- all that was taken up is flushed
abbrev pub IsAllFlushed : Filed → Type 0
IsAllFlushed q = (r : Records) → Holds q r → (r.writing ≡ []) × (r.put ≡ [])
