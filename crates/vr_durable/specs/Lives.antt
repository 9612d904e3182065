-- Which journal a start goes on with, and what a replica is that does.
use Rattle.std.specs.Prelude.{ℕ, nat_le, if◌then◌else◌, List, Option, Some, None, MatchOption, map}
use Rattle.vr_core.specs.declared.state.Core.{Core}
use Rattle.vr_journal.specs.declared.choosing.File.{File}
use Rattle.vr_journal.specs.declared.kept.Kept.{Kept}
use Rattle.vr_journal.specs.Journals.{Chooses, Keeps, KeepsNothing}
use Rattle.vr_kept.specs.Inputs.{AreOf}
use Rattle.vr_model.specs.Checkpoints.{KeptLog}
use Rattle.vr_model.specs.declared.event.Event.{Event}
use Rattle.vr_pausing.specs.declared.marking.Marks.{Marks}
use Rattle.vr_bases.specs.Spelling.{IsBase}
use Rattle.vr_resumed.specs.Resuming.{GoesOn}
use Rattle.vr_replica.specs.declared.state.Replica.{Replica}

-- it was in use in the last of so many starts, or since: so no life went on without it
abbrev pub of_last_life : ℕ → Option Kept → Option Kept
of_last_life counted None = None
of_last_life counted (Some k) = if nat_le counted k.start then Some k else None

-- what a file keeps, if it keeps something
abbrev pub IsReadAs : List ℕ → List ℕ → Option Kept → Type 0
IsReadAs owner bytes kept = MatchOption kept (KeepsNothing owner bytes) (λ k. Keeps owner bytes k)

-- of two files, of this owner's and where so many starts were counted before: those of the last life alone are looked
-- at, and of these the one with the greater generation is gone on with
pub record IsFound (owner first second : List ℕ) (counted : ℕ) (found : Option (File × Kept)) : Type 0 where
  pub one : Option Kept
  pub other : Option Kept
  pub reads_one : IsReadAs owner first one
  pub reads_other : IsReadAs owner second other
  pub chosen : Chooses (of_last_life counted one) (of_last_life counted other) found

-- The base that is kept is of these marks and this log, the inputs are these events, in order; and the replica stands
-- for what each record of which that's the base becomes by them.
pub record ResumesFrom (core : Core) (kept : Kept) (replica : Replica) : Type 0 where
  pub marks : Marks
  pub log : KeptLog
  pub events : List Event
  pub base : IsBase kept.base.items marks log
  pub inputs : AreOf (map (λ v. v.items) kept.inputs.items) events
  pub goes_on : GoesOn core marks log events replica
