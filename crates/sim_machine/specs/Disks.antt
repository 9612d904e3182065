-- What a disk has.
use Rattle.std.specs.Prelude.{◌≡◌, ◌∷◌, ◌+◌, ◌<◌, ◌^◌, ◌==◌, ℕ, Bool, true, false, List, Option, Some, None}
use Rattle.std.specs.Prelude.{if◌then◌else◌}
use Rattle.plc_epochs.specs.declared.kept.Kept.{Kept}
use Rattle.plc_epochs.specs.declared.kept.Kept.TheVariants as keeps
use Rattle.sim_machine.specs.declared.disk.Files.{Files}
use Rattle.sim_machine.specs.declared.disk.Write.{Write}
use Rattle.sim_machine.specs.declared.disk.Write.TheVariants as writes

-- an epoch that is begun has no view and no start yet, and any other one has those that there were
abbrev pub HasStartsOf : Kept → Files → Files → Type 0
HasStartsOf (keeps.Begun epoch) old new = (new.has_view ≡ false) × (new.view ≡ 0) × (new.starts ≡ 0)
HasStartsOf kept old new = (new.has_view ≡ old.has_view) × (new.view ≡ old.view) × (new.starts ≡ old.starts)

-- the number of the epoch of which it has something; 0 where there is none
abbrev pub number_in : Kept → ℕ
number_in keeps.Nothing = 0
number_in (keeps.Above epoch) = epoch.number
number_in (keeps.Entered epoch) = epoch.number
number_in (keeps.Begun epoch) = epoch.number

-- what a store is known by that has something else of epochs: in another one it's the number that was drawn
abbrev pub store_in : Files → Kept → ℕ → ℕ
store_in files kept drawn = if number_in files.kept == number_in kept then files.store else drawn

-- a start more was counted
abbrev pub HasCounted : Files → Files → Type 0
HasCounted old new = old.starts + 1 < 2 ^ 64 → new ≡ record old { has_view = true; starts = old.starts + 1 }

-- its files behind a write: a start more was counted, it's marked which epoch is begun, or that of epochs is kept, for
-- which this number was drawn
abbrev pub HasWritten : Write → ℕ → Files → Files → Type 0
HasWritten writes.Start drawn old new = HasCounted old new
HasWritten (writes.Begins epoch) drawn old new = new ≡ record old { begins = Some epoch }
HasWritten (writes.Keep kept) drawn old new =
    (new.kept ≡ kept) × (new.begins ≡ old.begins) × (new.store ≡ store_in old kept drawn) × HasStartsOf kept old new

-- this write was the first that waited, and was flushed to the files, for which this number was drawn; or it wasn't, and
-- then they are as they were
abbrev pub HasFlushed : List Write → List Write → ℕ → Files → Files → Write → Bool → Type 0
HasFlushed waited waits drawn old new write true = (waited ≡ write ∷ waits) × HasWritten write drawn old new
HasFlushed waited waits drawn old new write false = (waited ≡ write ∷ waits) × (new ≡ old)

-- a view was saved, if one was to be
abbrev pub HasSaved : Option ℕ → Files → Files → Type 0
HasSaved None old new = new ≡ old
HasSaved (Some view) old new = new ≡ record old { view = view }
