-- What a machine may do with what its directory holds: the bytes of its store, if there are any, the views of
-- replicas, and the mark of a change.
use Rattle.std.specs.Prelude.{◌≡◌, ◌==◌, ◌⊎◌, ⊤, ℕ, Bool, true, false, not, List, [], ◌∷◌, bytes_eq, nat_le, Option, Some}
use Rattle.std.specs.Prelude.{None, Result, Ok, Err, if◌then◌else◌, nat_eq}
use Rattle.std.specs.List.{list_any, starts_with}
use Rattle.net_hello.specs.declared.hello.Epoch.{Epoch}
use Rattle.plc_epochs.specs.declared.kept.Kept.{Kept}
use Rattle.plc_epochs.specs.declared.kept.Kept.TheVariants as keeps
use Rattle.plc_store.specs.declared.header.Header.{Header}
use Rattle.plc_store.specs.declared.judging.Refusal.{Refusal}
use Rattle.plc_store.specs.declared.judging.Refusal.TheVariants as refusals
use Rattle.plc_store.specs.declared.judging.Start.{Start}
use Rattle.plc_store.specs.declared.judging.Start.TheVariants.{Waits, First, Again}
use Rattle.plc_store.specs.declared.judging.Wanted.{Wanted}
use Rattle.plc_store.specs.declared.reading.StoreFault.{StoreFault}
use Rattle.plc_store.specs.declared.reading.StoreFault.TheVariants.{OtherFormat, Torn, Memory}
use Rattle.plc_store.specs.Spelling.{read_of, Saying, epoch_bytes, spelling}

abbrev pub refusal_of : StoreFault → Refusal
refusal_of OtherFormat = refusals.OtherFormat
refusal_of Torn = refusals.Torn
refusal_of Memory = refusals.Memory

abbrev pub has_view : List ℕ → ℕ → Bool
has_view views machine = list_any (λ view. view == machine) views

-- before the first epoch was begun no replica has kept a view; a view of a later one's directory is of one before
abbrev pub entered : ℕ → List ℕ → Result Start Refusal
entered number [] = Ok First
entered number (view ∷ more) = if nat_le number 1 then Err refusals.ViewUnstarted else Ok First

abbrev pub begun : Bool → Result Start Refusal
begun has_view = if has_view then Ok Again else Err refusals.ViewGone

-- by what the store has of epochs, and the views that are there
abbrev pub by_kept : Kept → ℕ → List ℕ → Result Start Refusal
by_kept keeps.Nothing machine views = Ok Waits
by_kept (keeps.Above epoch) machine views = Ok Waits
by_kept (keeps.Entered epoch) machine views = entered epoch.number views
by_kept (keeps.Begun epoch) machine views = begun (has_view views machine)

-- how a machine starts from a store of this header
abbrev pub judgement : Header → List ℕ → Wanted → Result Start Refusal
judgement header views wanted = if not (bytes_eq header.identity wanted.identity) then Err refusals.OtherGroup
    else (if nat_le wanted.machines header.machine then Err refusals.OtherMachine
    else by_kept header.kept header.machine views)

abbrev pub found_by : Result Saying StoreFault → Result Saying Refusal
found_by (Ok said) = Ok said
found_by (Err fault) = Err (refusal_of fault)

-- the store of a directory that has these bytes of one
abbrev pub found_in : Option (List ℕ) → Result Saying Refusal
found_in None = Err refusals.NoStore
found_in (Some bytes) = found_by (read_of bytes)

abbrev pub judged_store : Result Saying Refusal → List ℕ → Wanted → Result Start Refusal
judged_store (Ok said) views wanted = judgement said.header views wanted
judged_store (Err refusal) views wanted = Err refusal

-- how a machine starts from the bytes of a store and these views: a directory without a store is never a new machine
abbrev pub judged : Option (List ℕ) → List ℕ → Wanted → Result Start Refusal
judged group views wanted = judged_store (found_in group) views wanted

-- a directory that holds nothing of a store
abbrev pub IsBlank : Option (List ℕ) → List ℕ → Option (List ℕ) → Type 0
IsBlank group views mark = (group ≡ None) × (views ≡ []) × (mark ≡ None)

-- what no directory decides: memory ran out, or the disk failed
abbrev pub IsFromOutside : Refusal → Type 0
IsFromOutside refusals.Memory = ⊤
IsFromOutside (refusals.Device fault) = ⊤
IsFromOutside e = ⊥

-- there is no store to be read, or that's from outside
abbrev pub IsUnread : Option (List ℕ) → Refusal → Type 0
IsUnread group refusal = IsFromOutside refusal ⊎ (found_in group ≡ Err refusal)

-- the machine has begun no epoch yet
abbrev pub is_unbegun : Kept → Bool
is_unbegun (keeps.Begun epoch) = false
is_unbegun kept = true

-- these bytes are a store whose machine has entered an epoch and not begun it
abbrev pub HasEntered : Option (List ℕ) → Type 0
HasEntered group = (said : Saying) × (epoch : Epoch) × (group ≡ Some (spelling said))
    × (said.header.kept ≡ keeps.Entered epoch)

abbrev pub has_mark : Epoch → Option (List ℕ) → Bool
has_mark epoch None = false
has_mark epoch (Some bytes) = starts_with nat_eq bytes (epoch_bytes epoch)

-- a change of the program was marked in the epoch that the store has begun: its mark begins with that epoch, whatever
-- stands behind; a mark of another epoch doesn't count
abbrev pub is_changed : Kept → Option (List ℕ) → Bool
is_changed (keeps.Begun epoch) mark = has_mark epoch mark
is_changed kept mark = false
