-- How a store goes on from epoch to epoch.
use Rattle.std.specs.Prelude.{◌≡◌, ◌⊎◌, ◌≤◌, ◌^◌, ◌&&◌, ℕ, Bool, true, false, not, List, bytes_eq, length, Option, Some, None}
use Rattle.std.specs.Prelude.{Result, Ok, Err, IfSome, if◌then◌else◌, ◌<◌, ◌==◌, nat_le, replicate, slice_set}
use Rattle.vr_model.specs.Groups.{most_replicas}
use Rattle.sha2.specs.Sha256.{sha256}
use Rattle.net_hello.specs.declared.hello.Epoch.{Epoch}
use Rattle.plc_epochs.specs.GoingOn.{GoesOn}
use Rattle.plc_epochs.specs.Epochs.{by_hand, is_same, last_number}
use Rattle.plc_epochs.specs.declared.kept.ByHandFault.{ByHandFault}
use Rattle.plc_epochs.specs.declared.kept.ByHandFault.TheVariants as faults
use Rattle.plc_epochs.specs.declared.kept.Kept.{Kept}
use Rattle.plc_epochs.specs.declared.kept.Kept.TheVariants as keeps
use Rattle.plc_store.specs.declared.header.Header.{Header}
use Rattle.plc_store.specs.declared.judging.Refusal.{Refusal}
use Rattle.plc_store.specs.declared.judging.Refusal.TheVariants as refusals
use Rattle.plc_store.specs.Judging.{found_in, is_changed}
use Rattle.plc_store.specs.Spelling.{Saying, epoch_of}
use Rattle.plc_store.specs.declared.keeping.ByHand.{ByHand}
use Rattle.plc_store.specs.declared.keeping.ByHand.TheVariants as into

abbrev pub are_of_one_epoch : Kept → Kept → Bool
are_of_one_epoch kept other = is_same (epoch_of kept) (epoch_of other)

-- of no machine
abbrev pub no_stores : List ℕ
no_stores = replicate most_replicas 0

-- what was seen in an epoch counts in that alone
abbrev pub seen_in : Header → Kept → List ℕ
seen_in header kept = if are_of_one_epoch header.kept kept then header.seen else no_stores

-- what a store is known by is of one epoch: in another one it's the number that was drawn
abbrev pub store_in : Header → Kept → ℕ → ℕ
store_in header kept drawn = if are_of_one_epoch header.kept kept then header.store else drawn

-- a store with something else of epochs, where this number was drawn
abbrev pub with_kept : Saying → Kept → ℕ → Saying
with_kept said kept drawn = record said {
  header = record said.header {
    kept = kept;
    store = store_in said.header kept drawn;
    seen = seen_in said.header kept;
  };
}

-- that has seen this store of a machine
abbrev pub with_seen : Saying → ℕ → ℕ → Saying
with_seen said machine store =
    record said { header = record said.header { seen = slice_set said.header.seen machine store } }

-- the store of these bytes, which has seen this store of a machine
abbrev pub HasSeen : Option (List ℕ) → ℕ → ℕ → Saying → Type 0
HasSeen group machine store said = (found : Saying) × (found_in group ≡ Ok found) × (machine < most_replicas)
    × (said ≡ with_seen found machine store)

-- with another image, if there is one
abbrev pub with_image : Saying → Option (List ℕ) → Saying
with_image said None = said
with_image said (Some image) = record { header = record said.header { program = sha256 image }; image = image }

-- The store of these bytes, with what it may have of epochs next, this: it never goes back. In another epoch it's known
-- by this number.
abbrev pub IsNext : Option (List ℕ) → Kept → ℕ → Saying → Type 0
IsNext group kept drawn said = (found : Saying) × (found_in group ≡ Ok found) × GoesOn found.header.kept kept
    × (said ≡ with_kept found kept drawn)

-- the store of these bytes would go back
abbrev pub WouldGoBack : Option (List ℕ) → Kept → Type 0
WouldGoBack group kept = (found : Saying) × (found_in group ≡ Ok found) × (GoesOn found.header.kept kept → ⊥)

abbrev pub lacks : Kept → List ℕ → List ℕ → Bool
lacks (keeps.Entered epoch) own program = bytes_eq epoch.image program && not (bytes_eq own program)
lacks kept own program = false

abbrev pub by_hand_refusal : ByHandFault → Refusal
by_hand_refusal faults.Waits = refusals.Waits
by_hand_refusal faults.LastEpoch = refusals.LastEpoch

abbrev pub by_hand_result : Result Kept ByHandFault → Result Kept Refusal
by_hand_result (Ok kept) = Ok kept
by_hand_result (Err fault) = Err (by_hand_refusal fault)

-- the epoch behind its own
abbrev pub next_by_hand : Kept → List ℕ → Result Kept Refusal
next_by_hand kept program = by_hand_result (by_hand kept program)

-- the epoch of a number above its own, whatever it has of epochs; the greatest number is never used
abbrev pub numbered_by_hand : Kept → List ℕ → ℕ → Result Kept Refusal
numbered_by_hand kept program number = if nat_le number (epoch_of kept).number then Err refusals.NotAbove
    else (if number == last_number then Err refusals.LastEpoch
    else Ok (keeps.Entered (record { number = number; image = program })))

-- What a store of this header has of epochs by hand, with an image of this sum. Where it has entered an epoch that
-- begins with that image, and has another one, it was to be given this: it stays in that epoch. Else it's the next one,
-- or the one of this number.
abbrev pub kept_by_hand : Header → List ℕ → ByHand → Result Kept Refusal
kept_by_hand header program into.Next = if lacks header.kept header.program program then Ok header.kept
    else next_by_hand header.kept program
kept_by_hand header program (into.Numbered number) = numbered_by_hand header.kept program number

-- The store of these bytes, put into an epoch by hand, with another image if there is one. In another epoch it's known by
-- this number.
abbrev pub IsByHand : Option (List ℕ) → ByHand → Option (List ℕ) → ℕ → Saying → Type 0
IsByHand group which image drawn said = (found : Saying) × (kept : Kept) × (found_in group ≡ Ok found)
    × (kept_by_hand found.header (with_image found image).header.program which ≡ Ok kept)
    × (said ≡ with_kept (with_image found image) kept drawn)

-- it was marked by a change of the program, so the image that it has may be an old one, and no other is given
abbrev pub IsProgramWanted : Option (List ℕ) → Option (List ℕ) → Option (List ℕ) → Type 0
IsProgramWanted group mark image = (found : Saying) × (found_in group ≡ Ok found)
    × (is_changed found.header.kept mark ≡ true) × (image ≡ None)

-- it has no epoch of that kind
abbrev pub HasNoEpoch : Option (List ℕ) → ByHand → Option (List ℕ) → Refusal → Type 0
HasNoEpoch group which image refusal = (found : Saying) × (found_in group ≡ Ok found)
    × (kept_by_hand found.header (with_image found image).header.program which ≡ Err refusal)

-- why a store that is read isn't put into an epoch by hand, with this mark beside it
abbrev pub IsRefusedByHand : Option (List ℕ) → Option (List ℕ) → ByHand → Option (List ℕ) → Refusal → Type 0
IsRefusedByHand group mark which image refusal = ((refusal ≡ refusals.Changed) × IsProgramWanted group mark image)
    ⊎ (((refusal ≡ refusals.TooLong) × IfSome image (λ bytes. 2 ^ 32 ≤ length bytes))
    ⊎ HasNoEpoch group which image refusal)
