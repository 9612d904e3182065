-- What is printed of a store, and how a refusal is told.
use Rattle.std.specs.Prelude.{◌≡◌, ◌==◌, ℕ, Bool, List, [], ◌++◌, length, codes, Option, Some, if◌then◌else◌}
use Rattle.std.specs.Fmt.{decimal}
use Rattle.std.specs.Int.{w64, to_be_bytes}
use Rattle.std.specs.List.{enumerate_from, flat_map}
use Rattle.hex.specs.Hex.{encode_lower}
use Rattle.plc_epochs.specs.declared.kept.Kept.{Kept}
use Rattle.plc_epochs.specs.declared.kept.Kept.TheVariants as keeps
use Rattle.plc_store.specs.declared.directory.DiskFault.{DiskFault}
use Rattle.plc_store.specs.declared.directory.DiskFault.TheVariants as disk
use Rattle.plc_store.specs.declared.header.Header.{Header}
use Rattle.plc_store.specs.declared.judging.Refusal.{Refusal}
use Rattle.plc_store.specs.declared.judging.Refusal.TheVariants as refusals
use Rattle.plc_store.specs.Judging.{is_changed}
use Rattle.plc_store.specs.Spelling.{Saying, epoch_of, spelling}

abbrev pub word_of : Bool → List ℕ
word_of is_so = if is_so then codes "yes" else codes "no"

-- a head and a value
abbrev pub line : List ℕ → List ℕ → List ℕ
line head value = head ++ (value ++ codes "\n")

-- how far the machine is
abbrev pub state_of : Kept → List ℕ
state_of keeps.Nothing = codes "waits"
state_of (keeps.Above epoch) = codes "waits above"
state_of (keeps.Entered epoch) = codes "entered"
state_of (keeps.Begun epoch) = codes "begun"

abbrev pub epoch_line : Kept → List ℕ
epoch_line kept = line (codes "epoch ") (decimal (epoch_of kept).number)

-- how far, in which epoch, and the sum of the image with which that begins
abbrev pub epoch_lines : Kept → List ℕ
epoch_lines kept = line (codes "state ") (state_of kept)
    ++ (epoch_line kept ++ line (codes "begins with ") (encode_lower (epoch_of kept).image))

abbrev pub image_lines : Saying → List ℕ
image_lines said = line (codes "program ") (encode_lower said.header.program)
    ++ line (codes "image ") (decimal (length said.image))

-- what a store is known by, in sixteen digits
abbrev pub store_text : ℕ → List ℕ
store_text store = encode_lower (to_be_bytes w64 store)

abbrev pub machine_lines : Header → List ℕ
machine_lines header = line (codes "machine ") (decimal header.machine)
    ++ (line (codes "identity ") (encode_lower header.identity) ++ line (codes "store ") (store_text header.store))

-- which store was seen of a machine, if one was
abbrev pub seen_line : ℕ × ℕ → List ℕ
seen_line seen = if seen.1 == 0 then []
    else line (codes "machine " ++ (decimal seen.0 ++ codes " has store ")) (store_text seen.1)

abbrev pub seen_lines : List ℕ → List ℕ
seen_lines stores = flat_map seen_line (enumerate_from 0 stores)

abbrev pub header_lines : Header → List ℕ
header_lines header = machine_lines header ++ (epoch_lines header.kept ++ seen_lines header.seen)

-- and whether the program was changed since
abbrev pub program_lines : Saying → Bool → List ℕ
program_lines said is_changed = image_lines said ++ line (codes "changed ") (word_of is_changed)

-- a line for each part, sums in hexadecimal
abbrev pub shown : Saying → Bool → List ℕ
shown said is_changed = codes "format 3\n" ++ (header_lines said.header ++ program_lines said is_changed)

-- these are the lines of the store of these bytes, beside this mark
abbrev pub IsShown : Option (List ℕ) → Option (List ℕ) → List ℕ → Type 0
IsShown group mark lines = (said : Saying) × (group ≡ Some (spelling said))
    × (lines ≡ shown said (is_changed said.header.kept mark))

-- behind the path of a disk
abbrev pub cause_text : DiskFault → List ℕ
cause_text disk.Rights = codes ": no rights"
cause_text disk.Space = codes ": no space"
cause_text disk.Missing = codes ": file gone"
cause_text disk.Other = []

abbrev pub refusal_line : Refusal → List ℕ
refusal_line refusals.NoStore = codes "plc: store missing\n"
refusal_line refusals.OtherFormat = codes "plc: store of another format\n"
refusal_line refusals.Torn = codes "plc: store torn\n"
refusal_line refusals.OtherGroup = codes "plc: store of another group\n"
refusal_line refusals.OtherMachine = codes "plc: store of another machine\n"
refusal_line refusals.ViewGone = codes "plc: store lost its view\n"
refusal_line refusals.ViewUnstarted = codes "plc: store has a view and was not started\n"
refusal_line refusals.Backward = codes "plc: store would go back\n"
refusal_line refusals.Waits = codes "plc: store waits for its group\n"
refusal_line refusals.LastEpoch = codes "plc: store in the last epoch\n"
refusal_line refusals.NotAbove = codes "plc: store has that epoch or a later one\n"
refusal_line refusals.Changed = codes "plc: store of a program that was changed: --changed, or give one\n"
refusal_line refusals.NotChanged = codes "plc: store of a program that was not changed\n"
refusal_line refusals.NoImage = codes "plc: store without the program to which it was changed: give one\n"
refusal_line refusals.Used = codes "plc: store used\n"
refusal_line refusals.TooLong = codes "plc: store image too long\n"
refusal_line refusals.Taken = codes "plc: store taken\n"
refusal_line refusals.Open = codes "plc: store open to all\n"
refusal_line (refusals.Device disk.Rights) = codes "plc: device no rights\n"
refusal_line (refusals.Device disk.Space) = codes "plc: device no space\n"
refusal_line (refusals.Device disk.Missing) = codes "plc: device file gone\n"
refusal_line (refusals.Device disk.Other) = codes "plc: device\n"
refusal_line refusals.Random = codes "plc: device random\n"
refusal_line refusals.Memory = codes "plc: memory\n"

-- 2 where a later start may go well
abbrev pub status_of : Refusal → ℕ
status_of (refusals.Device fault) = 2
status_of refusals.Random = 2
status_of refusals.Memory = 2
status_of refusals.Taken = 2
status_of refusal = 1
