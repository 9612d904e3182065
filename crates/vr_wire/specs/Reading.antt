-- Reading fields from left to right: the inverse of their spelling.
use Rattle.std.specs.Prelude.{◌≡◌, ℕ, zero, suc, ◌/◌, ◌%◌, ◌==◌, Bool, ℤ, List, [], ◌∷◌, length, take, drop, slice_get}
use Rattle.std.specs.Prelude.{Option, Some, None, Result, Ok, Err, nat_lt, nat_le, if◌then◌else◌}
use Rattle.std.specs.List.{flat_map}
use Rattle.std.specs.Int.{Width, w8, w16, w32, w64, byte_len, from_be_bytes, cast_signed}
use Rattle.il_model.specs.declared.limits.TheConstants.{WORDS}
use Rattle.il_model.specs.Limits.{is_short_image, is_long_image}
use Rattle.il_values.specs.declared.value.Ty.{Ty}
use Rattle.il_values.specs.declared.value.Value.{Value}
use Rattle.il_values.specs.declared.value.Stop.{Stop}
use Rattle.il_values.specs.declared.value.Stop.TheVariants as stops
use Rattle.il_model.specs.declared.cells.Cells.{Cells}
use Rattle.il_model.specs.declared.slot.Slot.{Slot}
use Rattle.il_model.specs.declared.command.Command.{Command}
use Rattle.il_model.specs.declared.command.Command.TheVariants as commands
use Rattle.il_model.specs.declared.command.Answer.{Answer}
use Rattle.il_model.specs.declared.command.Answer.TheVariants as answers
use Rattle.il_model.specs.declared.command.Refusal.{Refusal}
use Rattle.il_model.specs.declared.command.Refusal.TheVariants as refusals
use Rattle.il_values.specs.Values.{typed_value}
use Rattle.il_model.specs.Codes.{type_of}
use Rattle.il_model.specs.Locations.{safe_image}
use Rattle.vr_wire.specs.Fields.{type_width}
use Rattle.vr_wire.specs.declared.fault.ReadError.{ReadError}
use Rattle.vr_wire.specs.declared.fault.ReadError.TheVariants as errors

infixl 10 ◌>>=◌
abbrev pub ◌>>=◌ : {A B : Type 0} → Option A → (A → Option B) → Option B
(Some x) >>= f = f x
None >>= f = None

-- What a function returned, seen by view, is what reading gives, unless memory ran out.
abbrev pub Fails : {Y : Type 0} → ReadError → Option Y → Type 0
Fails errors.Memory read = Unit {0}
Fails errors.Malformed read = read ≡ None

abbrev pub Gives : {X Y : Type 0} → (X → Y) → Result X ReadError → Option Y → Type 0
Gives view (Ok x) read = read ≡ Some (view x)
Gives view (Err e) read = Fails e read

-- a value in the first bytes, and the bytes behind it
abbrev pub Reader : Type 0 → Type 0
Reader X = List ℕ → Option (X × List ℕ)

abbrev pub number_at : Width → Reader ℕ
number_at w bytes = if nat_lt (length bytes) (byte_len w) then None
    else Some (from_be_bytes w (take (byte_len w) bytes), drop (byte_len w) bytes)

-- no field, one or more, one behind the other, and what is made of them
abbrev pub fields_0 : {X : Type 0} → X → Reader X
fields_0 typed_value bytes = Some (typed_value, bytes)

abbrev pub fields_1 : {A X : Type 0} → (A → X) → Reader A → Reader X
fields_1 make a bytes = a bytes >>= λ x. Some (make x.0, x.1)

abbrev pub fields_2 : {A B X : Type 0} → (A → B → X) → Reader A → Reader B → Reader X
fields_2 make a b bytes = a bytes >>= λ x. fields_1 (make x.0) b x.1

abbrev pub fields_3 : {A B C X : Type 0} → (A → B → C → X) → Reader A → Reader B → Reader C → Reader X
fields_3 make a b c bytes = a bytes >>= λ x. fields_2 (make x.0) b c x.1

abbrev pub fields_4 : {A B C D X : Type 0} → (A → B → C → D → X) → Reader A → Reader B → Reader C → Reader D → Reader X
fields_4 make a b c d bytes = a bytes >>= λ x. fields_3 (make x.0) b c d x.1

-- so many of them
unfoldable pub items_at : {X : Type 0} → Reader X → ℕ → Reader (List X)
items_at item zero bytes = Some ([], bytes)
items_at item (suc n) bytes = item bytes >>= λ x. items_at item n x.1 >>= λ xs. Some (x.0 ∷ xs.0, xs.1)

-- what a field stands for, if it stands for something
abbrev pub lawful : {A X : Type 0} → (A → Option X) → Reader A → Reader X
lawful meaning a bytes = a bytes >>= λ x. meaning x.0 >>= λ y. Some (y, x.1)

-- those that pass a test
abbrev pub passed : {X : Type 0} → (X → Bool) → X → Option X
passed test x = if test x then Some x else None

-- as many as a number tells
abbrev pub listed_at : {X : Type 0} → Reader ℕ → Reader X → Reader (List X)
listed_at count item bytes = count bytes >>= λ n. items_at item n.0 n.1

-- so many bytes
abbrev pub taken : ℕ → Reader (List ℕ)
taken n bytes = if nat_lt (length bytes) n then None else Some (take n bytes, drop n bytes)

-- and as many as a number tells
abbrev pub counted_at : Reader ℕ → Reader (List ℕ)
counted_at count bytes = count bytes >>= λ n. taken n.0 n.1

-- behind a tag, what the reader with that number reads
abbrev pub read_by : {X : Type 0} → Option (Reader X) → Reader X
read_by None bytes = None
read_by (Some reader) bytes = reader bytes

abbrev pub tagged : {X : Type 0} → List (Reader X) → Reader X
tagged readers bytes = number_at w8 bytes >>= λ tag. read_by (slice_get readers tag.0) tag.1

-- where a value ends
abbrev pub end_of : {X : Type 0} → Reader X → List ℕ → Option (List ℕ)
end_of read bytes = read bytes >>= λ x. Some x.1

-- a value that is all of the bytes
abbrev pub ended : {X : Type 0} → X → List ℕ → Option X
ended x rest = if length rest == 0 then Some x else None

abbrev pub closed : {X : Type 0} → Reader X → List ℕ → Option X
closed read bytes = read bytes >>= λ x. ended x.0 x.1

-- ---- cells and values

-- the lowest bits of a number, the lowest first
unfoldable pub bits_of : ℕ → ℕ → List Bool
bits_of zero n = []
bits_of (suc k) n = (n % 2 == 1) ∷ bits_of k (n / 2)

abbrev pub bits_at : Reader (List Bool)
bits_at bytes = if nat_lt (length bytes) 64 then None else Some (flat_map (bits_of 8) (take 64 bytes), drop 64 bytes)

abbrev pub word_at : Reader ℤ
word_at bytes = fields_1 (cast_signed w16) (number_at w16) bytes

abbrev pub cells_at : Reader Cells
cells_at bytes = fields_2 (λ bits words. record { bits = bits; words = words }) bits_at (items_at word_at WORDS) bytes

-- the number of a value of that type
abbrev pub number_of_at : Ty → Reader ℤ
number_of_at type bytes = fields_1 (cast_signed (type_width type)) (number_at (type_width type)) bytes

abbrev pub value_of_at : Ty → Reader Value
value_of_at type bytes = lawful (typed_value type) (number_of_at type) bytes

-- the code of its type, then its number
abbrev pub value_at : Reader Value
value_at bytes = lawful type_of (number_at w8) bytes >>= λ type. value_of_at type.0 type.1

abbrev pub slot_at : Reader Slot
slot_at bytes = fields_1 (λ n. record { 0 = n }) (number_at w16) bytes

-- ---- commands, in the order of their tags

abbrev pub scan_at : Reader Command
scan_at bytes = fields_2 (λ cells moment. commands.Scan (record { cells = cells }) moment) cells_at
    (number_at w64) bytes

abbrev pub force_at : Reader Command
force_at bytes = fields_2 commands.Force slot_at value_at bytes

abbrev pub change_at : Reader Command
change_at bytes = fields_1 commands.Change (lawful (passed is_short_image) (counted_at (number_at w16))) bytes

-- one that has no shorter spelling
abbrev pub long_change_at : Reader Command
long_change_at bytes = fields_1 commands.Change (lawful (passed is_long_image) (counted_at (number_at w32))) bytes

abbrev pub command_readers : List (Reader Command)
command_readers =
    scan_at ∷
    fields_1 commands.SetBreak (number_at w16) ∷
    fields_1 commands.ClearBreak (number_at w16) ∷
    fields_0 commands.Step ∷
    fields_0 commands.Continue ∷
    force_at ∷
    fields_1 commands.Unforce slot_at ∷
    fields_1 commands.ReadVar slot_at ∷
    fields_0 commands.ReadCr ∷
    fields_0 commands.Reset ∷
    change_at ∷
    fields_0 commands.Warm ∷
    long_change_at ∷ []

abbrev pub command_at : Reader Command
command_at bytes = tagged command_readers bytes

-- ---- answers, in the order of their tags

abbrev pub stop_of : ℕ → Option Stop
stop_of n = slice_get (None ∷ Some stops.Overflow ∷ Some stops.ZeroDivisor ∷ Some stops.Budget ∷ []) n >>= λ stop. stop

abbrev pub refusal_of : ℕ → Option Refusal
refusal_of n = slice_get
    (None ∷ Some refusals.NotHeld ∷ Some refusals.BadPosition ∷ Some refusals.BadSlot ∷ Some refusals.BadType
    ∷ Some refusals.NoResult ∷ Some refusals.BadImage ∷ Some refusals.NotIdle ∷ []) n >>= λ refusal. refusal

abbrev pub outputs_at : Reader Answer
outputs_at bytes = fields_2 (λ count cells. answers.Outputs count (record { cells = cells }))
    (number_at w64) cells_at bytes

abbrev pub stopped_at : Reader Answer
stopped_at bytes = fields_2 (λ stop position. answers.Stopped stop position safe_image) (lawful stop_of (number_at w8))
    (number_at w16) bytes

abbrev pub answer_readers : List (Reader Answer)
answer_readers =
    outputs_at ∷
    fields_1 answers.Held (number_at w16) ∷
    stopped_at ∷
    fields_1 answers.Value value_at ∷
    fields_0 answers.Done ∷
    fields_1 answers.Refused (lawful refusal_of (number_at w8)) ∷ []

abbrev pub answer_at : Reader Answer
answer_at bytes = tagged answer_readers bytes
