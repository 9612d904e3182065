-- What a device is asked, what its replies show, and what is carried to places of the controller.
use Rattle.std.specs.Prelude.{ℕ, ◌+◌, ℤ, pos, Bool, false, replicate, slice_range, Option, Some, None, ◌==◌, nat_le}
use Rattle.std.specs.Prelude.{if◌then◌else◌, length, ◌&&◌}
use Rattle.std.specs.Bool.{beq}
use Rattle.std.specs.Ordering.{int_eq}
use Rattle.std.specs.Cmp.Lexicographic.{pointwise}
use Rattle.il_model.specs.declared.limits.TheConstants.{BITS, WORDS}
use Rattle.il_model.specs.declared.cells.Cells.{Cells}
use Rattle.il_model.specs.Locations.{clear_cells}
use Rattle.io_image.specs.Book.{Change, bits_at, words_at, after_change}
use Rattle.modbus_wire.specs.declared.function.Table.{Table}
use Rattle.modbus_wire.specs.declared.request.Request.{Request}
use Rattle.modbus_wire.specs.declared.request.Request.TheVariants.{ReadBits, ReadWords, WriteBits, WriteWords}
use Rattle.modbus_wire.specs.declared.request.Request.TheVariants.{WriteReadWords}
use Rattle.modbus_wire.specs.declared.function.Table.TheVariants.{ReadWrite}
use Rattle.modbus_wire.specs.declared.reply.Reply.{Reply}
use Rattle.modbus_wire.specs.declared.reply.Reply.TheVariants.{Bits, Words}
use Rattle.field_map.specs.declared.places.Kind.{Kind}
use Rattle.field_map.specs.declared.places.Places.{Places}
use Rattle.field_map.specs.declared.reading.Reading.{Reading}
use Rattle.field_map.specs.declared.reading.Writing.{Writing}
use Rattle.field_map.specs.declared.reading.Outputs.{Outputs}
use Rattle.field_map.specs.declared.reading.Fallback.{Fallback}
use Rattle.field_map.specs.declared.reading.Fallback.TheVariants.{Hold, Zero}
use Rattle.field_map.specs.declared.places.Kind.TheVariants as kinds
use Rattle.field_map.specs.Layouts.{arranged_reply, arranged_request}

-- ---- what is carried

-- the cells after one write, if there is one
abbrev pub after_some : Cells → Option Change → Cells
after_some c None = c
after_some c (Some change) = after_change c change

-- the write of cells of this kind, from a place on, as others have them
abbrev pub carried_by : Kind → ℕ → ℕ → Cells → Change
carried_by kinds.Bits from count cells = bits_at from (slice_range cells.bits from (from + count))
carried_by kinds.Words from count cells = words_at from (slice_range cells.words from (from + count))

abbrev pub carried : Places → Cells → Change
carried p cells = carried_by p.kind p.from p.count cells

abbrev pub all_of : Bool → ℤ → Cells
all_of bit word = record { bits = replicate BITS bit; words = replicate WORDS word }

-- all bits of one value, and all words 0
abbrev pub all_cells : Bool → Cells
all_cells value = all_of value (pos 0)

-- all words of one value, and all bits FALSE
abbrev pub all_words : ℤ → Cells
all_words value = all_of false value

-- ---- requests and replies

abbrev pub read_by : Kind → Table → ℕ → ℕ → Request
read_by kinds.Bits table address count = ReadBits table address count
read_by kinds.Words table address count = ReadWords table address count

-- the request that reads the cells of a reading
abbrev pub read_request : Reading → Request
read_request r = read_by r.places.kind r.table r.address r.places.count

abbrev pub write_by : Kind → ℕ → ℕ → ℕ → Cells → Request
write_by kinds.Bits address from count cells =
    WriteBits address (slice_range cells.bits from (from + count))
write_by kinds.Words address from count cells =
    WriteWords address (record { items = slice_range cells.words from (from + count) })

-- the request that writes places, as the cells have them, from an address on
abbrev pub write_request : ℕ → Places → Cells → Request
write_request address p cells = write_by p.kind address p.from p.count cells

-- the request that writes the cells of a writing, as these have them
abbrev pub write_in : Writing → Cells → Request
write_in w cells = arranged_request w.layout (write_request w.address w.places cells)

abbrev pub are_same_by : Kind → ℕ → ℕ → Cells → Cells → Bool
are_same_by kinds.Bits from to a b = pointwise beq (slice_range a.bits from to) (slice_range b.bits from to)
are_same_by kinds.Words from to a b = pointwise int_eq (slice_range a.words from to) (slice_range b.words from to)

-- the places have the same values in both
abbrev pub are_same : Places → Cells → Cells → Bool
are_same p a b = are_same_by p.kind p.from (p.from + p.count) a b

-- the device was written the same values, and they are written on changes only
abbrev pub is_unchanged : Writing → Cells → Option Cells → Bool
is_unchanged w known None = false
is_unchanged w known (Some written) = w.on_change && are_same w.places known written

abbrev pub stop_request : Fallback → Writing → Option Request
stop_request Zero w = Some (write_in w clear_cells)
stop_request Hold w = None

abbrev pub output_by : Writing → Option Cells → Option Cells → Option Request
output_by w (Some known) written = if is_unchanged w known written then None else Some (write_in w known)
output_by w None written = stop_request w.on_stop w

-- the request that writes the cells of a writing, where the outputs are known and where they aren't
abbrev pub output_request : Writing → Outputs → Option Request
output_request w outputs = output_by w outputs.known outputs.written

-- what a reply shows of so many cells of a kind, as a write of these places
abbrev pub shown_at : Kind → ℕ → ℕ → Reply → Option Change
shown_at kinds.Bits from count (Bits bits) = if length bits == count then Some (bits_at from bits) else None
shown_at kinds.Words from count (Words words) =
    if length words.items == count then Some (words_at from words.items) else None
shown_at _ from count _ = None

-- what a reply shows of a reading's cells
abbrev pub shown_by : Reading → Reply → Option Change
shown_by r reply = shown_at r.places.kind r.places.from r.places.count (arranged_reply r.layout reply)

-- one request that writes words and then reads some, in place of two: of registers that a client may write, where it can
-- carry them
abbrev pub joined : Request → Request → Option Request
joined (WriteWords into values) (ReadWords ReadWrite address count) =
    if nat_le (length values.items) 121 then Some (WriteReadWords address count into values) else None
joined _ _ = None
