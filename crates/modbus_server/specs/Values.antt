-- The table by the values of a request: what it stages, and what its reply says.
use Rattle.std.specs.Prelude.{◌≡◌, ◌+◌, Bool, true, not, ◌&&◌, nat_le, if◌then◌else◌, [], ◌∷◌, length, slice_range}
use Rattle.std.specs.Prelude.{Option, Some, None}
use Rattle.il_model.specs.declared.limits.TheConstants.{BITS, WORDS}
use Rattle.il_model.specs.declared.cells.Cells.{Cells}
use Rattle.io_image.specs.Book.{Change, bits_at, words_at, mask_at, after_change}
use Rattle.modbus_wire.specs.declared.request.Request.{Request}
use Rattle.modbus_wire.specs.declared.request.Request.TheVariants.{ReadBits, ReadWords, WriteBit, WriteWord}
use Rattle.modbus_wire.specs.declared.request.Request.TheVariants.{WriteBits, WriteWords, MaskWord, WriteReadWords}
use Rattle.modbus_wire.specs.declared.reply.Reply.{Reply}
use Rattle.modbus_wire.specs.declared.reply.Reply.TheVariants.{Bits, Words, Done, Failed}
use Rattle.modbus_wire.specs.Requests.{request_bytes, is_request, HasRanges}
use Rattle.modbus_wire.specs.Replies.{reply_bytes}
use Rattle.modbus_replies.specs.Replies.{Outcome, read_outcome, table_cells, modbus_reply}

-- the cells that it names are there
abbrev pub are_there : Request → Bool
are_there (ReadBits table at count) = nat_le (at + count) BITS
are_there (ReadWords table at count) = nat_le (at + count) WORDS
are_there (WriteBit at value) = nat_le (at + 1) BITS
are_there (WriteWord at value) = nat_le (at + 1) WORDS
are_there (WriteBits at values) = nat_le (at + length values) BITS
are_there (WriteWords at values) = nat_le (at + length values.items) WORDS
are_there (MaskWord at and_mask or_mask) = nat_le (at + 1) WORDS
are_there (WriteReadWords at count into values) = nat_le (at + count) WORDS
    && nat_le (into + length values.items) WORDS

-- what it stages, if it's taken
abbrev pub change_by : Request → Option Change
change_by (ReadBits table at count) = None
change_by (ReadWords table at count) = None
change_by (WriteBit at value) = Some (bits_at at (value ∷ []))
change_by (WriteWord at value) = Some (words_at at (value ∷ []))
change_by (WriteBits at values) = Some (bits_at at values)
change_by (WriteWords at values) = Some (words_at at values.items)
change_by (MaskWord at and_mask or_mask) = Some (mask_at at and_mask or_mask)
change_by (WriteReadWords at count into values) = Some (words_at into values.items)

-- what its reply says, if it's taken
abbrev pub shown_by : Request → Cells → Cells → Reply
shown_by (ReadBits table at count) staged released = Bits
    (slice_range (table_cells table staged released).bits at (at + count))
shown_by (ReadWords table at count) staged released = Words
    (record { items = slice_range (table_cells table staged released).words at (at + count) })
shown_by (WriteReadWords at count into values) staged released = Words
    (record { items = slice_range (after_change staged (words_at into values.items)).words at (at + count) })
shown_by _ staged released = Done

abbrev pub settled : Request → Option Change → Bool → Reply → Outcome
settled r None refused reply = read_outcome (reply_bytes r reply)
settled r (Some change) refused reply = if refused then read_outcome (reply_bytes r (Failed 4))
    else record { staged = Some change; reply = reply_bytes r reply }

-- first whether the cells are there, then whether the staging takes the write
abbrev pub served : Request → Cells → Cells → Bool → Outcome
served r staged released refused = if not (are_there r) then read_outcome (reply_bytes r (Failed 2))
    else settled r (change_by r) refused (shown_by r staged released)

-- the reply to the bytes of a request is the one to its values
abbrev pub AreServed : Type 0
AreServed = (r : Request) (staged released : Cells) (refused : Bool) → HasRanges r → is_request r ≡ true
    → modbus_reply (request_bytes r) staged released refused ≡ served r staged released refused
