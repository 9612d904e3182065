-- The reply to a request, and the write that it makes.
use Rattle.std.specs.Prelude.{◌≡◌, ℕ, ◌+◌, ◌==◌, ◌&&◌, Bool, true, false, if◌then◌else◌, List, [], ◌∷◌, take, drop}
use Rattle.std.specs.Prelude.{slice_index, slice_range}
use Rattle.std.specs.Prelude.{Option, Some, None, Result, Ok, Err}
use Rattle.std.specs.Int.{w16, cast_signed}
use Rattle.il_model.specs.declared.cells.Cells.{Cells}
use Rattle.io_image.specs.Book.{Book, Change, bits_at, words_at, mask_at, after_change, cells_of, with_change, is_full}
use Rattle.io_image.specs.Book.{Changed}
use Rattle.io_image.specs.Calls.{Does, read_gave}
use Rattle.modbus_wire.specs.declared.function.Table.{Table}
use Rattle.modbus_wire.specs.declared.function.Table.TheVariants.{ReadWrite, ReadOnly}
use Rattle.modbus_wire.specs.declared.function.Function.{Function}
use Rattle.modbus_wire.specs.declared.function.Function.TheVariants.{ReadBits, ReadWords, WriteBit, WriteWord}
use Rattle.modbus_wire.specs.declared.function.Function.TheVariants.{WriteBits, WriteWords, MaskWord, WriteReadWords}
use Rattle.modbus_wire.specs.declared.exception.Exception.{Exception}
use Rattle.modbus_wire.specs.declared.exception.Exception.TheVariants.{IllegalFunction, ServerDeviceFailure}
use Rattle.modbus_wire.specs.Frames.{number_at}
use Rattle.modbus_wire.specs.Packing.{bytes_of_bits, bits_of_bytes, bytes_of_words, words_of_bytes}
use Rattle.modbus_wire.specs.Replies.{exception_of, data_reply}
use Rattle.modbus_wire.specs.Functions.{function_of}
use Rattle.modbus_replies.specs.declared.permitted.Access.{Access}
use Rattle.modbus_replies.specs.declared.permitted.Access.TheVariants.{ReadsAndWrites, ReadsAlone}
use Rattle.modbus_replies.specs.declared.request.Asked.{Asked}
use Rattle.modbus_replies.specs.Requests.{request_of}

-- what is staged, if something is, and the reply
pub record Outcome : Type 0 where
  pub staged : Option Change
  pub reply : List ℕ

abbrev pub read_outcome : List ℕ → Outcome
read_outcome reply = record { staged = None; reply = reply }

-- a write; refused says that the staging answers Full or Memory
abbrev pub write_outcome : Bool → List ℕ → Change → List ℕ → Outcome
write_outcome refused pdu change reply = if refused then read_outcome (exception_of pdu ServerDeviceFailure)
    else record { staged = Some change; reply = reply }

-- two masks on the word at a place, echoed
abbrev pub mask_outcome : Bool → List ℕ → ℕ → Outcome
mask_outcome refused pdu at = write_outcome refused pdu (mask_at at (number_at pdu 3) (number_at pdu 5)) pdu

-- the words that 23 writes
abbrev pub words_written : List ℕ → Change
words_written pdu = words_at (number_at pdu 5) (words_of_bytes (drop 10 pdu) (number_at pdu 7))

-- words are written first, and then so many are read from a place on
abbrev pub write_read_outcome : Bool → List ℕ → Cells → ℕ → ℕ → Outcome
write_read_outcome refused pdu staged at count = write_outcome refused pdu (words_written pdu)
    (data_reply pdu (bytes_of_words (slice_range (after_change staged (words_written pdu)).words at (at + count))))

-- a client may write staged inputs, and only read released outputs
abbrev pub table_cells : Table → Cells → Cells → Cells
table_cells ReadWrite staged released = staged
table_cells ReadOnly staged released = released

-- the cells of a table, as a staging gave them or as they were released
abbrev pub LooksAt : Table → Option Book → Option Book → Cells → Cells → Type 0
LooksAt ReadWrite before after released cells = Changed before after (λ b c. Does b (read_gave cells) c)
LooksAt ReadOnly before after released cells = (after ≡ before) × (cells ≡ released)

-- a request that passed each check, from its address on for so many cells
abbrev pub outcome_by : List ℕ → Cells → Cells → Bool → Function → ℕ → ℕ → Outcome
outcome_by pdu staged released refused (ReadBits table) at count =
    read_outcome (data_reply pdu (bytes_of_bits (slice_range (table_cells table staged released).bits at (at + count))))
outcome_by pdu staged released refused (ReadWords table) at count =
    read_outcome
    (data_reply pdu (bytes_of_words (slice_range (table_cells table staged released).words at (at + count))))
outcome_by pdu staged released refused WriteBit at count =
    write_outcome refused pdu (bits_at at ((number_at pdu 3 == 65280) ∷ [])) pdu
outcome_by pdu staged released refused WriteWord at count =
    write_outcome refused pdu (words_at at (cast_signed w16 (number_at pdu 3) ∷ [])) pdu
outcome_by pdu staged released refused WriteBits at count =
    write_outcome refused pdu (bits_at at (bits_of_bytes (drop 6 pdu) count)) (take 5 pdu)
outcome_by pdu staged released refused WriteWords at count =
    write_outcome refused pdu (words_at at (words_of_bytes (drop 6 pdu) count)) (take 5 pdu)
outcome_by pdu staged released refused MaskWord at count = mask_outcome refused pdu at
outcome_by pdu staged released refused WriteReadWords at count = write_read_outcome refused pdu staged at count

abbrev pub outcome_of : List ℕ → Cells → Cells → Bool → Result Asked Exception → Outcome
outcome_of pdu staged released refused (Err e) = read_outcome (exception_of pdu e)
outcome_of pdu staged released refused (Ok r) = outcome_by pdu staged released refused r.function r.address r.quantity

-- the reply to a PDU, where these are the staged cells with each write so far, and these the released ones
abbrev pub modbus_reply : List ℕ → Cells → Cells → Bool → Outcome
modbus_reply pdu staged released refused = outcome_of pdu staged released refused (request_of pdu)

-- it reads outputs
abbrev pub reads_outputs : Function → Bool
reads_outputs (ReadBits ReadOnly) = true
reads_outputs (ReadWords ReadOnly) = true
reads_outputs _ = false

-- it passed each check, and reads outputs
abbrev pub shows_outputs : Result Asked Exception → Bool
shows_outputs (Err e) = false
shows_outputs (Ok r) = reads_outputs r.function

-- the same where outputs that are stale aren't shown: exception 4 in their place
abbrev pub timely_reply : Bool → List ℕ → Cells → Cells → Bool → Outcome
timely_reply stale pdu staged released refused =
    if stale && shows_outputs (request_of pdu) then read_outcome (exception_of pdu ServerDeviceFailure)
    else modbus_reply pdu staged released refused

-- it writes
abbrev pub writes : Function → Bool
writes (ReadBits table) = false
writes (ReadWords table) = false
writes _ = true

-- the function that a request has, if there is one of its code
abbrev pub function_at : List ℕ → Option Function
function_at pdu = function_of (slice_index pdu 0)

abbrev pub is_write : Option Function → Bool
is_write None = false
is_write (Some function) = writes function

-- the reply to who may only read: to each function that writes, whatever else stands in the request, exception 1, and to
-- the others what everybody gets
abbrev pub read_reply : Bool → List ℕ → Cells → Cells → List ℕ
read_reply stale pdu staged released = if is_write (function_at pdu)
    then exception_of pdu IllegalFunction else (timely_reply stale pdu staged released true).reply

-- by what a client may do; of who may only read nothing is ever staged
abbrev pub permitted_reply : Access → Bool → List ℕ → Cells → Cells → Bool → Outcome
permitted_reply ReadsAndWrites stale pdu staged released refused = timely_reply stale pdu staged released refused
permitted_reply ReadsAlone stale pdu staged released refused = read_outcome (read_reply stale pdu staged released)

abbrev pub book_after : Book → Option Change → Book
book_after b None = b
book_after b (Some change) = with_change b change

-- Over a staging that tells its book the reply is to that book's cells, and a full one refuses; over one that doesn't,
-- it is to some cells.
abbrev pub Replies : Option Book → Option Book → (Cells → Bool → Outcome) → List ℕ → Type 0
Replies None after outcome reply = (after ≡ None) × (cells : Cells) × (refused : Bool)
    × (reply ≡ (outcome cells refused).reply)
Replies (Some b) None outcome reply = ⊥
Replies (Some b) (Some c) outcome reply = (refused : Bool) × (is_full b ≡ true → refused ≡ true)
    × (c ≡ book_after b (outcome (cells_of b) refused).staged) × (reply ≡ (outcome (cells_of b) refused).reply)
