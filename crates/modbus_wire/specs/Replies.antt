-- Replies as values, and as bytes.
use Rattle.std.specs.Prelude.{◌≡◌, ℕ, ◌+◌, ◌*◌, ◌/◌, ◌≤◌, ◌==◌, bit_or, Bool, true, false, ◌&&◌, nat_le, if◌then◌else◌}
use Rattle.std.specs.Prelude.{List, [], ◌∷◌, length, slice_index, drop, Option, Some, None, FitsSigned}
use Rattle.std.specs.List.{AllByRecursion}
use Rattle.std.specs.Int.{w16}
use Rattle.std.specs.Cmp.Lexicographic.{pointwise}
use Rattle.std.specs.Prelude.{nat_eq}
use Rattle.modbus_wire.specs.declared.exception.Exception.{Exception}
use Rattle.modbus_wire.specs.declared.exception.Exception.TheVariants.{IllegalFunction, IllegalDataAddress}
use Rattle.modbus_wire.specs.declared.exception.Exception.TheVariants.{IllegalDataValue, ServerDeviceFailure}
use Rattle.modbus_wire.specs.declared.request.Request.{Request}
use Rattle.modbus_wire.specs.declared.request.Request.TheVariants as requests
use Rattle.modbus_wire.specs.declared.reply.Expected.{Expected}
use Rattle.modbus_wire.specs.declared.reply.Expected.TheVariants.{ManyBits, ManyWords, Echo}
use Rattle.modbus_wire.specs.declared.reply.Reply.{Reply}
use Rattle.modbus_wire.specs.declared.reply.Reply.TheVariants.{Bits, Words, Done, Failed}
use Rattle.modbus_wire.specs.Functions.{code_of, has_bytes}
use Rattle.modbus_wire.specs.Packing.{bytes_of_bits, bits_of_bytes, bytes_of_words, words_of_bytes}
use Rattle.modbus_wire.specs.Requests.{function_by, is_request, two_numbers, counted, request_bytes}

abbrev pub number_of : Exception → ℕ
number_of IllegalFunction = 1
number_of IllegalDataAddress = 2
number_of IllegalDataValue = 3
number_of ServerDeviceFailure = 4

-- the function code with bit 7 set, then the exception's number
abbrev pub exception_of : List ℕ → Exception → List ℕ
exception_of pdu e = bit_or (slice_index pdu 0) 128 ∷ number_of e ∷ []

-- the function code, a byte count and the bytes
abbrev pub data_reply : List ℕ → List ℕ → List ℕ
data_reply pdu bytes = slice_index pdu 0 ∷ length bytes ∷ bytes

-- ---- values

-- the reply of a server that did as it was asked: as many bits or words as were asked for; for a write, the bytes of
-- the request up to the values that a byte count precedes
abbrev pub expected : Request → Expected
expected (requests.ReadBits table address quantity) = ManyBits quantity
expected (requests.ReadWords table address quantity) = ManyWords quantity
expected (requests.WriteBit address value) = Echo (record { items = request_bytes (requests.WriteBit address value) })
expected (requests.WriteWord address value) = Echo
    (record { items = request_bytes (requests.WriteWord address value) })
expected (requests.WriteBits address values) = Echo
    (record { items = 15 ∷ two_numbers address (length values) })
expected (requests.WriteWords address values) = Echo
    (record { items = 16 ∷ two_numbers address (length values.items) })
expected (requests.MaskWord address and_mask or_mask) = Echo
    (record { items = request_bytes (requests.MaskWord address and_mask or_mask) })
expected (requests.WriteReadWords address quantity write_address values) = ManyWords quantity

-- Values are as many as are expected; any request may fail.
abbrev pub suits_by : Expected → Reply → Bool
suits_by (ManyBits quantity) (Bits bits) = length bits == quantity
suits_by (ManyWords quantity) (Words words) = length words.items == quantity
suits_by (Echo bytes) Done = true
suits_by _ (Failed number) = true
suits_by _ _ = false

-- a reply to a request
abbrev pub suits : Request → Reply → Bool
suits r reply = is_request r && suits_by (expected r) reply

-- the function code with bit 7 set, then the exception's number; the function code, a byte count and the values; or the
-- echo
abbrev pub bytes_by : ℕ → Expected → Reply → List ℕ
bytes_by code _ (Failed number) = bit_or code 128 ∷ number ∷ []
bytes_by code _ (Bits bits) = code ∷ counted (bytes_of_bits bits)
bytes_by code _ (Words words) = code ∷ counted (bytes_of_words words.items)
bytes_by code (Echo echo) Done = echo.items
bytes_by code _ Done = []

abbrev pub code_by : Request → ℕ
code_by r = code_of (function_by r)

abbrev pub reply_bytes : Request → Reply → List ℕ
reply_bytes r reply = bytes_by (code_by r) (expected r) reply

-- two bytes, of which the first is the function code with bit 7 set
abbrev pub is_failure : ℕ → List ℕ → Bool
is_failure code bytes = (length bytes == 2) && (slice_index bytes 0 == bit_or code 128)

-- the function code, so many as a byte count, and as many bytes
abbrev pub is_shown : ℕ → ℕ → List ℕ → Bool
is_shown code count bytes = nat_le 2 (length bytes) && ((slice_index bytes 0 == code) && has_bytes 1 count bytes)

abbrev pub done_by : ℕ → Expected → List ℕ → Option Reply
done_by code (ManyBits quantity) bytes =
    if is_shown code ((quantity + 7) / 8) bytes then Some (Bits (bits_of_bytes (drop 2 bytes) quantity))
    else None
done_by code (ManyWords quantity) bytes =
    if is_shown code (2 * quantity) bytes then Some (Words (record { items = words_of_bytes (drop 2 bytes) quantity }))
    else None
done_by code (Echo echo) bytes = if pointwise nat_eq bytes echo.items then Some Done else None

abbrev pub reply_by : ℕ → Expected → List ℕ → Option Reply
reply_by code what bytes =
    if is_failure code bytes then Some (Failed (slice_index bytes 1)) else done_by code what bytes

-- the reply that bytes are to a request, if they are one
abbrev pub reply_of : Request → List ℕ → Option Reply
reply_of r bytes = if is_request r then reply_by (code_by r) (expected r) bytes else None

-- each word is one of 16 bits
abbrev pub FitsReply : Reply → Type 0
FitsReply (Words words) = AllByRecursion (FitsSigned w16) words.items
FitsReply _ = Unit {0}

-- a reply is read as what was written
abbrev pub AreRepliesReadBack : Type 0
AreRepliesReadBack = (r : Request) (reply : Reply) → FitsReply reply → suits r reply ≡ true
    → reply_of r (reply_bytes r reply) ≡ Some reply

-- how many values are expected at most, and how long an echo is
abbrev pub IsFew : Expected → Type 0
IsFew (ManyBits quantity) = quantity ≤ 2000
IsFew (ManyWords quantity) = quantity ≤ 125
IsFew (Echo echo) = length echo.items ≤ 253
