-- What a request asks for, or the exception that answers it: the function code first, then the shape of the PDU, then
-- the addresses.
use Rattle.std.specs.Prelude.{◌≡◌, ℕ, ◌+◌, ◌≤◌, Bool, true, not, ◌&&◌, nat_le, if◌then◌else◌}
use Rattle.std.specs.Prelude.{List, slice_index, Option, Some, None, Result, Ok, Err}
use Rattle.il_model.specs.declared.limits.TheConstants.{BITS, WORDS}
use Rattle.modbus_wire.specs.declared.function.Function.{Function}
use Rattle.modbus_wire.specs.declared.function.Function.TheVariants.{ReadBits, ReadWords, WriteBit, WriteWord}
use Rattle.modbus_wire.specs.declared.function.Function.TheVariants.{WriteBits, WriteWords, MaskWord, WriteReadWords}
use Rattle.modbus_wire.specs.declared.exception.Exception.{Exception}
use Rattle.modbus_wire.specs.declared.exception.Exception.TheVariants.{IllegalFunction, IllegalDataAddress}
use Rattle.modbus_wire.specs.declared.exception.Exception.TheVariants.{IllegalDataValue}
use Rattle.modbus_wire.specs.Frames.{number_at}
use Rattle.modbus_wire.specs.Functions.{function_of, quantity_of, is_lawful, HasLength}
use Rattle.modbus_replies.specs.declared.request.Asked.{Asked}

-- how many cells its area has
abbrev pub area_length : Function → ℕ
area_length (ReadBits table) = BITS
area_length (ReadWords table) = WORDS
area_length WriteBit = BITS
area_length WriteWord = WORDS
area_length WriteBits = BITS
area_length WriteWords = WORDS
area_length MaskWord = WORDS
area_length WriteReadWords = WORDS

-- the words that 23 writes are there
abbrev pub writes_within : Function → List ℕ → Bool
writes_within WriteReadWords pdu = nat_le (number_at pdu 5 + number_at pdu 7) WORDS
writes_within _ pdu = true

-- the cells that it asks for are there, and those that it writes besides
abbrev pub is_within_area : Function → List ℕ → Bool
is_within_area function pdu = nat_le (number_at pdu 1 + quantity_of function pdu) (area_length function)
    && writes_within function pdu

abbrev pub judged : Option Function → List ℕ → Result Asked Exception
judged None pdu = Err IllegalFunction
judged (Some function) pdu =
    if not (is_lawful function pdu) then Err IllegalDataValue
    else (if not (is_within_area function pdu) then Err IllegalDataAddress
    else Ok (record { function = function; address = number_at pdu 1; quantity = quantity_of function pdu }))

abbrev pub request_of : List ℕ → Result Asked Exception
request_of pdu = judged (function_of (slice_index pdu 0)) pdu

-- what the checks leave of a request
pub record IsSound (pdu : List ℕ) (r : Asked) : Type 0 where
  pub shape : HasLength r.function pdu
  pub quantity : r.quantity ≡ quantity_of r.function pdu
  pub within : r.address + r.quantity ≤ area_length r.function
  pub written : writes_within r.function pdu ≡ true
