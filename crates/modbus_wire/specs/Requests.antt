-- Requests as values, and as bytes.
use Rattle.std.specs.Prelude.{◌≡◌, ℕ, ◌*◌, ◌<◌, ◌==◌, Bool, true, ◌&&◌, nat_le, if◌then◌else◌, List, ◌∷◌, ◌++◌, length}
use Rattle.std.specs.Prelude.{drop, slice_index, Option, Some, None, Result, Ok, Err, FitsSigned}
use Rattle.std.specs.List.{AllByRecursion}
use Rattle.std.specs.Int.{w16, cast_signed, cast_unsigned}
use Rattle.byteorder.specs.Endian.{big_bytes}
use Rattle.modbus_wire.specs.declared.exception.Exception.{Exception}
use Rattle.modbus_wire.specs.declared.exception.Exception.TheVariants.{IllegalFunction, IllegalDataValue}
use Rattle.modbus_wire.specs.declared.function.Function.{Function}
use Rattle.modbus_wire.specs.declared.function.Function.TheVariants as functions
use Rattle.modbus_wire.specs.declared.request.Request.{Request}
use Rattle.modbus_wire.specs.declared.request.Request.TheVariants.{ReadBits, ReadWords, WriteBit, WriteWord}
use Rattle.modbus_wire.specs.declared.request.Request.TheVariants.{WriteBits, WriteWords, MaskWord, WriteReadWords}
use Rattle.modbus_wire.specs.Frames.{number_at}
use Rattle.modbus_wire.specs.Functions.{function_of, code_of, is_lawful}
use Rattle.modbus_wire.specs.Packing.{bytes_of_bits, bits_of_bytes, bytes_of_words, words_of_bytes}

abbrev pub function_by : Request → Function
function_by (ReadBits table address quantity) = functions.ReadBits table
function_by (ReadWords table address quantity) = functions.ReadWords table
function_by (WriteBit address value) = functions.WriteBit
function_by (WriteWord address value) = functions.WriteWord
function_by (WriteBits address values) = functions.WriteBits
function_by (WriteWords address values) = functions.WriteWords
function_by (MaskWord address and_mask or_mask) = functions.MaskWord
function_by (WriteReadWords address quantity write_address values) = functions.WriteReadWords

-- from 1 to the most
abbrev pub is_count : ℕ → ℕ → Bool
is_count most n = nat_le 1 n && nat_le n most

-- it asks for at least one cell, and for as many as a PDU has room for at most
abbrev pub is_request : Request → Bool
is_request (ReadBits table address quantity) = is_count 2000 quantity
is_request (ReadWords table address quantity) = is_count 125 quantity
is_request (WriteBit address value) = true
is_request (WriteWord address value) = true
is_request (WriteBits address values) = is_count 1968 (length values)
is_request (WriteWords address values) = is_count 123 (length values.items)
is_request (MaskWord address and_mask or_mask) = true
is_request (WriteReadWords address quantity write_address values) = is_count 125 quantity
    && is_count 121 (length values.items)

-- two numbers of 16 bits, the high byte of each first
abbrev pub two_numbers : ℕ → ℕ → List ℕ
two_numbers x y = big_bytes 2 x ++ big_bytes 2 y

-- a byte count and the bytes
abbrev pub counted : List ℕ → List ℕ
counted bytes = length bytes ∷ bytes

-- a bit alone, as FF00 or 0000
abbrev pub bit_number : Bool → ℕ
bit_number value = if value then 65280 else 0

-- the function code, the address and what is asked for from there on
abbrev pub request_bytes : Request → List ℕ
request_bytes (ReadBits table address quantity) = code_of (functions.ReadBits table) ∷ two_numbers address quantity
request_bytes (ReadWords table address quantity) = code_of (functions.ReadWords table) ∷ two_numbers address quantity
request_bytes (WriteBit address value) = 5 ∷ two_numbers address (bit_number value)
request_bytes (WriteWord address value) = 6 ∷ two_numbers address (cast_unsigned w16 value)
request_bytes (WriteBits address values) = 15 ∷ (two_numbers address (length values)
    ++ counted (bytes_of_bits values))
request_bytes (WriteWords address values) = 16 ∷ (two_numbers address (length values.items)
    ++ counted (bytes_of_words values.items))
request_bytes (MaskWord address and_mask or_mask) = 22 ∷ (two_numbers address and_mask ++ big_bytes 2 or_mask)
request_bytes (WriteReadWords address quantity write_address values) = 23 ∷ (two_numbers address quantity
    ++ (two_numbers write_address (length values.items) ++ counted (bytes_of_words values.items)))

-- the request that a PDU of this function is, if it is one
abbrev pub value_of : Function → List ℕ → Request
value_of (functions.ReadBits table) pdu = ReadBits table (number_at pdu 1) (number_at pdu 3)
value_of (functions.ReadWords table) pdu = ReadWords table (number_at pdu 1) (number_at pdu 3)
value_of functions.WriteBit pdu = WriteBit (number_at pdu 1) (number_at pdu 3 == 65280)
value_of functions.WriteWord pdu = WriteWord (number_at pdu 1) (cast_signed w16 (number_at pdu 3))
value_of functions.WriteBits pdu = WriteBits (number_at pdu 1) (bits_of_bytes (drop 6 pdu) (number_at pdu 3))
value_of functions.WriteWords pdu = WriteWords (number_at pdu 1)
    (record { items = words_of_bytes (drop 6 pdu) (number_at pdu 3) })
value_of functions.MaskWord pdu = MaskWord (number_at pdu 1) (number_at pdu 3) (number_at pdu 5)
value_of functions.WriteReadWords pdu = WriteReadWords (number_at pdu 1) (number_at pdu 3) (number_at pdu 5)
    (record { items = words_of_bytes (drop 10 pdu) (number_at pdu 7) })

-- the function is judged first, then the shape
abbrev pub shaped : Option Function → List ℕ → Result Request Exception
shaped None pdu = Err IllegalFunction
shaped (Some function) pdu = if is_lawful function pdu then Ok (value_of function pdu) else Err IllegalDataValue

-- the request that a PDU is, or the exception that answers it
abbrev pub request_of : List ℕ → Result Request Exception
request_of pdu = shaped (function_of (slice_index pdu 0)) pdu

-- each number is one of 16 bits
abbrev pub HasRanges : Request → Type 0
HasRanges (ReadBits table address quantity) = (address < 65536) × (quantity < 65536)
HasRanges (ReadWords table address quantity) = (address < 65536) × (quantity < 65536)
HasRanges (WriteBit address value) = address < 65536
HasRanges (WriteWord address value) = (address < 65536) × FitsSigned w16 value
HasRanges (WriteBits address values) = address < 65536
HasRanges (WriteWords address values) = (address < 65536) × AllByRecursion (FitsSigned w16) values.items
HasRanges (MaskWord address and_mask or_mask) = (address < 65536) × (and_mask < 65536) × (or_mask < 65536)
HasRanges (WriteReadWords address quantity write_address values) = (address < 65536) × (quantity < 65536)
    × (write_address < 65536) × AllByRecursion (FitsSigned w16) values.items

-- a request is read as what was written
abbrev pub AreReadBack : Type 0
AreReadBack = (r : Request) → HasRanges r → is_request r ≡ true → request_of (request_bytes r) ≡ Ok r
