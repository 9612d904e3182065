-- Functions by their codes, and which bytes are a request of a function.
use Rattle.std.specs.Prelude.{◌≡◌, ℕ, ◌+◌, ◌*◌, ◌/◌, ◌≤◌, ◌==◌, Bool, ◌&&◌, ◌||◌, nat_le, if◌then◌else◌}
use Rattle.std.specs.Prelude.{List, length, slice_index, Option, Some, None}
use Rattle.modbus_wire.specs.declared.function.Table.TheVariants.{ReadWrite, ReadOnly}
use Rattle.modbus_wire.specs.declared.function.Function.{Function}
use Rattle.modbus_wire.specs.declared.function.Function.TheVariants.{ReadBits, ReadWords, WriteBit, WriteWord}
use Rattle.modbus_wire.specs.declared.function.Function.TheVariants.{WriteBits, WriteWords, MaskWord, WriteReadWords}
use Rattle.modbus_wire.specs.Frames.{number_at}

abbrev pub function_of : ℕ → Option Function
function_of code =
    if code == 1 then Some (ReadBits ReadWrite)
    else (if code == 2 then Some (ReadBits ReadOnly)
    else (if code == 3 then Some (ReadWords ReadWrite)
    else (if code == 4 then Some (ReadWords ReadOnly)
    else (if code == 5 then Some WriteBit
    else (if code == 6 then Some WriteWord
    else (if code == 15 then Some WriteBits
    else (if code == 16 then Some WriteWords
    else (if code == 22 then Some MaskWord
    else (if code == 23 then Some WriteReadWords
    else None)))))))))

abbrev pub code_of : Function → ℕ
code_of (ReadBits ReadWrite) = 1
code_of (ReadBits ReadOnly) = 2
code_of (ReadWords ReadWrite) = 3
code_of (ReadWords ReadOnly) = 4
code_of WriteBit = 5
code_of WriteWord = 6
code_of WriteBits = 15
code_of WriteWords = 16
code_of MaskWord = 22
code_of WriteReadWords = 23

-- how many cells it asks for; of 23, how many it reads
abbrev pub quantity_of : Function → List ℕ → ℕ
quantity_of (ReadBits table) pdu = number_at pdu 3
quantity_of (ReadWords table) pdu = number_at pdu 3
quantity_of WriteBit pdu = 1
quantity_of WriteWord pdu = 1
quantity_of WriteBits pdu = number_at pdu 3
quantity_of WriteWords pdu = number_at pdu 3
quantity_of MaskWord pdu = 1
quantity_of WriteReadWords pdu = number_at pdu 3

-- a quantity stands there, from 1 to the most
abbrev pub is_quantity : ℕ → ℕ → List ℕ → Bool
is_quantity at most pdu = nat_le 1 (number_at pdu at) && nat_le (number_at pdu at) most

-- a byte count stands there, and behind it so many bytes
abbrev pub has_bytes : ℕ → ℕ → List ℕ → Bool
has_bytes at count pdu = (slice_index pdu at == count) && (length pdu == at + 1 + count)

-- length, quantity, byte count or coil value
abbrev pub is_lawful : Function → List ℕ → Bool
is_lawful (ReadBits table) pdu = (length pdu == 5) && is_quantity 3 2000 pdu
is_lawful (ReadWords table) pdu = (length pdu == 5) && is_quantity 3 125 pdu
is_lawful WriteBit pdu = (length pdu == 5) && ((number_at pdu 3 == 0) || (number_at pdu 3 == 65280))
is_lawful WriteWord pdu = length pdu == 5
is_lawful WriteBits pdu = nat_le 6 (length pdu)
    && (is_quantity 3 1968 pdu && has_bytes 5 ((number_at pdu 3 + 7) / 8) pdu)
is_lawful WriteWords pdu = nat_le 6 (length pdu) && (is_quantity 3 123 pdu && has_bytes 5 (2 * number_at pdu 3) pdu)
is_lawful MaskWord pdu = length pdu == 7
is_lawful WriteReadWords pdu = nat_le 10 (length pdu)
    && (is_quantity 3 125 pdu && (is_quantity 7 121 pdu && has_bytes 9 (2 * number_at pdu 7) pdu))

-- the length of a lawful PDU
abbrev pub HasLength : Function → List ℕ → Type 0
HasLength (ReadBits table) pdu = length pdu ≡ 5
HasLength (ReadWords table) pdu = length pdu ≡ 5
HasLength WriteBit pdu = length pdu ≡ 5
HasLength WriteWord pdu = length pdu ≡ 5
HasLength WriteBits pdu = length pdu ≡ 6 + (number_at pdu 3 + 7) / 8
HasLength WriteWords pdu = length pdu ≡ 6 + 2 * number_at pdu 3
HasLength MaskWord pdu = length pdu ≡ 7
HasLength WriteReadWords pdu = length pdu ≡ 10 + 2 * number_at pdu 7

-- the quantities of a lawful PDU
abbrev pub HasRoom : Function → List ℕ → Type 0
HasRoom (ReadBits table) pdu = number_at pdu 3 ≤ 2000
HasRoom (ReadWords table) pdu = number_at pdu 3 ≤ 125
HasRoom WriteBit pdu = Unit {0}
HasRoom WriteWord pdu = Unit {0}
HasRoom WriteBits pdu = number_at pdu 3 ≤ 1968
HasRoom WriteWords pdu = number_at pdu 3 ≤ 123
HasRoom MaskWord pdu = Unit {0}
HasRoom WriteReadWords pdu = number_at pdu 7 ≤ 121
