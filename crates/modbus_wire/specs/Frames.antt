-- Application data units, one behind another, as a stream of frames.
use Rattle.std.specs.Prelude.{◌≡◌, ℕ, ◌+◌, ◌<◌, ◌≤◌, ◌==◌, not, nat_lt, if◌then◌else◌, List, ◌∷◌, ◌++◌, length, Option}
use Rattle.std.specs.Prelude.{Some, None, Result, Ok, Err}
use Rattle.byteorder.specs.Endian.{big_bytes, big_from}
use Rattle.io_model.specs.Streams.{Format, Ending, Fault, IsRest, Took}
use Rattle.modbus_wire.specs.declared.header.Header.{Header}
use Rattle.modbus_wire.specs.declared.header.Header.TheVariants.{Short, Size, Bad}
use Rattle.modbus_wire.specs.declared.header.HeaderFault.{HeaderFault}
use Rattle.modbus_wire.specs.declared.header.HeaderFault.TheVariants.{BadProtocol, BadLength}
use Rattle.modbus_wire.specs.declared.session.SessionFault.{SessionFault}
use Rattle.modbus_wire.specs.declared.session.SessionFault.TheVariants as faults

-- a request or a reply with the transaction and the unit of its header
pub record Adu : Type 0 where
  pub transaction : ℕ
  pub unit : ℕ
  pub pdu : List ℕ

-- transaction, protocol 0, the length of unit and PDU, unit, PDU
abbrev pub frame_of : Adu → List ℕ
frame_of a = big_bytes 2 a.transaction ++ (big_bytes 2 0 ++ (big_bytes 2 (length a.pdu + 1) ++ a.unit ∷ a.pdu))

abbrev pub IsFramed : Adu → Type 0
IsFramed a = (a.transaction < 65536) × (0 < length a.pdu) × (length a.pdu ≤ 253)

-- the 16 bits from a place on, the high byte first
abbrev pub number_at : List ℕ → ℕ → ℕ
number_at bytes place = big_from place 2 bytes

-- once six bytes are there: first the protocol is judged, then the length
abbrev pub header_by : ℕ → ℕ → ℕ → Header
header_by count protocol size =
    if nat_lt count 6 then Short
    else (if not (protocol == 0) then Bad BadProtocol
    else (if nat_lt size 2 then Bad BadLength
    else (if nat_lt 254 size then Bad BadLength
    else Size (6 + size))))

abbrev pub header_of : List ℕ → Header
header_of bytes = header_by (length bytes) (number_at bytes 2) (number_at bytes 4)

-- less than a unit: no whole header, or fewer bytes than it tells
abbrev pub AreFewer : Header → ℕ → Type 0
AreFewer Short n = Unit {0}
AreFewer (Size size) n = n < size
AreFewer (Bad fault) n = ⊥

abbrev pub IsPartial : List ℕ → Type 0
IsPartial bytes = AreFewer (header_of bytes) (length bytes)

abbrev pub IsBroken : HeaderFault → List ℕ → Type 0
IsBroken fault bytes = header_of bytes ≡ Bad fault

abbrev pub adus : Format Adu HeaderFault
adus = record { frame = frame_of; IsFramed = IsFramed; IsPartial = IsPartial; IsBroken = IsBroken }

-- ---- what a session keeps of its stream

-- what is kept while no fault was met is less than a unit
abbrev pub IsKept : Option HeaderFault → List ℕ → Type 0
IsKept None held = IsPartial held
IsKept (Some fault) held = Unit {0}

-- Ok where no fault was met, a fault where it's that; want of memory changes nothing
abbrev pub Feeding : Result (Unit {0}) SessionFault → Ending HeaderFault → List ℕ → Ending HeaderFault → List Adu
    → List Adu → Type 0
Feeding (Ok done) before piece after out out' = Took adus before piece after out out' × IsRest after
Feeding (Err (faults.Header fault)) before piece after out out' = Took adus before piece after out out'
    × (after ≡ Fault fault)
Feeding (Err faults.Memory) before piece after out out' = (after ≡ before) × (out' ≡ out)
