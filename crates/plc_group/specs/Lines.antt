-- The lines that tell the faults of a group file, and the addresses that others than a machine itself reach.
use Rattle.std.specs.Prelude.{ℕ, List, ◌++◌, codes, Option, Some, None, string_bytes, ◌+◌, [], fold, nat_eq}
use Rattle.std.specs.Prelude.{if◌then◌else◌, count_by, Bool, true, false, not}
use Rattle.std.specs.List.{flat_map}
use Rattle.std.specs.Net.Text.{socket_text}
use Rattle.il_text.specs.Telling.{numbered}
use Rattle.plc_group.specs.declared.fault.GroupFault.{GroupFault}
use Rattle.plc_group.specs.declared.fault.Why.{Why}
use Rattle.plc_group.specs.declared.fault.Why.TheVariants.{Missing, Refused, Twice, BelowPeriod}
use Rattle.plc_group.specs.declared.fault.Why.TheVariants.{AbovePatience, Everywhere, BesidePorts, WithoutKey}
use Rattle.plc_group.specs.declared.key.Key.{Key}
use Rattle.plc_group.specs.declared.group.Machine.{Machine}
use Rattle.plc_group.specs.declared.machines.Place.{Place}
use Rattle.plc_group.specs.declared.fault.GroupFault.TheVariants as told
use Rattle.plc_group.specs.declared.key.Key.TheVariants as keys
use Rattle.plc_group.specs.Values.{is_loopback, word_of}
use Rattle.plc_group.specs.Faults.{places_in}

abbrev pub machine_text : ℕ → List ℕ
machine_text machine = numbered (codes "plc: group machine ") machine ++ codes " "

-- before a key: plc: group, and the machine's place
abbrev pub place_text : Option ℕ → List ℕ
place_text None = codes "plc: group "
place_text (Some machine) = machine_text machine

-- an identity is made by the program
abbrev pub missing_text : Key → List ℕ
missing_text keys.Identity = codes " missing: plc format --new-group\n"
missing_text key = codes " missing\n"

-- what a key takes, where that isn't a number
abbrev pub refused_text : Key → List ℕ
refused_text keys.Replica = codes " refused: an address and a port, as 127.0.0.1:7600\n"
refused_text keys.Modbus = codes " refused: an address and a port, as 127.0.0.1:7600\n"
refused_text keys.ModbusRead = codes " refused: an address and a port, as 127.0.0.1:7600\n"
refused_text keys.Console = codes " refused: an address and a port, as 127.0.0.1:7600\n"
refused_text keys.Status = codes " refused: an address and a port, as 127.0.0.1:7600\n"
refused_text keys.Identity = codes " refused: 32 hexadecimal digits\n"
refused_text keys.ModbusAllow = codes " refused: at most 32 addresses or networks, as \"10.0.0.0/24\"\n"
refused_text keys.ModbusReadOnly = codes " refused: at most 32 addresses or networks, as \"10.0.0.0/24\"\n"
refused_text key = codes " refused\n"

-- behind a key
abbrev pub why_text : Key → Why → List ℕ
why_text key Missing = missing_text key
why_text key Refused = refused_text key
why_text key Twice = codes " twice\n"
why_text key BelowPeriod = codes " refused: below a period and 20\n"
why_text key AbovePatience = codes " refused: above a fifth of patience\n"
why_text key Everywhere = codes " refused: one address of the machine\n"
why_text key BesidePorts = codes " refused: a machine has a console of its own\n"
why_text key WithoutKey = codes " refused: without a key only 127.0.0.1, unless insecure = true\n"

abbrev pub toml_line : ℕ → ℕ → List ℕ
toml_line line column = numbered (codes "plc: group at ") line ++ (numbered (codes ":") column ++ codes "\n")

abbrev pub unknown_line : Option ℕ → List ℕ → List ℕ
unknown_line machine key = place_text machine ++ (key ++ codes " unknown\n")

abbrev pub value_line : Option ℕ → Key → Why → List ℕ
value_line machine key why = place_text machine ++ (word_of key ++ why_text key why)

abbrev pub group_fault_line : GroupFault → List ℕ
group_fault_line (told.Toml line column) = toml_line line column
group_fault_line (told.Unknown machine key) = unknown_line machine (string_bytes key)
group_fault_line (told.At machine key why) = value_line machine key why
group_fault_line told.Memory = codes "plc: memory\n"

abbrev pub status_of : GroupFault → ℕ
status_of told.Memory = 2
status_of fault = 1

-- ---- the line and the column of what stands behind a text

-- from 1, one more behind each end of a line
abbrev pub line_behind : List ℕ → ℕ
line_behind text = 1 + count_by (nat_eq 10) text

-- from 1, one more behind each byte of its line
abbrev pub column_behind : List ℕ → ℕ
column_behind text = fold (λ column byte. if nat_eq byte 10 then 1 else column + 1) 1 text

-- ---- the addresses that others reach

-- what anybody writes there counts: but for a status, a port where clients only read, a replica that asks for a key,
-- and a Modbus port with a list of who may come
abbrev pub is_written : Bool → Bool → Key → Bool
is_written has_key has_list keys.Status = false
is_written has_key has_list keys.ModbusRead = false
is_written has_key has_list keys.Replica = not has_key
is_written has_key has_list keys.Modbus = not has_list
is_written has_key has_list key = true

abbrev pub is_exposed : Bool → Bool → Place → Bool
is_exposed has_key has_list place =
    if is_written has_key has_list place.key then not (is_loopback place.address) else false

abbrev pub exposed_line : Bool → Bool → Place → List ℕ
exposed_line has_key has_list place = if is_exposed has_key has_list place
    then socket_text place.address ++ codes ": anybody on that network can write here\n" else []

-- of the machines of a group that has a key, or none, and a list of who may be a Modbus client, or none
abbrev pub exposed_lines : Bool → Bool → List Machine → List ℕ
exposed_lines has_key has_list machines = flat_map (exposed_line has_key has_list) (places_in machines)
