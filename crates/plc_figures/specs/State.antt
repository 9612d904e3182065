-- What shows of a controller, as one JSON object. Times are seconds.
use Rattle.std.specs.Prelude.{ℕ, ◌+◌, List, ◌++◌, Option, Some, None, codes, decimal}
use Rattle.std.specs.List.{enumerate_from, flat_map}
use Rattle.il_lister.specs.Listing.{location_text}
use Rattle.il_text.specs.Lines.{stop_name}
use Rattle.vr_model.specs.declared.standing.Status.{Status}
use Rattle.vr_model.specs.declared.standing.Status.TheVariants as statuses
use Rattle.plc_figures.specs.declared.reading.Clients.{Clients}
use Rattle.plc_figures.specs.declared.reading.Halt.{Halt}
use Rattle.plc_figures.specs.declared.reading.Halt.TheVariants as halts
use Rattle.plc_figures.specs.declared.reading.Machine.{Machine}
use Rattle.plc_figures.specs.declared.reading.Point.{Point}
use Rattle.plc_figures.specs.declared.reading.Process.{Process}
use Rattle.plc_figures.specs.declared.reading.Reading.{Reading}
use Rattle.plc_figures.specs.declared.reading.Replica.{Replica}
use Rattle.plc_figures.specs.declared.reading.Scans.{Scans}
use Rattle.plc_figures.specs.declared.reading.Told.{Told}
use Rattle.il_values.specs.declared.value.Value.{Value}
use Rattle.il_values.specs.declared.value.Value.TheVariants as values
use Rattle.plc_figures.specs.Texts.{comma, flag_json, string_json, seconds_text, value_text}
use Rattle.plc_figures.specs.Readings.{function_name, greatest_view, sum_of}

abbrev pub phase_name : Status → List ℕ
phase_name statuses.Normal = codes "normal"
phase_name statuses.ViewChange = codes "view change"
phase_name statuses.Recovering = codes "recovering"
phase_name statuses.Down = codes "down"

-- a replica, with its number; it stands at this place
abbrev pub replica_json : ℕ × Replica → List ℕ
replica_json it = comma it.0
    ++ (codes "{\"replica\":"
    ++ (decimal it.1.number
    ++ (codes ",\"status\":\""
    ++ (phase_name it.1.standing.status
    ++ (codes "\",\"view\":"
    ++ (decimal it.1.standing.view
    ++ (codes ",\"primary\":"
    ++ (flag_json it.1.standing.is_primary
    ++ (codes ",\"starts\":"
    ++ (decimal it.1.starts ++ (codes ",\"failed\":" ++ (flag_json it.1.has_failed ++ codes "}"))))))))))))

abbrev pub replicas_json : List Replica → List ℕ
replicas_json replicas = flat_map replica_json (enumerate_from 0 replicas)

-- why a scan was held or stopped, and before or at which instruction, from 0
abbrev pub why_json : List ℕ → ℕ → List ℕ
why_json why position =
    codes "{\"why\":\"" ++ (why ++ (codes "\",\"position\":" ++ (decimal position ++ codes "}")))

abbrev pub halt_json : Option Halt → List ℕ
halt_json None = codes "null"
halt_json (Some (halts.Held position)) = why_json (codes "held") position
halt_json (Some (halts.Stopped stop position)) = why_json (stop_name stop) position

abbrev pub age_json : Option ℕ → List ℕ
age_json None = codes "null"
age_json (Some age) = seconds_text age

abbrev pub scans_json : Scans → List ℕ
scans_json scans = codes "{\"count\":"
    ++ (decimal scans.scans
    ++ (codes ",\"late\":"
    ++ (decimal scans.late
    ++ (codes ",\"releases\":"
    ++ (decimal scans.releases
    ++ (codes ",\"interval\":"
    ++ (seconds_text scans.interval
    ++ (codes ",\"age\":"
    ++ (age_json scans.age
    ++ (codes ",\"fresh\":"
    ++ (flag_json scans.is_fresh ++ (codes ",\"halt\":" ++ (halt_json scans.halt ++ codes "}")))))))))))))

abbrev pub known_machine : Machine → List ℕ
known_machine machine =
    codes "{\"number\":"
    ++ (decimal machine.number
    ++ (codes ",\"epoch\":"
    ++ (decimal machine.epoch
    ++ (codes ",\"driving\":"
    ++ (flag_json machine.is_driving
    ++ (codes ",\"heard\":"
    ++ (decimal machine.heard
    ++ (codes ",\"others\":"
    ++ (decimal machine.others
    ++ (codes ",\"majority\":" ++ (flag_json machine.has_majority ++ codes "}")))))))))))

abbrev pub machine_json : Option Machine → List ℕ
machine_json None = codes "null"
machine_json (Some machine) = known_machine machine

-- how many requests of a function were answered, by the place of its count
abbrev pub function_json : ℕ × ℕ → List ℕ
function_json it = comma it.0
    ++ (codes "\"" ++ (function_name it.0 ++ (codes "\":" ++ decimal it.1)))

abbrev pub functions_json : List ℕ → List ℕ
functions_json counts = flat_map function_json (enumerate_from 0 counts)

-- how many requests were answered by an exception, by the place of its count; codes begin with 1
abbrev pub exception_json : ℕ × ℕ → List ℕ
exception_json it = comma it.0
    ++ (codes "\"" ++ (decimal (it.0 + 1) ++ (codes "\":" ++ decimal it.1)))

abbrev pub exceptions_json : List ℕ → List ℕ
exceptions_json counts = flat_map exception_json (enumerate_from 0 counts)

abbrev pub clients_json : Clients → List ℕ
clients_json clients = codes "{\"sessions\":"
    ++ (decimal clients.sessions
    ++ (codes ",\"open\":"
    ++ (decimal clients.open_sessions
    ++ (codes ",\"requests\":"
    ++ (decimal (sum_of clients.functions)
    ++ (codes ",\"functions\":{"
    ++ (functions_json clients.functions
    ++ (codes "},\"exceptions\":{" ++ (exceptions_json clients.exceptions ++ codes "}}")))))))))

abbrev pub known_process : Process → List ℕ
known_process process =
    codes "{\"memory\":"
    ++ (decimal process.resident ++ (codes ",\"processor\":" ++ (seconds_text process.processor ++ codes "}")))

abbrev pub process_json : Option Process → List ℕ
process_json None = codes "null"
process_json (Some process) = known_process process

abbrev pub quoted : Value → List ℕ
quoted v = codes "\"" ++ (value_text v ++ codes "\"")

-- the text of a REAL is no number of JSON in each case, and that of a bit string never is
abbrev pub value_json : Value → List ℕ
value_json (values.Real r) = quoted (values.Real r)
value_json (values.Word n) = quoted (values.Word n)
value_json (values.Dword n) = quoted (values.Dword n)
value_json v = value_text v

-- an input or an output, with its name, its place and its value
abbrev pub point_json : ℕ × Point → List ℕ
point_json it = comma it.0
    ++ (codes "{\"name\":"
    ++ (string_json it.1.name.items
    ++ (codes ",\"place\":\""
    ++ (location_text it.1.place ++ (codes "\",\"value\":" ++ (value_json it.1.value ++ codes "}"))))))

abbrev pub points_json : List Point → List ℕ
points_json points = flat_map point_json (enumerate_from 0 points)

-- a line that was printed, and when, since 1970
abbrev pub told_json : ℕ × Told → List ℕ
told_json it = comma it.0
    ++ (codes "{\"at\":"
    ++ (seconds_text it.1.at ++ (codes ",\"line\":" ++ (string_json it.1.line.items ++ codes "}"))))

abbrev pub notices_json : List Told → List ℕ
notices_json notices = flat_map told_json (enumerate_from 0 notices)

-- how many inputs and outputs are forced, the inputs, the outputs and the notices
abbrev pub lists_text : Reading → List ℕ
lists_text reading = codes ",\"forces\":"
    ++ (decimal reading.forces
    ++ (codes ",\"inputs\":["
    ++ (points_json reading.inputs.items
    ++ (codes "],\"outputs\":["
    ++ (points_json reading.outputs.items
    ++ (codes "],\"notices\":[" ++ (notices_json reading.notices.items ++ codes "]}\n")))))))

-- what shows, by the version of the program
abbrev pub state_text : List ℕ → Reading → List ℕ
state_text version reading = codes "{\"version\":"
    ++ (string_json version
    ++ (codes ",\"view\":"
    ++ (decimal (greatest_view reading.replicas.items)
    ++ (codes ",\"machine\":"
    ++ (machine_json reading.machine
    ++ (codes ",\"replicas\":["
    ++ (replicas_json reading.replicas.items
    ++ (codes "],\"scans\":"
    ++ (scans_json reading.scans
    ++ (codes ",\"clients\":"
    ++ (clients_json reading.clients
    ++ (codes ",\"process\":" ++ (process_json reading.process ++ lists_text reading)))))))))))))
