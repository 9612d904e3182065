-- Figures for Prometheus, as its text format has them.
use Rattle.std.specs.Prelude.{ℕ, ◌+◌, List, [], ◌++◌, take, Option, Some, None, codes, decimal}
use Rattle.std.specs.List.{enumerate_from, flat_map}
use Rattle.plc_figures.specs.declared.reading.Clients.{Clients}
use Rattle.plc_figures.specs.declared.reading.Halt.{Halt}
use Rattle.plc_figures.specs.declared.reading.Halt.TheVariants as halts
use Rattle.plc_figures.specs.declared.reading.Machine.{Machine}
use Rattle.plc_figures.specs.declared.reading.Process.{Process}
use Rattle.plc_figures.specs.declared.reading.Reading.{Reading}
use Rattle.plc_figures.specs.declared.reading.Replica.{Replica}
use Rattle.plc_figures.specs.declared.reading.Scans.{Scans}
use Rattle.plc_figures.specs.Readings.{bounds, flag_number, function_name, greatest_view, shows_normal, sum_of}
use Rattle.plc_figures.specs.Texts.{seconds_text}

-- what figures of this name are, and of which type
abbrev pub family_text : List ℕ → List ℕ → List ℕ → List ℕ
family_text name kind help =
    codes "# HELP "
    ++ (name ++ (codes " " ++ (help ++ (codes "\n# TYPE " ++ (name ++ (codes " " ++ (kind ++ codes "\n")))))))

abbrev pub sample : List ℕ → ℕ → List ℕ
sample name value = name ++ (codes " " ++ (decimal value ++ codes "\n"))

-- a time, in seconds
abbrev pub seconds_sample : List ℕ → ℕ → List ℕ
seconds_sample name microseconds = name ++ (codes " " ++ (seconds_text microseconds ++ codes "\n"))

-- a figure of a replica: name{replica="2"} 1
abbrev pub replica_sample : List ℕ → ℕ → ℕ → List ℕ
replica_sample name number value =
    name ++ (codes "{replica=\"" ++ (decimal number ++ (codes "\"} " ++ (decimal value ++ codes "\n"))))

abbrev pub counter_text : List ℕ → List ℕ → ℕ → List ℕ
counter_text name help value = family_text name (codes "counter") help ++ sample name value

abbrev pub gauge_text : List ℕ → List ℕ → ℕ → List ℕ
gauge_text name help value = family_text name (codes "gauge") help ++ sample name value

-- how long ago the scan began that released outputs last
abbrev pub known_age : ℕ → List ℕ
known_age age =
    family_text (codes "plc_release_age_seconds") (codes "gauge")
    (codes "Time since the beginning of the scan that released outputs last.")
    ++ seconds_sample (codes "plc_release_age_seconds") age

abbrev pub age_metrics : Option ℕ → List ℕ
age_metrics None = []
age_metrics (Some age) = known_age age

abbrev pub held_number : Option Halt → ℕ
held_number (Some (halts.Held position)) = 1
held_number _ = 0

abbrev pub stopped_number : Option Halt → ℕ
stopped_number (Some (halts.Stopped stop position)) = 1
stopped_number _ = 0

abbrev pub bucket_line : ℕ → ℕ → List ℕ
bucket_line bound count =
    codes "plc_scan_interval_seconds_bucket{le=\""
    ++ (seconds_text bound ++ (codes "\"} " ++ (decimal count ++ codes "\n")))

-- the line of a bucket, with all that are counted up to it
abbrev pub bucket_text : List ℕ → ℕ × ℕ → List ℕ
bucket_text counts it = bucket_line it.1 (sum_of (take (it.0 + 1) counts))

-- a line for each bucket with a bound
abbrev pub bucket_lines : List ℕ → List ℕ
bucket_lines counts = flat_map (bucket_text counts) (enumerate_from 0 bounds)

-- all intervals together, and how many there were
abbrev pub totals_text : ℕ → ℕ → List ℕ
totals_text together count =
    codes "plc_scan_interval_seconds_bucket{le=\"+Inf\"} "
    ++ (decimal count
    ++ (codes "\n"
    ++ (seconds_sample (codes "plc_scan_interval_seconds_sum") together
    ++ sample (codes "plc_scan_interval_seconds_count") count)))

abbrev pub interval_metrics : Scans → List ℕ
interval_metrics scans =
    family_text (codes "plc_scan_interval_seconds") (codes "histogram")
    (codes "Time from the beginning of one scan to that of the next.")
    ++ (bucket_lines scans.interval_counts ++ totals_text scans.interval_sum (sum_of scans.interval_counts))

abbrev pub scan_counts : Scans → List ℕ
scan_counts scans =
    counter_text (codes "plc_scans_total") (codes "Scans that were answered.") scans.scans
    ++ (counter_text (codes "plc_scan_late_total") (codes "Scans that began a period late or more.") scans.late
    ++ counter_text (codes "plc_releases_total") (codes "Scans that released outputs.") scans.releases)

abbrev pub scan_metrics : Scans → List ℕ
scan_metrics scans =
    scan_counts scans
    ++ (interval_metrics scans
    ++ (age_metrics scans.age
    ++ (gauge_text (codes "plc_held") (codes "Whether the last scan was held at a breakpoint.") (held_number scans.halt)
    ++ gauge_text (codes "plc_stopped") (codes "Whether the last scan stopped at a fault.")
    (stopped_number scans.halt))))

-- whether a replica is normal
abbrev pub normal_line : Replica → List ℕ
normal_line shown = replica_sample (codes "plc_replica_normal") shown.number (flag_number (shows_normal shown))

abbrev pub normal_lines : List Replica → List ℕ
normal_lines replicas = flat_map normal_line replicas

-- how often a replica was started
abbrev pub starts_line : Replica → List ℕ
starts_line shown = replica_sample (codes "plc_replica_starts_total") shown.number shown.starts

abbrev pub starts_lines : List Replica → List ℕ
starts_lines replicas = flat_map starts_line replicas

-- whether a replica's store failed since it was started last
abbrev pub failed_line : Replica → List ℕ
failed_line shown = replica_sample (codes "plc_replica_store_failed") shown.number (flag_number shown.has_failed)

abbrev pub failed_lines : List Replica → List ℕ
failed_lines replicas = flat_map failed_line replicas

-- each replica by its number
abbrev pub group_metrics : List Replica → List ℕ
group_metrics replicas =
    family_text (codes "plc_replica_normal") (codes "gauge") (codes "Whether the replica is normal.")
    ++ (normal_lines replicas
    ++ (family_text (codes "plc_replica_starts_total") (codes "counter") (codes "Starts of the replica from its store.")
    ++ (starts_lines replicas
    ++ (family_text (codes "plc_replica_store_failed") (codes "gauge")
    (codes "Whether the replica's store failed since it was started last.")
    ++ (failed_lines replicas
    ++ gauge_text (codes "plc_view") (codes "The greatest view of a replica.") (greatest_view replicas))))))

abbrev pub hearing_metrics : Machine → List ℕ
hearing_metrics machine =
    gauge_text (codes "plc_machines_connected") (codes "Other machines of the group that this machine hears.")
    machine.heard
    ++ gauge_text (codes "plc_majority")
    (codes "Whether this machine hears enough others for a majority with it.")
    (flag_number machine.has_majority)

abbrev pub known_machine : Machine → List ℕ
known_machine machine =
    gauge_text (codes "plc_driving") (codes "Whether this machine drives: its scans are the group's, and it shows outputs.")
    (flag_number machine.is_driving)
    ++ (gauge_text (codes "plc_epoch") (codes "The epoch of the group.") machine.epoch
    ++ (hearing_metrics machine
    ++ counter_text (codes "plc_records_forged_total")
    (codes "Records of other machines that were forged or damaged: each ended its connection.") machine.forged))

abbrev pub machine_metrics : Option Machine → List ℕ
machine_metrics None = []
machine_metrics (Some machine) = known_machine machine

-- how many requests of a function were answered, by the place of its count
abbrev pub function_line : ℕ × ℕ → List ℕ
function_line it =
    codes "plc_modbus_requests_total{function=\""
    ++ (function_name it.0 ++ (codes "\"} " ++ (decimal it.1 ++ codes "\n")))

abbrev pub function_lines : List ℕ → List ℕ
function_lines counts = flat_map function_line (enumerate_from 0 counts)

-- how many requests were answered by an exception, by the place of its count; codes begin with 1
abbrev pub exception_line : ℕ × ℕ → List ℕ
exception_line it =
    codes "plc_modbus_exceptions_total{code=\""
    ++ (decimal (it.0 + 1) ++ (codes "\"} " ++ (decimal it.1 ++ codes "\n")))

abbrev pub exception_lines : List ℕ → List ℕ
exception_lines counts = flat_map exception_line (enumerate_from 0 counts)

abbrev pub session_metrics : Clients → List ℕ
session_metrics clients =
    counter_text (codes "plc_sessions_total") (codes "Connections of Modbus clients that were given a session.")
    clients.sessions
    ++ gauge_text (codes "plc_sessions") (codes "Sessions of Modbus clients that are open.") clients.open_sessions

abbrev pub request_metrics : Clients → List ℕ
request_metrics clients =
    family_text (codes "plc_modbus_requests_total") (codes "counter")
    (codes "Requests of Modbus clients that were answered.")
    ++ (function_lines clients.functions
    ++ (family_text (codes "plc_modbus_exceptions_total") (codes "counter")
    (codes "Requests of Modbus clients that were answered by an exception.")
    ++ exception_lines clients.exceptions))

abbrev pub client_metrics : Clients → List ℕ
client_metrics clients = session_metrics clients ++ request_metrics clients

abbrev pub known_process : Process → List ℕ
known_process process =
    gauge_text (codes "process_resident_memory_bytes") (codes "Memory of the process.") process.resident
    ++ (family_text (codes "process_cpu_seconds_total") (codes "counter") (codes "Processor time of the process.")
    ++ seconds_sample (codes "process_cpu_seconds_total") process.processor)

abbrev pub process_metrics : Option Process → List ℕ
process_metrics None = []
process_metrics (Some process) = known_process process

abbrev pub build_metrics : List ℕ → List ℕ
build_metrics version =
    family_text (codes "plc_build_info") (codes "gauge") (codes "The version of the program.")
    ++ (codes "plc_build_info{version=\"" ++ (version ++ codes "\"} 1\n"))

abbrev pub force_metrics : ℕ → List ℕ
force_metrics forces = gauge_text (codes "plc_forces") (codes "Inputs and outputs that are forced.") forces

-- all figures, by the version of the program and what shows; one that isn't known is left out
abbrev pub metrics_text : List ℕ → Reading → List ℕ
metrics_text version reading =
    build_metrics version
    ++ (scan_metrics reading.scans
    ++ (force_metrics reading.forces
    ++ (group_metrics reading.replicas.items
    ++ (machine_metrics reading.machine
    ++ (client_metrics reading.clients
    ++ process_metrics reading.process)))))
