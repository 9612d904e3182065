-- The page, with what shows in words.
use Rattle.std.specs.Prelude.{ℕ, Bool, true, false, List, [], ◌++◌, Option, Some, None, codes, decimal}
use Rattle.std.specs.List.{flat_map}
use Rattle.il_lister.specs.Listing.{location_text}
use Rattle.il_text.specs.Lines.{stop_name}
use Rattle.plc_figures.specs.declared.reading.Halt.{Halt}
use Rattle.plc_figures.specs.declared.reading.Halt.TheVariants as halts
use Rattle.plc_figures.specs.declared.reading.Machine.{Machine}
use Rattle.plc_figures.specs.declared.reading.Point.{Point}
use Rattle.plc_figures.specs.declared.reading.Reading.{Reading}
use Rattle.plc_figures.specs.declared.reading.Replica.{Replica}
use Rattle.plc_figures.specs.declared.reading.Scans.{Scans}
use Rattle.plc_figures.specs.State.{phase_name}
use Rattle.plc_figures.specs.Texts.{seconds_text, value_text}
use Rattle.plc_page.specs.declared.page.TheConstants.{HEAD, TAIL}

-- replica 2: normal, view 0
abbrev pub replica_line : Replica → List ℕ
replica_line shown = codes "replica "
    ++ (decimal shown.number
    ++ (codes ": "
    ++ (phase_name shown.standing.status ++ (codes ", view " ++ (decimal shown.standing.view ++ codes "\n")))))

abbrev pub replica_lines : List Replica → List ℕ
replica_lines replicas = flat_map replica_line replicas

abbrev pub course_words : Bool → List ℕ
course_words false = codes " stands by"
course_words true = codes " drives"

abbrev pub majority_words : Bool → List ℕ
majority_words true = codes ", "
majority_words false = codes ", no majority: "

-- how many other machines it hears, of how many
abbrev pub hearing_words : Machine → List ℕ
hearing_words machine =
    majority_words machine.has_majority
    ++ (codes "hears " ++ (decimal machine.heard ++ (codes " of " ++ decimal machine.others)))

-- machine 1 stands by, epoch 2, no majority: hears 0 of 2
abbrev pub machine_line : Machine → List ℕ
machine_line machine = codes "machine "
    ++ (decimal machine.number
    ++ (course_words machine.is_driving
    ++ (codes ", epoch " ++ (decimal machine.epoch ++ (hearing_words machine ++ codes "\n")))))

abbrev pub machine_words : Option Machine → List ℕ
machine_words None = []
machine_words (Some machine) = machine_line machine

abbrev pub known_age : ℕ → List ℕ
known_age age = codes ", the last " ++ (seconds_text age ++ codes " s ago")

abbrev pub age_words : Option ℕ → List ℕ
age_words None = []
age_words (Some age) = known_age age

abbrev pub held_words : ℕ → List ℕ
held_words position = codes ", held before instruction " ++ decimal position

abbrev pub stopped_words : List ℕ → ℕ → List ℕ
stopped_words why position = codes ", stopped by " ++ (why ++ (codes " at instruction " ++ decimal position))

abbrev pub halt_words : Option Halt → List ℕ
halt_words None = []
halt_words (Some (halts.Held position)) = held_words position
halt_words (Some (halts.Stopped stop position)) = stopped_words (stop_name stop) position

-- scans: 12, the last 0.040000 s ago, held before instruction 7
abbrev pub scan_line : Scans → List ℕ
scan_line scans =
    codes "scans: "
    ++ (decimal scans.releases ++ (age_words scans.age ++ (halt_words scans.halt ++ codes "\n")))

-- PUMP %QX0.3 = 1
abbrev pub point_line : Point → List ℕ
point_line point =
    point.name.items
    ++ (codes " " ++ (location_text point.place ++ (codes " = " ++ (value_text point.value ++ codes "\n"))))

abbrev pub point_lines : List Point → List ℕ
point_lines points = flat_map point_line points

abbrev pub page_text : Reading → List ℕ
page_text reading = HEAD.now
    ++ (scan_line reading.scans
    ++ (machine_words reading.machine
    ++ (replica_lines reading.replicas.items
    ++ (point_lines reading.inputs.items ++ (point_lines reading.outputs.items ++ TAIL.now)))))
