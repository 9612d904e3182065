-- Figures for Prometheus, as its text format has them.
use Rattle.std.specs.Prelude.{ℕ, ◌+◌, List, ◌++◌, take, codes, decimal}
use Rattle.std.specs.List.{enumerate_from, flat_map}
use Rattle.field_cycle.specs.Spans.{bounds}
use Rattle.plc_figures.specs.Metrics.{build_metrics, counter_text, family_text}
use Rattle.plc_figures.specs.Readings.{flag_number, sum_of}
use Rattle.field_page.specs.declared.metrics.Figure.{Figure}
use Rattle.field_page.specs.declared.metrics.Figure.TheVariants as figures
use Rattle.field_page.specs.declared.reading.Party.{Party}
use Rattle.field_page.specs.declared.reading.Reading.{Reading}
use Rattle.field_page.specs.declared.reading.Shown.{Shown}
use Rattle.field_page.specs.declared.reading.State.{State}
use Rattle.field_page.specs.declared.reading.State.TheVariants as states
use Rattle.field_page.specs.declared.text.Within.TheVariants as places
use Rattle.field_page.specs.Texts.{escaped, millis_text}

-- a name as the value of a label
abbrev pub label : List ℕ → List ℕ
label name = flat_map (escaped places.Label) name

abbrev pub answers_number : State → ℕ
answers_number states.Answers = 1
answers_number _ = 0

abbrev pub value_of : Figure → Shown → ℕ
value_of figures.Answers device = answers_number device.party.state
value_of figures.Outputs device = flag_number device.has_outputs
value_of figures.Replies device = device.party.tally.replies
value_of figures.Skipped device = device.party.tally.skipped
value_of figures.Retries device = device.party.tally.retries
value_of figures.Losses device = device.party.tally.losses

abbrev pub figure_name : Figure → List ℕ
figure_name figures.Answers = codes "plc_field_answers"
figure_name figures.Outputs = codes "plc_field_outputs"
figure_name figures.Replies = codes "plc_field_replies_total"
figure_name figures.Skipped = codes "plc_field_skipped_total"
figure_name figures.Retries = codes "plc_field_retries_total"
figure_name figures.Losses = codes "plc_field_losses_total"

-- what a figure is, and of which type
abbrev pub figure_family : Figure → List ℕ
figure_family figures.Answers =
    family_text (codes "plc_field_answers") (codes "gauge") (codes "Whether the device answers.")
figure_family figures.Outputs =
    family_text (codes "plc_field_outputs") (codes "gauge")
    (codes "Whether the device has outputs of the controller, and not what it falls back to.")
figure_family figures.Replies =
    family_text (codes "plc_field_replies_total") (codes "counter") (codes "Replies of the device that were taken.")
figure_family figures.Skipped =
    family_text (codes "plc_field_skipped_total") (codes "counter")
    (codes "Replies of the device that were late or came twice.")
figure_family figures.Retries =
    family_text (codes "plc_field_retries_total") (codes "counter")
    (codes "Requests to the device that were sent once more.")
figure_family figures.Losses =
    family_text (codes "plc_field_losses_total") (codes "counter")
    (codes "Connections to the device that were given up.")

-- a figure of a device: plc_field_answers{device="coupler"} 1
abbrev pub figure_line : Figure → Shown → List ℕ
figure_line figure device =
    figure_name figure
    ++ (codes "{device=\""
    ++ (label device.party.name.items ++ (codes "\"} " ++ (decimal (value_of figure device) ++ codes "\n"))))

abbrev pub figure_lines : Figure → List Shown → List ℕ
figure_lines figure devices = flat_map (figure_line figure) devices

abbrev pub figure_metrics : Figure → List Shown → List ℕ
figure_metrics figure devices = figure_family figure ++ figure_lines figure devices

abbrev pub device_metrics : List Shown → List ℕ
device_metrics devices =
    figure_metrics figures.Answers devices
    ++ (figure_metrics figures.Outputs devices
    ++ (figure_metrics figures.Replies devices
    ++ (figure_metrics figures.Skipped devices
    ++ (figure_metrics figures.Retries devices ++ figure_metrics figures.Losses devices))))

-- ---- times of rounds

abbrev pub span_line : List ℕ → ℕ → ℕ → List ℕ
span_line name bound count =
    codes "plc_field_round_seconds_bucket{device=\""
    ++ (label name
    ++ (codes "\",le=\"" ++ (millis_text bound ++ (codes "\"} " ++ (decimal count ++ codes "\n")))))

-- the line of a bucket, with all that are counted up to it
abbrev pub span_text : List ℕ → List ℕ → ℕ × ℕ → List ℕ
span_text name counts it = span_line name it.1 (sum_of (take (it.0 + 1) counts))

-- a line for each bucket with a bound
abbrev pub span_lines : List ℕ → List ℕ → List ℕ
span_lines name counts = flat_map (span_text name counts) (enumerate_from 0 bounds)

abbrev pub none_longer : List ℕ → ℕ → List ℕ
none_longer name count =
    codes "plc_field_round_seconds_bucket{device=\""
    ++ (label name ++ (codes "\",le=\"+Inf\"} " ++ (decimal count ++ codes "\n")))

abbrev pub sum_line : List ℕ → ℕ → List ℕ
sum_line name millis =
    codes "plc_field_round_seconds_sum{device=\""
    ++ (label name ++ (codes "\"} " ++ (millis_text millis ++ codes "\n")))

abbrev pub count_line : List ℕ → ℕ → List ℕ
count_line name count =
    codes "plc_field_round_seconds_count{device=\""
    ++ (label name ++ (codes "\"} " ++ (decimal count ++ codes "\n")))

-- the times of the rounds of a device
abbrev pub rounds_of : List ℕ → List ℕ → ℕ → List ℕ
rounds_of name counts sum =
    span_lines name counts
    ++ (none_longer name (sum_of counts) ++ (sum_line name sum ++ count_line name (sum_of counts)))

abbrev pub rounds_by : Shown → List ℕ
rounds_by device = rounds_of device.party.name.items device.spans.counts device.spans.sum

abbrev pub rounds_of_all : List Shown → List ℕ
rounds_of_all devices = flat_map rounds_by devices

abbrev pub rounds_family : List ℕ
rounds_family =
    family_text (codes "plc_field_round_seconds") (codes "histogram")
    (codes "Time from the first request of a round of the device to its last reply.")

abbrev pub rounds_metrics : List Shown → List ℕ
rounds_metrics devices = rounds_family ++ rounds_of_all devices

-- ---- the controller

abbrev pub address_line : Party → List ℕ
address_line controller =
    codes "plc_field_controller_answers{address=\""
    ++ (label controller.name.items ++ (codes "\"} " ++ (decimal (answers_number controller.state) ++ codes "\n")))

abbrev pub controller_metrics : Party → List ℕ
controller_metrics controller =
    family_text (codes "plc_field_controller_answers") (codes "gauge")
    (codes "Whether the controller answers at the address in force.")
    ++ (address_line controller
    ++ (counter_text (codes "plc_field_controller_replies_total") (codes "Replies of the controller that were taken.")
    controller.tally.replies
    ++ counter_text (codes "plc_field_controller_losses_total")
    (codes "Connections to the controller that were given up.") controller.tally.losses))

abbrev pub cycle_metrics : ℕ → List ℕ
cycle_metrics cycles = counter_text (codes "plc_field_cycles_total") (codes "Cycles that began.") cycles

-- all figures, by the version of the program and what shows
abbrev pub metrics_text : List ℕ → Reading → List ℕ
metrics_text version reading =
    build_metrics version
    ++ (cycle_metrics reading.cycles
    ++ (controller_metrics reading.controller
    ++ (device_metrics reading.devices.items ++ rounds_metrics reading.devices.items)))
