-- The page, with what shows in words.
use Rattle.std.specs.Prelude.{ℕ, Bool, true, false, List, ◌++◌, codes, decimal}
use Rattle.std.specs.List.{flat_map}
use Rattle.field_cycle.specs.declared.link.Tally.{Tally}
use Rattle.field_cycle.specs.declared.spans.Spans.{Spans}
use Rattle.plc_figures.specs.Readings.{sum_of}
use Rattle.field_page.specs.declared.page.TheConstants.{HEAD, TAIL}
use Rattle.field_page.specs.declared.reading.Party.{Party}
use Rattle.field_page.specs.declared.reading.Reading.{Reading}
use Rattle.field_page.specs.declared.reading.Shown.{Shown}
use Rattle.field_page.specs.declared.text.Within.TheVariants as places
use Rattle.field_page.specs.Texts.{escaped, millis_text, state_name}

abbrev pub tally_words : Tally → List ℕ
tally_words tally = codes ", "
    ++ (decimal tally.replies
    ++ (codes " replies, "
    ++ (decimal tally.skipped
    ++ (codes " late or twice, "
    ++ (decimal tally.retries ++ (codes " asked again, " ++ (decimal tally.losses ++ codes " lost")))))))

-- coupler: answers, 120 replies, 0 late or twice, 0 asked again, 0 lost
abbrev pub party_words : Party → List ℕ
party_words party =
    flat_map (escaped places.Html) party.name.items
    ++ (codes ": " ++ (state_name party.state ++ tally_words party.tally))

abbrev pub rounds_words : Spans → List ℕ
rounds_words spans = codes ", "
    ++ (decimal (sum_of spans.counts)
    ++ (codes " rounds, the last "
    ++ (millis_text spans.last ++ (codes " s, the longest " ++ (millis_text spans.longest ++ codes " s")))))

abbrev pub outputs_words : Bool → List ℕ
outputs_words true = codes ", has outputs\n"
outputs_words false = codes ", no outputs\n"

abbrev pub device_line : Shown → List ℕ
device_line device =
    party_words device.party ++ (rounds_words device.spans ++ outputs_words device.has_outputs)

abbrev pub device_lines : List Shown → List ℕ
device_lines devices = flat_map device_line devices

abbrev pub cycles_line : ℕ → List ℕ
cycles_line cycles = codes "cycles: " ++ (decimal cycles ++ codes "\n")

abbrev pub controller_line : Party → List ℕ
controller_line controller = codes "controller " ++ (party_words controller ++ codes "\n")

-- what shows, and what goes where
abbrev pub page_text : Reading → List ℕ → List ℕ
page_text reading table = HEAD.now
    ++ (cycles_line reading.cycles
    ++ (controller_line reading.controller
    ++ (device_lines reading.devices.items
    ++ (codes "\n" ++ (flat_map (escaped places.Html) table ++ TAIL.now)))))
