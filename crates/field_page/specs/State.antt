-- What shows of a field as one JSON object (RFC 8259).
use Rattle.std.specs.Prelude.{ℕ, List, ◌++◌, codes, decimal}
use Rattle.std.specs.List.{enumerate_from, flat_map}
use Rattle.field_cycle.specs.declared.link.Tally.{Tally}
use Rattle.plc_figures.specs.declared.reading.Told.{Told}
use Rattle.plc_figures.specs.Readings.{sum_of}
use Rattle.plc_figures.specs.State.{notices_json}
use Rattle.plc_figures.specs.Texts.{comma, flag_json, string_json}
use Rattle.field_page.specs.declared.reading.Party.{Party}
use Rattle.field_page.specs.declared.reading.Reading.{Reading}
use Rattle.field_page.specs.declared.reading.Shown.{Shown}
use Rattle.field_page.specs.declared.text.Within.TheVariants as places
use Rattle.field_page.specs.Texts.{escaped, millis_text, state_name}

abbrev pub tally_json : Tally → List ℕ
tally_json tally = codes ",\"replies\":"
    ++ (decimal tally.replies
    ++ (codes ",\"skipped\":"
    ++ (decimal tally.skipped
    ++ (codes ",\"retries\":"
    ++ (decimal tally.retries ++ (codes ",\"losses\":" ++ decimal tally.losses))))))

-- the beginning of an object: a name, how it stands, and what was counted
abbrev pub party_json : Party → List ℕ
party_json party = codes "{\"name\":\""
    ++ (flat_map (escaped places.Json) party.name.items
    ++ (codes "\",\"state\":\"" ++ (state_name party.state ++ (codes "\"" ++ tally_json party.tally))))

-- what a device has beside that, and the end
abbrev pub device_words : Shown → List ℕ
device_words device = codes ",\"outputs\":"
    ++ (flag_json device.has_outputs
    ++ (codes ",\"rounds\":"
    ++ (decimal (sum_of device.spans.counts)
    ++ (codes ",\"last\":"
    ++ (millis_text device.spans.last
    ++ (codes ",\"longest\":" ++ (millis_text device.spans.longest ++ codes "}")))))))

abbrev pub device_json : ℕ × Shown → List ℕ
device_json it = comma it.0 ++ (party_json it.1.party ++ device_words it.1)

abbrev pub devices_json : List Shown → List ℕ
devices_json devices = flat_map device_json (enumerate_from 0 devices)

-- what shows, by the version of the program, what goes where, and the last lines that were told
abbrev pub state_text : List ℕ → Reading → List ℕ → List Told → List ℕ
state_text version reading table told = codes "{\"version\":"
    ++ (string_json version
    ++ (codes ",\"cycles\":"
    ++ (decimal reading.cycles
    ++ (codes ",\"controller\":"
    ++ (party_json reading.controller
    ++ (codes "},\"devices\":["
    ++ (devices_json reading.devices.items
    ++ (codes "],\"table\":\""
    ++ (flat_map (escaped places.Json) table
    ++ (codes "\",\"notices\":[" ++ (notices_json told ++ codes "]}\n")))))))))))
