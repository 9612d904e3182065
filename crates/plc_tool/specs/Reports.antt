-- The line that a report prints: compact JSON (RFC 8259), its keys in order.
use Rattle.std.specs.Prelude.{ℕ, zero, suc, List, [], ◌++◌, codes, length}
use Rattle.std.specs.List.{flat_map, enumerate_from}
use Rattle.std.specs.Fmt.{decimal}
use Rattle.vr_model.specs.declared.message.Request.{Request}
use Rattle.vr_schedules.specs.declared.trace.Release.{Release}
use Rattle.vr_schedules.specs.declared.trace.Trace.{Trace}
use Rattle.il_text.specs.Lines.{answer_text}

-- what stands before item n: a comma, but nothing before the first
abbrev pub comma : ℕ → List ℕ
comma zero = []
comma (suc n) = codes ","

-- the length of the committed list after an event
abbrev pub length_text : ℕ × ℕ → List ℕ
length_text (n, committed) = comma n ++ decimal committed

-- a committed request: its client and its number
abbrev pub entry_text : ℕ × Request → List ℕ
entry_text (n, entry) =
    comma n ++ (codes "[" ++ (decimal entry.client.number ++ (codes "," ++ (decimal entry.number ++ codes "]"))))

-- a release: its event, client and number, and the line of its answer
abbrev pub release_text : ℕ × Release → List ℕ
release_text (n, release) =
    comma n ++ (codes "[" ++ (decimal release.event
    ++ (codes "," ++ (decimal release.client.number
    ++ (codes "," ++ (decimal release.number
    ++ (codes ",\"" ++ (answer_text release.answer ++ codes "\"]"))))))))

abbrev pub lengths_text : List ℕ → List ℕ
lengths_text lengths = flat_map length_text (enumerate_from 0 lengths)

abbrev pub order_text : List Request → List ℕ
order_text order = flat_map entry_text (enumerate_from 0 order)

abbrev pub releases_text : List Release → List ℕ
releases_text releases = flat_map release_text (enumerate_from 0 releases)

-- the last two of its parts: the releases, and how many messages were sent
abbrev pub released_text : Trace → List ℕ
released_text trace =
    codes "],\"releases\":[" ++ (releases_text trace.releases.items
    ++ (codes "],\"sent\":" ++ (decimal (length trace.sent.items) ++ codes "}")))

-- all but the first
abbrev pub ordered_text : Trace → List ℕ
ordered_text trace = codes "],\"order\":[" ++ (order_text trace.order.items ++ released_text trace)

-- a report, without the end of its line
abbrev pub report_text : Trace → List ℕ
report_text trace = codes "{\"lengths\":[" ++ (lengths_text trace.lengths.items ++ ordered_text trace)
