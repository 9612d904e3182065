-- How a request is answered by what it asks for.
use Rattle.std.specs.Prelude.{ℕ, List, Bool, ◌||◌, not, is_some, if◌then◌else◌, bytes_eq, Option, Some, None, codes}
use Rattle.std.specs.List.{list_any}
use Rattle.http.specs.declared.request.Parts.{Parts}
use Rattle.http_header.specs.FieldValue.{FieldValue}
use Rattle.http_header.specs.HeaderMap.{get}
use Rattle.http_header.specs.Token.{lowercase}
use Rattle.http_uri.specs.Uri.{uri_path, uri_scheme}
use Rattle.plc_page.specs.declared.answer.Show.{Show}
use Rattle.plc_page.specs.declared.answer.Show.TheVariants as shows
use Rattle.plc_page.specs.declared.answer.Verdict.{Verdict}
use Rattle.plc_page.specs.declared.answer.Verdict.TheVariants as verdicts
use Rattle.field_page.specs.declared.site.FieldSite.{FieldSite}

-- what a path shows
abbrev pub shown_at : List ℕ → Option Show
shown_at path = if bytes_eq path (codes "/") then Some shows.Page
    else if bytes_eq path (codes "/style.css") then Some shows.Style
    else if bytes_eq path (codes "/script.js") then Some shows.Script
    else if bytes_eq path (codes "/state") then Some shows.State
    else if bytes_eq path (codes "/metrics") then Some shows.Metrics
    else None

-- it's one of the site's names
abbrev pub is_ours : FieldSite → List ℕ → Bool
is_ours site host = list_any (λ ours. bytes_eq ours.items host) site.hosts.items

abbrev pub is_read : List ℕ → Bool
is_read method = bytes_eq method (codes "GET") || bytes_eq method (codes "HEAD")

abbrev pub shown : Option Show → Verdict
shown (Some show) = verdicts.Shows show
shown None = verdicts.Missing

-- how a request is answered that's for the site
abbrev pub judged : List ℕ → List ℕ → Verdict
judged method path = if is_read method then shown (shown_at path) else verdicts.Refused

-- how one is answered by its host
abbrev pub verdict_by : FieldSite → Parts → Option FieldValue → Verdict
verdict_by site head None = verdicts.Malformed
verdict_by site head (Some host) =
    if is_some (uri_scheme head.uri) || not (is_ours site host.bytes) then verdicts.Misdirected
    else judged head.method (uri_path head.uri)

abbrev pub verdict_of : FieldSite → Parts → Verdict
verdict_of site head = verdict_by site head (get head.headers (lowercase (codes "host")))
