-- What a request is answered, by what shows.
use Rattle.std.specs.Prelude.{◌≡◌, ◌⊎◌, ℕ, List, [], ◌∷◌, ◌++◌, Bool, ◌||◌, not, is_some, if◌then◌else◌, bytes_eq, Option, Some, None, codes}
use Rattle.std.specs.List.{list_any}
use Rattle.http.specs.declared.request.Parts.{Parts}
use Rattle.http1.specs.Fields.{Header}
use Rattle.http_header.specs.FieldValue.{FieldValue}
use Rattle.http_header.specs.HeaderMap.{get}
use Rattle.http_header.specs.Token.{lowercase}
use Rattle.http_server.specs.declared.response.Response.{Response}
use Rattle.http_server.specs.Response.{IsResponse}
use Rattle.http_uri.specs.Uri.{uri_path, uri_scheme}
use Rattle.il_model.specs.Snapshots.{SavedController}
use Rattle.plc_values.specs.Seen.{IsToldOf}
use Rattle.plc_values.specs.Values.{values_text}
use Rattle.plc_page.specs.declared.answer.Show.{Show}
use Rattle.plc_page.specs.declared.answer.Show.TheVariants as shows
use Rattle.plc_page.specs.declared.answer.Site.{Site}
use Rattle.plc_page.specs.declared.answer.Verdict.{Verdict}
use Rattle.plc_page.specs.declared.answer.Verdict.TheVariants as verdicts
use Rattle.plc_page.specs.declared.page.TheConstants.{POLICY, SCRIPT, STYLE}
use Rattle.plc_figures.specs.declared.reading.Reading.{Reading}
use Rattle.plc_figures.specs.Metrics.{metrics_text}
use Rattle.plc_page.specs.Page.{page_text}
use Rattle.plc_figures.specs.State.{state_text}

-- what a path shows
abbrev pub shown_at : List ℕ → Option Show
shown_at path = if bytes_eq path (codes "/") then Some shows.Page
    else if bytes_eq path (codes "/style.css") then Some shows.Style
    else if bytes_eq path (codes "/script.js") then Some shows.Script
    else if bytes_eq path (codes "/state") then Some shows.State
    else if bytes_eq path (codes "/metrics") then Some shows.Metrics
    else if bytes_eq path (codes "/program") then Some shows.Program
    else if bytes_eq path (codes "/values") then Some shows.Values
    else None

-- it's one of the site's names
abbrev pub is_ours : Site → List ℕ → Bool
is_ours site host = list_any (λ ours. bytes_eq ours.items host) site.hosts.items

abbrev pub is_read : List ℕ → Bool
is_read method = bytes_eq method (codes "GET") || bytes_eq method (codes "HEAD")

abbrev pub shown : Option Show → Verdict
shown (Some show) = verdicts.Shows show
shown None = verdicts.Missing

-- how a request is answered that's for the site
abbrev pub judged : List ℕ → List ℕ → Verdict
judged method path = if is_read method then shown (shown_at path) else verdicts.Refused

-- how one is answered by its host
abbrev pub verdict_by : Site → Parts → Option FieldValue → Verdict
verdict_by site head None = verdicts.Malformed
verdict_by site head (Some host) =
    if is_some (uri_scheme head.uri) || not (is_ours site host.bytes) then verdicts.Misdirected
    else judged head.method (uri_path head.uri)

abbrev pub verdict_of : Site → Parts → Verdict
verdict_of site head = verdict_by site head (get head.headers (lowercase (codes "host")))

abbrev pub code_of : Verdict → ℕ
code_of (verdicts.Shows show) = 200
code_of verdicts.Malformed = 400
code_of verdicts.Misdirected = 421
code_of verdicts.Refused = 405
code_of verdicts.Missing = 404

abbrev pub kind_of : Verdict → List ℕ
kind_of (verdicts.Shows shows.Page) = codes "text/html; charset=utf-8"
kind_of (verdicts.Shows shows.Style) = codes "text/css; charset=utf-8"
kind_of (verdicts.Shows shows.Script) = codes "text/javascript; charset=utf-8"
kind_of (verdicts.Shows shows.State) = codes "application/json"
kind_of (verdicts.Shows shows.Values) = codes "application/json"
kind_of (verdicts.Shows shows.Metrics) = codes "text/plain; version=0.0.4; charset=utf-8"
kind_of _ = codes "text/plain; charset=utf-8"

-- the field that tells the type
abbrev pub kind_field : Verdict → Header
kind_field verdict = (codes "content-type", kind_of verdict)

abbrev pub fields_by : Verdict → List Header
fields_by verdict = kind_field verdict ∷ (codes "cache-control", codes "no-store")
    ∷ (codes "x-content-type-options", codes "nosniff") ∷ (codes "content-security-policy", POLICY.now)
    ∷ (codes "allow", codes "GET, HEAD") ∷ []

-- what stands in an answer, by what shows and by the texts of the program and of the values
abbrev pub content_of : Site → Verdict → Reading → List ℕ → List ℕ → List ℕ
content_of site (verdicts.Shows shows.Page) reading program seen = page_text reading
content_of site (verdicts.Shows shows.Style) reading program seen = STYLE.now
content_of site (verdicts.Shows shows.Script) reading program seen = SCRIPT.now
content_of site (verdicts.Shows shows.State) reading program seen = state_text site.version.now reading
content_of site (verdicts.Shows shows.Metrics) reading program seen = metrics_text site.version.now reading
content_of site (verdicts.Shows shows.Program) reading program seen = program
content_of site (verdicts.Shows shows.Values) reading program seen = seen
content_of site verdicts.Malformed reading program seen = codes "The request has no Host.\n"
content_of site verdicts.Misdirected reading program seen = codes "This is another host.\n"
content_of site verdicts.Refused reading program seen = codes "This page is only read.\n"
content_of site verdicts.Missing reading program seen = codes "There is nothing here.\n"

-- the response answers the request, by what shows
abbrev pub IsAnswered : Site → Parts → Reading → List ℕ → List ℕ → Response → Type 0
IsAnswered site head reading program seen =
    IsResponse (code_of (verdict_of site head)) (fields_by (verdict_of site head))
    (content_of site (verdict_of site head) reading program seen)

-- what shows of the values: nothing where they aren't asked for, null where there are none, else all of them, told of
-- one controller, so of one scan
abbrev pub AreSeen : List ℕ → Type 0
AreSeen seen = (seen ≡ []) ⊎ (seen ≡ codes "null\n") ⊎ ((s : SavedController) × IsToldOf s values_text seen)
