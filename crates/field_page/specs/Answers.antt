-- What a request is answered, by what shows.
use Rattle.std.specs.Prelude.{ℕ, List, codes}
use Rattle.http.specs.declared.request.Parts.{Parts}
use Rattle.http_server.specs.declared.response.Response.{Response}
use Rattle.http_server.specs.Response.{IsResponse}
use Rattle.plc_figures.specs.declared.reading.Told.{Told}
use Rattle.plc_page.specs.Answers.{code_of, fields_by}
use Rattle.plc_page.specs.declared.answer.Show.TheVariants as shows
use Rattle.plc_page.specs.declared.answer.Verdict.{Verdict}
use Rattle.plc_page.specs.declared.answer.Verdict.TheVariants as verdicts
use Rattle.plc_page.specs.declared.page.TheConstants.{STYLE}
use Rattle.field_page.specs.declared.page.TheConstants.{SCRIPT}
use Rattle.field_page.specs.declared.reading.Reading.{Reading}
use Rattle.field_page.specs.declared.site.FieldSite.{FieldSite}
use Rattle.field_page.specs.Metrics.{metrics_text}
use Rattle.field_page.specs.Page.{page_text}
use Rattle.field_page.specs.Sites.{verdict_of}
use Rattle.field_page.specs.State.{state_text}

-- what stands in an answer
abbrev pub content_of : FieldSite → Verdict → Reading → List Told → List ℕ
content_of site (verdicts.Shows shows.Page) reading told = page_text reading site.table.items
content_of site (verdicts.Shows shows.Style) reading told = STYLE.now
content_of site (verdicts.Shows shows.Script) reading told = SCRIPT.now
content_of site (verdicts.Shows shows.State) reading told =
    state_text site.version.items reading site.table.items told
content_of site (verdicts.Shows shows.Metrics) reading told = metrics_text site.version.items reading
content_of site (verdicts.Shows shows.Program) reading told = codes "There is nothing here.\n"
content_of site (verdicts.Shows shows.Values) reading told = codes "There is nothing here.\n"
content_of site verdicts.Malformed reading told = codes "The request has no Host.\n"
content_of site verdicts.Misdirected reading told = codes "This is another host.\n"
content_of site verdicts.Refused reading told = codes "This page is only read.\n"
content_of site verdicts.Missing reading told = codes "There is nothing here.\n"

-- an answer by this verdict
abbrev pub answer_by : FieldSite → Verdict → Reading → List Told → Response → Type 0
answer_by site verdict reading told =
    IsResponse (code_of verdict) (fields_by verdict) (content_of site verdict reading told)

-- the response answers the request
abbrev pub IsAnswered : FieldSite → Parts → Reading → List Told → Response → Type 0
IsAnswered site head reading told = answer_by site (verdict_of site head) reading told
