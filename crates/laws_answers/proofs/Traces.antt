-- Of what clients did, of which there is a history, there is a trace that is one history of its events.
use Rattle.std.proofs.Common.{◌≡◌, ℕ, zero, suc, ◌+◌, ◌<◌, ◌≤◌, List, [], ◌∷◌, ◌++◌, length, take, map, Some, arith, refl, sym, ap, ◌∙◌, subst}
use Rattle.std.specs.Prelude.{slice_get}
use Rattle.std.proofs.lemmas.List.{length-map}
use Rattle.std.proofs.lemmas.Option.{slice_get_within, same_Some}
use Rattle.il_model.specs.declared.command.Command.{Command}
use Rattle.il_model.specs.declared.command.Answer.{Answer}
use Rattle.il_model.specs.Program.{Program}
use Rattle.ctl_debugger.specs.Owned.{Owned, cold_owned}
use Rattle.ctl_debugger.specs.Outcome.{outcome, answers_from, answers_of}
use Rattle.vr_model.specs.declared.message.Request as asked
use Rattle.vr_model.specs.Choices.{commands}
use Rattle.vr_model.specs.Checkpoints.{request_of, requests_of}
use Rattle.vr_model.specs.Groups.{client_count}
use Rattle.vr_model.specs.Logs.{Request}
use Rattle.vr_model.specs.Messages.{Body, Reply, Message, Party}
use Rattle.vr_model.specs.Report.{Release}
use Rattle.vr_model.specs.Steps.{ClientAction, Submits, Retries, StartsAgain, Hears, first_client}
use Rattle.vr_core.specs.StandsFor.{last_of, answer_to}
use Rattle.vr_schedules.specs.declared.event.WorldEvent.{WorldEvent}
use Rattle.vr_schedules.specs.declared.trace.Release as told
use Rattle.vr_schedules.specs.declared.trace.Trace.{Trace}
use Rattle.vr_schedules.specs.Standing.{release_of, releases_of}
use Rattle.vr_world.specs.History.{Has, HadLength, WasSubmitted, IsAnswered, IsOneHistory}
use Rattle.laws_clients.specs.ClientHistory as clients
use Rattle.laws_answers.specs.Seen.{answers_in, heard_by, Lists}
use Rattle.laws_answers.proofs.Lists.{get_take, get_taken, length_take, take_take, made_of, map_at, firsts, length_firsts, firsts_at, firsts_is}
use Rattle.laws_answers.proofs.Numbers.{Did, AreEvents, AreRight, IsNumbered, numbered}

-- ---- the answers to a list of commands

-- that to the last of some commands stands at its place among those to all of them
answer_from : (o : Owned) (cs : List Command) (j : ℕ) → j < length cs → slice_get (answers_from o cs) j ≡ Some (last_of (answers_from o (take (suc j) cs)))
answer_from o [] j l = absurd (omega (arith, l))
answer_from o (c ∷ cs) zero l = refl
answer_from o (c ∷ []) (suc j) l = absurd (omega (arith, l))
answer_from o (c ∷ d ∷ ds) (suc j) l = answer_from (outcome o c).1 (d ∷ ds) j (omega (arith, l))

commands_of_first : (n : ℕ) (log : List (Request Command)) → commands (take n log) ≡ take n (commands log)
commands_of_first zero log = refl
commands_of_first (suc n) [] = refl
commands_of_first (suc n) (m ∷ ms) = ap (λ cs. m.command ∷ cs) (commands_of_first n ms)

commands_are : (ms : List asked.Request) → map (λ (m : asked.Request). m.command) ms ≡ commands (requests_of ms)
commands_are [] = refl
commands_are (m ∷ ms) = ap (λ cs. m.command ∷ cs) (commands_are ms)

-- ---- requests and releases of the code

made_requests : (rs : List (Request Command)) → ((k : ℕ) (r : Request Command) → slice_get rs k ≡ Some r → r.client < client_count) → (ms : List asked.Request) × (requests_of ms ≡ rs)
made_requests [] low = ([], refl)
made_requests (r ∷ rs) low =
    let rest = made_requests rs (λ k. low (suc k)) in
    (record { client = record { number = r.client; below = low 0 r refl }; number = r.number; command = r.command } ∷ rest.0, ap (λ (xs : List (Request Command)). r ∷ xs) rest.1)

made_releases : (rs : List (Release Answer)) → ((k : ℕ) (r : Release Answer) → slice_get rs k ≡ Some r → r.client < client_count) → (ts : List told.Release) × (releases_of ts ≡ rs)
made_releases [] low = ([], refl)
made_releases (r ∷ rs) low =
    let rest = made_releases rs (λ k. low (suc k)) in
    (record { event = r.event; client = record { number = r.client; below = low 0 r refl }; number = r.number; answer = r.answer } ∷ rest.0, ap (λ (xs : List (Release Answer)). r ∷ xs) rest.1)

-- ---- what clients heard

abbrev pub heard_of : ℕ → List Did → List (Release Answer)
heard_of e [] = []
heard_of e (x ∷ xs) = heard_by e x.0 x.1.action ++ heard_of (suc e) xs

abbrev release_at : ℕ → ℕ → ℕ → Answer → Release Answer
release_at e c number answer = record { event = e; client = c; number = number; answer = answer }

-- the step by which client c hears a reply
abbrev hears : ℕ → Party → Party → ℕ → ℕ → Answer → List (Message Command Answer) → Did
hears c sender taker view number answer sends = (c, record { action = Hears (record { from = sender; to = taker; body = Reply view number answer }); sends = sends })

-- a client heard this answer by the step of its event
record WasHeard (did : List Did) (from : ℕ) (r : Release Answer) : Type 0 where
  at : ℕ
  event : r.event ≡ from + at
  view : ℕ
  sender : Party
  taker : Party
  sends : List (Message Command Answer)
  is : slice_get did at ≡ Some (hears r.client sender taker view r.number r.answer sends)

none_in_nil : {X : Type 0} (k : ℕ) (x : X) → slice_get [] k ≡ Some x → ⊥
none_in_nil k x e = cc

later_heard : (x : Did) (xs : List Did) (e : ℕ) (r : Release Answer) → WasHeard xs (suc e) r → WasHeard (x ∷ xs) e r
later_heard x xs e r w = record { at = suc w.at; event = (let is : r.event ≡ suc e + w.at = w.event in omega (arith, is)); view = w.view; sender = w.sender; taker = w.taker; sends = w.sends; is = w.is }

-- by a message of this step, or by a later one
in_body : (c e : ℕ) (sender taker : Party) (body : Body Command Answer) (sends : List (Message Command Answer)) (xs : List Did) (k : ℕ) (r : Release Answer) → slice_get (answers_in e c body ++ heard_of (suc e) xs) k ≡ Some r
    → ((j : ℕ) → slice_get (heard_of (suc e) xs) j ≡ Some r → WasHeard xs (suc e) r)
    → WasHeard ((c, record { action = Hears (record { from = sender; to = taker; body = body }); sends = sends }) ∷ xs) e r
in_body c e sender taker (Reply view number answer) sends xs zero r is later =
    let same : release_at e c number answer ≡ r = same_Some (release_at e c number answer) r is in
    record {
      at = 0;
      event = (let first : e ≡ r.event = ap (λ (q : Release Answer). q.event) same in omega (arith, first));
      view = view;
      sender = sender;
      taker = taker;
      sends = sends;
      is = ap (λ (q : Release Answer). Some (hears q.client sender taker view q.number q.answer sends)) same;
    }
in_body c e sender taker (Reply view number answer) sends xs (suc k) r is later = later_heard _ xs e r (later k is)
in_body c e sender taker _ sends xs k r is later = later_heard _ xs e r (later k is)

in_action : (c e : ℕ) (a : ClientAction Command Answer) (sends : List (Message Command Answer)) (xs : List Did) (k : ℕ) (r : Release Answer) → slice_get (heard_by e c a ++ heard_of (suc e) xs) k ≡ Some r
    → ((j : ℕ) → slice_get (heard_of (suc e) xs) j ≡ Some r → WasHeard xs (suc e) r) → WasHeard ((c, record { action = a; sends = sends }) ∷ xs) e r
in_action c e (Submits command) sends xs k r is later = later_heard _ xs e r (later k is)
in_action c e Retries sends xs k r is later = later_heard _ xs e r (later k is)
in_action c e StartsAgain sends xs k r is later = later_heard _ xs e r (later k is)
in_action c e (Hears m) sends xs k r is later = in_body c e m.from m.to m.body sends xs k r is later

was_heard : (e : ℕ) (did : List Did) (k : ℕ) (r : Release Answer) → slice_get (heard_of e did) k ≡ Some r → WasHeard did e r
was_heard e [] k r is = absurd (none_in_nil k r is)
was_heard e (x ∷ xs) k r is = in_action x.0 e x.1.action x.1.sends xs k r is (λ j at. was_heard (suc e) xs j r at)

-- ---- the trace

-- how long the list was before the last step
abbrev cut : (ℕ → ℕ) → ℕ → ℕ
cut had zero = 0
cut had (suc n) = had n

pub size : (did : List Did) (events : List WorldEvent) → AreEvents did events → length events ≡ length did
size [] [] of = refl
size [] (e ∷ es) of = absurd of
size (x ∷ xs) [] of = absurd of
size (x ∷ xs) (e ∷ es) of = ap (λ n. suc n) (size xs es of.1)

module _ (f : ℕ) (Q : Program) (budget : ℕ) (did : List Did) (events : List WorldEvent) (of : AreEvents did events) (right : AreRight f (answer_to Q budget) (λ c. first_client) did)
    (h : clients.IsHistoryOf (answer_to Q budget) did) where
  abbrev whole : ℕ
  whole = cut h.had (length did)

  abbrev entries : List (Request Command)
  entries = take whole h.order

  cut_within : (n : ℕ) → cut h.had n ≤ length h.order
  cut_within zero = omega arith
  cut_within (suc n) = h.within n

  -- before a step the list was no longer than before the last one
  below_cut : (e n : ℕ) → e < n → h.had e ≤ cut h.had n
  below_cut e zero l = absurd (omega (arith, l))
  below_cut e (suc n) l = h.grows e n (omega (arith, l))

  length_entries : length entries ≡ whole
  length_entries = length_take whole h.order (cut_within (length did))

  submitted_at : (p : ℕ) (m : Request Command) (is : slice_get h.order p ≡ Some m) → IsNumbered f (answer_to Q budget) [] events (h.submitted p m is).at m
  submitted_at p m is =
      let w = h.submitted p m is in
      numbered f (answer_to Q budget) [] (λ c. first_client) (λ c. record { starts = refl; sequence = refl }) did events right of w.at m.client w.client_step m w.is w.submits

  low_request : (k : ℕ) (m : Request Command) → slice_get entries k ≡ Some m → m.client < client_count
  low_request k m is = (submitted_at k m (get_taken h.order k whole m is)).low

  heard_at : (k : ℕ) (r : Release Answer) → slice_get (heard_of 0 did) k ≡ Some r → WasHeard did 0 r
  heard_at k r is = was_heard 0 did k r is

  answered_at : (r : Release Answer) (w : WasHeard did 0 r) → clients.IsAnswered (answer_to Q budget) h.order h.had w.at r.client r.number r.answer
  answered_at r w = h.answered w.at r.client w.view r.number r.answer w.sender w.taker w.sends w.is

  low_release : (k : ℕ) (r : Release Answer) → slice_get (heard_of 0 did) k ≡ Some r → r.client < client_count
  low_release k r is =
      let a = answered_at r (heard_at k r is) in
      subst (λ c. c < client_count) a.client_is (submitted_at a.place a.request a.entry).low

  abbrev its_requests : (ms : List asked.Request) × (requests_of ms ≡ entries)
  its_requests = made_requests entries low_request

  abbrev its_releases : (ts : List told.Release) × (releases_of ts ≡ heard_of 0 did)
  its_releases = made_releases (heard_of 0 did) low_release

  -- any trace that has them, and these lengths
  module _ (trace : Trace) (order : requests_of trace.order.items ≡ entries) (lengths : trace.lengths.items ≡ firsts h.had (length did)) (releases : releases_of trace.releases.items ≡ heard_of 0 did) where
    had_length : (e : ℕ) → e < length did → HadLength trace e (h.had e)
    had_length e l = ap (λ ns. slice_get ns e) lengths ∙ firsts_at h.had (length did) e l

    is_length : (e n : ℕ) → HadLength trace e n → (h.had e ≡ n) × (e < length did)
    is_length e n had = firsts_is h.had (length did) e n (ap (λ ns. slice_get ns e) (sym lengths) ∙ had)

    grows : (d e k n : ℕ) → d ≤ e → HadLength trace d k → HadLength trace e n → k ≤ n
    grows d e k n le a b = omega (arith, (is_length d k a).0, (is_length e n b).0, h.grows d e le)

    length_order : length trace.order.items ≡ whole
    length_order = sym (length-map trace.order.items request_of) ∙ ap length order ∙ length_entries

    ends : (e : ℕ) → length events ≡ suc e → HadLength trace e (length trace.order.items)
    ends e last =
        let all : length did ≡ suc e = sym (size did events of) ∙ last in
        had_length e (omega (arith, all)) ∙ ap Some (sym (length_order ∙ ap (cut h.had) all))

    at_place : (p : ℕ) (m : asked.Request) → Has trace p m → slice_get h.order p ≡ Some (request_of m)
    at_place p m has = get_taken h.order p whole (request_of m) (ap (λ ms. slice_get ms p) (sym order) ∙ map_at request_of trace.order.items p m has)

    submitted : (place : ℕ) (m : asked.Request) → Has trace place m → WasSubmitted events trace place m
    submitted place m has =
        let is = at_place place m has in
        let w = h.submitted place (request_of m) is in
        let n = submitted_at place (request_of m) is in
        record {
          event = w.at;
          is = n.is;
          number = n.number;
          committed = h.had w.at;
          had = had_length w.at (slice_get_within did w.at (m.client.number, w.client_step) w.is);
          before = w.before;
        }

    rising : (p q : ℕ) (m n : asked.Request) → p < q → Has trace p m → Has trace q n → m.client.number ≡ n.client.number → m.number < n.number
    rising p q m n l a b same = h.rising p q (request_of m) (request_of n) l (at_place p m a) (at_place q n b) same

    released : (k : ℕ) (release : told.Release) → slice_get trace.releases.items k ≡ Some release → IsAnswered (answers_of Q budget) trace release
    released k release at =
        let r : Release Answer = release_of release in
        let is : slice_get (heard_of 0 did) k ≡ Some r = ap (λ rs. slice_get rs k) (sym releases) ∙ map_at release_of trace.releases.items k release at in
        let w = heard_at k r is in
        let a = answered_at r w in
        let p : ℕ = a.place in
        let inside : w.at < length did = slice_get_within did w.at _ w.is in
        let below : p < h.had w.at = a.below in
        let top : h.had w.at ≤ whole = below_cut w.at (length did) inside in
        let low : p < whole = omega (arith, below, top) in
        let got = made_of request_of trace.order.items p a.request (ap (λ ms. slice_get ms p) order ∙ get_take h.order p whole low ∙ a.entry) in
        let all : commands entries ≡ commands (requests_of trace.order.items) = ap commands (sym order) in
        let few : p < length (commands entries) = subst (λ n. p < n) (sym (length-map entries (λ (m : Request Command). m.command) ∙ length_entries)) low in
        let last : release.answer ≡ answer_to Q budget (take (suc p) (commands entries)) =
        a.answer_is ∙ ap (λ ms. answer_to Q budget (commands ms)) (sym (take_take (suc p) whole h.order (omega (arith, low)))) ∙ ap (answer_to Q budget) (commands_of_first (suc p) entries) in
        record {
          place = p;
          request = got.from;
          entry = got.at;
          client = ap (λ (m : Request Command). m.client) got.is ∙ a.client_is;
          number = ap (λ (m : Request Command). m.number) got.is ∙ a.number_is;
          answer = ap (λ cs. slice_get (answers_of Q budget cs) p) (commands_are trace.order.items ∙ sym all) ∙ answer_from (cold_owned Q budget) (commands entries) p few ∙ ap Some (sym last);
          committed = h.had w.at;
          had = ap (λ e. slice_get trace.lengths.items e) (let e : release.event ≡ 0 + w.at = w.event in (let same : release.event ≡ w.at = omega (arith, e) in same)) ∙ had_length w.at inside;
          below = below;
        }

    history : IsOneHistory (answers_of Q budget) events trace
    history = record {
      counted = ap length lengths ∙ length_firsts h.had (length did) ∙ sym (size did events of);
      grows = grows;
      ends = ends;
      submitted = submitted;
      rising = rising;
      released = released;
    }

  pub record HasTraces : Type 0 where
    pub order : List asked.Request
    pub lengths : List ℕ
    pub releases : List told.Release
    pub heard : releases_of releases ≡ heard_of 0 did
    pub history : (trace : Trace) → Lists trace order lengths releases → IsOneHistory (answers_of Q budget) events trace

  pub has_traces : HasTraces
  has_traces = record {
    order = its_requests.0;
    lengths = firsts h.had (length did);
    releases = its_releases.0;
    heard = its_releases.1;
    history = λ trace l. history trace (ap requests_of l.order_is ∙ its_requests.1) l.lengths_are (ap releases_of l.releases_are ∙ its_releases.1);
  }
