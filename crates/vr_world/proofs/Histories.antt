-- The trace of a run is one history of its schedule.
use Rattle.std.proofs.Common.{◌≡◌, ℕ, zero, suc, ◌+◌, ◌<◌, ◌≤◌, max, Bool, true, false, cond, ◌==◌, List, [], ◌∷◌, ◌++◌, length, take, map, Option, Some, None, Result, Ok, Err, arith, refl, sym, ap, ap₂, ◌∙◌, subst, add-one}
use Rattle.std.specs.Prelude.{slice_get, IfOk, MatchResult}
use Rattle.std.proofs.lemmas.Bool.{ltb-true, lt-ltb, eq-eqb}
use Rattle.std.proofs.lemmas.List.{length-map, take_all}
use Rattle.std.proofs.lemmas.Option.{slice_get_within, same_Some}
use Rattle.il_model.specs.declared.command.Command.{Command}
use Rattle.il_model.specs.declared.command.Answer.{Answer}
use Rattle.il_model.specs.Program.{Program}
use Rattle.ctl_debugger.specs.Owned.{Owned, cold_owned}
use Rattle.ctl_debugger.specs.Outcome.{outcome, answers_from, answers_of}
use Rattle.vr_model.specs.declared.message.Request as asked
use Rattle.vr_model.specs.Logs.{Request, IsEntry, IsAmong, greater, last_number, is_above}
use Rattle.vr_model.specs.Choices.{commands}
use Rattle.vr_model.specs.Checkpoints.{request_of, requests_of}
use Rattle.vr_model.specs.World as world
use Rattle.vr_model.specs.World.{run, start}
use Rattle.vr_model.specs.Report.{Report, Each, IsReleased, report, last_or}
use Rattle.vr_core.specs.StandsFor.{last_of, answer_to, group_of, IsSavedAs}
use Rattle.vr_schedules.specs.declared.event.WorldEvent.{WorldEvent}
use Rattle.vr_schedules.specs.declared.event.WorldEvent.TheVariants as code
use Rattle.vr_schedules.specs.declared.fault.WorldError.{WorldError}
use Rattle.vr_schedules.specs.declared.trace.Release as told
use Rattle.vr_schedules.specs.declared.trace.Trace.{Trace}
use Rattle.vr_schedules.specs.Events.{event_of}
use Rattle.vr_schedules.specs.Standing.{release_of}
use Rattle.vr_schedules.specs.Traces.{IsTraced}
use Rattle.vr_world.specs.History.{next_number, Has, HadLength, WasSubmitted, IsAnswered, IsOneHistory}
use Rattle.vr_world.proofs.Events.{there, take_there, made_of, map_at, goes, number_is, submitted_by}

-- ---- the answers to a list of commands

-- that to the last of some commands stands at its place among those to all of them
answer_from : (o : Owned) (cs : List Command) (j : ℕ) → j < length cs → slice_get (answers_from o cs) j ≡ Some (last_of (answers_from o (take (suc j) cs)))
answer_from o [] j l = absurd (omega arith)
answer_from o (c ∷ cs) zero l = refl
answer_from o (c ∷ []) (suc j) l = absurd (omega arith)
answer_from o (c ∷ d ∷ ds) (suc j) l = answer_from (outcome o c).1 (d ∷ ds) j (omega arith)

-- the commands of a prefix
commands_of_first : (n : ℕ) (log : List (Request Command)) → commands (take n log) ≡ take n (commands log)
commands_of_first zero log = refl
commands_of_first (suc n) [] = refl
commands_of_first (suc n) (m ∷ ms) = ap (λ cs. m.command ∷ cs) (commands_of_first n ms)

commands_are : (ms : List asked.Request) → map (λ (m : asked.Request). m.command) ms ≡ commands (requests_of ms)
commands_are [] = refl
commands_are (m ∷ ms) = ap (λ cs. m.command ∷ cs) (commands_are ms)

-- ---- entries of a list

-- an entry is what stands at its place
at_entry : {X : Type 0} (xs : List X) (p : ℕ) (m : X) → take (suc p) xs ≡ take p xs ++ m ∷ [] → slice_get xs p ≡ Some m
at_entry [] zero m e = absurd cc
at_entry [] (suc p) m e = absurd cc
at_entry (x ∷ xs) zero m e = let same : x ≡ m = cc in ap Some same
at_entry (x ∷ xs) (suc p) m e = at_entry xs p m (let rest : take (suc p) xs ≡ take p xs ++ m ∷ [] = cc in rest)

entry_of : {X : Type 0} (xs : List X) (p : ℕ) (m : X) → slice_get xs p ≡ Some m → IsEntry xs p m
entry_of xs p m e = record { within = slice_get_within xs p m e; last = subst (λ n. take n xs ≡ take p xs ++ m ∷ []) (sym (add-one p)) (take_there xs p m e) }

get_take : {X : Type 0} (xs : List X) (p q : ℕ) → p < q → slice_get (take q xs) p ≡ slice_get xs p
get_take xs p zero l = absurd (omega arith)
get_take [] p (suc q) l = refl
get_take (x ∷ xs) zero (suc q) l = refl
get_take (x ∷ xs) (suc p) (suc q) l = get_take xs p q (omega arith)

each_made : {X Y : Type 0} (f : X → Y) (P : Y → Type 0) (xs : List X) → Each P (map f xs) → (k : ℕ) (x : X) → slice_get xs k ≡ Some x → P (f x)
each_made f P [] h zero x e = absurd cc
each_made f P [] h (suc k) x e = absurd cc
each_made f P (y ∷ ys) h zero x e = let same : y ≡ x = cc in subst (λ z. P (f z)) same h.0
each_made f P (y ∷ ys) h (suc k) x e = each_made f P ys h.1 k x e

-- the last of some lengths
last_at : (a e : ℕ) (xs : List ℕ) → length xs ≡ suc e → slice_get xs e ≡ Some (last_or a xs)
last_at a e [] h = absurd (omega arith)
last_at a zero (x ∷ []) h = refl
last_at a zero (x ∷ y ∷ ys) h = absurd (omega arith)
last_at a (suc e) (x ∷ []) h = absurd (omega arith)
last_at a (suc e) (x ∷ y ∷ ys) h = last_at x e (y ∷ ys) (omega arith)

-- a number above all of a client's is above each
above_rest : (a o : Option ℕ) (s : ℕ) → is_above s (greater a o) ≡ true → is_above s o ≡ true
above_rest None o s e = e
above_rest (Some a) None s e = refl
above_rest (Some a) (Some b) s e = lt-ltb b s (let k : max a b < s = ltb-true _ _ e in omega arith)

above_first : (a s : ℕ) (o : Option ℕ) → is_above s (greater (Some a) o) ≡ true → a < s
above_first a s None e = ltb-true _ _ e
above_first a s (Some b) e = let k : max a b < s = ltb-true _ _ e in omega arith

below_last : (xs : List (Request Command)) (p : ℕ) (m : Request Command) (s : ℕ) → slice_get xs p ≡ Some m → is_above s (last_number xs m.client) ≡ true → m.number < s
below_last [] zero m s is e = absurd cc
below_last [] (suc p) m s is e = absurd cc
below_last (x ∷ xs) zero m s is e =
    let same : x ≡ m = same_Some _ _ is in
    let t : (x.client == m.client) ≡ true = eq-eqb x.client m.client (ap (λ (y : Request Command). y.client) same) in
    let n : x.number ≡ m.number = ap (λ (y : Request Command). y.number) same in
    let k : is_above s (greater (Some x.number) (last_number xs m.client)) ≡ true = subst (λ b. is_above s (greater (cond b (Some x.number) None) (last_number xs m.client)) ≡ true) t e in
    omega (arith, above_first x.number s (last_number xs m.client) k)
below_last (x ∷ xs) (suc p) m s is e = below_last xs p m s is (above_rest (cond (x.client == m.client) (Some x.number) None) (last_number xs m.client) s e)

-- ---- the trace of a run

module _ (f : ℕ) (Q : Program) (budget : ℕ) (schedule : List WorldEvent) (trace : Trace) (t : IsTraced IsSavedAs (group_of f Q budget) schedule trace) where
  abbrev answer : List Command → Answer
  answer = answer_to Q budget

  abbrev its_report : Report Command Answer
  its_report = report f answer t.events

  size : length t.events ≡ length schedule
  size = sym (length-map t.events (λ e. e.0)) ∙ ap length t.own ∙ length-map schedule event_of

  counted : length trace.lengths.items ≡ length schedule
  counted = ap length t.is_report.lengths ∙ t.explains.counted ∙ size

  in_report : (e n : ℕ) → HadLength trace e n → slice_get its_report.lengths e ≡ Some n
  in_report e n had = ap (λ ns. slice_get ns e) (sym t.is_report.lengths) ∙ had

  grows : (d e k n : ℕ) → d ≤ e → HadLength trace d k → HadLength trace e n → k ≤ n
  grows d e k n le a b = t.explains.never_falls d e k n le (in_report d k a) (in_report e n b)

  ends : (e : ℕ) → length schedule ≡ suc e → HadLength trace e (length trace.order.items)
  ends e last =
      let whole : length trace.order.items ≡ last_or 0 trace.lengths.items = sym (length-map trace.order.items request_of) ∙ ap length t.is_report.order ∙ t.explains.ends ∙ ap (last_or 0) (sym t.is_report.lengths) in
      last_at 0 e trace.lengths.items (counted ∙ last) ∙ ap Some (sym whole)

  at_place : (p : ℕ) (m : asked.Request) → Has trace p m → slice_get its_report.order p ≡ Some (request_of m)
  at_place p m has = ap (λ ms. slice_get ms p) (sym t.is_report.order) ∙ map_at request_of trace.order.items p m has

  entry : (p : ℕ) (m : asked.Request) → Has trace p m → IsEntry its_report.order p (request_of m)
  entry p m has = entry_of its_report.order p (request_of m) (at_place p m has)

  rising : (p q : ℕ) (m n : asked.Request) → p < q → Has trace p m → Has trace q n → m.client.number ≡ n.client.number → m.number < n.number
  rising p q m n l a b same =
      below_last (take q its_report.order) p (request_of m) n.number (get_take its_report.order p q l ∙ at_place p m a)
      (subst (λ c. is_above n.number (last_number (take q its_report.order) c) ≡ true) (sym same) (t.explains.rising.each q (request_of n) (entry q n b)))

  submitted : (place : ℕ) (m : asked.Request) → Has trace place m → WasSubmitted schedule trace place m
  submitted place m has =
      let own = t.own in
      let have = t.have_steps in
      let all : take (length schedule) t.events ≡ t.events = take_all (length schedule) t.events (omega (arith, size)) in
      let among : IsAmong (run f answer t.events start).submitted (request_of m) = t.explains.submitted.each place (request_of m) (entry place m has) in
      let by = submitted_by f answer schedule t.events own have (length schedule) (omega arith) (request_of m)
      (subst (λ es. IsAmong (run f answer es start).submitted (request_of m)) (sym all) among) in
      let e = by.event in
      let client : m.client.number ≡ by.client = ap (λ (x : Request Command). x.client) by.is in
      let command : m.command ≡ by.command = ap (λ (x : Request Command). x.command) by.is in
      let number : m.number ≡ world.next_number ((run f answer (take e t.events) start).clients by.client) = ap (λ (x : Request Command). x.number) by.is in
      let early : e < length schedule = by.early in
      let went = goes f answer schedule t.events own have e (code.Submit by.client by.command) by.scheduled in
      let after = there trace.lengths.items e (omega (arith, counted)) in
      record {
        event = e;
        is = by.scheduled ∙ ap₂ (λ c d. Some (code.Submit c d)) (sym client) (sym command);
        number = number ∙ number_is f answer schedule t.events own have e by.client (omega arith) ∙ ap (λ c. next_number c (take e schedule)) (sym client);
        committed = after.0;
        had = after.1;
        before = t.explains.new e after.0 place by.client by.command went.completion (request_of m) went.is (in_report e after.0 after.1) (entry place m has) client number;
      }

  answered : (release : told.Release) → IsReleased answer (requests_of trace.order.items) trace.lengths.items (release_of release) → IsAnswered (answers_of Q budget) trace release
  answered release h =
      let order = requests_of trace.order.items in
      let its = h.stands in
      let p = its.place in
      let more : p + 1 ≡ suc p = add-one p in
      let got = made_of request_of trace.order.items p its.request (at_entry order p its.request (subst (λ n. take n order ≡ take p order ++ its.request ∷ []) more its.entry.last)) in
      let low : p < length (commands order) = subst (λ n. p < n) (sym (length-map order (λ (m : Request Command). m.command))) its.entry.within in
      let last : release.answer ≡ answer_to Q budget (take (suc p) (commands order)) =
      its.answer_is ∙ ap (λ n. answer_to Q budget (commands (take n order))) more ∙ ap (answer_to Q budget) (commands_of_first (suc p) order) in
      record {
        place = p;
        request = got.from;
        entry = got.at;
        client = ap (λ (m : Request Command). m.client) got.is ∙ its.client_is;
        number = ap (λ (m : Request Command). m.number) got.is ∙ its.number_is;
        answer = ap (λ cs. slice_get (answers_of Q budget cs) p) (commands_are trace.order.items) ∙ answer_from (cold_owned Q budget) (commands order) p low ∙ ap Some (sym last);
        committed = h.committed;
        had = h.after;
        below = h.below;
      }

  released : (k : ℕ) (release : told.Release) → slice_get trace.releases.items k ≡ Some release → IsAnswered (answers_of Q budget) trace release
  released k release at =
      answered release
      (subst (λ ns. IsReleased answer (requests_of trace.order.items) ns (release_of release)) (sym t.is_report.lengths)
      (subst (λ o. IsReleased answer o its_report.lengths (release_of release)) (sym t.is_report.order)
      (each_made release_of (IsReleased answer its_report.order its_report.lengths) trace.releases.items (subst (Each (IsReleased answer its_report.order its_report.lengths)) (sym t.is_report.releases) t.explains.released) k release at)))

  pub one_history : IsOneHistory (answers_of Q budget) schedule trace
  one_history = record { counted = counted; grows = grows; ends = ends; submitted = submitted; rising = rising; released = released }

pub history_of : (f : ℕ) (Q : Program) (budget : ℕ) (schedule : List WorldEvent) (result : Result Trace WorldError) (Fails : WorldError → Type 0) → MatchResult result (IsTraced IsSavedAs (group_of f Q budget) schedule) Fails
    → IfOk result (IsOneHistory (answers_of Q budget) schedule)
history_of f Q budget schedule (Ok trace) Fails h = one_history f Q budget schedule trace h
history_of f Q budget schedule (Err e) Fails h = tt
