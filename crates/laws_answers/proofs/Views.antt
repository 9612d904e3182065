-- What readers are shown of releases, each of an answer that a client heard.
use Rattle.std.proofs.Common.{◌≡◌, ℕ, zero, suc, ◌+◌, ◌<◌, ◌≤◌, Bool, true, false, cond, List, [], ◌∷◌, ◌++◌, length, map, Option, Some, None, arith, refl, sym, ap, ◌∙◌, subst, inl, inr}
use Rattle.std.specs.Prelude.{slice_get, option_map}
use Rattle.std.specs.List.{AllByRecursion}
use Rattle.std.proofs.lemmas.Bool.{cases_lt}
use Rattle.std.proofs.lemmas.Option.{same_Some}
use mathlib.Core.List.{IsPrefix}
use Rattle.il_model.specs.declared.cells.OutImage.{OutImage}
use Rattle.il_model.specs.declared.command.Command.{Command}
use Rattle.il_model.specs.declared.command.Answer.{Answer}
use Rattle.il_model.specs.Answers.{released_image}
use Rattle.il_model.specs.Locations.{safe_image}
use Rattle.il_model.specs.Program.{Program}
use Rattle.ctl_debugger.specs.Owned.{cold_owned}
use Rattle.ctl_debugger.specs.Outcome.{answers_with}
use Rattle.vr_model.specs.Messages.{Body, Reply, Message}
use Rattle.vr_model.specs.Report as report
use Rattle.vr_model.specs.Steps.{ClientAction, Submits, Retries, StartsAgain, Hears}
use Rattle.vr_model.specs.World.{ClientState, is_waiting}
use Rattle.vr_schedules.specs.declared.event.WorldEvent.{WorldEvent}
use Rattle.vr_schedules.specs.declared.trace.Release as told
use Rattle.vr_schedules.specs.declared.trace.Trace.{Trace}
use Rattle.vr_schedules.specs.Standing.{release_of}
use Rattle.vr_world.specs.History.{IsOneHistory}
use Rattle.io_image.specs.declared.release.Release.{Release}
use Rattle.io_image.specs.Releases.{IsRising, IsRisingFrom, number_from, image_from, number_of, shown}
use Rattle.io_driver.specs.Driver.{release_by}
use Rattle.laws_threads.specs.CodeMoves.{CodeMove, clients_in}
use Rattle.laws_threads.specs.ClientStarts.{ClientDeed, asked, asked_by}
use Rattle.laws_answers.specs.Seen.{answers_in, heard_by, IsSeenOverStarts, Lists}
use Rattle.laws_answers.specs.Shown.{Releases, WasReleased, ShowsAnswer}
use Rattle.laws_answers.proofs.Lists.{IsMadeOf, made_of, map_at}
use Rattle.laws_answers.proofs.Numbers.{Did}
use Rattle.laws_answers.proofs.Traces.{heard_of}
use Rattle.laws_answers.proofs.Moves.{heard_is}

-- ---- a release by a message

record ByAnswer (e c : ℕ) (knows : ClientState Command) (body : Body Command Answer) (release : Release) : Type 0 where
  answer : report.Release Answer
  hears : answers_in e c body ≡ answer ∷ []
  releases : Releases answer c release

none_some : {X : Type 0} (x : X) → None ≡ Some x → ⊥
none_some x e = cc

abbrev made : ℕ → OutImage → Release
made number image = record { number = number; image = image }

of_image : (number : ℕ) (o : Option OutImage) (release : Release) → option_map (made number) o ≡ Some release → (number ≡ release.number) × (o ≡ Some release.image)
of_image number None release is = absurd (none_some release is)
of_image number (Some image) release is =
    let same : made number image ≡ release = same_Some (made number image) release is in
    (ap (λ (r : Release). r.number) same, ap (λ (r : Release). Some r.image) same)

by_reply : (e c view number : ℕ) (answer : Answer) (knows : ClientState Command) (waits : Bool) (release : Release)
    → cond waits (option_map (made number) (released_image answer)) None ≡ Some release → ByAnswer e c knows (Reply view number answer) release
by_reply e c view number answer knows true release is =
    let i = of_image number (released_image answer) release is in
    record { answer = record { event = e; client = c; number = number; answer = answer }; hears = refl; releases = record { client = refl; number = i.0; image = i.1 } }
by_reply e c view number answer knows false release is = absurd (none_some release is)

by_answer : (e c : ℕ) (knows : ClientState Command) (body : Body Command Answer) (release : Release) → release_by knows body ≡ Some release → ByAnswer e c knows body release
by_answer e c knows (Reply view number answer) release is = by_reply e c view number answer knows (is_waiting knows.waits number) release is
by_answer e c knows _ release is = absurd (none_some release is)

-- what stands in the later of two lists stands in both
record StandsIn (rs : List (report.Release Answer)) (answer : report.Release Answer) : Type 0 where
  place : ℕ
  is : slice_get rs place ≡ Some answer

further : (rs ss : List (report.Release Answer)) (answer : report.Release Answer) → StandsIn ss answer → StandsIn (rs ++ ss) answer
further [] ss answer s = s
further (r ∷ rs) ss answer s = let t = further rs ss answer s in record { place = suc t.place; is = t.is }

-- what a step says that is heard among others
heard_among : (from e : ℕ) (did : List Did) (x : Did) (answer : report.Release Answer) → slice_get did e ≡ Some x → heard_by (from + e) x.0 x.1.action ≡ answer ∷ [] → StandsIn (heard_of from did) answer
heard_among from e [] x answer is says = absurd cc
heard_among from zero (y ∷ ys) x answer is says =
    let same : y ≡ x = same_Some y x is in
    let start : from + 0 ≡ from = omega arith in
    let its : heard_by from y.0 y.1.action ≡ answer ∷ [] = ap (λ (z : Did). heard_by from z.0 z.1.action) same ∙ ap (λ n. heard_by n x.0 x.1.action) (sym start) ∙ says in
    record { place = 0; is = ap (λ (rs : List (report.Release Answer)). slice_get (rs ++ heard_of (suc from) ys) 0) its }
heard_among from (suc e) (y ∷ ys) x answer is says =
    let next : suc from + e ≡ from + suc e = omega arith in
    further (heard_by from y.0 y.1.action) (heard_of (suc from) ys) answer
    (heard_among (suc from) e ys x answer is (ap (λ n. heard_by n x.0 x.1.action) next ∙ says))

one_more : (P : Release → Type 0) (xs : List Release) (x : Release) → AllByRecursion P xs → P x → AllByRecursion P (xs ++ x ∷ [])
one_more P [] x all p = (p, tt)
one_more P (y ∷ ys) x all p = (all.0, one_more P ys x all.1 p)

pub published : {S : Type 0} (was : List (CodeMove S)) (e c : ℕ) (knows : ClientState Command) (message : Message Command Answer) (sends : List (Message Command Answer)) (published : List Release) (release : Release)
    → slice_get (clients_in was) e ≡ Some (c, record { action = Hears message; sends = sends }) → release_by knows message.body ≡ Some release → AllByRecursion (WasReleased was c) published
    → AllByRecursion (WasReleased was c) (published ++ release ∷ [])
published was e c knows message sends so_far release at is all =
    let b : ByAnswer e c knows message.body release = by_answer e c knows message.body release is in
    let start : 0 + e ≡ e = omega arith in
    let s = heard_among 0 e (clients_in was) (c, record { action = Hears message; sends = sends }) b.answer at (ap (λ n. answers_in n c message.body) start ∙ b.hears) in
    one_more (WasReleased was c) so_far release all (record { answer = b.answer; place = s.place; heard = ap (λ rs. slice_get rs s.place) (sym (heard_is 0 was)) ∙ s.is; releases = b.releases })

-- ---- the same is heard where clients submit and hear the same

-- whom an answer is to, its number, and what it says
abbrev Told : Type 0
Told = ℕ × ℕ × Answer

abbrev told_of : report.Release Answer → Told
told_of r = (r.client, r.number, r.answer)

abbrev told_in : ℕ → Body Command Answer → List Told
told_in c (Reply view number answer) = (c, number, answer) ∷ []
told_in c _ = []

abbrev told_by : ℕ → ClientAction Command Answer → List Told
told_by c (Hears m) = told_in c m.body
told_by c _ = []

abbrev all_told : List ClientDeed → List Told
all_told [] = []
all_told (x ∷ xs) = told_by x.0 x.1 ++ all_told xs

body_told : (c e : ℕ) (m : Message Command Answer) (body : Body Command Answer) (rest : List (report.Release Answer)) (xs : List ClientDeed) → map told_of rest ≡ all_told xs → map told_of (answers_in e c body ++ rest) ≡ told_in c body ++ all_told xs
body_told c e m (Reply view number answer) rest xs same = ap (λ (ts : List Told). (c, number, answer) ∷ ts) same
body_told c e m _ rest xs same = same

action_told : (c e : ℕ) (a : ClientAction Command Answer) (sends : List (Message Command Answer)) (rest : List (report.Release Answer)) (xs : List ClientDeed) → map told_of rest ≡ all_told xs
    → map told_of (heard_by e c a ++ rest) ≡ all_told (asked_by c a sends ++ xs)
action_told c e (Submits command) sends rest xs same = same
action_told c e Retries sends rest xs same = same
action_told c e StartsAgain sends rest xs same = same
action_told c e (Hears m) sends rest xs same = body_told c e m m.body rest xs same

told_as : (e : ℕ) (did : List Did) → map told_of (heard_of e did) ≡ all_told (asked did)
told_as e [] = refl
told_as e (x ∷ xs) = action_told x.0 e x.1.action x.1.sends (heard_of (suc e) xs) (asked xs) (told_as (suc e) xs)

same_heard : (was now : List Did) → asked now ≡ asked was → (k : ℕ) (r : report.Release Answer) → slice_get (heard_of 0 was) k ≡ Some r → IsMadeOf told_of (heard_of 0 now) k (told_of r)
same_heard was now same k r is =
    made_of told_of (heard_of 0 now) k (told_of r)
    (ap (λ (ts : List Told). slice_get ts k) (told_as 0 now ∙ ap all_told same ∙ sym (told_as 0 was)) ∙ map_at told_of (heard_of 0 was) k r is)

-- ---- the last of some releases

last_release : (P : Release → Type 0) (xs : List Release) (n : ℕ) (i : OutImage) → 0 < length xs → AllByRecursion P xs → (r : Release) × P r × (number_from n xs ≡ r.number) × (image_from i xs ≡ r.image)
last_release P [] n i some all = absurd (omega (arith, some))
last_release P (x ∷ []) n i some all = (x, all.0, refl, refl)
last_release P (x ∷ y ∷ ys) n i some all = last_release P (y ∷ ys) x.number x.image (omega arith) all.1

front_all : (P : Release → Type 0) (xs ys : List Release) → AllByRecursion P (xs ++ ys) → AllByRecursion P xs
front_all P [] ys all = tt
front_all P (x ∷ xs) ys all = (all.0, front_all P xs ys all.1)

module _ {S : Type 0} (Q : Program) (budget : ℕ) (was : List (CodeMove S)) (sees : IsSeenOverStarts Q budget was) (c : ℕ) where
  abbrev answers : List Command → List Answer
  answers = answers_with sees.one.reading (cold_owned Q budget)

  shows : (trace : Trace) → Lists trace sees.one.order sees.one.lengths sees.one.releases → (release : Release) (number : ℕ) (image : OutImage) → WasReleased was c release → number ≡ release.number → image ≡ release.image
      → ShowsAnswer answers trace c (record { number = number; image = image })
  shows trace lists release number image w number_is image_is =
      let m = same_heard (clients_in was) (clients_in sees.moves) sees.same w.place w.answer (ap (λ rs. slice_get rs w.place) (heard_is 0 was) ∙ w.heard) in
      let t = made_of release_of sees.one.releases w.place m.from (ap (λ rs. slice_get rs w.place) (sees.one.heard ∙ sym (heard_is 0 sees.moves)) ∙ m.at) in
      let both : told_of (release_of t.from) ≡ told_of w.answer = ap told_of t.is ∙ m.is in
      record {
        release = t.from;
        client = ap (λ (x : Told). x.0) both ∙ w.releases.client;
        number = ap (λ (x : Told). x.1) both ∙ w.releases.number ∙ sym number_is;
        image = ap (λ (x : Told). released_image x.2) both ∙ w.releases.image ∙ ap (λ (i : OutImage). Some i) (sym image_is);
        stands = (sees.one.history trace lists).released w.place t.from (ap (λ rs. slice_get rs w.place) lists.releases_are ∙ t.at);
      }

  pub shown_answers : (trace : Trace) (published seen : List Release) → Lists trace sees.one.order sees.one.lengths sees.one.releases → AllByRecursion (WasReleased was c) published → IsPrefix seen published → 0 < length seen
      → ShowsAnswer answers trace c (shown seen)
  shown_answers trace published seen lists all prefix some =
      let l = last_release (WasReleased was c) seen 0 safe_image some (front_all (WasReleased was c) seen prefix.0 (subst (λ (rs : List Release). AllByRecursion (WasReleased was c) rs) (sym prefix.1) all)) in
      shows trace lists l.0 (number_of seen) (image_from safe_image seen) l.1 l.2 l.3

-- ---- what is shown later

rises : (n : ℕ) (xs : List Release) → IsRisingFrom n xs → n ≤ number_from n xs
rises n [] r = omega arith
rises n (x ∷ xs) r = omega (arith, r.0, rises x.number xs r.1)

goes_up : (n : ℕ) (xs ys : List Release) → IsRisingFrom n (xs ++ ys) → number_from n xs ≤ number_from n (xs ++ ys)
goes_up n [] ys r = rises n ys r
goes_up n (x ∷ xs) ys r = goes_up x.number xs ys r.1

pub later_later : (answers : List Command → List Answer) (schedule : List WorldEvent) (trace : Trace) (c : ℕ) (seen later : List Release) (early : ShowsAnswer answers trace c (shown seen)) (late : ShowsAnswer answers trace c (shown later))
    → IsOneHistory answers schedule trace → IsPrefix seen later → IsRising later → early.stands.place ≤ late.stands.place
later_later answers schedule trace c seen later early late h prefix rising = elim (cases_lt late.stands.place early.stands.place) [
  | inl below ↦ (
      let up : number_of seen ≤ number_of later = subst (λ (rs : List Release). number_of seen ≤ number_of rs) prefix.1 (goes_up 0 seen prefix.0 (subst IsRising (sym prefix.1) rising)) in
      let same : late.stands.request.client.number ≡ early.stands.request.client.number = late.stands.client ∙ late.client ∙ sym early.client ∙ sym early.stands.client in
      let less : late.stands.request.number < early.stands.request.number = h.rising late.stands.place early.stands.place late.stands.request early.stands.request below late.stands.entry early.stands.entry same in
      let a : late.stands.request.number ≡ number_of later = late.stands.number ∙ late.number in
      let b : early.stands.request.number ≡ number_of seen = early.stands.number ∙ early.number in
      absurd (omega (arith, up, less, a, b)))
  | inr le ↦ le
]
