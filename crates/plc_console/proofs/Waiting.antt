-- A client's wait for an answer, put together from what it hears and what it sends again.
use Rattle.std.proofs.Common.{◌≡◌, ℕ, ◌==◌, ◌⊎◌, Bool, true, false, List, [], ◌∷◌, ◌++◌, Option, Some, None, Result, Ok, Err, OnErr, refl, sym, ap, ap₂, subst, ◌∙◌, append_assoc, inl, inr}
use Rattle.std.specs.Prelude.{option_map, max, if◌then◌else◌}
use Rattle.std.specs.List.{AllByRecursion}
use Rattle.std.proofs.lemmas.Bool.{cases_Bool, eqb-true, eq-eqb}
use Rattle.std.proofs.lemmas.List.{append-nil}
use Rattle.std.proofs.lemmas.List.Concat.{flat_map-cons}
use Rattle.std.proofs.lemmas.Grind.{flat_map-append}
use Rattle.il_model.specs.declared.command.Command.{Command}
use Rattle.il_model.specs.declared.command.Answer.{Answer}
use Rattle.il_model.specs.declared.command.Answer.TheVariants.{Done}
use Rattle.vr_model.specs.declared.message.Message.{Message}
use Rattle.vr_model.specs.declared.message.Body.{Body}
use Rattle.vr_model.specs.declared.message.Body.TheVariants as says
use Rattle.vr_model.specs.Logs.{Request}
use Rattle.vr_model.specs.StandsFor.{body_with}
use Rattle.vr_model.specs.Steps.{Retries, StartsAgain, heard}
use Rattle.vr_model.specs.World.{next_number, next_request, is_waiting, replied}
use Rattle.vr_ports.specs.Parties.{Grows}
use Rattle.vr_ports.specs.declared.link.Input.{Input}
use Rattle.vr_ports.specs.declared.link.Input.TheVariants as input
use Rattle.vr_client.specs.Client.{Client, SendsAt, BecomesAt, SubmitsCommand, answer_by}
use Rattle.plc_console.specs.Asking.{Way, reply_of, IsNoReplyTo, joined, Waits, IsAnswered, answer_in, IsAfter, Hears, FindsClosed, GivesUp, IsUnanswered}

pub grows_none : {X : Type 0} (o : Option (List X)) → Grows o o []
grows_none None = refl
grows_none (Some l) = ap Some (sym (append-nil l))

pub grows_more : {X : Type 0} (a b c : Option (List X)) (xs ys : List X) → Grows a b xs → Grows b c ys → Grows a c (xs ++ ys)
grows_more {X} None b c xs ys h k = subst (λ (o : Option (List X)). Grows o c ys) h k
grows_more {X} (Some l) b c xs ys h k = subst (λ (o : Option (List X)). Grows o c ys) h k ∙ ap Some (append_assoc l xs ys)

pub all_more : {X : Type 0} (P : X → Type 0) (xs ys : List X) → AllByRecursion P xs → AllByRecursion P ys → AllByRecursion P (xs ++ ys)
all_more P [] ys h k = k
all_more P (x ∷ xs) ys h k = (h.0, all_more P xs ys h.1 k)

joined_more : (xs ys : List (List Message)) → joined (xs ++ ys) ≡ joined xs ++ joined ys
joined_more xs ys = flat_map-append (λ (l : List Message). l) xs ys

-- one list, sent once
again_once : (d : Client) (list : List Message) (b b' : Option (List Message)) → SendsAt d Retries list → Grows b b' list → (again : List (List Message)) × AllByRecursion (SendsAt d Retries) again × Grows b b' (joined again)
again_once d list b b' sends grows =
    (list ∷ [], (sends, tt), subst (λ (l : List Message). Grows b b' l) (sym (flat_map-cons (λ (l : List Message). l) list [] ∙ append-nil list)) grows)

-- the same where nothing may have been sent
pub again_at_most : (d : Client) (b b' : Option (List Message)) → (b' ≡ b) ⊎ ((sends : List Message) × SendsAt d Retries sends × Grows b b' sends) → (again : List (List Message)) × AllByRecursion (SendsAt d Retries) again × Grows b b' (joined again)
again_at_most d b b' (inl same) = ([], tt, subst (λ (o : Option (List Message)). Grows b o []) (sym same) (grows_none b))
again_at_most d b b' (inr some) = again_once d some.0 b b' some.1 some.2

-- ---- what came and brought no answer is no REPLY with the number that waits

abbrev told_of : ℕ → Answer → Option (ℕ × Answer)
told_of number answer = Some (number, answer)

abbrev number_told : Option (ℕ × Answer) → ℕ
number_told None = 0
number_told (Some told) = told.0

same_number : (n k : ℕ) (a b : Answer) → told_of k a ≡ told_of n b → n ≡ k
same_number n k a b is = sym (ap number_told is)

no_reply_body : (d : Client) (m : Request Command) (body : Body) (answer : Answer) → d.state.waits ≡ Some m → None ≡ option_map (λ a. a.answer) (answer_by d.state (body_with [] body)) → reply_of body ≡ Some (m.number, answer) → ⊥
no_reply_body d m (says.Reply view k a) answer waits none is =
    let equal : m.number ≡ k = same_number m.number k a answer is in
    let tested : (m.number == k) ≡ true = eq-eqb m.number k equal in
    absurd (let wrong : None ≡ Some a = rw tested at (rw waits at none) in cc)
no_reply_body d m (says.Request r) answer waits none is = absurd cc
no_reply_body d m (says.Prepare v r p c) answer waits none is = absurd cc
no_reply_body d m (says.PrepareOk v p) answer waits none is = absurd cc
no_reply_body d m (says.Commit v c) answer waits none is = absurd cc
no_reply_body d m (says.StartViewChange v) answer waits none is = absurd cc
no_reply_body d m (says.DoViewChange v last c log) answer waits none is = absurd cc
no_reply_body d m (says.StartView v c log) answer waits none is = absurd cc
no_reply_body d m (says.Recovery x w) answer waits none is = absurd cc
no_reply_body d m (says.RecoveryResponse v x state) answer waits none is = absurd cc
no_reply_body d m (says.GetState v p) answer waits none is = absurd cc
no_reply_body d m (says.NewState v p c log) answer waits none is = absurd cc

no_reply : (d : Client) (m : Request Command) (came : Input) → d.state.waits ≡ Some m → None ≡ answer_in d came → IsNoReplyTo m.number came
no_reply d m (input.Message message) waits none = λ answer is. no_reply_body d m message.body answer waits none is
no_reply d m input.Nothing waits none = λ answer is. absurd cc
no_reply d m input.Closed waits none = λ answer is. absurd cc

-- ---- what came and brought an answer is a REPLY with the number that waits

reply_body : (d : Client) (m : Request Command) (body : Body) (answer : Answer) → d.state.waits ≡ Some m → Some answer ≡ option_map (λ a. a.answer) (answer_by d.state (body_with [] body)) → reply_of body ≡ Some (m.number, answer)
reply_body d m (says.Reply view k a) answer waits brings = elim (cases_Bool (m.number == k)) [
  | inl own ↦
      let got : Some answer ≡ Some a = rw own at (rw waits at brings) in
      ap₂ (λ (n : ℕ) (x : Option Answer). option_map (λ y. (n, y)) x) (sym (eqb-true m.number k own)) (sym got)
  | inr other ↦ absurd (let wrong : Some answer ≡ None = rw other at (rw waits at brings) in cc)
]
reply_body d m (says.Request r) answer waits brings = absurd cc
reply_body d m (says.Prepare v r p c) answer waits brings = absurd cc
reply_body d m (says.PrepareOk v p) answer waits brings = absurd cc
reply_body d m (says.Commit v c) answer waits brings = absurd cc
reply_body d m (says.StartViewChange v) answer waits brings = absurd cc
reply_body d m (says.DoViewChange v last c log) answer waits brings = absurd cc
reply_body d m (says.StartView v c log) answer waits brings = absurd cc
reply_body d m (says.Recovery x w) answer waits brings = absurd cc
reply_body d m (says.RecoveryResponse v x state) answer waits brings = absurd cc
reply_body d m (says.GetState v p) answer waits brings = absurd cc
reply_body d m (says.NewState v p c log) answer waits brings = absurd cc

-- ---- the wait

-- a request waits, under the next number of what the client was
record HasAsked (c : Client) (command : Command) (d : Client) : Type 0 where
  request : Request Command
  waits : d.state.waits ≡ Some request
  number : request.number ≡ next_number c.state

answer_any : List Command → Answer
answer_any commands = Done

submitted_waits : (c d : Client) (command : Command) (message : Message) → SubmitsCommand c command message d → HasAsked c command d
submitted_waits c d command message s = record {
  request = next_request c.number c.state command;
  waits = ap (λ (x : Client). x.state.waits) (s.waits answer_any);
  number = refl;
}

still_asked : (c d e : Client) (command : Command) → e ≡ record d { state = record d.state { view = e.state.view } } → HasAsked c command d → HasAsked c command e
still_asked c d e command same h = record { request = h.request; waits = ap (λ (x : Client). x.state.waits) same ∙ h.waits; number = h.number }

pub begins : (c d : Client) (command : Command) (message : Message) (a b : Way) → SubmitsCommand c command message d → Grows a.sent b.sent (message ∷ []) → b.inputs ≡ a.inputs → Waits c command a b d
begins c d command message a b s sent same = record {
  submitted = d;
  request = message;
  again = [];
  heard = [];
  submits = s;
  retries = tt;
  sent = sent;
  received = rw same (grows_none a.inputs);
  unanswered = tt;
  same = refl;
}

-- the same but for the view
same_view : (d e : Client) (view : ℕ) → e ≡ record d { state = record d.state { view = view } } → e ≡ record d { state = record d.state { view = e.state.view } }
same_view d e view is = is ∙ ap (λ (n : ℕ). record d { state = record d.state { view = n } }) (sym (ap (λ (x : Client). x.state.view) is))

-- the same but for the view and what waits
free_view : (d e : Client) (view : ℕ) → e ≡ record d { state = record d.state { view = view; waits = None } } → e ≡ record d { state = record d.state { view = e.state.view; waits = None } }
free_view d e view is = is ∙ ap (λ (n : ℕ). record d { state = record d.state { view = n; waits = None } }) (sym (ap (λ (x : Client). x.state.view) is))

abbrev After : Client → Body → Client → Type 0
After d body e = e ≡ record d { state = heard d.f d.number answer_any d.state (body_with [] body) }

abbrev brought : Client → Body → Option Answer
brought d body = option_map (λ a. a.answer) (answer_by d.state (body_with [] body))

-- by a REPLY with another number, and by one with that number
replied_other : (d e : Client) (m : Request Command) (view k : ℕ) → d.state.waits ≡ Some m → (m.number == k) ≡ false → e ≡ record d { state = replied d.f answer_any d.state view k } → e ≡ record d { state = record d.state { view = e.state.view } }
replied_other d e m view k waits other after =
    let test : is_waiting d.state.waits k ≡ false = rw waits other in
    same_view d e (max d.state.view view) (after ∙ ap (λ (b : Bool). record d { state = record d.state { view = max d.state.view view; waits = (if b then None else d.state.waits) } }) test)

replied_own : (d e : Client) (m : Request Command) (view k : ℕ) → d.state.waits ≡ Some m → (m.number == k) ≡ true → e ≡ record d { state = replied d.f answer_any d.state view k } → e ≡ record d { state = record d.state { view = e.state.view; waits = None } }
replied_own d e m view k waits own after =
    let test : is_waiting d.state.waits k ≡ true = rw waits own in
    free_view d e (max d.state.view view) (after ∙ ap (λ (b : Bool). record d { state = record d.state { view = max d.state.view view; waits = (if b then None else d.state.waits) } }) test)

same_body : (d e : Client) (m : Request Command) (body : Body) → d.state.waits ≡ Some m → None ≡ brought d body → After d body e → e ≡ record d { state = record d.state { view = e.state.view } }
same_body d e m (says.Reply view k a) waits none after = elim (cases_Bool (m.number == k)) [
  | inl own ↦ absurd (let wrong : None ≡ Some a = rw own at (rw waits at none) in cc)
  | inr other ↦ replied_other d e m view k waits other after
]
same_body d e m (says.Request r) waits none after = same_view d e d.state.view after
same_body d e m (says.Prepare v r p c) waits none after = same_view d e d.state.view after
same_body d e m (says.PrepareOk v p) waits none after = same_view d e d.state.view after
same_body d e m (says.Commit v c) waits none after = same_view d e d.state.view after
same_body d e m (says.StartViewChange v) waits none after = same_view d e d.state.view after
same_body d e m (says.DoViewChange v last c log) waits none after = same_view d e d.state.view after
same_body d e m (says.StartView v c log) waits none after = same_view d e d.state.view after
same_body d e m (says.Recovery x w) waits none after = same_view d e d.state.view after
same_body d e m (says.RecoveryResponse v x state) waits none after = same_view d e d.state.view after
same_body d e m (says.GetState v p) waits none after = same_view d e d.state.view after
same_body d e m (says.NewState v p c log) waits none after = same_view d e d.state.view after

free_body : (d e : Client) (m : Request Command) (body : Body) (answer : Answer) → d.state.waits ≡ Some m → Some answer ≡ brought d body → After d body e → e ≡ record d { state = record d.state { view = e.state.view; waits = None } }
free_body d e m (says.Reply view k a) answer waits brings after = elim (cases_Bool (m.number == k)) [
  | inl own ↦ replied_own d e m view k waits own after
  | inr other ↦ absurd (let wrong : Some answer ≡ None = rw other at (rw waits at brings) in cc)
]
free_body d e m (says.Request r) answer waits brings after = absurd cc
free_body d e m (says.Prepare v r p c) answer waits brings after = absurd cc
free_body d e m (says.PrepareOk v p) answer waits brings after = absurd cc
free_body d e m (says.Commit v c) answer waits brings after = absurd cc
free_body d e m (says.StartViewChange v) answer waits brings after = absurd cc
free_body d e m (says.DoViewChange v last c log) answer waits brings after = absurd cc
free_body d e m (says.StartView v c log) answer waits brings after = absurd cc
free_body d e m (says.Recovery x w) answer waits brings after = absurd cc
free_body d e m (says.RecoveryResponse v x state) answer waits brings after = absurd cc
free_body d e m (says.GetState v p) answer waits brings after = absurd cc
free_body d e m (says.NewState v p c log) answer waits brings after = absurd cc

-- what a client becomes by what brings no answer
same_after : (d e : Client) (m : Request Command) (came : Input) → d.state.waits ≡ Some m → None ≡ answer_in d came → IsAfter d came e → e ≡ record d { state = record d.state { view = e.state.view } }
same_after d e m (input.Message message) waits none after = same_body d e m message.body waits none (after answer_any)
same_after d e m input.Nothing waits none after = same_view d e d.state.view after
same_after d e m input.Closed waits none after = same_view d e d.state.view after

hears_none : (c d e : Client) (command : Command) (a b b' : Way) → Waits c command a b d → Hears d b b' None e → Waits c command a b' e
hears_none c d e command a b b' w h =
    let asked : HasAsked c command d = still_asked c w.submitted d command w.same (submitted_waits c w.submitted command w.request w.submits) in
    record {
      submitted = w.submitted;
      request = w.request;
      again = w.again;
      heard = w.heard ++ h.came ∷ [];
      submits = w.submits;
      retries = w.retries;
      sent = rw h.quiet w.sent;
      received = grows_more a.inputs b.inputs b'.inputs w.heard (h.came ∷ []) w.received h.received;
      unanswered = all_more (IsNoReplyTo (next_number c.state)) w.heard (h.came ∷ []) w.unanswered (subst (λ (n : ℕ). IsNoReplyTo n h.came) asked.number (no_reply d asked.request h.came asked.waits h.brings), tt);
      same = same_after d e asked.request h.came asked.waits h.brings h.becomes ∙ ap (λ (x : Client). record x { state = record x.state { view = e.state.view } }) w.same;
    }

pub hears : (c d e : Client) (command : Command) (a b b' : Way) (o : Option Answer) → Waits c command a b d → Hears d b b' o e → o ≡ None → Waits c command a b' e
hears c d e command a b b' o w h is = hears_none c d e command a b b' w (subst (λ (x : Option Answer). Hears d b b' x e) is h)

-- what is sent again doesn't depend on the view
again_of : (d e : Client) (lists : List (List Message)) → e ≡ record d { state = record d.state { view = e.state.view } } → AllByRecursion (SendsAt e Retries) lists → AllByRecursion (SendsAt d Retries) lists
again_of d e [] same all = tt
again_of d e (list ∷ lists) same all = (subst (λ (x : Client). SendsAt x Retries list) same all.0, again_of d e lists same all.1)

pub asks_again : (c d : Client) (command : Command) (a b b' : Way) (again : List (List Message)) → Waits c command a b d → AllByRecursion (SendsAt d Retries) again → Grows b.sent b'.sent (joined again) → b'.inputs ≡ b.inputs → Waits c command a b' d
asks_again c d command a b b' again w all sent same = record {
  submitted = w.submitted;
  request = w.request;
  again = w.again ++ again;
  heard = w.heard;
  submits = w.submits;
  retries = all_more (SendsAt w.submitted Retries) w.again again w.retries (again_of w.submitted d again w.same all);
  sent = subst (λ (l : List Message). Grows a.sent b'.sent (w.request ∷ l)) (sym (joined_more w.again again)) (grows_more a.sent b.sent b'.sent (w.request ∷ joined w.again) (joined again) w.sent sent);
  received = rw same w.received;
  unanswered = w.unanswered;
  same = w.same;
}

-- what came brought the answer
answered_by : (c d e : Client) (command : Command) (a b b' : Way) (answer : Answer) (came : Input) → HasAsked c command d → Waits c command a b d → Grows b.inputs b'.inputs (came ∷ []) → b'.sent ≡ b.sent → Some answer ≡ answer_in d came → IsAfter d came e → IsAnswered c command a b' answer e
answered_by c d e command a b b' answer (input.Message message) asked w received quiet brings becomes = record {
  waiting = d;
  between = b;
  waits = w;
  reply = message;
  received = received;
  quiet = quiet;
  answers = subst (λ (n : ℕ). reply_of message.body ≡ Some (n, answer)) asked.number (reply_body d asked.request message.body answer asked.waits brings);
  free = free_body d e asked.request message.body answer asked.waits brings (becomes answer_any);
}
answered_by c d e command a b b' answer input.Nothing asked w received quiet brings becomes = absurd cc
answered_by c d e command a b b' answer input.Closed asked w received quiet brings becomes = absurd cc

answers_some : (c d e : Client) (command : Command) (a b b' : Way) (answer : Answer) → Waits c command a b d → Hears d b b' (Some answer) e → IsAnswered c command a b' answer e
answers_some c d e command a b b' answer w h =
    let asked : HasAsked c command d = still_asked c w.submitted d command w.same (submitted_waits c w.submitted command w.request w.submits) in
    answered_by c d e command a b b' answer h.came asked w h.received h.quiet h.brings h.becomes

pub answers : (c d e : Client) (command : Command) (a b b' : Way) (o : Option Answer) (answer : Answer) → Waits c command a b d → Hears d b b' o e → o ≡ Some answer → IsAnswered c command a b' answer e
answers c d e command a b b' o answer w h is = answers_some c d e command a b b' answer w (subst (λ (x : Option Answer). Hears d b b' x e) is h)

-- ---- a link that is closed

pub on_err : {A E : Type 0} (P : Type 0) (r : Result A E) → P → OnErr r P
on_err P (Ok x) p = tt
on_err P (Err e) p = p

pub closes : (c d e : Client) (command : Command) (a b b' : Way) → Waits c command a b d → FindsClosed b b' × (e ≡ d) → IsUnanswered c command a b' e
closes c d e command a b b' w h = inr (inl (b, subst (λ (x : Client). Waits c command a b x) (sym h.1) w, h.0))

-- ---- a wait that is given up

-- a client that starts again, or can't
pub lets_go : (b : Bool) (c d : Client) → (b ≡ true → BecomesAt c StartsAgain d) → (b ≡ false → d ≡ c) → GivesUp c d
lets_go true c d again same = inl (again refl)
lets_go false c d again same = inr (same refl)

pub gives_up : (c d e : Client) (command : Command) (a b : Way) → Waits c command a b d → GivesUp d e → IsUnanswered c command a b e
gives_up c d e command a b w h = inr (inr (d, w, h))
