-- What clients did in moves that are right is one history.
use Rattle.std.proofs.Common.{◌≡◌, ℕ, zero, suc, ◌+◌, ◌<◌, ◌≤◌, List, [], ◌∷◌, ◌++◌, length, take, Some, arith, refl, sym, ap, ◌∙◌, subst, append_assoc, add-one, inl, inr}
use Rattle.std.specs.Prelude.{slice_get}
use Rattle.std.proofs.lemmas.Bool.{cases_lt}
use Rattle.std.proofs.lemmas.List.{append-nil}
use Rattle.std.proofs.lemmas.Option.{slice_get_within, same_Some}
use Rattle.vr_model.specs.Choices.{commands}
use Rattle.vr_model.specs.Logs.{Request, IsPrefix, IsRising, IsAmong}
use Rattle.vr_model.specs.Messages.{Message, Party, Reply, number_of}
use Rattle.vr_model.specs.Replicas.{put}
use Rattle.vr_model.specs.World.{ClientState, run, start, next_request}
use Rattle.vr_model.specs.Steps.{Step, LocalState, ClientAction, Submits, Retries, StartsAgain, Hears, ClientStep, after, sends_of, client_after, client_sends, first_local_state, first_client}
use Rattle.vr_model.specs.Interleaving.{Move, OfReplica, OfClient, steps_of, client_steps_of, sent_by, all_sent, requests, submitted_in, submitted_by, all_submitted, TakesSent, AllTakeSent, events, AreMoves, AreLists, EachByItself, InOneOrder, IsRun, RunAsOne}
use Rattle.laws_clients.specs.ClientHistory.{clients_of, Has, WasSubmitted, IsAnswered, IsHistoryOf}
use Rattle.laws_clients.proofs.Places.{get_left, prefix_length, prefix_get, prefix_back, prefix_take, entry_of, of_entry, rises}

module _ {C A : Type 0} where
  -- the moves before client step number e, and those from it on
  abbrev front : ℕ → List (Move C A) → List (Move C A)
  front e [] = []
  front e (OfReplica i s p ∷ ms) = OfReplica i s p ∷ front e ms
  front zero (OfClient c d p ∷ ms) = []
  front (suc e) (OfClient c d p ∷ ms) = OfClient c d p ∷ front e ms

  abbrev back : ℕ → List (Move C A) → List (Move C A)
  back e [] = []
  back e (OfReplica i s p ∷ ms) = back e ms
  back zero (OfClient c d p ∷ ms) = OfClient c d p ∷ ms
  back (suc e) (OfClient c d p ∷ ms) = back e ms

  whole : (e : ℕ) (ms : List (Move C A)) → front e ms ++ back e ms ≡ ms
  whole e [] = refl
  whole e (OfReplica i s p ∷ ms) = ap (λ (xs : List (Move C A)). OfReplica i s p ∷ xs) (whole e ms)
  whole zero (OfClient c d p ∷ ms) = refl
  whole (suc e) (OfClient c d p ∷ ms) = ap (λ (xs : List (Move C A)). OfClient c d p ∷ xs) (whole e ms)

  between : (d e : ℕ) (ms : List (Move C A)) → d ≤ e → (mid : List (Move C A)) × (front d ms ++ mid ≡ front e ms)
  between d e [] l = ([], refl)
  between d e (OfReplica i s p ∷ ms) l = let r = between d e ms l in (r.0, ap (λ (xs : List (Move C A)). OfReplica i s p ∷ xs) r.1)
  between zero e (OfClient c x p ∷ ms) l = (front e (OfClient c x p ∷ ms), refl)
  between (suc d) zero (OfClient c x p ∷ ms) l = absurd (omega (arith, l))
  between (suc d) (suc e) (OfClient c x p ∷ ms) l = let r = between d e ms (omega (arith, l)) in (r.0, ap (λ (xs : List (Move C A)). OfClient c x p ∷ xs) r.1)

  client_at : (e : ℕ) (ms : List (Move C A)) (x : ℕ × ClientStep C A) → slice_get (clients_of ms) e ≡ Some x → (place : ℕ) × (rest : List (Move C A)) × (back e ms ≡ OfClient x.0 x.1 place ∷ rest)
  client_at e [] x is = absurd cc
  client_at e (OfReplica i s p ∷ ms) x is = client_at e ms x is
  client_at zero (OfClient c d p ∷ ms) x is = (p, ms, ap (λ (y : ℕ × ClientStep C A). OfClient y.0 y.1 p ∷ ms) (same_Some (c, d) x is))
  client_at (suc e) (OfClient c d p ∷ ms) x is = client_at e ms x is

  taken_at : (xs : List (Move C A)) (m : Move C A) (rest : List (Move C A)) (sent : List (Message C A)) → AllTakeSent sent (xs ++ m ∷ rest) → TakesSent (sent ++ all_sent xs) m
  taken_at [] m rest sent t = subst (λ ys. TakesSent ys m) (sym (append-nil sent)) t.0
  taken_at (x ∷ xs) m rest sent t = subst (λ ys. TakesSent ys m) (append_assoc sent (sent_by x) (all_sent xs)) (taken_at xs m rest (sent ++ sent_by x) t.1)

  submitted_append : (xs ys : List (Move C A)) → all_submitted (xs ++ ys) ≡ all_submitted xs ++ all_submitted ys
  submitted_append [] ys = refl
  submitted_append (x ∷ xs) ys = ap (λ (ms : List (Request C)). submitted_by x ++ ms) (submitted_append xs ys) ∙ sym (append_assoc (submitted_by x) (all_submitted xs) (all_submitted ys))

  -- which step submitted a request
  record SubmittedBy (ms : List (Move C A)) (k : ℕ) (m : Request C) : Type 0 where
    at : ℕ
    client_step : ClientStep C A
    is : slice_get (clients_of ms) at ≡ Some (m.client, client_step)
    submits : submitted_in client_step.action client_step.sends ≡ m ∷ []
    before : k ≡ length (all_submitted (front at ms))

  module _ (f : ℕ) (answer : List C → A) where
    abbrev Right : List (Move C A) → Type 0
    Right ms = AreMoves f answer (λ i. first_local_state) (λ c. first_client) [] ms

    front_right : (locals : ℕ → LocalState C) (clients : ℕ → ClientState C) (sent : List (Message C A)) (ms ns : List (Move C A)) → AreMoves f answer locals clients sent (ms ++ ns) → AreMoves f answer locals clients sent ms
    front_right locals clients sent [] ns right = tt
    front_right locals clients sent (OfClient c d place ∷ ms) ns right =
        (right.0, right.1, right.2, front_right locals (put clients c (client_after f c answer (clients c) d.action)) (sent ++ d.sends) ms ns right.3)
    front_right locals clients sent (OfReplica i s place ∷ ms) ns right =
        (right.0, right.1, right.2, right.3, front_right (put locals i (after f i answer (locals i) s)) clients (sent ++ sends_of s) ms ns right.4)

    -- one step of a client before others
    first_submits : (c place : ℕ) (state : ClientState C) (a : ClientAction C A) (sends : List (Message C A)) (ms : List (Move C A)) (k : ℕ) (m : Request C) → sends ≡ client_sends f c answer state a
        → ((j : ℕ) → slice_get (all_submitted ms) j ≡ Some m → SubmittedBy ms j m) → slice_get (all_submitted (OfClient c (record { action = a; sends = sends }) place ∷ ms)) k ≡ Some m
        → SubmittedBy (OfClient c (record { action = a; sends = sends }) place ∷ ms) k m
    first_submits c place state (Submits command) sends ms k m says later is = of k (subst (λ (xs : List (Request C)). slice_get (xs ++ all_submitted ms) k ≡ Some m) one is)
      where
        r : Request C
        r = next_request c state command

        one : requests sends ≡ r ∷ []
        one = ap requests says

        of : (k : ℕ) → slice_get (r ∷ all_submitted ms) k ≡ Some m → SubmittedBy (OfClient c (record { action = Submits command; sends = sends }) place ∷ ms) k m
        of zero e =
            let same : r ≡ m = same_Some r m e in
            record {
              at = 0;
              client_step = record { action = Submits command; sends = sends };
              is = ap (λ (y : Request C). Some (y.client, record { action = Submits command; sends = sends })) same;
              submits = one ∙ ap (λ y. y ∷ []) same;
              before = refl;
            }
        of (suc k) e =
            let s = later k e in
            record {
              at = suc s.at;
              client_step = s.client_step;
              is = s.is;
              submits = s.submits;
              before = ap (λ n. suc n) s.before ∙ ap (λ (xs : List (Request C)). length (xs ++ all_submitted (front s.at ms))) (sym one);
            }
    first_submits c place state Retries sends ms k m says later is = let s = later k is in record { at = suc s.at; client_step = s.client_step; is = s.is; submits = s.submits; before = s.before }
    first_submits c place state StartsAgain sends ms k m says later is = let s = later k is in record { at = suc s.at; client_step = s.client_step; is = s.is; submits = s.submits; before = s.before }
    first_submits c place state (Hears message) sends ms k m says later is = let s = later k is in record { at = suc s.at; client_step = s.client_step; is = s.is; submits = s.submits; before = s.before }

    who_submits : (locals : ℕ → LocalState C) (clients : ℕ → ClientState C) (sent : List (Message C A)) (ms : List (Move C A)) → AreMoves f answer locals clients sent ms → (k : ℕ) (m : Request C) → slice_get (all_submitted ms) k ≡ Some m → SubmittedBy ms k m
    who_submits locals clients sent [] right k m is = absurd cc
    who_submits locals clients sent (OfReplica i s place ∷ ms) right k m is =
        let x = who_submits (put locals i (after f i answer (locals i) s)) clients (sent ++ sends_of s) ms right.4 k m is in
        record { at = x.at; client_step = x.client_step; is = x.is; submits = x.submits; before = x.before }
    who_submits locals clients sent (OfClient c d place ∷ ms) right k m is =
        first_submits c place (clients c) d.action d.sends ms k m right.1 (λ j e. who_submits locals (put clients c (client_after f c answer (clients c) d.action)) (sent ++ d.sends) ms right.3 j m e) is

    -- ---- by the laws of runs

    module _ (lists : (moves : List (Move C A)) → Right moves → AreLists f answer moves)
        (inter : (steps : ℕ → List (Step C A)) (client_steps : ℕ → List (ClientStep C A)) (moves : List (Move C A)) → EachByItself f answer steps client_steps → InOneOrder steps client_steps moves → IsRun f answer steps client_steps moves)
        (agree : (steps : ℕ → List (Step C A)) (client_steps : ℕ → List (ClientStep C A)) (early late : List (Move C A)) → EachByItself f answer steps client_steps → InOneOrder steps client_steps (early ++ late) → RunAsOne f answer early late) where
      abbrev order : List (Move C A) → List (Request C)
      order ms = (run f answer (events ms) (start {C = C} {A = A})).order

      run_of : (early late : List (Move C A)) → Right (early ++ late) → RunAsOne f answer early late
      run_of early late right =
          let l : AreLists f answer (early ++ late) = lists (early ++ late) right in
          agree (λ i. steps_of i (early ++ late)) (λ c. client_steps_of c (early ++ late)) early late l.each l.order

      grown : (early late : List (Move C A)) → Right (early ++ late) → IsPrefix (order early) (order (early ++ late))
      grown early late right =
          let r : RunAsOne f answer early late = run_of early late right in
          subst (λ es. IsPrefix (order early) (run f answer es (start {C = C} {A = A})).order) (sym r.joined) r.history.grows

      module _ (ms : List (Move C A)) (right : Right ms) where
        parts : (e : ℕ) → Right (front e ms ++ back e ms)
        parts e = subst Right (sym (whole e ms)) right

        before : (e : ℕ) → RunAsOne f answer (front e ms) (back e ms)
        before e = run_of (front e ms) (back e ms) (parts e)

        prefix : (e : ℕ) → IsPrefix (order (front e ms)) (order ms)
        prefix e = subst (λ xs. IsPrefix (order (front e ms)) (order xs)) (whole e ms) (grown (front e ms) (back e ms) (parts e))

        in_the_end : RunAsOne f answer ms []
        in_the_end = run_of ms [] (subst Right (sym (append-nil ms)) right)

        grows : (d e : ℕ) → d ≤ e → length (order (front d ms)) ≤ length (order (front e ms))
        grows d e l =
            let b = between d e ms l in
            let here : Right (front e ms) = front_right (λ i. first_local_state) (λ c. first_client) [] (front e ms) (back e ms) (parts e) in
            prefix_length (order (front d ms)) (order (front e ms)) (subst (λ xs. IsPrefix (order (front d ms)) (order xs)) b.1 (grown (front d ms) b.0 (subst Right (sym b.1) here)))

        all_submitted_rise : IsRising (all_submitted ms)
        all_submitted_rise =
            let l : AreLists f answer ms = lists ms right in
            let r : IsRun f answer (λ i. steps_of i ms) (λ c. client_steps_of c ms) ms = inter (λ i. steps_of i ms) (λ c. client_steps_of c ms) ms l.each l.order in
            subst (λ (xs : List (Request C)). IsRising xs) r.end.submitted in_the_end.history.submitted_rising

        submitted : (place : ℕ) (m : Request C) → Has (order ms) place m → WasSubmitted (clients_of ms) (λ e. length (order (front e ms))) place m
        submitted place m has =
            let among : IsAmong (all_submitted ms) m = in_the_end.submitted.each place m (entry_of (order ms) place m has) in
            let s : SubmittedBy ms among.place m = who_submits (λ i. first_local_state) (λ c. first_client) [] ms right among.place m among.is in
            record {
              at = s.at;
              client_step = s.client_step;
              is = s.is;
              submits = s.submits;
              before = elim (cases_lt place (length (order (front s.at ms)))) [
                | inl early ↦ absurd (twice s.at among.place s.before among.is early)
                | inr late ↦ late
              ];
            }
          where
            -- it would have been submitted twice
            twice : (e k : ℕ) → k ≡ length (all_submitted (front e ms)) → slice_get (all_submitted ms) k ≡ Some m → place < length (order (front e ms)) → ⊥
            twice e k k_is is early =
                let there : slice_get (order (front e ms)) place ≡ Some m = prefix_back (order (front e ms)) (order ms) (prefix e) place m early has in
                let sooner : IsAmong (all_submitted (front e ms)) m = (before e).submitted.each place m (entry_of (order (front e ms)) place m there) in
                let low : sooner.place < length (all_submitted (front e ms)) = slice_get_within (all_submitted (front e ms)) sooner.place m sooner.is in
                let all : slice_get (all_submitted ms) sooner.place ≡ Some m =
                subst (λ (xs : List (Request C)). slice_get xs sooner.place ≡ Some m) (sym (submitted_append (front e ms) (back e ms)) ∙ ap (λ (xs : List (Move C A)). all_submitted xs) (whole e ms)) (get_left (all_submitted (front e ms)) (all_submitted (back e ms)) sooner.place m sooner.is) in
                let wrong : m.number < m.number = rises (all_submitted ms) all_submitted_rise sooner.place k m m (omega (arith, low, k_is)) all is refl in
                omega (arith, wrong)

        answered : (at client view number : ℕ) (a : A) (from to : Party) (sends : List (Message C A)) → slice_get (clients_of ms) at ≡ Some (client, record { action = Hears (record { from = from; to = to; body = Reply view number a }); sends = sends })
            → IsAnswered answer (order ms) (λ e. length (order (front e ms))) at client number a
        answered at client view number a from to sends is =
            let m : Message C A = record { from = from; to = to; body = Reply view number a } in
            let step : ClientStep C A = record { action = Hears m; sends = sends } in
            let x = client_at at ms (client, step) is in
            let split : ms ≡ front at ms ++ OfClient client step x.0 ∷ x.1 = sym (whole at ms) ∙ ap (λ (ys : List (Move C A)). front at ms ++ ys) x.2 in
            let took : TakesSent (all_sent (front at ms)) (OfClient client step x.0) = taken_at (front at ms) (OfClient client step x.0) x.1 [] (subst (AllTakeSent []) split (lists ms right).order.taken) in
            let r = (before at).replies x.0 m took.0 in
            let p : ℕ = r.place in
            let low : p < length (order (front at ms)) = r.entry.within in
            record {
              place = p;
              request = r.request;
              entry = prefix_get (order (front at ms)) (order ms) (prefix at) p r.request (of_entry (order (front at ms)) p r.request r.entry);
              client_is = r.client_is ∙ ap number_of took.1;
              number_is = r.number_is;
              answer_is = r.answer_is ∙ ap (λ n. answer (commands (take n (order (front at ms))))) (add-one p) ∙ ap (λ (xs : List (Request C)). answer (commands xs)) (prefix_take (order (front at ms)) (order ms) (prefix at) (suc p) (omega (arith, low)));
              below = low;
            }

        pub history : IsHistoryOf answer (clients_of ms)
        history = record {
          order = order ms;
          had = λ e. length (order (front e ms));
          grows = grows;
          within = λ e. prefix_length (order (front e ms)) (order ms) (prefix e);
          submitted = submitted;
          rising = rises (order ms) in_the_end.history.rising;
          answered = answered;
        }
