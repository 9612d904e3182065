-- What a start of a thread did, as steps that go on behind it.
use Rattle.std.proofs.Common.{◌≡◌, ℕ, Bool, List, [], ◌∷◌, ◌++◌, Option, Some, None, refl, sym, ap, ◌∙◌, subst, append_assoc}
use Rattle.std.specs.List.{filter_map}
use Rattle.std.proofs.lemmas.Option.{same_Some}
use Rattle.vr_model.specs.declared.event.Event.{Event}
use Rattle.vr_model.specs.declared.event.Event.TheVariants as event
use Rattle.vr_model.specs.declared.event.Stored.{Stored}
use Rattle.vr_model.specs.declared.message.Message as code
use Rattle.vr_model.specs.Membership.{Membership}
use Rattle.vr_replica.specs.declared.state.Replica.{Replica}
use Rattle.vr_replica.specs.Stepped.{StepResult}
use Rattle.vr_ports.specs.declared.link.Input.{Input}
use Rattle.vr_ports.specs.declared.link.Input.TheVariants as input
use Rattle.vr_ports.specs.declared.timer.Tick.{Tick}
use Rattle.vr_ports.specs.Parties.{Grows}
use Rattle.vr_serving.specs.Serving.{Turn, TimedOut, Resent, Received, Scene, scene, event_of, sends_in, StepsTo, Ran, Did}
use Rattle.vr_threads.specs.Working.{ComesUp, Worked}
use Rattle.laws_threads.specs.CodeMoves.{Seat, runs, killed, KilledWithin}
use Rattle.laws_threads.specs.OwnMoves.{OwnMove, Started, Stepped, Died, MayTake, own_handed, seat_after}
use Rattle.laws_processes.specs.Going.{GoesOn, GoesInto, GoesToTheEnd, GoesUntil, GoesUntilUp}

-- no restart is among them
abbrev IsQuiet : Event → Type 0
IsQuiet (event.Restart n) = ⊥
IsQuiet _ = Unit {0}

abbrev AreQuiet : List Event → Type 0
AreQuiet [] = Unit {0}
AreQuiet (e ∷ es) = IsQuiet e × AreQuiet es

quiet_turns : (turns : List Turn) → AreQuiet (filter_map event_of turns)
quiet_turns [] = tt
quiet_turns (TimedOut ∷ turns) = (tt, quiet_turns turns)
quiet_turns (Resent ∷ turns) = (tt, quiet_turns turns)
quiet_turns (Received (input.Message a) ∷ turns) = (tt, quiet_turns turns)
quiet_turns (Received input.Nothing ∷ turns) = quiet_turns turns
quiet_turns (Received input.Closed ∷ turns) = quiet_turns turns

first_event : (last : Turn) (later : List Turn) (e : Event) → event_of last ≡ Some e → filter_map event_of (last ∷ later) ≡ e ∷ filter_map event_of later
first_event TimedOut later e is = ap (λ (x : Event). x ∷ filter_map event_of later) (same_Some event.Timeout e is)
first_event Resent later e is = ap (λ (x : Event). x ∷ filter_map event_of later) (same_Some event.Resend e is)
first_event (Received (input.Message a)) later e is = ap (λ (x : Event). x ∷ filter_map event_of later) (same_Some (event.Message a) e is)
first_event (Received input.Nothing) later e is = absurd (let no : None ≡ Some e = is in cc)
first_event (Received input.Closed) later e is = absurd (let no : None ≡ Some e = is in cc)

events_split : (turns : List Turn) (last : Turn) (later : List Turn) (e : Event) → event_of last ≡ Some e → filter_map event_of (turns ++ last ∷ later) ≡ filter_map event_of turns ++ e ∷ filter_map event_of later
events_split [] last later e is = first_event last later e is
events_split (TimedOut ∷ turns) last later e is = ap (λ (xs : List Event). event.Timeout ∷ xs) (events_split turns last later e is)
events_split (Resent ∷ turns) last later e is = ap (λ (xs : List Event). event.Resend ∷ xs) (events_split turns last later e is)
events_split (Received (input.Message a) ∷ turns) last later e is = ap (λ (xs : List Event). event.Message a ∷ xs) (events_split turns last later e is)
events_split (Received input.Nothing ∷ turns) last later e is = events_split turns last later e is
events_split (Received input.Closed ∷ turns) last later e is = events_split turns last later e is

quiet_turn : (turn : Turn) (e : Event) → event_of turn ≡ Some e → IsQuiet e
quiet_turn TimedOut e is = subst IsQuiet (same_Some event.Timeout e is) tt
quiet_turn Resent e is = subst IsQuiet (same_Some event.Resend e is) tt
quiet_turn (Received (input.Message a)) e is = subst IsQuiet (same_Some (event.Message a) e is) tt
quiet_turn (Received input.Nothing) e is = absurd (let no : None ≡ Some e = is in cc)
quiet_turn (Received input.Closed) e is = absurd (let no : None ≡ Some e = is in cc)

may_take : (e : Event) → IsQuiet e → MayTake None e
may_take (event.Message a) q = refl
may_take event.Timeout q = refl
may_take event.Resend q = refl
may_take (event.Restart n) q = absurd q

-- what was handed out, one list behind the other
grows_on : (a b c : Option (List code.Message)) (xs ys : List code.Message) → Grows a b xs → Grows b c ys → Grows a c (xs ++ ys)
grows_on None b c xs ys p q = subst (λ (o : Option (List code.Message)). Grows o c ys) p q
grows_on (Some told) b c xs ys p q =
    let next : c ≡ Some ((told ++ xs) ++ ys) = subst (λ (o : Option (List code.Message)). Grows o c ys) p q in
    next ∙ ap (λ (ms : List code.Message). Some ms) (append_assoc told xs ys)

module _ {S : Type 0} (loads : S → Option Stored → S → Type 0) (saves : S → ℕ → Bool → S → Type 0) (faults : S → ℕ) (holds : S → (ℕ → Bool) → Type 0) where
  -- ---- steps one after another

  record Gone (q : Replica) (s : S) (r : Replica) (t : S) (sends : List code.Message) : Type 0 where
    moves : List (OwnMove S)
    right : GoesOn loads saves faults holds (runs q s None) moves
    ends : seat_after (Some (runs q s None)) moves ≡ Some (runs r t None)
    handed : own_handed moves ≡ sends

  gone : (q : Replica) (s : S) (es : List Event) (r : Replica) (t : S) (sends : List code.Message) → Ran loads saves faults q s es r t sends → AreQuiet es → Gone q s r t sends
  gone q s [] r t sends ran quiet = record {
    moves = [];
    right = tt;
    ends = ap (λ (x : Replica). Some (runs x s None)) (sym ran.0) ∙ ap (λ (y : S). Some (runs r y None)) (sym ran.1);
    handed = sym ran.2;
  }
  gone q s (e ∷ es) r t sends ran quiet =
      let rest : Gone ran.0 ran.1 r t ran.3 = gone ran.0 ran.1 es r t ran.3 ran.5 quiet.1 in
      record {
        moves = Stepped e ran.0 ran.1 ran.2 ∷ rest.moves;
        right = (q, s, None, refl, ran.4, may_take e quiet.0, rest.right);
        ends = rest.ends;
        handed = ap (λ (xs : List code.Message). sends_in ran.2 ++ xs) rest.handed ∙ sym ran.6;
      }

  until : (q : Replica) (s : S) (early : List Event) (e : Event) (late : List Event) (r : Replica) (t : S) (sends : List code.Message) → Ran loads saves faults q s (early ++ e ∷ late) r t sends → AreQuiet (early ++ e ∷ late)
      → GoesUntil loads saves faults holds (runs q s None) e sends
  until q s [] e late r t sends ran quiet = record {
    moves = [];
    replica = q;
    store = s;
    would_leave = ran.1;
    right = tt;
    ends = refl;
    handed = record { rest = sends; is = refl };
    died = λ left no_more. (q, s, None, refl, record { becomes = ran.0; saved = ran.1; result = ran.2; step = ran.4; holds_no_other = no_more }, may_take e quiet.0, tt);
  }
  until q s (x ∷ early) e late r t sends ran quiet =
      let u : GoesUntil loads saves faults holds (runs ran.0 ran.1 None) e ran.3 = until ran.0 ran.1 early e late r t ran.3 ran.5 quiet.1 in
      record {
        moves = Stepped x ran.0 ran.1 ran.2 ∷ u.moves;
        replica = u.replica;
        store = u.store;
        would_leave = u.would_leave;
        right = (q, s, None, refl, ran.4, may_take x quiet.0, u.right);
        ends = u.ends;
        handed = record { rest = u.handed.rest; is = append_assoc (sends_in ran.2) (own_handed u.moves) u.handed.rest ∙ ap (λ (xs : List code.Message). sends_in ran.2 ++ xs) u.handed.is ∙ sym ran.6 };
        died = λ left no_more. (q, s, None, refl, ran.4, may_take x quiet.0, u.died left no_more);
      }

  -- ---- one move more

  -- where the replica runs behind these moves, it dies within a step
  dies : (moves : List (OwnMove S)) (seat : Seat S) (q : Replica) (s : S) (e : Event) (left : S) → GoesOn loads saves faults holds seat moves → seat_after (Some seat) moves ≡ Some (runs q s None)
      → KilledWithin loads saves faults holds q s e left → MayTake None e → GoesOn loads saves faults holds seat (moves ++ Died e left ∷ [])
  dies [] seat q s e left right ends died take = (q, s, None, same_Some seat (runs q s None) ends, died, take, tt)
  dies (Started p found l number starts ∷ ms) seat q s e left right ends died take = absurd right
  dies (Stepped x r l result ∷ ms) seat q s e left right ends died take =
      (right.0, right.1, right.2, right.3, right.4, right.5, dies ms (runs r l None) q s e left right.6 ends died take)
  dies (Died x l ∷ ms) seat q s e left right ends died take =
      (right.0, right.1, right.2, right.3, right.4, right.5, dies ms (killed l) q s e left right.6 ends died take)

  -- or does the step
  steps_on : (moves : List (OwnMove S)) (seat : Seat S) (q : Replica) (s : S) (e : Event) (r : Replica) (t : S) (result : StepResult) → GoesOn loads saves faults holds seat moves → seat_after (Some seat) moves ≡ Some (runs q s None)
      → StepsTo loads saves faults q s e r t result → MayTake None e → GoesOn loads saves faults holds seat (moves ++ Stepped e r t result ∷ [])
  steps_on [] seat q s e r t result right ends steps take = (q, s, None, same_Some seat (runs q s None) ends, steps, take, tt)
  steps_on (Started p found l number starts ∷ ms) seat q s e r t result right ends steps take = absurd right
  steps_on (Stepped x p l given ∷ ms) seat q s e r t result right ends steps take =
      (right.0, right.1, right.2, right.3, right.4, right.5, steps_on ms (runs p l None) q s e r t result right.6 ends steps take)
  steps_on (Died x l ∷ ms) seat q s e r t result right ends steps take =
      (right.0, right.1, right.2, right.3, right.4, right.5, steps_on ms (killed l) q s e r t result right.6 ends steps take)

  -- ---- behind a start

  -- it comes up, and then goes on
  came_up : (q : Replica) (s : S) (n : ℕ) (r : Replica) (t : S) (result : StepResult) → StepsTo loads saves faults q s (event.Restart n) r t result → (moves : List (OwnMove S)) → GoesOn loads saves faults holds (runs r t None) moves
      → GoesOn loads saves faults holds (runs q s (Some n)) (Stepped (event.Restart n) r t result ∷ moves)
  came_up q s n r t result steps moves right = (q, s, Some n, refl, steps, refl, right)

  module _ (nonce : Option ℕ) (ticks : Option (List Tick)) (inputs : Option (List Input)) (sent : Option (List code.Message)) (q : Replica) (s : S) (up b : Scene S) where
    pub goes_to_the_end : (turns : List Turn) → ComesUp loads saves faults nonce (scene ticks inputs sent q s) up → Did loads saves faults turns up b → GoesToTheEnd loads saves faults holds (runs q s nonce) sent b.sent b.replica b.store
    goes_to_the_end turns comes did = of nonce comes
      where
        g : Gone up.replica up.store b.replica b.store did.sends
        g = gone up.replica up.store (filter_map event_of turns) b.replica b.store did.sends did.ran (quiet_turns turns)

        of : (nonce : Option ℕ) → ComesUp loads saves faults nonce (scene ticks inputs sent q s) up → GoesToTheEnd loads saves faults holds (runs q s nonce) sent b.sent b.replica b.store
        of None same =
            let here : runs up.replica up.store None ≡ runs q s None = ap (λ (x : Scene S). runs x.replica x.store None) same in
            record {
              moves = g.moves;
              right = subst (λ (x : Seat S). GoesOn loads saves faults holds x g.moves) here g.right;
              ends = ap (λ (x : Seat S). seat_after (Some x) g.moves) (sym here) ∙ g.ends;
              handed = subst (λ (o : Option (List code.Message)). Grows o b.sent (own_handed g.moves)) (ap (λ (x : Scene S). x.sent) same) (subst (λ (ms : List code.Message). Grows up.sent b.sent ms) (sym g.handed) did.handed);
            }
        of (Some n) c = record {
          moves = Stepped (event.Restart n) up.replica up.store c.0 ∷ g.moves;
          right = came_up q s n up.replica up.store c.0 c.1 g.moves g.right;
          ends = g.ends;
          handed = grows_on sent up.sent b.sent (sends_in c.0) (own_handed g.moves) c.2 (subst (λ (ms : List code.Message). Grows up.sent b.sent ms) (sym g.handed) did.handed);
        }

    pub goes_into : (turns : List Turn) (last : Turn) (e : Event) (becomes : Replica) (would_leave : S) (result : StepResult) → ComesUp loads saves faults nonce (scene ticks inputs sent q s) up → Did loads saves faults turns up b → event_of last ≡ Some e
        → StepsTo loads saves faults b.replica b.store e becomes would_leave result → GoesInto loads saves faults holds (runs q s nonce) sent b.sent b.store e becomes would_leave result
    goes_into turns last e becomes would_leave result comes did is steps =
        let g : GoesToTheEnd loads saves faults holds (runs q s nonce) sent b.sent b.replica b.store = goes_to_the_end turns comes did in
        let take : MayTake None e = may_take e (quiet_turn last e is) in
        record {
          moves = g.moves;
          handed = g.handed;
          died = λ left no_more. dies g.moves (runs q s nonce) b.replica b.store e left g.right g.ends (record { becomes = becomes; saved = would_leave; result = result; step = steps; holds_no_other = no_more }) take;
          stepped = steps_on g.moves (runs q s nonce) b.replica b.store e becomes would_leave result g.right g.ends steps take;
        }

    goes_until : (early later : List Turn) (last : Turn) (e : Event) → event_of last ≡ Some e → ComesUp loads saves faults nonce (scene ticks inputs sent q s) up → Did loads saves faults (early ++ last ∷ later) up b
        → (all : List code.Message) × Grows sent b.sent all × GoesUntil loads saves faults holds (runs q s nonce) e all
    goes_until early later last e is comes did = of nonce comes
      where
        u : GoesUntil loads saves faults holds (runs up.replica up.store None) e did.sends
        u = let same : filter_map event_of (early ++ last ∷ later) ≡ filter_map event_of early ++ e ∷ filter_map event_of later = events_split early last later e is in
            until up.replica up.store (filter_map event_of early) e (filter_map event_of later) b.replica b.store did.sends
            (subst (λ (xs : List Event). Ran loads saves faults up.replica up.store xs b.replica b.store did.sends) same did.ran) (subst AreQuiet same (quiet_turns (early ++ last ∷ later)))

        of : (nonce : Option ℕ) → ComesUp loads saves faults nonce (scene ticks inputs sent q s) up → (all : List code.Message) × Grows sent b.sent all × GoesUntil loads saves faults holds (runs q s nonce) e all
        of None same =
            let here : runs up.replica up.store None ≡ runs q s None = ap (λ (x : Scene S). runs x.replica x.store None) same in (
              did.sends,
              subst (λ (o : Option (List code.Message)). Grows o b.sent did.sends) (ap (λ (x : Scene S). x.sent) same) did.handed,
              subst (λ (x : Seat S). GoesUntil loads saves faults holds x e did.sends) here u,
            )
        of (Some n) c = (
          sends_in c.0 ++ did.sends,
          grows_on sent up.sent b.sent (sends_in c.0) did.sends c.2 did.handed,
          record {
            moves = Stepped (event.Restart n) up.replica up.store c.0 ∷ u.moves;
            replica = u.replica;
            store = u.store;
            would_leave = u.would_leave;
            right = came_up q s n up.replica up.store c.0 c.1 u.moves u.right;
            ends = u.ends;
            handed = record { rest = u.handed.rest; is = append_assoc (sends_in c.0) (own_handed u.moves) u.handed.rest ∙ ap (λ (xs : List code.Message). sends_in c.0 ++ xs) u.handed.is };
            died = λ left no_more. came_up q s n up.replica up.store c.0 c.1 (u.moves ++ Died e left ∷ []) (u.died left no_more);
          },
        )

    goes_until_up : (n : ℕ) → nonce ≡ Some n → ComesUp loads saves faults nonce (scene ticks inputs sent q s) up → GoesUntilUp loads saves faults holds (runs q s (Some n)) n s up.store
    goes_until_up n is comes = of (subst (λ (o : Option ℕ). ComesUp loads saves faults o (scene ticks inputs sent q s) up) is comes)
      where
        of : ComesUp loads saves faults (Some n) (scene ticks inputs sent q s) up → GoesUntilUp loads saves faults holds (runs q s (Some n)) n s up.store
        of c left no_more = (q, s, Some n, refl, record { becomes = up.replica; saved = up.store; result = c.0; step = c.1; holds_no_other = no_more }, refl, tt)

  module _ (begins : S → Option Stored → S → Type 0) (m : Membership) (turns : ℕ) (ticks ticks_after : Option (List Tick)) (inputs inputs_after : Option (List Input)) (sent sent_after : Option (List code.Message)) (found left : S)
      (w : Worked loads saves faults begins m turns (scene ticks inputs sent) found (scene ticks_after inputs_after sent_after) left) where
    pub worked : GoesToTheEnd loads saves faults holds (runs w.comes w.begun w.nonce) sent sent_after w.end left
    worked = goes_to_the_end w.nonce ticks inputs sent w.comes w.begun w.up (scene ticks_after inputs_after sent_after w.end left) w.served.turns w.comes_up w.served.did

    pub killed_coming_up : (n : ℕ) → w.nonce ≡ Some n → GoesUntilUp loads saves faults holds (runs w.comes w.begun (Some n)) n w.begun w.up.store
    killed_coming_up n is = goes_until_up w.nonce ticks inputs sent w.comes w.begun w.up (scene ticks_after inputs_after sent_after w.end left) n is w.comes_up

    pub killed_serving : (early later : List Turn) (last : Turn) (e : Event) → w.served.turns ≡ early ++ last ∷ later → event_of last ≡ Some e → (all : List code.Message) × Grows sent sent_after all × GoesUntil loads saves faults holds (runs w.comes w.begun w.nonce) e all
    killed_serving early later last e are is =
        goes_until w.nonce ticks inputs sent w.comes w.begun w.up (scene ticks_after inputs_after sent_after w.end left) early later last e is w.comes_up
        (subst (λ (ts : List Turn). Did loads saves faults ts w.up (scene ticks_after inputs_after sent_after w.end left)) are w.served.did)
