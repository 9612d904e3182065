-- What a thread serves is moves of its replica's own list.
use Rattle.std.proofs.Common.{◌≡◌, ℕ, Bool, List, [], ◌∷◌, ◌++◌, Option, Some, None, refl, sym, ap, ◌∙◌, subst, append_assoc}
use Rattle.std.specs.List.{filter_map}
use Rattle.std.proofs.lemmas.Option.{same_Some}
use Rattle.vr_model.specs.declared.event.Event.{Event}
use Rattle.vr_model.specs.declared.event.Event.TheVariants as event
use Rattle.vr_model.specs.declared.event.Stored.{Stored}
use Rattle.vr_model.specs.declared.message.Message as code
use Rattle.vr_model.specs.Membership.{Group, member}
use Rattle.vr_replica.specs.declared.state.Replica.{Replica}
use Rattle.vr_ports.specs.declared.link.Input.TheVariants as input
use Rattle.vr_replica.specs.Stepped.{StepResult}
use Rattle.vr_ports.specs.Parties.{Grows}
use Rattle.vr_ports.specs.declared.timer.Tick.{Tick}
use Rattle.vr_ports.specs.declared.link.Input.{Input}
use Rattle.vr_serving.specs.Serving.{Turn, TimedOut, Resent, Received, Scene, scene, event_of, sends_in, StepsTo, Ran, Did}
use Rattle.vr_threads.specs.Working.{HasStarted, ComesUp, Worked}
use Rattle.laws_threads.specs.CodeMoves.{Seat, runs, killed, given_with, IsUnused, StartsAsLeft}
use Rattle.laws_threads.specs.OwnMoves.{OwnMove, Started, Stepped, Died, MayTake, events_in, own_handed, seat_after, seat_in, AreOwnMoves, given_after, IsServed, IsServedUntil, IsWorkedOff}

-- no restart is among them
abbrev IsQuiet : Event → Type 0
IsQuiet (event.Restart n) = ⊥
IsQuiet _ = Unit {0}

abbrev AreQuiet : List Event → Type 0
AreQuiet [] = Unit {0}
AreQuiet (e ∷ es) = IsQuiet e × AreQuiet es

quiet_turns : (turns : List Turn) → AreQuiet (filter_map event_of turns)
quiet_turns [] = tt
quiet_turns (TimedOut ∷ turns) = (tt, quiet_turns turns)
quiet_turns (Resent ∷ turns) = (tt, quiet_turns turns)
quiet_turns (Received (input.Message a) ∷ turns) = (tt, quiet_turns turns)
quiet_turns (Received input.Nothing ∷ turns) = quiet_turns turns
quiet_turns (Received input.Closed ∷ turns) = quiet_turns turns

first_event : (last : Turn) (later : List Turn) (e : Event) → event_of last ≡ Some e → filter_map event_of (last ∷ later) ≡ e ∷ filter_map event_of later
first_event TimedOut later e is = ap (λ (x : Event). x ∷ filter_map event_of later) (same_Some event.Timeout e is)
first_event Resent later e is = ap (λ (x : Event). x ∷ filter_map event_of later) (same_Some event.Resend e is)
first_event (Received (input.Message a)) later e is = ap (λ (x : Event). x ∷ filter_map event_of later) (same_Some (event.Message a) e is)
first_event (Received input.Nothing) later e is = absurd (let no : None ≡ Some e = is in cc)
first_event (Received input.Closed) later e is = absurd (let no : None ≡ Some e = is in cc)

events_split : (turns : List Turn) (last : Turn) (later : List Turn) (e : Event) → event_of last ≡ Some e → filter_map event_of (turns ++ last ∷ later) ≡ filter_map event_of turns ++ e ∷ filter_map event_of later
events_split [] last later e is = first_event last later e is
events_split (TimedOut ∷ turns) last later e is = ap (λ (xs : List Event). event.Timeout ∷ xs) (events_split turns last later e is)
events_split (Resent ∷ turns) last later e is = ap (λ (xs : List Event). event.Resend ∷ xs) (events_split turns last later e is)
events_split (Received (input.Message a) ∷ turns) last later e is = ap (λ (xs : List Event). event.Message a ∷ xs) (events_split turns last later e is)
events_split (Received input.Nothing ∷ turns) last later e is = events_split turns last later e is
events_split (Received input.Closed ∷ turns) last later e is = events_split turns last later e is

may_take : (e : Event) → IsQuiet e → MayTake None e
may_take (event.Message a) q = refl
may_take event.Timeout q = refl
may_take event.Resend q = refl
may_take (event.Restart n) q = absurd q

module _ {S : Type 0} (loads : S → Option Stored → S → Type 0) (saves : S → ℕ → Bool → S → Type 0) (faults : S → ℕ) (begins : S → Option Stored → S → Type 0) (holds : S → (ℕ → Bool) → Type 0) (g : Group) (i : ℕ) where
  abbrev at_rest : Replica → S → Seat S
  at_rest q s = runs q s None

  record Moved (q : Replica) (s : S) (es : List Event) (r : Replica) (t : S) (sends : List code.Message) (given : ℕ → Bool) : Type 0 where
    moves : List (OwnMove S)
    right : AreOwnMoves loads saves faults begins holds g i (Some (at_rest q s)) given moves
    end : seat_after (Some (at_rest q s)) moves ≡ Some (at_rest r t)
    events : events_in moves ≡ es
    handed : own_handed moves ≡ sends

  moved : (q : Replica) (s : S) (es : List Event) (r : Replica) (t : S) (sends : List code.Message) (given : ℕ → Bool) → Ran loads saves faults q s es r t sends → AreQuiet es → Moved q s es r t sends given
  moved q s [] r t sends given ran quiet = record {
    moves = [];
    right = tt;
    end = ap (λ (x : Replica). Some (at_rest x s)) (sym ran.0) ∙ ap (λ (y : S). Some (at_rest r y)) (sym ran.1);
    events = refl;
    handed = sym ran.2;
  }
  moved q s (e ∷ es) r t sends given ran quiet =
      let rest : Moved ran.0 ran.1 es r t ran.3 given = moved ran.0 ran.1 es r t ran.3 given ran.5 quiet.1 in
      record {
        moves = Stepped e ran.0 ran.1 ran.2 ∷ rest.moves;
        right = (q, s, None, refl, ran.4, may_take e quiet.0, rest.right);
        end = rest.end;
        events = ap (λ (xs : List Event). e ∷ xs) rest.events;
        handed = ap (λ (xs : List code.Message). sends_in ran.2 ++ xs) rest.handed ∙ sym ran.6;
      }

  pub served : (turns : List Turn) (a b : Scene S) (did : Did loads saves faults turns a b) (given : ℕ → Bool) → IsServed loads saves faults begins holds g i given turns a b did.sends
  served turns a b did given =
      let m : Moved a.replica a.store (filter_map event_of turns) b.replica b.store did.sends given = moved a.replica a.store (filter_map event_of turns) b.replica b.store did.sends given did.ran (quiet_turns turns) in
      record { moves = m.moves; right = m.right; end = m.end; events = m.events; handed = m.handed }

  pub joined : (early late : List (OwnMove S)) (seat : Option (Seat S)) (given : ℕ → Bool) → AreOwnMoves loads saves faults begins holds g i seat given early
      → AreOwnMoves loads saves faults begins holds g i (seat_after seat early) (given_after given early) late → AreOwnMoves loads saves faults begins holds g i seat given (early ++ late)
  joined [] late seat given a b = b
  joined (Started q found left number starts ∷ early) late seat given a b =
      (a.0, a.1, a.2, joined early late (Some (runs q left number)) (given_with given number) a.3 b)
  joined (Stepped e r left result ∷ early) late seat given a b =
      (a.0, a.1, a.2, a.3, a.4, a.5, joined early late (Some (runs r left None)) given a.6 b)
  joined (Died e left ∷ early) late seat given a b =
      (a.0, a.1, a.2, a.3, a.4, a.5, joined early late (Some (killed left)) given a.6 b)

  -- ---- a serving within which the process was killed

  record Until (q : Replica) (s : S) (early : List Event) (e : Event) (sends : List code.Message) (given : ℕ → Bool) : Type 0 where
    moves : List (OwnMove S)
    replica : Replica
    store : S
    would_leave : S
    right : AreOwnMoves loads saves faults begins holds g i (Some (at_rest q s)) given moves
    end : seat_after (Some (at_rest q s)) moves ≡ Some (at_rest replica store)
    events : events_in moves ≡ early
    rest : List code.Message
    handed : own_handed moves ++ rest ≡ sends
    died : (left : S) → ((k : ℕ → Bool) → holds store k → holds would_leave k → holds left k) → AreOwnMoves loads saves faults begins holds g i (Some (at_rest q s)) given (moves ++ Died e left ∷ [])

  until : (q : Replica) (s : S) (early : List Event) (e : Event) (late : List Event) (r : Replica) (t : S) (sends : List code.Message) (given : ℕ → Bool) → Ran loads saves faults q s (early ++ e ∷ late) r t sends → AreQuiet (early ++ e ∷ late) → Until q s early e sends given
  until q s [] e late r t sends given ran quiet = record {
    moves = [];
    replica = q;
    store = s;
    would_leave = ran.1;
    right = tt;
    end = refl;
    events = refl;
    rest = sends;
    handed = refl;
    died = λ left no_other. (q, s, None, refl, record { becomes = ran.0; saved = ran.1; result = ran.2; step = ran.4; holds_no_other = no_other }, may_take e quiet.0, tt);
  }
  until q s (x ∷ early) e late r t sends given ran quiet =
      let u : Until ran.0 ran.1 early e ran.3 given = until ran.0 ran.1 early e late r t ran.3 given ran.5 quiet.1 in
      record {
        moves = Stepped x ran.0 ran.1 ran.2 ∷ u.moves;
        replica = u.replica;
        store = u.store;
        would_leave = u.would_leave;
        right = (q, s, None, refl, ran.4, may_take x quiet.0, u.right);
        end = u.end;
        events = ap (λ (xs : List Event). x ∷ xs) u.events;
        rest = u.rest;
        handed = append_assoc (sends_in ran.2) (own_handed u.moves) u.rest ∙ ap (λ (xs : List code.Message). sends_in ran.2 ++ xs) u.handed ∙ sym ran.6;
        died = λ left no_other. (q, s, None, refl, ran.4, may_take x quiet.0, u.died left no_other);
      }

  pub served_until : (turns : List Turn) (last : Turn) (later : List Turn) (e : Event) (a b : Scene S) (did : Did loads saves faults (turns ++ last ∷ later) a b) → event_of last ≡ Some e → (given : ℕ → Bool) → IsServedUntil loads saves faults begins holds g i given turns e a did.sends
  served_until turns last later e a b did is given =
      let es : List Event = filter_map event_of turns ++ e ∷ filter_map event_of later in
      let same : filter_map event_of (turns ++ last ∷ later) ≡ es = events_split turns last later e is in
      let u : Until a.replica a.store (filter_map event_of turns) e did.sends given = until a.replica a.store (filter_map event_of turns) e (filter_map event_of later) b.replica b.store did.sends given
      (subst (λ (xs : List Event). Ran loads saves faults a.replica a.store xs b.replica b.store did.sends) same did.ran) (subst AreQuiet same (quiet_turns (turns ++ last ∷ later))) in
      record {
        moves = u.moves;
        replica = u.replica;
        store = u.store;
        would_leave = u.would_leave;
        right = u.right;
        end = u.end;
        events = u.events;
        handed = record { rest = u.rest; is = u.handed };
        died = u.died;
      }

  -- ---- one start of a thread

  -- what it handed out, one list behind the other
  grows_on : (a b c : Option (List code.Message)) (xs ys : List code.Message) → Grows a b xs → Grows b c ys → Grows a c (xs ++ ys)
  grows_on None b c xs ys p q = subst (λ (o : Option (List code.Message)). Grows o c ys) p q
  grows_on (Some told) b c xs ys p q =
      let next : c ≡ Some ((told ++ xs) ++ ys) = subst (λ (o : Option (List code.Message)). Grows o c ys) p q in
      next ∙ ap (λ (ms : List code.Message). Some ms) (append_assoc told xs ys)

  module _ (seat : Option (Seat S)) (given : ℕ → Bool) (found begun : S) (comes : Replica) (nonce starts : Option ℕ) (start : HasStarted begins (member g i) found begun comes nonce starts)
      (as_left : StartsAsLeft loads saves faults begins holds g i seat begun comes nonce starts) (unused : IsUnused given nonce) (turns : List Turn) where
    -- it has nothing to come up with
    works_at_once : (sent : Option (List code.Message)) (up b : Scene S) → up.replica ≡ comes → up.store ≡ begun → up.sent ≡ sent → nonce ≡ None → Did loads saves faults turns up b → IsWorkedOff loads saves faults begins holds g i seat given sent b.sent b.replica b.store
    works_at_once sent up b same_replica same_store same_sent none did =
        let s : IsServed loads saves faults begins holds g i (given_with given nonce) turns up b did.sends = served turns up b did (given_with given nonce) in
        let here : seat_in up ≡ runs comes begun nonce = ap (λ (q : Replica). runs q up.store None) same_replica ∙ ap (λ (u : S). runs comes u None) same_store ∙ ap (λ (o : Option ℕ). runs comes begun o) (sym none) in
        record {
          moves = Started comes found begun nonce starts ∷ s.moves;
          right = (start, as_left, unused, subst (λ (x : Seat S). AreOwnMoves loads saves faults begins holds g i (Some x) (given_with given nonce) s.moves) here s.right);
          ends = ap (λ (x : Seat S). seat_after (Some x) s.moves) (sym here) ∙ s.end;
          handed = subst (λ (o : Option (List code.Message)). Grows o b.sent (own_handed s.moves)) same_sent (subst (λ (ms : List code.Message). Grows up.sent b.sent ms) (sym s.handed) did.handed);
        }

    -- it comes up before all else
    works_behind : (n : ℕ) (sent : Option (List code.Message)) (up b : Scene S) (result : StepResult) → nonce ≡ Some n → StepsTo loads saves faults comes begun (event.Restart n) up.replica up.store result → Grows sent up.sent (sends_in result) → Did loads saves faults turns up b
        → IsWorkedOff loads saves faults begins holds g i seat given sent b.sent b.replica b.store
    works_behind n sent up b result is steps grows did =
        let s : IsServed loads saves faults begins holds g i (given_with given nonce) turns up b did.sends = served turns up b did (given_with given nonce) in
        record {
          moves = Started comes found begun nonce starts ∷ Stepped (event.Restart n) up.replica up.store result ∷ s.moves;
          right = (start, as_left, unused, (comes, begun, nonce, refl, steps, is, s.right));
          ends = s.end;
          handed = grows_on sent up.sent b.sent (sends_in result) (own_handed s.moves) grows (subst (λ (ms : List code.Message). Grows up.sent b.sent ms) (sym s.handed) did.handed);
        }

  pub worked_off : (n : ℕ) (ticks ticks_after : Option (List Tick)) (inputs inputs_after : Option (List Input)) (sent sent_after : Option (List code.Message)) (found left : S)
      (w : Worked loads saves faults begins (member g i) n (scene ticks inputs sent) found (scene ticks_after inputs_after sent_after) left) (seat : Option (Seat S)) (given : ℕ → Bool)
      → StartsAsLeft loads saves faults begins holds g i seat w.begun w.comes w.nonce w.starts → IsUnused given w.nonce → IsWorkedOff loads saves faults begins holds g i seat given sent sent_after w.end left
  worked_off n ticks ticks_after inputs inputs_after sent sent_after found left w seat given as_left unused = of w.nonce w.start as_left unused w.comes_up
    where
      of : (nonce : Option ℕ) → HasStarted begins (member g i) found w.begun w.comes nonce w.starts → StartsAsLeft loads saves faults begins holds g i seat w.begun w.comes nonce w.starts → IsUnused given nonce
          → ComesUp loads saves faults nonce (scene ticks inputs sent w.comes w.begun) w.up → IsWorkedOff loads saves faults begins holds g i seat given sent sent_after w.end left
      of None start as_left unused same =
          works_at_once seat given found w.begun w.comes None w.starts start as_left unused w.served.turns sent w.up (scene ticks_after inputs_after sent_after w.end left)
          (ap (λ (x : Scene S). x.replica) same) (ap (λ (x : Scene S). x.store) same) (ap (λ (x : Scene S). x.sent) same) refl w.served.did
      of (Some k) start as_left unused up =
          works_behind seat given found w.begun w.comes (Some k) w.starts start as_left unused w.served.turns k sent w.up (scene ticks_after inputs_after sent_after w.end left) up.0 refl up.1 up.2 w.served.did
