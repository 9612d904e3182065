-- Clients over their starts are clients by the rules, where each request goes to every replica.
use Rattle.std.proofs.Common.{◌≡◌, ℕ, zero, suc, ◌+◌, ◌*◌, ◌-◌, ◌<◌, ◌^◌, cond, eqb, List, [], ◌∷◌, ◌++◌, Option, Some, None, refl, sym, ap, ◌∙◌, subst, append_assoc, ◌⊎◌, inl, inr, arith, mod-lt}
use Rattle.std.specs.Prelude.{slice_get, is_some}
use Rattle.std.proofs.lemmas.Bool.{cases_eq, eq-eqb, ne_eqb}
use Rattle.std.proofs.lemmas.List.{append-nil}
use Rattle.std.proofs.lemmas.Option.{same_Some}
use Rattle.il_model.specs.declared.command.Command.{Command}
use Rattle.il_model.specs.declared.command.Answer.{Answer}
use Rattle.vr_model.specs.declared.event.Event.{Event}
use Rattle.vr_model.specs.declared.event.Event.TheVariants as event
use Rattle.vr_model.specs.declared.message.Message as code
use Rattle.vr_model.specs.declared.message.Party as code_party
use Rattle.vr_model.specs.declared.message.Party.TheVariants as party
use Rattle.vr_model.specs.Groups.{group_size, primary, client_count}
use Rattle.vr_model.specs.Interleaving.{requests}
use Rattle.vr_model.specs.Logs.{Request}
use Rattle.vr_model.specs.Membership.{Group}
use Rattle.vr_model.specs.Messages.{Message, Body, Reply, Party, Replica, Client, number_of}
use Rattle.vr_model.specs.Messages as model
use Rattle.vr_model.specs.Replicas.{put}
use Rattle.vr_model.specs.World.{ClientState, is_waiting, next_request, has_submitted, retried, request_message, restarts_client}
use Rattle.vr_model.specs.Steps.{ClientAction, Submits, Retries, StartsAgain, Hears, ClientStep, MayClient, client_after, client_sends, heard, AreClientSteps, first_client}
use Rattle.vr_model.specs.StandsFor.{party_of, Stands, AllStand}
use Rattle.vr_core.specs.StandsFor.{IsSavedAs}
use Rattle.vr_serving.specs.Serving.{sends_in}
use Rattle.laws_threads.specs.CodeMoves.{CodeMove, Starts, Steps, Dies, Serves, HearsHanded, handed_by, all_handed, clients_in}
use Rattle.laws_threads.specs.OwnMoves.{OwnMove, Started, Stepped, Died, own_moves, own_steps, EventHanded, AllTakeHanded}
use Rattle.laws_threads.specs.ClientStarts.{AreStepsOverStarts, ClientDeed, asked_by, asked, WithClientsByRule}
use Rattle.laws_threads.proofs.Tables.{put_same, put_other}

-- ---- what stands in a list

abbrev In : List code.Message → code.Message → Type 0
In xs a = (n : ℕ) × (slice_get xs n ≡ Some a)

abbrev Covers : List code.Message → List code.Message → Type 0
Covers xs ys = (a : code.Message) → In xs a → In ys a

left_at : (xs ys : List code.Message) (a : code.Message) (n : ℕ) → slice_get xs n ≡ Some a → In (xs ++ ys) a
left_at [] ys a n e = absurd cc
left_at (x ∷ xs) ys a zero e = (zero, e)
left_at (x ∷ xs) ys a (suc n) e = let r = left_at xs ys a n e in (suc r.0, r.1)

in_left : (xs ys : List code.Message) (a : code.Message) → In xs a → In (xs ++ ys) a
in_left xs ys a h = left_at xs ys a h.0 h.1

in_right : (xs ys : List code.Message) (a : code.Message) → In ys a → In (xs ++ ys) a
in_right [] ys a h = h
in_right (x ∷ xs) ys a h = let r = in_right xs ys a h in (suc r.0, r.1)

in_either : (xs ys : List code.Message) (a : code.Message) (n : ℕ) → slice_get (xs ++ ys) n ≡ Some a → In xs a ⊎ In ys a
in_either [] ys a n e = inr (n, e)
in_either (x ∷ xs) ys a zero e = inl (zero, e)
in_either (x ∷ xs) ys a (suc n) e = elim (in_either xs ys a n e) [
  | inl r ↦ inl (suc r.0, r.1)
  | inr r ↦ inr r
]

covers_append : (xs us ys vs : List code.Message) → Covers xs us → Covers ys vs → Covers (xs ++ ys) (us ++ vs)
covers_append xs us ys vs left right a h = elim (in_either xs ys a h.0 h.1) [
  | inl x ↦ in_left us vs a (left a x)
  | inr x ↦ in_right us vs a (right a x)
]

covers_nothing : (ys : List code.Message) → Covers [] ys
covers_nothing ys a h = absurd (let e : slice_get [] (h.0) ≡ Some a = h.1 in cc)

covers_more : (xs : List code.Message) → Covers xs (xs ++ [])
covers_more xs a h = in_left xs [] a h

-- ---- one request for all replicas

abbrev to_all : code.Message → ℕ → List code.Message
to_all a zero = []
to_all a (suc n) = to_all a n ++ record a { to = party.Replica n } ∷ []

in_all : (a : code.Message) (n p : ℕ) → p < n → In (to_all a n) (record a { to = party.Replica p })
in_all a zero p low = absurd (omega (arith, low))
in_all a (suc n) p low = elim (cases_eq p n) [
  | inl e ↦ in_right (to_all a n) (record a { to = party.Replica n } ∷ []) (record a { to = party.Replica p }) (0, ap (λ k. Some (record a { to = party.Replica k })) (sym e))
  | inr ne ↦ in_left (to_all a n) (record a { to = party.Replica n } ∷ []) (record a { to = party.Replica p }) (in_all a n p (omega (arith, low, ne)))
]

to_replica : (t : code_party.Party) (p : ℕ) → party_of t ≡ Replica p → t ≡ party.Replica p
to_replica (party.Replica s) p e = ap (λ (x : Party). party.Replica (number_of x)) e
to_replica (party.Client c) p e = absurd cc

module _ (g : Group) where
  stands_append : (xs ys : List code.Message) (ms ns : List (Message Command Answer)) → AllStand IsSavedAs g xs ms → AllStand IsSavedAs g ys ns → AllStand IsSavedAs g (xs ++ ys) (ms ++ ns)
  stands_append [] ys [] ns a b = b
  stands_append [] ys (m ∷ ms) ns a b = absurd a
  stands_append (x ∷ xs) ys [] ns a b = absurd a
  stands_append (x ∷ xs) ys (m ∷ ms) ns a b = (a.0, stands_append xs ys ms ns a.1 b)

  -- the one message that stands for one
  alone : (out : List code.Message) (x : Message Command Answer) → AllStand IsSavedAs g out (x ∷ []) → (a : code.Message) × (out ≡ a ∷ []) × Stands IsSavedAs g a x
  alone [] x h = absurd h
  alone (a ∷ []) x h = (a, refl, h.0)
  alone (a ∷ b ∷ more) x h = absurd (h.1)

  module _ (c p : ℕ) (m : Request Command) (a : code.Message) (stands : Stands IsSavedAs g a (request_message g.f g.answer c p m)) where
    stands_to : (i : ℕ) (same : Request Command) → same ≡ m → Stands IsSavedAs g (record a { to = party.Replica i }) (request_message g.f g.answer c i same)
    stands_to i same e = record {
      log = stands.log;
      carries = stands.carries;
      is = ap (λ (q : Request Command). request_message g.f g.answer c i q) e ∙ ap (λ (y : Message Command Answer). record y { to = Replica i }) stands.is;
    }

    all_stand_to : (n : ℕ) (same : Request Command) → same ≡ m → AllStand IsSavedAs g (to_all a n) (retried g.f g.answer c n (Some same))
    all_stand_to zero same e = tt
    all_stand_to (suc n) same e = stands_append (to_all a n) (record a { to = party.Replica n } ∷ []) (retried g.f g.answer c n (Some same)) (request_message g.f g.answer c n same ∷ []) (all_stand_to n same e) (stands_to n same e, tt)

    is_to : record a { to = party.Replica p } ≡ a
    is_to = ap (λ (t : code_party.Party). record a { to = t }) (sym (to_replica a.to p (sym (ap (λ (y : Message Command Answer). y.to) stands.is))))

    among_all : p < group_size g.f → In (to_all a (group_size g.f)) a
    among_all low = subst (λ y. In (to_all a (group_size g.f)) y) is_to (in_all a (group_size g.f) p low)

low : (f view : ℕ) → primary f view < group_size f
low f view = mod-lt view (omega arith)

-- the rules' client has counted and given as much, and waits for the same
record Same (k w : ClientState Command) : Type 0 where
  starts : w.starts ≡ k.starts
  sequence : w.sequence ≡ k.sequence
  waits : w.waits ≡ k.waits

abbrev Over : Group → ℕ → ClientState Command → List (ClientStep Command Answer) → Type 0
Over g c k ds = AreStepsOverStarts g.f c g.answer k ds

abbrev Right : Group → ℕ → ClientState Command → List (ClientStep Command Answer) → Type 0
Right g c w ds = AreClientSteps g.f c g.answer w ds

same_request : (c : ℕ) (command : Command) (k w : ClientState Command) → Same k w → next_request c w command ≡ next_request c k command
same_request c command k w s =
    let of : ℕ → ℕ → Request Command = (λ starts sequence. record { client = c; number = starts * 2 ^ 32 + (sequence + 1); command = command }) in
    ap (λ n. of n w.sequence) s.starts ∙ ap (λ n. of k.starts n) s.sequence

same_heard : (g : Group) (k w : ClientState Command) (c : ℕ) (b : Body Command Answer) → Same k w → Same (heard g.f c g.answer k b) (heard g.f c g.answer w b)
same_heard g k w c (Reply v number a) s = record {
  starts = s.starts;
  sequence = s.sequence;
  waits = ap (λ (o : Option (Request Command)). cond (is_waiting o number) None o) s.waits;
}
same_heard g k w c (model.RequestMessage m) s = s
same_heard g k w c (model.Prepare v m p n) s = s
same_heard g k w c (model.PrepareOk v p) s = s
same_heard g k w c (model.Commit v n) s = s
same_heard g k w c (model.StartViewChange v) s = s
same_heard g k w c (model.DoViewChangeMessage v content) s = s
same_heard g k w c (model.StartView v n log) s = s
same_heard g k w c (model.Recovery x v) s = s
same_heard g k w c (model.RecoveryResponseMessage x response) s = s
same_heard g k w c (model.GetState v p) s = s
same_heard g k w c (model.NewState v p n log) s = s

placed : (g : Group) (sent wide : List code.Message) (i : ℕ) (e : Event) (place : ℕ) → Covers sent wide → EventHanded g sent i e place → (n : ℕ) × EventHanded g wide i e n
placed g sent wide i (event.Message a) place covers h = let p = covers a (place, h.0) in (p.0, (p.1, h.1))
placed g sent wide i event.Timeout place covers h = (place, tt)
placed g sent wide i event.Resend place covers h = (place, tt)
placed g sent wide i (event.Restart n) place covers h = (place, tt)

module _ {S : Type 0} (g : Group) where
  -- ---- one move of the list, and what stands in its place

  record Fronted (w : ℕ → ClientState Command) (sent wide : List code.Message) (m : CodeMove S) (ms : List (CodeMove S)) : Type 0 where
    front : List (CodeMove S)
    next : ℕ → ClientState Command
    after : ℕ → ClientState Command
    same : (c : ℕ) → Same (next c) (after c)
    over : (c : ℕ) → Over g c (next c) (own_steps c ms)
    taken : AllTakeHanded g (sent ++ handed_by m) ms
    handed : Covers (handed_by m) (all_handed front)
    clients : (rest : List (CodeMove S)) → ((c : ℕ) → Right g c (after c) (own_steps c rest)) → (c : ℕ) → Right g c (w c) (own_steps c (front ++ rest))
    takes : (rest : List (CodeMove S)) → AllTakeHanded g (wide ++ all_handed front) rest → AllTakeHanded g wide (front ++ rest)
    own : (i : ℕ) (rest others : List (CodeMove S)) → own_moves i rest ≡ own_moves i others → own_moves i (front ++ rest) ≡ own_moves i (m ∷ others)
    asks : (rest others : List (CodeMove S)) → asked (clients_in rest) ≡ asked (clients_in others) → asked (clients_in (front ++ rest)) ≡ asked (clients_in (m ∷ others))

  still : (sent : List code.Message) (ms : List (CodeMove S)) → AllTakeHanded g sent ms → AllTakeHanded g (sent ++ []) ms
  still sent ms t = subst (λ xs. AllTakeHanded g xs ms) (sym (append-nil sent)) t

  back : (sent out : List code.Message) (ms : List (CodeMove S)) → AllTakeHanded g (sent ++ (out ++ [])) ms → AllTakeHanded g (sent ++ out) ms
  back sent out ms t = subst (λ xs. AllTakeHanded g (sent ++ xs) ms) (append-nil out) t

  module _ (k w : ℕ → ClientState Command) (sent wide : List code.Message) (same : (c : ℕ) → Same (k c) (w c)) (covers : Covers sent wide) (ms : List (CodeMove S)) where
    -- ---- a client's step
    module _ (c : ℕ) (sends : List (Message Command Answer)) (out : List code.Message) (place : ℕ) where
      abbrev step_of : ClientAction Command Answer → ClientStep Command Answer
      step_of a = record { action = a; sends = sends }

      -- what is its own is first in its list, and in no other
      here : (a : ClientAction Command Answer) → ((e : ℕ) → Over g e (k e) (own_steps e (Serves c (step_of a) out place ∷ ms))) → Over g c (k c) (step_of a ∷ own_steps c ms)
      here a over = subst (λ b. Over g c (k c) (cond b (step_of a ∷ own_steps c ms) (own_steps c ms))) (eq-eqb c c refl) (over c)

      on : (a : ClientAction Command Answer) (n : ClientState Command) → ((e : ℕ) → Over g e (k e) (own_steps e (Serves c (step_of a) out place ∷ ms))) → Over g c n (own_steps c ms) → (e : ℕ) → Over g e (put k c n e) (own_steps e ms)
      on a n over mine e = elim (cases_eq e c) [
        | inl is ↦ subst (λ q. Over g e q (own_steps e ms)) (sym (put_same k c n e is)) (subst (λ q. Over g q n (own_steps q ms)) (sym is) mine)
        | inr ne ↦ subst (λ q. Over g e q (own_steps e ms)) (sym (put_other k c n e ne)) (subst (λ b. Over g e (k e) (cond b (step_of a ∷ own_steps e ms) (own_steps e ms))) (ne_eqb e c ne) (over e))
      ]

    -- a step by the rules before others
    lift : (u : ℕ → ClientState Command) (c : ℕ) (d : ClientStep Command Answer) (v : ClientState Command) (out : List code.Message) (place : ℕ) (rest : List (CodeMove S)) → MayClient g.f c g.answer (u c) d.action → d.sends ≡ client_sends g.f c g.answer (u c) d.action → v ≡ client_after g.f c g.answer (u c) d.action
        → ((e : ℕ) → Right g e (put u c v e) (own_steps e rest)) → (e : ℕ) → Right g e (u e) (own_steps e (Serves c d out place ∷ rest))
    lift u c d v out place rest may says is right e = elim (cases_eq e c) [
      | inl same_client ↦ subst (λ q. Right g q (u q) (own_steps q (Serves c d out place ∷ rest))) (sym same_client)
          (subst (λ b. Right g c (u c) (cond b (d ∷ own_steps c rest) (own_steps c rest))) (sym (eq-eqb c c refl))
          (may, says, subst (λ q. Right g c q (own_steps c rest)) (put_same u c v c refl ∙ is) (right c)))
      | inr ne ↦ subst (λ b. Right g e (u e) (cond b (d ∷ own_steps e rest) (own_steps e rest))) (sym (ne_eqb e c ne)) (subst (λ q. Right g e q (own_steps e rest)) (put_other u c v e ne) (right e))
    ]

    same_on : (c : ℕ) (n v : ClientState Command) → Same n v → (e : ℕ) → Same (put k c n e) (put w c v e)
    same_on c n v s e = elim (cases_eq e c) [
      | inl is ↦ subst (λ q. Same q (put w c v e)) (sym (put_same k c n e is)) (subst (λ q. Same n q) (sym (put_same w c v e is)) s)
      | inr ne ↦ subst (λ q. Same q (put w c v e)) (sym (put_other k c n e ne)) (subst (λ q. Same (k e) q) (sym (put_other w c v e ne)) (same e))
    ]

    -- a step that is one by the rules too
    one_step : (c : ℕ) (a : ClientAction Command Answer) (sends : List (Message Command Answer)) (out : List code.Message) (place there : ℕ) (n : ClientState Command) → ((e : ℕ) → Over g e (k e) (own_steps e (Serves c (record { action = a; sends = sends }) out place ∷ ms)))
        → Over g c n (own_steps c ms) → MayClient g.f c g.answer (w c) a → sends ≡ client_sends g.f c g.answer (w c) a → Same n (client_after g.f c g.answer (w c) a)
        → AllStand IsSavedAs g out sends → HearsHanded wide c a there → AllTakeHanded g (sent ++ out) ms → Fronted w sent wide (Serves c (record { action = a; sends = sends }) out place) ms
    one_step c a sends out place there n over mine may says goes stand heard_there taken =
        let d : ClientStep Command Answer = record { action = a; sends = sends } in
        let v : ClientState Command = client_after g.f c g.answer (w c) a in
        record {
          front = Serves c d out there ∷ [];
          next = put k c n;
          after = put w c v;
          same = same_on c n v goes;
          over = on c sends out place a n over mine;
          taken = taken;
          handed = covers_more out;
          clients = λ rest right. lift w c d v out there rest may says refl right;
          takes = λ rest t. (stand, heard_there, back wide out rest t);
          own = λ i rest others e. e;
          asks = λ rest others e. ap (λ (xs : List ClientDeed). asked_by c a sends ++ xs) e;
        }

    -- a request, for all
    submits : (c : ℕ) (command : Command) (sends : List (Message Command Answer)) (out : List code.Message) (place : ℕ) → ((e : ℕ) → Over g e (k e) (own_steps e (Serves c (record { action = Submits command; sends = sends }) out place ∷ ms)))
        → AllStand IsSavedAs g out sends → AllTakeHanded g (sent ++ out) ms → Fronted w sent wide (Serves c (record { action = Submits command; sends = sends }) out place) ms
    submits c command sends out place over stand taken =
        let h = here c sends out place (Submits command) over in
        let n : ClientState Command = h.0 in
        let p : ℕ = primary g.f (k c).view in
        let one = alone g out (request_message g.f g.answer c p (next_request c (k c) command)) (subst (λ (xs : List (Message Command Answer)). AllStand IsSavedAs g out xs) h.1.1 stand) in
        let a : code.Message = one.0 in
        let m : Request Command = next_request c (w c) command in
        let m_is : m ≡ next_request c (k c) command = same_request c command (k c) (w c) (same c) in
        let v : ClientState Command = has_submitted (w c) m in
        let to : ℕ = primary g.f (w c).view in
        let d : ClientStep Command Answer = record { action = Submits command; sends = request_message g.f g.answer c to m ∷ [] } in
        let again : ClientStep Command Answer = record { action = Retries; sends = retried g.f g.answer c (group_size g.f) (Some m) } in
        let first : List code.Message = record a { to = party.Replica to } ∷ [] in
        let all : List code.Message = to_all a (group_size g.f) in
        record {
          front = Serves c d first place ∷ Serves c again all place ∷ [];
          next = put k c n;
          after = put (put w c v) c v;
          same = λ e. elim (cases_eq e c) [
            | inl is ↦ subst (λ q. Same q (put (put w c v) c v e)) (sym (put_same k c n e is)) (subst (λ q. Same n q) (sym (put_same (put w c v) c v e is))
                (subst (λ (q : ClientState Command). Same q v) (sym h.1.2) (record { starts = (same c).starts; sequence = ap (λ x. x + 1) (same c).sequence; waits = ap Some m_is })))
            | inr ne ↦ subst (λ q. Same q (put (put w c v) c v e)) (sym (put_other k c n e ne)) (subst (λ q. Same (k e) q) (sym (put_other (put w c v) c v e ne ∙ put_other w c v e ne)) (same e))
          ];
          over = on c sends out place (Submits command) n over h.2;
          taken = taken;
          handed = λ b x. in_right first (all ++ []) b (in_left all [] b (subst (λ y. In all y) (one_of a b (x.0) (subst (λ xs. slice_get xs (x.0) ≡ Some b) one.1 x.1)) (among_all g c p (next_request c (k c) command) a one.2 (low g.f (k c).view))));
          clients = λ rest right. lift w c d v first place (Serves c again all place ∷ rest) (h.1.0.0, (same c).waits ∙ h.1.0.1, subst (λ x. x + 1 < 2 ^ 32) (sym (same c).sequence) h.1.0.2) refl refl
              (lift (put w c v) c again v all place rest
              (subst (λ (q : ClientState Command). MayClient g.f c g.answer q Retries) (sym (put_same w c v c refl)) (h.1.0.0, refl))
              (ap (λ (q : ClientState Command). retried g.f g.answer c (group_size g.f) q.waits) (sym (put_same w c v c refl)))
              (sym (put_same w c v c refl)) right);
          takes = λ rest t. (
            (stands_to g c p (next_request c (k c) command) a one.2 to m m_is, tt),
            tt,
            (
              all_stand_to g c p (next_request c (k c) command) a one.2 (group_size g.f) m m_is,
              tt,
              subst (λ xs. AllTakeHanded g xs rest) (ap (λ xs. wide ++ (first ++ xs)) (append-nil all) ∙ sym (append_assoc wide first all)) t,
            ),
          );
          own = λ i rest others e. e;
          asks = λ rest others e.
              ap (λ (xs : List ClientDeed). (c, Submits command, m ∷ []) ∷ xs) e
              ∙ ap (λ (rs : List (Request Command)). (c, Submits command, rs) ∷ asked (clients_in others)) (ap (λ y. y ∷ []) m_is ∙ sym (ap requests h.1.1));
        }
      where
        one_of : (a b : code.Message) (n : ℕ) → slice_get (a ∷ []) n ≡ Some b → a ≡ b
        one_of a b zero e = same_Some a b e
        one_of a b (suc n) e = absurd cc

    -- a start, as so many by the rules
    module _ (c place : ℕ) (within : c < client_count) where
      abbrev once : ClientStep Command Answer
      once = record { action = StartsAgain; sends = [] }

      abbrev starts : ℕ → List (CodeMove S)
      starts zero = []
      starts (suc j) = Serves c once [] place ∷ starts j

      abbrev started : ℕ → (ℕ → ClientState Command) → ℕ → ClientState Command
      started zero u = u
      started (suc j) u = started j (put u c (restarts_client g.f g.answer (u c)))

      starts_clients : (j : ℕ) (u : ℕ → ClientState Command) (rest : List (CodeMove S)) → (u c).starts + j < 2 ^ 32 → ((e : ℕ) → Right g e (started j u e) (own_steps e rest)) → (e : ℕ) → Right g e (u e) (own_steps e (starts j ++ rest))
      starts_clients zero u rest few right e = right e
      starts_clients (suc j) u rest few right e =
          let v : ClientState Command = restarts_client g.f g.answer (u c) in
          lift u c once v [] place (starts j ++ rest) (within, omega (arith, few)) refl refl
          (starts_clients j (put u c v) rest (subst (λ (q : ClientState Command). q.starts + j < 2 ^ 32) (sym (put_same u c v c refl)) (omega (arith, few))) right) e

      starts_taken : (j : ℕ) (rest : List (CodeMove S)) → AllTakeHanded g wide rest → AllTakeHanded g wide (starts j ++ rest)
      starts_taken zero rest t = t
      starts_taken (suc j) rest t = (tt, tt, still wide (starts j ++ rest) (starts_taken j rest t))

      starts_handed : (j : ℕ) → all_handed (starts j) ≡ []
      starts_handed zero = refl
      starts_handed (suc j) = starts_handed j

      starts_own : (j i : ℕ) (rest : List (CodeMove S)) → own_moves i (starts j ++ rest) ≡ own_moves i rest
      starts_own zero i rest = refl
      starts_own (suc j) i rest = starts_own j i rest

      starts_asks : (j : ℕ) (rest : List (CodeMove S)) → asked (clients_in (starts j ++ rest)) ≡ asked (clients_in rest)
      starts_asks zero rest = refl
      starts_asks (suc j) rest = starts_asks j rest

      started_other : (j : ℕ) (u : ℕ → ClientState Command) (e : ℕ) → (e ≡ c → ⊥) → started j u e ≡ u e
      started_other zero u e ne = refl
      started_other (suc j) u e ne = started_other j (put u c (restarts_client g.f g.answer (u c))) e ne ∙ put_other u c (restarts_client g.f g.answer (u c)) e ne

      started_same : (j : ℕ) (u : ℕ → ClientState Command) (n : ClientState Command) → n.starts ≡ (u c).starts + suc j → n.sequence ≡ 0 → n.waits ≡ None → Same n (started (suc j) u c)
      started_same zero u n count none free =
          let v : ClientState Command = restarts_client g.f g.answer (u c) in
          subst (λ q. Same n q) (sym (put_same u c v c refl)) (record { starts = omega (arith, count); sequence = sym none; waits = sym free })
      started_same (suc j) u n count none free =
          let v : ClientState Command = restarts_client g.f g.answer (u c) in
          started_same j (put u c v) n (subst (λ (q : ClientState Command). n.starts ≡ q.starts + suc j) (sym (put_same u c v c refl)) (omega (arith, count))) none free

    apart : (a b : ℕ) → a < b → (j : ℕ) × (b ≡ a + suc j)
    apart a b lt = (b - a - 1, omega (arith, lt))

    begins : (c : ℕ) (sends : List (Message Command Answer)) (out : List code.Message) (place : ℕ) → ((e : ℕ) → Over g e (k e) (own_steps e (Serves c (record { action = StartsAgain; sends = sends }) out place ∷ ms)))
        → AllStand IsSavedAs g out sends → AllTakeHanded g (sent ++ out) ms → Fronted w sent wide (Serves c (record { action = StartsAgain; sends = sends }) out place) ms
    begins c sends out place over stand taken =
        let h = here c sends out place StartsAgain over in
        let n : ClientState Command = h.0 in
        let more = apart (k c).starts n.starts h.1.1.0 in
        let j : ℕ = suc more.0 in
        let none : out ≡ [] = silent out (subst (λ (xs : List (Message Command Answer)). AllStand IsSavedAs g out xs) h.1.2 stand) in
        let count : n.starts ≡ (w c).starts + suc more.0 = more.1 ∙ ap (λ x. x + suc more.0) (sym (same c).starts) in
        record {
          front = starts c place h.1.0 j;
          next = put k c n;
          after = started c place h.1.0 j w;
          same = λ e. elim (cases_eq e c) [
            | inl is ↦ subst (λ q. Same q (started c place h.1.0 j w e)) (sym (put_same k c n e is)) (subst (λ q. Same n (started c place h.1.0 j w q)) (sym is) (started_same c place h.1.0 more.0 w n count h.1.1.2 h.1.1.3))
            | inr ne ↦ subst (λ q. Same q (started c place h.1.0 j w e)) (sym (put_other k c n e ne)) (subst (λ q. Same (k e) q) (sym (started_other c place h.1.0 j w e ne)) (same e))
          ];
          over = on c sends out place StartsAgain n over h.2;
          taken = taken;
          handed = subst (λ xs. Covers xs (all_handed (starts c place h.1.0 j))) (sym none) (covers_nothing (all_handed (starts c place h.1.0 j)));
          clients = λ rest right. starts_clients c place h.1.0 j w rest (subst (λ x. x < 2 ^ 32) count h.1.1.1) right;
          takes = λ rest t. starts_taken c place h.1.0 j rest (subst (λ xs. AllTakeHanded g xs rest) (ap (λ xs. wide ++ xs) (starts_handed c place h.1.0 j) ∙ append-nil wide) t);
          own = λ i rest others e. starts_own c place h.1.0 j i rest ∙ e;
          asks = λ rest others e. starts_asks c place h.1.0 j rest ∙ e;
        }
      where
        silent : (xs : List code.Message) → AllStand IsSavedAs g xs [] → xs ≡ []
        silent [] h = refl
        silent (x ∷ xs) h = absurd h

    serves : (c : ℕ) (a : ClientAction Command Answer) (sends : List (Message Command Answer)) (out : List code.Message) (place : ℕ) → ((e : ℕ) → Over g e (k e) (own_steps e (Serves c (record { action = a; sends = sends }) out place ∷ ms)))
        → AllTakeHanded g sent (Serves c (record { action = a; sends = sends }) out place ∷ ms) → Fronted w sent wide (Serves c (record { action = a; sends = sends }) out place) ms
    serves c (Submits command) sends out place over t = submits c command sends out place over t.0 t.2
    serves c StartsAgain sends out place over t = begins c sends out place over t.0 t.2
    serves c Retries sends out place over t =
        let h = here c sends out place Retries over in
        one_step c Retries sends out place place h.0 over h.2 (h.1.0.0, ap is_some (same c).waits ∙ h.1.0.1) (h.1.1 ∙ ap (λ (o : Option (Request Command)). retried g.f g.answer c (group_size g.f) o) (sym (same c).waits))
        (subst (λ (q : ClientState Command). Same q (w c)) (sym h.1.2) (same c)) t.0 tt t.2
    serves c (Hears m) sends out place over t =
        let h = here c sends out place (Hears m) over in
        let x = covers (t.1.0) (place, t.1.1) in
        one_step c (Hears m) sends out place (x.0) h.0 over h.2 tt h.1.1 (subst (λ (q : ClientState Command). Same q (heard g.f c g.answer (w c) m.body)) (sym h.1.2) (same_heard g (k c) (w c) c m.body (same c)))
        t.0 (t.1.0, x.1, t.1.2, t.1.3) t.2

    fronted : (m : CodeMove S) → ((c : ℕ) → Over g c (k c) (own_steps c (m ∷ ms))) → AllTakeHanded g sent (m ∷ ms) → Fronted w sent wide m ms
    fronted (Starts i q found left nonce starts) over t = record {
      front = Starts i q found left nonce starts ∷ [];
      next = k;
      after = w;
      same = same;
      over = over;
      taken = still sent ms t;
      handed = covers_nothing [];
      clients = λ rest right. right;
      takes = λ rest u. subst (λ xs. AllTakeHanded g xs rest) (append-nil wide) u;
      own = λ j rest others e. ap (λ (xs : List (OwnMove S)). cond (eqb j i) (Started q found left nonce starts ∷ xs) xs) e;
      asks = λ rest others e. e;
    }
    fronted (Steps i e place r left result) over t =
        let p = placed g sent wide i e place covers t.0 in
        record {
          front = Steps i e (p.0) r left result ∷ [];
          next = k;
          after = w;
          same = same;
          over = over;
          taken = t.1;
          handed = covers_more (sends_in result);
          clients = λ rest right. right;
          takes = λ rest u. (p.1, back wide (sends_in result) rest u);
          own = λ j rest others same_rest. ap (λ (xs : List (OwnMove S)). cond (eqb j i) (Stepped e r left result ∷ xs) xs) same_rest;
          asks = λ rest others same_rest. same_rest;
        }
    fronted (Dies i e place left) over t =
        let p = placed g sent wide i e place covers t.0 in
        record {
          front = Dies i e (p.0) left ∷ [];
          next = k;
          after = w;
          same = same;
          over = over;
          taken = still sent ms t.1;
          handed = covers_nothing [];
          clients = λ rest right. right;
          takes = λ rest u. (p.1, subst (λ xs. AllTakeHanded g xs rest) (append-nil wide) u);
          own = λ j rest others same_rest. ap (λ (xs : List (OwnMove S)). cond (eqb j i) (Died e left ∷ xs) xs) same_rest;
          asks = λ rest others same_rest. same_rest;
        }
    fronted (Serves c d out place) over t = serves c d.action d.sends out place over t

  -- ---- one move after another

  handed_append : (xs ys : List (CodeMove S)) → all_handed (xs ++ ys) ≡ all_handed xs ++ all_handed ys
  handed_append [] ys = refl
  handed_append (x ∷ xs) ys = ap (λ (ms : List code.Message). handed_by x ++ ms) (handed_append xs ys) ∙ sym (append_assoc (handed_by x) (all_handed xs) (all_handed ys))

  record Wide (w : ℕ → ClientState Command) (wide : List code.Message) (early late : List (CodeMove S)) : Type 0 where
    first : List (CodeMove S)
    second : List (CodeMove S)
    clients : (c : ℕ) → Right g c (w c) (own_steps c (first ++ second))
    taken : AllTakeHanded g wide (first ++ second)
    own_first : (i : ℕ) → own_moves i first ≡ own_moves i early
    own_all : (i : ℕ) → own_moves i (first ++ second) ≡ own_moves i (early ++ late)
    asks : asked (clients_in first) ≡ asked (clients_in early)
    handed : Covers (all_handed early) (all_handed first)

  widen_late : (late : List (CodeMove S)) (k w : ℕ → ClientState Command) (sent wide : List code.Message) → ((c : ℕ) → Same (k c) (w c)) → Covers sent wide → ((c : ℕ) → Over g c (k c) (own_steps c late)) → AllTakeHanded g sent late → Wide w wide [] late
  widen_late [] k w sent wide same covers over t =
      record { first = []; second = []; clients = λ c. tt; taken = tt; own_first = λ i. refl; own_all = λ i. refl; asks = refl; handed = covers_nothing [] }
  widen_late (m ∷ late) k w sent wide same covers over t =
      let x : Fronted w sent wide m late = fronted k w sent wide same covers late m over t in
      let r : Wide x.after (wide ++ all_handed x.front) [] late = widen_late late x.next x.after (sent ++ handed_by m) (wide ++ all_handed x.front) x.same (covers_append sent wide (handed_by m) (all_handed x.front) covers x.handed) x.over x.taken in
      record {
        first = [];
        second = x.front ++ (r.first ++ r.second);
        clients = x.clients (r.first ++ r.second) r.clients;
        taken = x.takes (r.first ++ r.second) r.taken;
        own_first = λ i. refl;
        own_all = λ i. x.own i (r.first ++ r.second) late (r.own_all i);
        asks = refl;
        handed = covers_nothing [];
      }

  widen : (early late : List (CodeMove S)) (k w : ℕ → ClientState Command) (sent wide : List code.Message) → ((c : ℕ) → Same (k c) (w c)) → Covers sent wide → ((c : ℕ) → Over g c (k c) (own_steps c (early ++ late))) → AllTakeHanded g sent (early ++ late) → Wide w wide early late
  widen [] late k w sent wide same covers over t = widen_late late k w sent wide same covers over t
  widen (m ∷ early) late k w sent wide same covers over t =
      let x : Fronted w sent wide m (early ++ late) = fronted k w sent wide same covers (early ++ late) m over t in
      let r : Wide x.after (wide ++ all_handed x.front) early late = widen early late x.next x.after (sent ++ handed_by m) (wide ++ all_handed x.front) x.same (covers_append sent wide (handed_by m) (all_handed x.front) covers x.handed) x.over x.taken in
      let whole : x.front ++ (r.first ++ r.second) ≡ (x.front ++ r.first) ++ r.second = sym (append_assoc x.front r.first r.second) in
      record {
        first = x.front ++ r.first;
        second = r.second;
        clients = λ c. subst (λ (ms : List (CodeMove S)). Right g c (w c) (own_steps c ms)) whole (x.clients (r.first ++ r.second) r.clients c);
        taken = subst (λ (ms : List (CodeMove S)). AllTakeHanded g wide ms) whole (x.takes (r.first ++ r.second) r.taken);
        own_first = λ i. x.own i r.first early (r.own_first i);
        own_all = λ i. ap (λ (ms : List (CodeMove S)). own_moves i ms) (sym whole) ∙ x.own i (r.first ++ r.second) (early ++ late) (r.own_all i);
        asks = x.asks r.first early r.asks;
        handed = subst (λ (ms : List code.Message). Covers (handed_by m ++ all_handed early) ms) (sym (handed_append x.front r.first)) (covers_append (handed_by m) (all_handed x.front) (all_handed early) (all_handed r.first) x.handed r.handed);
      }

  pub by_rule : (early late : List (CodeMove S)) → ((c : ℕ) → Over g c first_client (own_steps c (early ++ late))) → AllTakeHanded g [] (early ++ late) → WithClientsByRule g early late
  by_rule early late over t =
      let r : Wide (λ c. first_client) [] early late = widen early late (λ c. first_client) (λ c. first_client) [] [] (λ c. record { starts = refl; sequence = refl; waits = refl }) (λ a x. x) over t in
      record { first = r.first; second = r.second; first_replicas = r.own_first; replicas = r.own_all; clients = r.clients; taken = r.taken; asks = r.asks; handed = r.handed }
