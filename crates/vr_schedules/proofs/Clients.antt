-- The events of a client.
use Rattle.std.proofs.Common.{◌≡◌, ℕ, ◌+◌, ◌<◌, List, [], ◌∷◌, ◌++◌, length, max, Some, None, Result, Ok, Err, true, false, cond, option_map, refl, sym, ap, ◌∙◌, subst, append-nil}
use Rattle.std.specs.Prelude.{slice_set}
use Rattle.std.specs.List.{slice_get}
use Rattle.std.specs.Result.{IsErrAnd}
use Rattle.std.proofs.lemmas.Bool.{lt-ltb}
use Rattle.std.proofs.lemmas.List.{length-set, map-append}
use Rattle.il_model.specs.declared.command.Command.{Command}
use Rattle.il_model.specs.declared.command.Answer.{Answer}
use Rattle.il_model.specs.Snapshots.{SavedController}
use Rattle.il_model.specs.Program.{Program}
use Rattle.vr_model.specs.declared.message.Message as sent
use Rattle.vr_model.specs.declared.message.Request as asked
use Rattle.vr_model.specs.Logs.{Request}
use Rattle.vr_model.specs.Groups.{group_size, primary, client_count}
use Rattle.vr_model.specs.Messages.{Message}
use Rattle.vr_model.specs.Replicas.{put}
use Rattle.vr_model.specs.World.{ClientState, World, Event, Completion, Submit, Retry, ClientRestart, Done, is_waiting, next_request, has_submitted, restarts_client, replied, request_message, retried, steps, refusal, happens}
use Rattle.vr_model.specs.Report.{released}
use Rattle.vr_model.specs.StandsFor.{request_of, requests_of}
use Rattle.vr_model.specs.declared.client.ClientNumber.{ClientNumber}
use Rattle.vr_schedules.proofs.Tables.{put_same, put_other}
use Rattle.vr_schedules.specs.declared.world.World as code
use Rattle.vr_schedules.specs.declared.client.Client.{Client}
use Rattle.vr_schedules.specs.declared.trace.Trace.{Trace}
use Rattle.vr_schedules.specs.declared.trace.Release as told
use Rattle.vr_schedules.specs.declared.fault.Reason.{Reason}
use Rattle.vr_schedules.specs.declared.fault.Reason.TheVariants.{WaitsOrNot}
use Rattle.vr_schedules.specs.declared.fault.EventFault.{EventFault}
use Rattle.vr_schedules.specs.declared.fault.EventFault.TheVariants.{Refused}
use Rattle.vr_schedules.specs.Events.{reason_of}
use Rattle.vr_model.specs.Membership.{Group, Membership}
use Rattle.vr_model.specs.Replicas.{ReplicaState}
use Rattle.vr_schedules.specs.Clients.{client_of, submit_refusal, restart_refusal, request_to, requests_below}
use Rattle.vr_schedules.specs.Handed.{AllStandIn}
use Rattle.vr_schedules.specs.Standing.{Shows, IsSettled, Happened, Went, WentToClient, release_of, releases_of}
use Rattle.vr_schedules.proofs.Lists.{set_cases}
use Rattle.vr_schedules.proofs.Standings.{all_append, requests_stand}
use Rattle.vr_schedules.proofs.Shown.{node_same, shows_later}
use Rattle.vr_schedules.proofs.Acting.{happens_is}

module _ (IsSavedAs : Program → ℕ → List Command → SavedController → Type 0) {M : Type 0} (StandsFor : M → Membership → ReplicaState Command → Type 0) where
  -- an event that is no replica's, and so is always done
  pub happened_done : (g : Group) (past : List (Event Command × Completion)) (s v : code.World M) (w : World Command Answer) (e : Event Command) → IsSettled g past w → refusal g.f w e ≡ None → ((n : ℕ) → released n w e ≡ [])
      → Shows IsSavedAs StandsFor g past v (steps g.f g.answer w e Done)
      → v.trace.releases.items ≡ s.trace.releases.items → v.trace.lengths.items ≡ s.trace.lengths.items → v.trace.lost.items ≡ s.trace.lost.items → Happened IsSavedAs StandsFor g past s v w e
  happened_done g past s v w e settled free none shows releases lengths lost = record {
    completion = Done;
    has_step = free;
    complete = tt;
    shows = shows_later IsSavedAs StandsFor g past (past ++ (e, Done) ∷ []) v (happens g.f g.answer w e Done) (settled.leads e Done).still (subst (Shows IsSavedAs StandsFor g past v) (sym (happens_is g.f g.answer w e Done free)) shows);
    releases = ap releases_of releases ∙ sym (append-nil (releases_of s.trace.releases.items)) ∙ ap (λ xs. releases_of s.trace.releases.items ++ xs) (sym (none (length s.trace.lengths.items)));
    lengths = lengths;
    lost = lost ∙ sym (append-nil s.trace.lost.items);
  }

  -- a client changed, and messages were sent
  pub shows_client : (g : Group) (past : List (Event Command × Completion)) (s : code.World M) (w : World Command Answer) (c : ℕ) (k : Client) (next : ClientState Command) (t : Trace) (xs : List (Message Command Answer)) (sub : List (Request Command))
      → Shows IsSavedAs StandsFor g past s w → c < client_count → client_of k ≡ next → AllStandIn IsSavedAs g past t.sent.items xs → t.order.items ≡ s.trace.order.items
      → Shows IsSavedAs StandsFor g past (record s { clients = slice_set s.clients c k; trace = t }) (record w { clients = put w.clients c next; sent = xs; submitted = sub })
  shows_client g past s w c k next t xs sub h l is sends order = record {
    config = h.config;
    size = h.size;
    nodes = λ i n at. node_same StandsFor g i n w _ refl refl refl (λ x. refl) (h.nodes i n at);
    count = length-set s.clients c k ∙ h.count;
    clients = set_cases s.clients c k (λ d m. put w.clients c next d ≡ client_of m) (put_same w.clients c next c refl ∙ sym is) (λ d m ne at. put_other w.clients c next d ne ∙ h.clients d m at);
    sent = sends;
    order = h.order ∙ ap requests_of (sym order);
  }

  -- messages were sent
  pub shows_sent : (g : Group) (past : List (Event Command × Completion)) (s : code.World M) (w : World Command Answer) (t : Trace) (xs : List (Message Command Answer))
      → Shows IsSavedAs StandsFor g past s w → AllStandIn IsSavedAs g past t.sent.items xs → t.order.items ≡ s.trace.order.items
      → Shows IsSavedAs StandsFor g past (record s { trace = t }) (record w { sent = xs })
  shows_sent g past s w t xs h sends order = record {
    config = h.config;
    size = h.size;
    nodes = λ i n at. node_same StandsFor g i n w _ refl refl refl (λ x. refl) (h.nodes i n at);
    count = h.count;
    clients = h.clients;
    sent = sends;
    order = h.order ∙ ap requests_of (sym order);
  }

  pub submitted : (s : code.World M) (c : ClientNumber) (number : ℕ) (command : Command) (k next : Client) (p : ℕ) (q : asked.Request) (m : sent.Message) (t : Trace)
      → c.number ≡ number → c.number < client_count → (length s.clients ≡ client_count → slice_get s.clients c.number ≡ Some k) → submit_refusal (client_of k) ≡ None
      → client_of next ≡ has_submitted (client_of k) (next_request c.number (client_of k) command) → request_of q ≡ next_request c.number (client_of k) command → p ≡ primary s.config.f k.view
      → m ≡ request_to c p q
      → t.sent.items ≡ s.trace.sent.items ++ m ∷ [] → t.order.items ≡ s.trace.order.items
      → t.releases.items ≡ s.trace.releases.items → t.lengths.items ≡ s.trace.lengths.items → t.lost.items ≡ s.trace.lost.items
      → Went IsSavedAs StandsFor s (record s { clients = slice_set s.clients c.number next; trace = t }) (Submit number command) (Ok tt)
  submitted s c number command k next p q m t named l at may new request to message sends order releases lengths lost = subst (λ n. Went IsSavedAs StandsFor s (record s { clients = slice_set s.clients c.number next; trace = t }) (Submit n command) (Ok tt)) named (record {
    went = λ g past w h settled.
        let client : w.clients c.number ≡ client_of k = h.clients c.number k (at h.count) in
        let asks : Request Command = next_request c.number (w.clients c.number) command in
        let same : next_request c.number (client_of k) command ≡ asks = ap (λ x. next_request c.number x command) (sym client) in
        let says : request_message g.f g.answer c.number (primary g.f (w.clients c.number).view) asks ≡ request_message g.f g.answer c.number p (request_of q) =
        sym (ap (λ (x : Request Command). request_message g.f g.answer c.number p x) (request ∙ same)
        ∙ ap (λ n. request_message g.f g.answer c.number n asks) (to ∙ ap (λ n. primary n k.view) h.config ∙ ap (λ (x : ClientState Command). primary g.f x.view) (sym client))) in
        let one : AllStandIn IsSavedAs g past (m ∷ []) (request_message g.f g.answer c.number (primary g.f (w.clients c.number).view) asks ∷ []) =
        subst (λ x. AllStandIn IsSavedAs g past (x ∷ []) (request_message g.f g.answer c.number (primary g.f (w.clients c.number).view) asks ∷ [])) (sym message)
        (record { stands = record { log = []; carries = tt; is = says }; hands_on = tt }, tt) in
        let all : AllStandIn IsSavedAs g past t.sent.items (w.sent ++ request_message g.f g.answer c.number (primary g.f (w.clients c.number).view) asks ∷ []) =
        subst (λ xs. AllStandIn IsSavedAs g past xs (w.sent ++ request_message g.f g.answer c.number (primary g.f (w.clients c.number).view) asks ∷ [])) (sym sends)
        (all_append IsSavedAs g past s.trace.sent.items (m ∷ []) w.sent (request_message g.f g.answer c.number (primary g.f (w.clients c.number).view) asks ∷ []) h.sent one) in
        happened_done g past s (record s { clients = slice_set s.clients c.number next; trace = t }) w (Submit c.number command) settled
        (rw (lt-ltb c.number client_count l) (ap submit_refusal client ∙ may)) (λ n. refl)
        (shows_client g past s w c.number next (has_submitted (w.clients c.number) asks) t _ (w.submitted ++ asks ∷ []) h l
        (new ∙ ap (λ x. has_submitted x (next_request c.number x command)) (sym client)) all order)
        releases lengths lost;
  })

  pub retries : (s : code.World M) (c : ClientNumber) (number : ℕ) (k : Client) (q : asked.Request) (size : ℕ) (t : Trace)
      → c.number ≡ number → c.number < client_count → (length s.clients ≡ client_count → slice_get s.clients c.number ≡ Some k) → k.waits ≡ Some q → size ≡ group_size s.config.f
      → t.sent.items ≡ s.trace.sent.items ++ requests_below c size q → t.order.items ≡ s.trace.order.items
      → t.releases.items ≡ s.trace.releases.items → t.lengths.items ≡ s.trace.lengths.items → t.lost.items ≡ s.trace.lost.items
      → Went IsSavedAs StandsFor s (record s { trace = t }) (Retry number) (Ok tt)
  retries s c number k q size t named l at waits sized sends order releases lengths lost = subst (λ n. Went IsSavedAs StandsFor s (record s { trace = t }) (Retry n) (Ok tt)) named (record {
    went = λ g past w h settled.
        let waiting : (w.clients c.number).waits ≡ Some (request_of q) = ap (λ (x : ClientState Command). x.waits) (h.clients c.number k (at h.count)) ∙ ap (option_map request_of) waits in
        let asks : List (Message Command Answer) = retried g.f g.answer c.number (group_size g.f) (w.clients c.number).waits in
        let same : retried g.f g.answer c.number size (Some (request_of q)) ≡ asks =
        ap (λ n. retried g.f g.answer c.number n (Some (request_of q))) (sized ∙ ap group_size h.config) ∙ ap (λ x. retried g.f g.answer c.number (group_size g.f) x) (sym waiting) in
        let all : AllStandIn IsSavedAs g past t.sent.items (w.sent ++ asks) =
        subst (λ xs. AllStandIn IsSavedAs g past xs (w.sent ++ asks)) (sym sends)
        (all_append IsSavedAs g past s.trace.sent.items (requests_below c size q) w.sent asks h.sent
        (subst (AllStandIn IsSavedAs g past (requests_below c size q)) same (requests_stand IsSavedAs g past g.f g.answer c size q))) in
        happened_done g past s (record s { trace = t }) w (Retry c.number) settled
        (rw (lt-ltb c.number client_count l, waiting) refl) (λ n. refl)
        (shows_sent g past s w t _ h all order)
        releases lengths lost;
  })

  pub restarted : (s : code.World M) (c number : ℕ) (k next : Client)
      → c ≡ number → c < client_count → (length s.clients ≡ client_count → slice_get s.clients c ≡ Some k) → restart_refusal (client_of k) ≡ None
      → client_of next ≡ record (client_of k) { starts = k.starts + 1; sequence = 0; waits = None }
      → Went IsSavedAs StandsFor s (record s { clients = slice_set s.clients c next }) (ClientRestart number) (Ok tt)
  restarted s c number k next named l at may new = subst (λ n. Went IsSavedAs StandsFor s (record s { clients = slice_set s.clients c next }) (ClientRestart n) (Ok tt)) named (record {
    went = λ g past w h settled.
        let client : w.clients c ≡ client_of k = h.clients c k (at h.count) in
        happened_done g past s (record s { clients = slice_set s.clients c next }) w (ClientRestart c) settled
        (rw (lt-ltb c client_count l) (ap restart_refusal client ∙ may)) (λ n. refl)
        (shows_client g past s w c next (restarts_client g.f g.answer (w.clients c)) s.trace w.sent w.submitted h l
        (new ∙ ap (restarts_client g.f g.answer) (sym client)) h.sent refl)
        refl refl refl;
  })

  -- what it can't do
  pub waits_not : (s : code.World M) (c number : ℕ) (k : Client) → c ≡ number → c < client_count → (length s.clients ≡ client_count → slice_get s.clients c ≡ Some k) → k.waits ≡ None
      → Went IsSavedAs StandsFor s s (Retry number) (Err (Refused WaitsOrNot))
  waits_not s c number k named l at waits = subst (λ n. Went IsSavedAs StandsFor s s (Retry n) (Err (Refused WaitsOrNot))) named (record {
    went = λ g past w h settled.
        let waiting : (w.clients c).waits ≡ None = ap (λ (x : ClientState Command). x.waits) (h.clients c k (at h.count)) ∙ ap (option_map request_of) waits in
        rw (lt-ltb c client_count l, waiting) refl;
  })

  pub starts_not : (s : code.World M) (c number : ℕ) (k : Client) (reason : Reason) (result : Result (Unit {0}) EventFault) → c ≡ number → c < client_count → (length s.clients ≡ client_count → slice_get s.clients c ≡ Some k)
      → restart_refusal (client_of k) ≡ Some (reason_of reason) → IsErrAnd result (λ fault. fault ≡ Refused reason) → Went IsSavedAs StandsFor s s (ClientRestart number) result
  starts_not s c number k reason (Ok u) named l at why is = absurd is
  starts_not s c number k reason (Err fault) named l at why is = subst (λ x. Went IsSavedAs StandsFor s s (ClientRestart number) (Err x)) (sym is) (subst (λ n. Went IsSavedAs StandsFor s s (ClientRestart n) (Err (Refused reason))) named (record {
    went = λ g past w h settled.
        rw (lt-ltb c client_count l) (ap restart_refusal (h.clients c k (at h.count)) ∙ why);
  }))

  -- it hears a reply, and releases it if it waits for it
  pub heard : (s : code.World M) (c view number : ℕ) (a : Answer) (k next : Client) (t : Trace)
      → c < client_count → (length s.clients ≡ client_count → slice_get s.clients c ≡ Some k)
      → client_of next ≡ record (client_of k) { view = max k.view view; waits = cond (is_waiting (client_of k).waits number) None (client_of k).waits }
      → t.sent.items ≡ s.trace.sent.items → t.order.items ≡ s.trace.order.items
      → releases_of t.releases.items ≡ releases_of s.trace.releases.items ++ cond (is_waiting (client_of k).waits number) (record { event = length s.trace.lengths.items; client = c; number = number; answer = a } ∷ []) []
      → t.lengths.items ≡ s.trace.lengths.items → t.lost.items ≡ s.trace.lost.items
      → WentToClient IsSavedAs StandsFor s (record s { clients = slice_set s.clients c next; trace = t }) c view number a (Ok tt)
  heard s c view number a k next t l at new sends order releases lengths lost = record {
    went = λ g past w h.
        let client : w.clients c ≡ client_of k = h.clients c k (at h.count) in
        record {
          shows = shows_client g past s w c next (replied g.f g.answer (w.clients c) view number) t w.sent w.submitted h l
              (new ∙ ap (λ x. replied g.f g.answer x view number) (sym client)) (subst (λ xs. AllStandIn IsSavedAs g past xs w.sent) (sym sends) h.sent) order;
          releases = releases ∙ ap (λ (x : ClientState Command). releases_of s.trace.releases.items ++ cond (is_waiting x.waits number) (record { event = length s.trace.lengths.items; client = c; number = number; answer = a } ∷ []) []) (sym client);
          lengths = lengths;
          lost = lost;
        };
  }

  pub heard_not_waiting : (s : code.World M) (c client view number : ℕ) (a : Answer) (k next : Client)
      → c ≡ client → c < client_count → (length s.clients ≡ client_count → slice_get s.clients c ≡ Some k)
      → client_of next ≡ record (client_of k) { view = max k.view view; waits = cond (is_waiting (client_of k).waits number) None (client_of k).waits }
      → is_waiting (client_of k).waits number ≡ false
      → WentToClient IsSavedAs StandsFor s (record s { clients = slice_set s.clients c next }) client view number a (Ok tt)
  heard_not_waiting s c client view number a k next named l at new free = subst (λ n. WentToClient IsSavedAs StandsFor s (record s { clients = slice_set s.clients c next }) n view number a (Ok tt)) named
      (heard s c view number a k next s.trace l at new refl refl (rw free (sym (append-nil (releases_of s.trace.releases.items)))) refl refl)

  pub heard_waiting : (s : code.World M) (c client view number : ℕ) (a : Answer) (k next : Client) (r : told.Release) (t : Trace)
      → c ≡ client → c < client_count → (length s.clients ≡ client_count → slice_get s.clients c ≡ Some k)
      → client_of next ≡ record (client_of k) { view = max k.view view; waits = cond (is_waiting (client_of k).waits number) None (client_of k).waits }
      → is_waiting (client_of k).waits number ≡ true
      → t.releases.items ≡ s.trace.releases.items ++ r ∷ []
      → release_of r ≡ record { event = length s.trace.lengths.items; client = client; number = number; answer = a }
      → t.sent.items ≡ s.trace.sent.items → t.order.items ≡ s.trace.order.items → t.lengths.items ≡ s.trace.lengths.items → t.lost.items ≡ s.trace.lost.items
      → WentToClient IsSavedAs StandsFor s (record s { clients = slice_set s.clients c next; trace = t }) client view number a (Ok tt)
  heard_waiting s c client view number a k next r t named l at new waits releases is sends order lengths lost = subst (λ n. WentToClient IsSavedAs StandsFor s (record s { clients = slice_set s.clients c next; trace = t }) n view number a (Ok tt)) named
      (heard s c view number a k next t l at new sends order
      (rw waits (ap releases_of releases ∙ map-append release_of s.trace.releases.items (r ∷ []) ∙ ap (λ x. releases_of s.trace.releases.items ++ x ∷ []) (is ∙ ap (λ n. record { event = length s.trace.lengths.items; client = n; number = number; answer = a }) (sym named)))) lengths lost)

pub release_at : (n m client number : ℕ) (a : Answer) (r : told.Release) → n ≡ m → r.event ≡ n → r.client.number ≡ client → r.number ≡ number → r.answer ≡ a → release_of r ≡ record { event = m; client = client; number = number; answer = a }
release_at n m client number a r e w x y z = cc
