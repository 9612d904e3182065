-- The report explains the run.
use Rattle.std.proofs.Common.{◌≡◌, ℕ, zero, suc, ◌+◌, ◌<◌, ◌≤◌, max, Bool, true, false, cond, ◌==◌, List, [], ◌∷◌, ◌++◌, length, take, Option, Some, None, arith, refl, sym, ap, ◌∙◌, subst, inl, inr, map}
use Rattle.std.specs.Prelude.{slice_get, get_or}
use Rattle.std.proofs.lemmas.Grind.{common_steps}
use Rattle.std.proofs.lemmas.List.{take_more}
use Rattle.std.proofs.lemmas.Option.{same_Some, slice_get_read}
use Rattle.std.proofs.lemmas.Bool.{ltb-true, lt-ltb, cases_lt, eq-eqb}
use Rattle.vr_model.specs.Logs.{Request, IsPrefix, IsEntry, IsRising, IsFrom, IsAmong, greater, last_number, is_above}
use Rattle.vr_model.specs.Messages.{Party, Client, Body, Reply, Message, number_of}
use Rattle.vr_model.specs.World.{Reason, World, next_number, Event, Submit, Deliver, Completion, is_waiting, given, refusal, if_none, submits, happens, run, start, Done, Lost}
use Rattle.vr_model.specs.Report.{IsAnswered, BodyStands, all_done, lost_at, Release, released_to, released_by}
use Rattle.vr_model.specs.Report.{released, report_from, report, last_or, Each, IsReleased, Explains}
use Rattle.vr_model.specs.Choices.{commands}
use Rattle.laws_history.proofs.Prefixes.{prefix_refl, prefix_trans, prefix_length, prefix_take, prefix_is, take_prefix}
use Rattle.laws_history.proofs.Later.{entry_later}
use Rattle.laws_history.proofs.OrderExecuted.{order_executed}
use Rattle.laws_history.proofs.Rising.{last_same, entry_before}
use Rattle.laws_history.proofs.Numbers.{ClientsOk, happens_numbers, start_clients}
use Rattle.laws_history.proofs.Worlds.{Base, WorldOk}
use Rattle.laws_history.proofs.Events.{happens_ok, said}
use Rattle.laws_history.proofs.Runs.{Always, run_ok, first_base, start_ok, from_here, order_rises, answered}

-- an entry is what is read at its place
pub entry_get : {X : Type 0} (xs : List X) (k : ℕ) (m : X) → IsEntry xs k m → slice_get xs k ≡ Some m
entry_get xs k m e = slice_get_read xs (length xs) k m refl e.within (sym (last_same (take k xs) (get_or xs k m) m (sym (take_more xs k m e.within) ∙ e.last)))

above_rest : (a o : Option ℕ) (s : ℕ) → is_above s (greater a o) ≡ true → is_above s o ≡ true
above_rest None o s e = e
above_rest (Some a) None s e = refl
above_rest (Some a) (Some b) s e = lt-ltb b s (let k : max a b < s = ltb-true _ _ e in omega arith)

above_first : (a s : ℕ) (o : Option ℕ) → is_above s (greater (Some a) o) ≡ true → a < s
above_first a s None e = ltb-true _ _ e
above_first a s (Some b) e = let k : max a b < s = ltb-true _ _ e in omega arith

-- a number above all of a client's is above each
below_last : {C : Type 0} (xs : List (Request C)) (p : ℕ) (m : Request C) (s : ℕ) → slice_get xs p ≡ Some m → is_above s (last_number xs m.client) ≡ true → m.number < s
below_last [] p m s is e = absurd cc
below_last (x ∷ xs) zero m s is e =
    let same : x ≡ m = same_Some _ _ is in
    let t : (x.client == m.client) ≡ true = eq-eqb x.client m.client (ap (λ y. y.client) same) in
    let n : x.number ≡ m.number = ap (λ y. y.number) same in
    let k : is_above s (greater (Some x.number) (last_number xs m.client)) ≡ true = subst (λ b. is_above s (greater (cond b (Some x.number) None) (last_number xs m.client)) ≡ true) t e in
    omega (arith, above_first x.number s (last_number xs m.client) k)
below_last (x ∷ xs) (suc p) m s is e = below_last xs p m s is (above_rest (cond (x.client == m.client) (Some x.number) None) (last_number xs m.client) s e)

take_length : {X : Type 0} (n : ℕ) (xs : List X) → n ≤ length xs → length (take n xs) ≡ n
take_length n xs l = grind (arith, common_steps)

-- of two entries with one client the later has the greater number
rises_between : {C : Type 0} (log : List (Request C)) (p q : ℕ) (m n : Request C) → IsRising log → IsEntry log p m → IsEntry log q n → m.client ≡ n.client → p < q → m.number < n.number
rises_between log p q m n rising a b same l =
    let size : length (take q log) ≡ q = take_length q log (omega (arith, b.within)) in
    let early : IsEntry (take q log) p m = entry_before (take_prefix q log) (omega arith) a in
    below_last (take q log) p m n.number (entry_get (take q log) p m early) (subst (λ c. is_above n.number (last_number (take q log) c) ≡ true) (sym same) (rising.each q n b))

pub once : {C : Type 0} (log : List (Request C)) (p q : ℕ) (m n : Request C) → IsRising log → IsEntry log p m → IsEntry log q n → m.client ≡ n.client → m.number ≡ n.number → p ≡ q
once log p q m n rising a b same number = elim (cases_lt p q) [
  | inl l ↦ absurd (omega (arith, rises_between log p q m n rising a b same l))
  | inr g ↦ elim (cases_lt q p) [
    | inl l ↦ absurd (omega (arith, rises_between log q p n m rising b a (sym same) l))
    | inr h ↦ omega arith
  ]
]

-- the committed list only grows
run_prefix : {C A : Type 0} (f : ℕ) (answer : List C → A) {base : Base C} (w : World C A) (es : List (Event C × Completion)) → WorldOk f answer base Always w → IsPrefix w.order (run f answer es w).order
run_prefix f answer w es k = (run_ok f answer w es (from_here f answer w k) (λ d j v n. tt)).since

pub between : {C A : Type 0} (f : ℕ) (answer : List C → A) {base : Base C} (es : List (Event C × Completion)) (w : World C A) (i j : ℕ) → WorldOk f answer base Always w → i ≤ j
    → IsPrefix (run f answer (take i es) w).order (run f answer (take j es) w).order
between f answer es w zero j k l = run_prefix f answer w (take j es) k
between f answer [] w (suc i) zero k l = absurd (omega arith)
between f answer [] w (suc i) (suc j) k l = prefix_refl w.order
between f answer (x ∷ xs) w (suc i) zero k l = absurd (omega arith)
between f answer (x ∷ xs) w (suc i) (suc j) k l = between f answer xs (happens f answer w x.0 x.1) i j (happens_ok f answer w x.0 x.1 k (λ j v n. tt)) (omega arith)

pub to_end : {C A : Type 0} (f : ℕ) (answer : List C → A) {base : Base C} (es : List (Event C × Completion)) (w : World C A) (i : ℕ) → WorldOk f answer base Always w
    → IsPrefix (run f answer (take i es) w).order (run f answer es w).order
to_end f answer es w zero k = run_prefix f answer w es k
to_end f answer [] w (suc i) k = prefix_refl w.order
to_end f answer (x ∷ xs) w (suc i) k = to_end f answer xs (happens f answer w x.0 x.1) i (happens_ok f answer w x.0 x.1 k (λ j v n. tt))

-- the report's parts
pub order_is : {C A : Type 0} (f : ℕ) (answer : List C → A) (e : ℕ) (es : List (Event C × Completion)) (w : World C A) → (report_from f answer e es w).order ≡ (run f answer es w).order
order_is f answer e [] w = refl
order_is f answer e (x ∷ xs) w = order_is f answer (suc e) xs (happens f answer w x.0 x.1)

counted : {C A : Type 0} (f : ℕ) (answer : List C → A) (e : ℕ) (es : List (Event C × Completion)) (w : World C A) → length (report_from f answer e es w).lengths ≡ length es
counted f answer e [] w = refl
counted f answer e (x ∷ xs) w = ap suc (counted f answer (suc e) xs (happens f answer w x.0 x.1))

ends : {C A : Type 0} (f : ℕ) (answer : List C → A) (e : ℕ) (es : List (Event C × Completion)) (w : World C A) → length (report_from f answer e es w).order ≡ last_or (length w.order) (report_from f answer e es w).lengths
ends f answer e [] w = refl
ends f answer e (x ∷ xs) w = ends f answer (suc e) xs (happens f answer w x.0 x.1)

length_at : {C A : Type 0} (f : ℕ) (answer : List C → A) (e : ℕ) (es : List (Event C × Completion)) (w : World C A) (j k : ℕ)
    → slice_get (report_from f answer e es w).lengths j ≡ Some k → length (run f answer (take (suc j) es) w).order ≡ k
length_at f answer e [] w j k is = absurd cc
length_at f answer e (x ∷ xs) w zero k is = same_Some _ _ is
length_at f answer e (x ∷ xs) w (suc j) k is = length_at f answer (suc e) xs (happens f answer w x.0 x.1) j k is

own : {C A : Type 0} (f : ℕ) (answer : List C → A) (e : ℕ) (es : List (Event C × Completion)) (w : World C A) → (report_from f answer e es w).lost ≡ [] → es ≡ all_done (map (λ x. x.0) es)
own f answer e [] w none = refl
own {C} {A} f answer e (x ∷ xs) w none = go x.1 refl none (own f answer (suc e) xs (happens f answer w x.0 x.1))
  where
    rest : List ℕ
    rest = (report_from f answer (suc e) xs (happens f answer w x.0 x.1)).lost

    go : (l : Completion) → x.1 ≡ l → lost_at e l ++ rest ≡ [] → (rest ≡ [] → xs ≡ all_done (map (λ x. x.0) xs)) → (x ∷ xs) ≡ all_done (map (λ x. x.0) (x ∷ xs))
    go Done is none deeper = ap (λ l. (x.0, l) ∷ xs) is ∙ ap (λ ys. (x.0, Done) ∷ ys) (deeper none)
    go (Lost saved) is none deeper = absurd cc

-- releases
each_append : {X : Type 0} (P : X → Type 0) (xs ys : List X) → Each P xs → Each P ys → Each P (xs ++ ys)
each_append P [] ys a b = b
each_append P (x ∷ xs) ys a b = (a.0, each_append P xs ys a.1 b)

pub each_map : {X : Type 0} (P Q : X → Type 0) (xs : List X) → ((x : X) → P x → Q x) → Each P xs → Each Q xs
each_map P Q [] to all = tt
each_map P Q (x ∷ xs) to all = (to x all.0, each_map P Q xs to all.1)

pub record ReleasedFrom {C A : Type 0} (answer : List C → A) (order : List (Request C)) (e : ℕ) (lengths : List ℕ) (r : Release A) : Type 0 where
  pub stands : IsAnswered answer order r.client r.number r.answer
  pub index : ℕ
  pub event_is : r.event ≡ e + index
  pub committed : ℕ
  pub after : slice_get lengths index ≡ Some committed
  pub below : stands.place < committed

answered_later : {C A : Type 0} (answer : List C → A) {xs ys : List (Request C)} {c n : ℕ} {a : A} → IsPrefix xs ys → (s : IsAnswered answer xs c n a) → (t : IsAnswered answer ys c n a) × (t.place ≡ s.place)
answered_later answer p s = (
  record {
    place = s.place;
    request = s.request;
    entry = entry_later p s.entry;
    client_is = s.client_is;
    number_is = s.number_is;
    answer_is = s.answer_is ∙ ap (λ x. answer (commands x)) (sym (prefix_take (s.place + 1) p (let l = s.entry in omega (arith, l.within))));
  },
  refl,
)

released_event : {C A : Type 0} (f : ℕ) (answer : List C → A) {base : Base C} (w : World C A) (order : List (Request C)) (e c : ℕ) (lengths : List ℕ) (event : Event C)
    → WorldOk f answer base Always w → IsPrefix w.order order → slice_get lengths 0 ≡ Some c → length w.order ≤ c → Each (ReleasedFrom answer order e lengths) (released e w event)
released_event {C} {A} f answer w order e c lengths (Deliver n) k prefix at low = by (slice_get w.sent n) refl
  where
    one : (d v number : ℕ) (a : A) → IsAnswered answer w.order d number a → (b : Bool) → Each (ReleasedFrom answer order e lengths) (cond b (record { event = e; client = d; number = number; answer = a } ∷ []) [])
    one d v number a s true = let t = answered_later answer prefix s in (
      record {
        stands = t.0;
        index = 0;
        event_is = omega arith;
        committed = c;
        after = at;
        below = omega (arith, t.1, s.entry.within);
      },
      tt,
    )
    one d v number a s false = tt

    to : (p : Party) (b : Body C A) → BodyStands answer w.order (number_of p) b → Each (ReleasedFrom answer order e lengths) (released_to e w p b)
    to (Client d) (Reply v number a) s = one d v number a s (is_waiting (w.clients d).waits number)
    to _ _ s = tt

    by : (m : Option (Message C A)) → slice_get w.sent n ≡ m → Each (ReleasedFrom answer order e lengths) (released_by e w m)
    by None is = tt
    by (Some m) is = to m.to m.body (answered f answer k m (said f answer k.history w.sent n m k.sent is))
released_event f answer w order e c lengths _ k prefix at low = tt

released_from : {C A : Type 0} (f : ℕ) (answer : List C → A) {base : Base C} (e : ℕ) (es : List (Event C × Completion)) (w : World C A) → WorldOk f answer base Always w
    → Each (ReleasedFrom answer (run f answer es w).order e (report_from f answer e es w).lengths) (report_from f answer e es w).releases
released_from f answer e [] w k = tt
released_from {C} {A} f answer e (x ∷ xs) w k =
    let v : World C A = happens f answer w x.0 x.1 in
    let rest = report_from f answer (suc e) xs v in
    let order : List (Request C) = (run f answer xs v).order in
    let kv = happens_ok f answer w x.0 x.1 k (λ j v n. tt) in
    let step : IsPrefix w.order v.order = run_prefix f answer w (x ∷ []) k in
    each_append (ReleasedFrom answer order e (length v.order ∷ rest.lengths)) (released e w x.0) rest.releases
    (released_event f answer w order e (length v.order) (length v.order ∷ rest.lengths) x.0 k (prefix_trans step (run_prefix f answer v xs kv)) refl (prefix_length step))
    (each_map (ReleasedFrom answer order (suc e) rest.lengths) (ReleasedFrom answer order e (length v.order ∷ rest.lengths)) rest.releases
    (λ r s. record { stands = s.stands; index = suc s.index; event_is = omega (arith, s.event_is); committed = s.committed; after = s.after; below = s.below })
    (released_from f answer (suc e) xs v kv))

-- submissions
submits_order : {C A : Type 0} (f : ℕ) (answer : List C → A) (w : World C A) (c : ℕ) (command : C) (completion : Completion) → (happens f answer w (Submit c command) completion).order ≡ w.order
submits_order {C} {A} f answer w c command completion = either (refusal f w (Submit c command))
  where
    either : (reason : Option Reason) → (if_none reason (submits f answer w c command) w).order ≡ w.order
    either None = refl
    either (Some reason) = refl

-- an entry that is committed has a number that its client gave
given_before : {C A : Type 0} (f : ℕ) (answer : List C → A) {base : Base C} (w : World C A) (place : ℕ) (m : Request C) → WorldOk f answer base Always w → ClientsOk w → IsEntry w.order place m → m.number ≤ given (w.clients m.client)
given_before f answer w place m k n entry = n.numbers m (subst (λ xs. IsAmong xs m) k.asked ((order_rises k).submitted.each place m entry))

new_from : {C A : Type 0} (f : ℕ) (answer : List C → A) {base : Base C} (e : ℕ) (es : List (Event C × Completion)) (w : World C A) → WorldOk f answer base Always w → ClientsOk w
    → (j k place c : ℕ) (command : C) (completion : Completion) (m : Request C) → slice_get es j ≡ Some (Submit c command, completion) → slice_get (report_from f answer e es w).lengths j ≡ Some k
    → IsEntry (run f answer es w).order place m → m.client ≡ c → m.number ≡ next_number ((run f answer (take j es) w).clients c) → k ≤ place
new_from f answer e [] w ok n j k place c command completion m is at entry client number = absurd cc
new_from {C} {A} f answer e (x ∷ xs) w ok n zero k place c command completion m is at entry client number =
    let event : x ≡ (Submit c command, completion) = same_Some _ _ is in
    let v : World C A = happens f answer w x.0 x.1 in
    let same : v.order ≡ w.order = ap (λ (y : Event C × Completion). (happens f answer w y.0 y.1).order) event ∙ submits_order f answer w c command completion in
    let size : length v.order ≡ k = same_Some _ _ at in
    let long : length v.order ≡ length w.order = ap length same in
    elim (cases_lt place k) [
      | inl l ↦
          let early : IsEntry w.order place m = entry_before (run_prefix f answer w (x ∷ xs) ok) (omega arith) entry in
          let low = given_before f answer w place m ok n early in
          let its : given (w.clients m.client) ≡ given (w.clients c) = ap (λ d. given (w.clients d)) client in
          absurd (omega (arith, low, its, number))
      | inr g ↦ g
    ]
new_from f answer e (x ∷ xs) w ok n (suc j) k place c command completion m is at entry client number =
    new_from f answer (suc e) xs (happens f answer w x.0 x.1) (happens_ok f answer w x.0 x.1 ok (λ j v n. tt)) (happens_numbers f answer w x.0 x.1 n) j k place c command completion m is at entry client number

pub explains : {C A : Type 0} (f : ℕ) (answer : List C → A) (events : List (Event C × Completion)) → Explains f answer events
explains {C} {A} f answer events =
    let first : WorldOk f answer first_base Always (start {C = C} {A = A}) = start_ok f answer in
    let last = run_ok f answer start events first (λ d j v n. tt) in
    let is = order_is f answer 0 events start in
    record {
      counted = counted f answer 0 events start;
      committed = λ e k at.
          let p = to_end f answer events start (suc e) first in
          sym (prefix_is p) ∙ ap (λ n. take n (run f answer events start).order) (length_at f answer 0 events start e k at) ∙ ap (take k) (sym is);
      own = own f answer 0 events start;
      executed = λ e i. (run_ok f answer start (take e events) first (λ d j v n. tt)).executed i;
      was_executed = order_executed f answer events;
      never_falls = λ e d k n l at later. omega (
        arith,
        length_at f answer 0 events start e k at,
        length_at f answer 0 events start d n later,
        prefix_length (between f answer events start (suc e) (suc d) first (omega arith)),
      );
      ends = ends f answer 0 events start;
      submitted = subst (IsFrom (run f answer events start).submitted) (sym is) (subst (λ x. IsFrom x (run f answer events start).order) last.asked (order_rises last).submitted);
      rising = subst IsRising (sym is) (order_rises last).rising;
      once = λ p q m n a b same number. once (report f answer events).order p q m n (subst IsRising (sym is) (order_rises last).rising) a b same number;
      released = subst (λ order. Each (IsReleased answer order (report f answer events).lengths) (report f answer events).releases) (sym is)
          (each_map (ReleasedFrom answer (run f answer events start).order 0 (report f answer events).lengths) (IsReleased answer (run f answer events start).order (report f answer events).lengths) (report f answer events).releases
          (λ r s. let j : s.index ≡ r.event = omega (arith, s.event_is) in record { stands = s.stands; committed = s.committed; after = subst (λ n. slice_get (report f answer events).lengths n ≡ Some s.committed) j s.after; below = s.below })
          (released_from f answer 0 events start first));
      new = λ e k place c command completion m event at entry client number.
          new_from f answer 0 events start first start_clients e k place c command completion m event at (subst (λ order. IsEntry order place m) is entry) client number;
    }
