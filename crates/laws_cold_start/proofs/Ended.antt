-- Behind the moment at which f+1 replicas are frozen nothing new is committed.
use Rattle.std.proofs.Common.{◌≡◌, ℕ, zero, suc, ◌+◌, ◌<◌, ◌≤◌, Bool, true, false, cond, not, ◌==◌, leb, ltb, ◌&&◌, ◌||◌, List, [], ◌∷◌, ◌++◌, length, take, Some, arith, refl, sym, ap, ◌∙◌, subst, inl, inr}
use Rattle.std.specs.Prelude.{slice_get}
use Rattle.std.proofs.lemmas.Bool.{ltb-true, leb-true, eq-eqb, eqb-true, and_parts, cases_eq}
use Rattle.vr_model.specs.Logs.{Request, IsAmong, IsPrefix}
use Rattle.vr_model.specs.Groups.{group_size, primary, how_many}
use Rattle.vr_model.specs.Messages.{Party, Replica, PrepareOk, Message}
use Rattle.vr_model.specs.Replicas.{takes_part, is_down, ReplicaState, Outcome, put}
use Rattle.vr_model.specs.Rules.{on_restart}
use Rattle.vr_model.specs.Views.{world, IsAcknowledged}
use Rattle.vr_model.specs.World.{World, Event, Completion, Done, Lost, executed, longer, down, Ending, Went, SaveFailed, Effect, effect, happens, run, start}
use Rattle.vr_model.specs.Steps.{Input, by_rule}
use Rattle.vr_model.specs.Agreement.{OneHistory}
use Rattle.laws_cold_start.specs.ColdStarts.{AreFrozen, IsInNoLog, IsNeverCommitted, behind}
use Rattle.laws_cold_start.proofs.Tables.{share}
use Rattle.laws_cold_start.proofs.Cases.{IsRequest, AllRequests, Came, at_effect, case_by_case}
use Rattle.laws_cold_start.proofs.Frozen.{both_ways, frozen_hold, run_append, take_all}
use Rattle.laws_cold_start.proofs.Low.{Reaches, take_short}
use Rattle.laws_cold_start.proofs.Led.{Leads, effect_cases, asks_only, back_by_rule, leads_down, leads_steps}
use Rattle.laws_cold_start.proofs.Statuses.{not_down, normal_is_part}
use Rattle.laws_cold_start.proofs.Told.{Led, Any, ToldIn, led_put, tells_here, lows_here, tell_at, in_append, left_append, told_next, told_run, told_first}

-- the request isn't in it
abbrev Free : {C : Type 0} → Request C → List (Request C) → Type 0
Free m xs = IsAmong xs m → ⊥

-- What one of those acknowledged is free of the request, in the log of the primary of its view; and so is the committed list.
record Ended {C A : Type 0} (f : ℕ) (who : ℕ → Bool) (m : Request C) (standing : ℕ → ReplicaState C) (stores : ℕ → ℕ) (used : ℕ → ℕ → Bool) (messages : List (Message C A)) (order : List (Request C)) : Type 0 where
  pub clean : (s u p : ℕ) → s < group_size f → who s ≡ true → IsAcknowledged messages s u p → Led f (Free m) standing stores u p
  pub none : Free m order

-- a longer prefix has what a shorter one has
among_take : {X : Type 0} (n k : ℕ) (xs : List X) (m : X) → n ≤ k → IsAmong (take n xs) m → IsAmong (take k xs) m
among_take {X} n k xs m l a = record { place = a.place; is = go n k xs a.place l a.is }
  where
    go : (n k : ℕ) (xs : List X) (j : ℕ) → n ≤ k → slice_get (take n xs) j ≡ Some m → slice_get (take k xs) j ≡ Some m
    go zero k xs j l e = absurd cc
    go (suc n) zero xs j l e = absurd (omega arith)
    go (suc n) (suc k) [] j l e = absurd cc
    go (suc n) (suc k) (x ∷ xs) zero l e = e
    go (suc n) (suc k) (x ∷ xs) (suc j) l e = go n k xs j (omega arith) e

among_whole : {X : Type 0} (n : ℕ) (xs : List X) (m : X) → IsAmong (take n xs) m → IsAmong xs m
among_whole {X} n xs m a = record { place = a.place; is = go n xs a.place a.is }
  where
    go : (n : ℕ) (xs : List X) (j : ℕ) → slice_get (take n xs) j ≡ Some m → slice_get xs j ≡ Some m
    go zero xs j e = absurd cc
    go (suc n) [] j e = absurd cc
    go (suc n) (x ∷ xs) zero e = e
    go (suc n) (x ∷ xs) (suc j) e = go n xs j e

among_prefix : {X : Type 0} (xs ys : List X) (m : X) → IsPrefix xs ys → IsAmong xs m → IsAmong ys m
among_prefix xs ys m p a = record { place = a.place; is = subst (λ l. slice_get l a.place ≡ Some m) p.is (left_append xs p.rest a.place m a.is) }

-- one more passes the test
one_more : (p q : ℕ → Bool) (i n : ℕ) → i < n → p i ≡ false → q i ≡ true → ((r : ℕ) → p r ≡ true → q r ≡ true) → how_many p n + 1 ≤ how_many q n
one_more p q i zero l out here all = absurd (omega arith)
one_more p q i (suc n) l out here all = elim (cases_eq i n) [
  | inl e ↦
      let a : cond {A = ℕ} (p n) 1 0 ≡ 0 = ap (λ b. cond b 1 0) (ap p (sym e) ∙ out) in
      let b : cond {A = ℕ} (q n) 1 0 ≡ 1 = ap (λ b. cond b 1 0) (ap q (sym e) ∙ here) in
      omega (arith, more n)
  | inr ne ↦ omega (arith, one_more p q i n (omega arith) out here all, at (p n) (q n) (all n))
]
  where
    at : (a b : Bool) → (a ≡ true → b ≡ true) → cond {A = ℕ} a 1 0 ≤ cond {A = ℕ} b 1 0
    at true b k = let e : b ≡ true = k refl in rw e (omega arith)
    at false b k = omega arith

    more : (n : ℕ) → how_many p n ≤ how_many q n
    more zero = omega arith
    more (suc n) = omega (arith, more n, at (p n) (q n) (all n))

module _ {C A : Type 0} (f : ℕ) (answer : List C → A) (who : ℕ → Bool) (m : Request C) where
  abbrev EndedIn : World C A → Type 0
  EndedIn w = Ended f who m w.replicas w.stores w.used w.sent w.order

  module _ (w : World C A) (e : Event C) (c : Completion) (big : f + 1 ≤ how_many who (group_size f)) (out : (i : ℕ) → i < group_size f → who i ≡ true → takes_part (w.replicas i).status ≡ false) (told : ToldIn f answer w) (h : EndedIn w) where
    -- one of those sent no more acknowledgements
    no_more : (i : ℕ) (input : Input C A) → i < group_size f → is_down (w.replicas i).status ≡ false → Came w e i input → (s : ℕ) (u p k : ℕ) (to : Party) → who s ≡ true
        → slice_get (by_rule f i answer (w.replicas i) input).sends k ≡ Some (record { from = Replica s; to = to; body = PrepareOk u p }) → ⊥
    no_more i input l up came s u p k to is sent =
        let t = tells_here f answer w told e i input came in
        let from : Replica s ≡ Replica i = (tell_at _ i (by_rule f i answer (w.replicas i) input).sends t.sends k _ sent).0 in
        let same : s ≡ i = cc in
        elim (not_down (w.replicas i).status up) [
          | inl part ↦ both_ways _ part (out i l (subst (λ j. who j ≡ true) same is))
          | inr recovering ↦ (back_by_rule f i answer (w.replicas i) input recovering ((told.steady i).own recovering)).sends k _ sent
        ]

    itself : (i n k : ℕ) → not (i == i) && leb n k ≡ false
    itself i n k = let e : (i == i) ≡ true = eq-eqb i i refl in rw e refl

    here : (i : ℕ) (b : Bool) → ((i == i) || b) ≡ true
    here i b = let e : (i == i) ≡ true = eq-eqb i i refl in rw e refl

    either : (a b : Bool) → b ≡ true → (a || b) ≡ true
    either true b e = refl
    either false b e = e

    other : (s i : ℕ) (b : Bool) → (s ≡ i → ⊥) → ((s == i) || b) ≡ true → b ≡ true
    other s i b apart e = go (s == i) refl e
      where
        go : (a : Bool) → (s == i) ≡ a → (a || b) ≡ true → b ≡ true
        go true is k = absurd (apart (eqb-true s i is))
        go false is k = k

    -- what a primary commits now, one of those acknowledged
    commits : (i : ℕ) (input : Input C A) → i < group_size f → Came w e i input → length w.order < (by_rule f i answer (w.replicas i) input).replica.commit_number
        → Free m (executed (by_rule f i answer (w.replicas i) input).replica)
    commits i input l came past among =
        let r : ReplicaState C = w.replicas i in
        let o : Outcome C A = by_rule f i answer r input in
        let low = lows_here f answer w told e i input came in
        let reaches : Reaches f i o.replica o.replica.acknowledged o.replica.commit_number = low.reaches past in
        let t = tells_here f answer w told e i input came in
        let test : ℕ → Bool = (λ s. not (s == i) && leb o.replica.commit_number (o.replica.acknowledged s)) in
        let wide : ℕ → Bool = (λ s. (s == i) || test s) in
        let count : how_many test (group_size f) + 1 ≤ how_many wide (group_size f) =
        one_more test wide i (group_size f) l (itself i o.replica.commit_number (o.replica.acknowledged i)) (here i (test i)) (λ s k. either (s == i) (test s) k) in
        let both = share who wide (group_size f) (omega (arith, big, count, leb-true f (how_many test (group_size f)) reaches.quorum)) in
        let s : ℕ = both.0 in
        let part : takes_part r.status ≡ true = normal_is_part _ (low.was_normal past) in
        let apart : s ≡ i → ⊥ = (λ same. both_ways _ part (out i l (subst (λ j. who j ≡ true) same both.2))) in
        let tested : test s ≡ true = other s i (test s) apart both.3 in
        let enough : o.replica.commit_number ≤ o.replica.acknowledged s = leb-true _ _ (and_parts (not (s == i)) _ tested).1 in
        elim (t.acknowledged reaches.normal reaches.leads s) [
          | inl none ↦ absurd (omega (arith, past, enough, none))
          | inr a ↦
              let led : Leads (Free m) o.replica.view (o.replica.acknowledged s) (w.replicas i) (w.stores i) =
              subst (λ j. Leads (Free m) o.replica.view (o.replica.acknowledged s) (w.replicas j) (w.stores j)) reaches.leads (h.clean s o.replica.view (o.replica.acknowledged s) both.1 both.2 a) in
              elim (led.part part) [
                | inl above ↦ absurd (omega (arith, above, low.view past))
                | inr holds ↦ holds.3 (among_take o.replica.commit_number (o.replica.acknowledged s) r.log m enough
                    (subst (λ log. IsAmong (take o.replica.commit_number log) m) (low.own past) among))
              ]
        ]

    longer_free : (r : ReplicaState C) → (length w.order < r.commit_number → Free m (executed r)) → Free m (longer w.order (executed r))
    longer_free r more = go (ltb (length w.order) (length (executed r))) refl
      where
        go : (b : Bool) → ltb (length w.order) (length (executed r)) ≡ b → Free m (cond b (executed r) w.order)
        go true k =
            let past : length w.order < length (executed r) = ltb-true _ _ k in
            let short : length (executed r) ≤ r.commit_number = take_short r.commit_number r.log in
            more (omega arith)
        go false k = h.none

    as_before : (i : ℕ) → Free m (longer w.order (executed (w.replicas i)))
    as_before i = longer_free (w.replicas i) (λ past. absurd (omega (arith, (told.low i).commit)))

    when_down : (i : ℕ) → Free m (longer w.order (executed (down (w.replicas i))))
    when_down i = longer_free (down (w.replicas i)) (λ past. absurd (omega arith))

    -- one step of replica i
    step : (i : ℕ) (t : Effect C A) (used : ℕ → ℕ → Bool) → ((u p : ℕ) → primary f u ≡ i → Leads (Free m) u p (w.replicas i) (w.stores i) → Leads (Free m) u p t.replica t.store)
        → ((s u p k : ℕ) (to : Party) → who s ≡ true → slice_get t.sends k ≡ Some (record { from = Replica s; to = to; body = PrepareOk u p }) → ⊥)
        → Free m (longer w.order (executed t.replica)) → at_effect f answer w (Ended f who m) used i t
    step i t used leads silent none = record {
      clean = λ s u p l is a. elim (in_append w.sent t.sends a.place _ a.is) [
        | inl old ↦ led_put f answer w told (Free m) i t.replica t.store u p (leads u p) (h.clean s u p l is (record { place = a.place; to = a.to; op_number = a.op_number; reaches = a.reaches; is = old }))
        | inr new ↦ absurd (silent s u a.op_number new.0 a.to is new.1)
      ];
      none = none;
    }

    acts : (i : ℕ) (input : Input C A) (ending : Ending) → i < group_size f → is_down (w.replicas i).status ≡ false → Came w e i input
        → at_effect f answer w (Ended f who m) w.used i (effect (w.replicas i) (w.stores i) (by_rule f i answer (w.replicas i) input) ending)
    acts i input ending l up came = step i (effect (w.replicas i) (w.stores i) (by_rule f i answer (w.replicas i) input) ending) w.used
        (λ u p d k. leads_steps f i answer (w.replicas i) input (w.stores i) ending up (told.steady i) (Free m) u p d k)
        (silent ending) (free ending)
      where
        silent : (ending : Ending) → (s u p k : ℕ) (to : Party) → who s ≡ true
            → slice_get (effect (w.replicas i) (w.stores i) (by_rule f i answer (w.replicas i) input) ending).sends k ≡ Some (record { from = Replica s; to = to; body = PrepareOk u p }) → ⊥
        silent (Went Done) s u p k to is d = no_more i input l up came s u p k to is d
        silent (Went (Lost saved)) s u p k to is d = absurd cc
        silent (SaveFailed b) s u p k to is d = absurd cc

        free : (ending : Ending) → Free m (longer w.order (executed (effect (w.replicas i) (w.stores i) (by_rule f i answer (w.replicas i) input) ending).replica))
        free (Went Done) = longer_free (by_rule f i answer (w.replicas i) input).replica (commits i input l came)
        free (Went (Lost saved)) = as_before i
        free (SaveFailed b) = when_down i

    comes_up : (i x : ℕ) (ending : Ending) (used : ℕ → ℕ → Bool)
        → at_effect f answer w (Ended f who m) used i (effect (w.replicas i) (w.stores i) (on_restart f i answer (record (w.replicas i) { stored_view = w.stores i }) x) ending)
    comes_up i x ending used = step i (effect (w.replicas i) (w.stores i) (on_restart f i answer (record (w.replicas i) { stored_view = w.stores i }) x) ending) used leads (silent ending) (free ending)
      where
        leads : (u p : ℕ) → primary f u ≡ i → Leads (Free m) u p (w.replicas i) (w.stores i)
            → Leads (Free m) u p (effect (w.replicas i) (w.stores i) (on_restart f i answer (record (w.replicas i) { stored_view = w.stores i }) x) ending).replica
            (effect (w.replicas i) (w.stores i) (on_restart f i answer (record (w.replicas i) { stored_view = w.stores i }) x) ending).store
        leads u p d k = effect_cases (Leads (Free m) u p) (w.replicas i) (w.stores i) (on_restart f i answer (record (w.replicas i) { stored_view = w.stores i }) x) ending
            (λ y. record { stores = k.stores; part = λ q. absurd cc; recovering = λ q. k.stores }) k k (leads_down (Free m) u p (w.replicas i) (w.stores i) k.stores) (leads_down (Free m) u p (w.replicas i) (w.stores i) k.stores)

        silent : (ending : Ending) → (s u p k : ℕ) (to : Party) → who s ≡ true
            → slice_get (effect (w.replicas i) (w.stores i) (on_restart f i answer (record (w.replicas i) { stored_view = w.stores i }) x) ending).sends k ≡ Some (record { from = Replica s; to = to; body = PrepareOk u p }) → ⊥
        silent (Went Done) s u p k to is d = asks_only f i answer x (w.stores i) k _ d
        silent (Went (Lost saved)) s u p k to is d = absurd cc
        silent (SaveFailed b) s u p k to is d = absurd cc

        free : (ending : Ending) → Free m (longer w.order (executed (effect (w.replicas i) (w.stores i) (on_restart f i answer (record (w.replicas i) { stored_view = w.stores i }) x) ending).replica))
        free (Went Done) = longer_free (on_restart f i answer (record (w.replicas i) { stored_view = w.stores i }) x).replica (λ past. absurd (omega arith))
        free (Went (Lost saved)) = as_before i
        free (SaveFailed b) = when_down i

    asks : (ms : List (Message C A)) → AllRequests ms → Ended f who m w.replicas w.stores w.used (w.sent ++ ms) w.order
    asks ms all = record {
      clean = λ s u p l is a. elim (in_append w.sent ms a.place _ a.is) [
        | inl old ↦ h.clean s u p l is (record { place = a.place; to = a.to; op_number = a.op_number; reaches = a.reaches; is = old })
        | inr new ↦ absurd (request_at ms all new.0 _ new.1)
      ];
      none = h.none;
    }
      where
        request_at : (ms : List (Message C A)) → AllRequests ms → (k : ℕ) (x : Message C A) → slice_get ms k ≡ Some x → IsRequest x.body
        request_at [] all k x d = absurd cc
        request_at (y ∷ ys) all zero x d = let same : y ≡ x = cc in subst (λ (z : Message C A). IsRequest z.body) same all.0
        request_at (y ∷ ys) all (suc k) x d = request_at ys all.1 k x d

    ended_next : EndedIn (happens f answer w e c)
    ended_next = case_by_case f answer w e c (Ended f who m) (record {
      same = h;
      asks = asks;
      acts = λ i input ending l up came done. acts i input ending l up came;
      crashes = λ i l. step i (record { replica = down (w.replicas i); store = w.stores i; sends = [] }) w.used
          (λ u p d k. leads_down (Free m) u p (w.replicas i) (w.stores i) k.stores) (λ s u p k to is d. absurd cc) (when_down i);
      comes_up = λ i x ending l unused is_down. comes_up i x ending (put w.used i (put (w.used i) x true));
    })

  ended_run : (w : World C A) (es : List (Event C × Completion)) (moment : ℕ) → f + 1 ≤ how_many who (group_size f)
      → ((k i : ℕ) → i < group_size f → who i ≡ true → takes_part ((run f answer (take k es) w).replicas i).status ≡ false) → ToldIn f answer w → EndedIn w → EndedIn (run f answer (take moment es) w)
  ended_run w es zero big out told h = h
  ended_run w [] (suc moment) big out told h = h
  ended_run w (x ∷ xs) (suc moment) big out told h =
      ended_run (happens f answer w x.0 x.1) xs moment big (λ k. out (suc k)) (told_next f answer w told x.0 x.1) (ended_next w x.0 x.1 big (out zero) told h)

-- what holds at the moment itself
ended_first : {C A : Type 0} (f : ℕ) (answer : List C → A) (early : List (Event C × Completion)) (who : ℕ → Bool) (m : Request C)
    → OneHistory f answer early [] → ToldIn f answer (world f answer early) → IsInNoLog f answer early m → EndedIn f answer who m (world f answer early)
ended_first {C} {A} f answer early who m history told out = record {
  clean = λ s u p l is a.
      let k : Led f Any (world f answer early).replicas (world f answer early).stores u a.op_number = told.sent a.place _ a.is in
      record {
        stores = k.stores;
        part = λ e. elim (k.part e) [
          | inl above ↦ inl above
          | inr here ↦ inr (here.0, here.1, omega (arith, here.2, a.reaches), λ among. now (primary f u) (among_whole p ((world f answer early).replicas (primary f u)).log m among))
        ];
        recovering = k.recovering;
      };
  none = λ among. let x = history.was_executed in
      out x.0 x.1 (among_whole _ _ m (subst (λ (xs : List (Request C)). IsAmong xs m) (sym x.2) among));
}
  where
    now : (i : ℕ) → IsAmong ((world f answer early).replicas i).log m → ⊥
    now i among = out (length early) i (subst (λ es. IsAmong ((run f answer es (start {C = C} {A = A})).replicas i).log m) (sym (take_all early)) among)

pub never_committed : {C A : Type 0} (f : ℕ) (answer : List C → A) (early late : List (Event C × Completion)) (who : ℕ → Bool) (nonces : ℕ → ℕ) (m : Request C)
    → ((es more : List (Event C × Completion)) → OneHistory f answer es more) → AreFrozen f answer early late who nonces → IsInNoLog f answer early m → IsNeverCommitted f answer early late m
never_committed {C} {A} f answer early late who nonces m history k out = record {
  order = λ moment. ended moment;
  executed = λ moment i among. ended moment (among_prefix _ _ m (prefix moment i) among);
}
  where
    told : ToldIn f answer (world f answer early)
    told = told_run f answer start early (told_first f answer)

    part : (moment i : ℕ) → i < group_size f → who i ≡ true → takes_part ((run f answer (take moment late) (world f answer early)).replicas i).status ≡ false
    part moment i l is = ((frozen_hold f answer early late who nonces k moment).out i l is).part

    ended : (moment : ℕ) → IsAmong (behind f answer early late moment).order m → ⊥
    ended moment = subst (λ (v : World C A). IsAmong v.order m → ⊥) (sym (run_append f answer early (take moment late) start))
        ((ended_run f answer who m (world f answer early) late moment k.many part told (ended_first f answer early who m (history early []) told out)).none)

    prefix : (moment i : ℕ) → IsPrefix (executed ((behind f answer early late moment).replicas i)) (behind f answer early late moment).order
    prefix moment i =
        let es : List (Event C × Completion) = early ++ take moment late in
        subst (λ ds. IsPrefix (executed ((run f answer ds (start {C = C} {A = A})).replicas i)) (world f answer es).order) (take_all es) ((history es []).executed (length es) i)
