-- In every run: what is told of a view's log its primary holds, or won't lead that view again; and no commit number tells of more than the committed list.
use Rattle.std.proofs.Common.{◌≡◌, ℕ, zero, suc, ◌+◌, ◌<◌, ◌≤◌, max, Bool, true, false, cond, ltb, List, [], ◌∷◌, ◌++◌, length, Option, Some, None, arith, refl, sym, subst, ◌⊎◌, inl, inr}
use Rattle.std.specs.Prelude.{slice_get}
use Rattle.std.proofs.lemmas.Bool.{ltb-true, ltb-false, cases_lt, cases_eq}
use Rattle.vr_model.specs.Logs.{Request}
use Rattle.vr_model.specs.Groups.{group_size, primary}
use Rattle.vr_model.specs.Messages.{PrimaryState, RecoveryResponse, Party, Replica, Client, Body, RequestMessage, Prepare, PrepareOk, Commit, Reply, StartViewChange, DoViewChangeMessage, StartView, Recovery, RecoveryResponseMessage, GetState, NewState, Message}
use Rattle.vr_model.specs.Replicas.{Status, Normal, ViewChange, Recovering, Down, is_normal, is_view_change, is_down, ReplicaState, Outcome, put}
use Rattle.vr_model.specs.Choices.{others}
use Rattle.vr_model.specs.Rules.{on_restart}
use Rattle.vr_model.specs.Views.{IsAcknowledged}
use Rattle.vr_model.specs.World.{World, Event, Completion, Done, Lost, executed, longer, down, Ending, Went, SaveFailed, effect, saved_view, happens, run, start}
use Rattle.vr_model.specs.Steps.{Input, Takes, TimesOut, Resends, by_rule}
use Rattle.laws_cold_start.proofs.Tables.{put_same, put_other, put_cases}
use Rattle.laws_cold_start.proofs.Cases.{IsRequest, AllRequests, Came, at_effect, case_by_case}
use Rattle.laws_cold_start.proofs.Calm.{at_map}
use Rattle.laws_cold_start.proofs.Frozen.{at_append}
use Rattle.laws_cold_start.proofs.Low.{ReplicaLow, BodyLow, Lows, stays_lows, body_more, replica_more, take_short, low_at, stays_restart, lows_by_rule, TookLow}
use Rattle.laws_cold_start.proofs.Tells.{StateTells, BodyTells, AllTell, Kept, Own, OrOwn, Tells, Mine, Took, Acknowledges, tells_by_rule}
use Rattle.laws_cold_start.proofs.Led.{Steady, Leads, steady_down, leads_down, steady_steps, leads_steps}
use Rattle.laws_cold_start.proofs.Statuses.{normal_is_part, normal_or_recovering, normal_or_late}

-- of two tables with one place changed
pub put_both : {X Y : Type 0} (t : ℕ → X) (s : ℕ → Y) (k : ℕ) (x : X) (y : Y) (j : ℕ) → (P : X → Y → Type 0) → (j ≡ k → P x y) → ((j ≡ k → ⊥) → P (t j) (s j)) → P (put t k x j) (put s k y j)
put_both t s k x y j P here there = elim (cases_eq j k) [
  | inl e ↦ subst (λ a. P a (put s k y j)) (sym (put_same t k x j e)) (subst (λ b. P x b) (sym (put_same s k y j e)) (here e))
  | inr d ↦ subst (λ a. P a (put s k y j)) (sym (put_other t k x j d)) (subst (λ b. P (t j) b) (sym (put_other s k y j d)) (there d))
]

pub left_append : {X : Type 0} (xs ys : List X) (k : ℕ) (m : X) → slice_get xs k ≡ Some m → slice_get (xs ++ ys) k ≡ Some m
left_append [] ys k m e = absurd cc
left_append (x ∷ xs) ys zero m e = e
left_append (x ∷ xs) ys (suc k) m e = left_append xs ys k m e

pub in_append : {X : Type 0} (xs ys : List X) (k : ℕ) (m : X) → slice_get (xs ++ ys) k ≡ Some m → (slice_get xs k ≡ Some m) ⊎ ((j : ℕ) × (slice_get ys j ≡ Some m))
in_append [] ys k m e = inr (k, e)
in_append (x ∷ xs) ys zero m e = inl e
in_append (x ∷ xs) ys (suc k) m e = in_append xs ys k m e

-- the primary of view u has its log as far as p, and it meets G
abbrev pub Led : {C : Type 0} → ℕ → (List (Request C) → Type 0) → (ℕ → ReplicaState C) → (ℕ → ℕ) → ℕ → ℕ → Type 0
Led f G standing stores u p = Leads G u p (standing (primary f u)) (stores (primary f u))

abbrev pub Any : {C : Type 0} → List (Request C) → Type 0
Any xs = Unit {0}

less : {C : Type 0} (f : ℕ) (standing : ℕ → ReplicaState C) (stores : ℕ → ℕ) (u p q : ℕ) → q ≤ p → Led f Any standing stores u p → Led f Any standing stores u q
less {C} f standing stores u p q l k = record { stores = k.stores; part = λ e. more (k.part e); recovering = k.recovering }
  where
    more : (u < (standing (primary f u)).view) ⊎ ((is_normal (standing (primary f u)).status ≡ true) × ((standing (primary f u)).view ≡ u) × (p ≤ length (standing (primary f u)).log) × Unit {0})
        → (u < (standing (primary f u)).view) ⊎ ((is_normal (standing (primary f u)).status ≡ true) × ((standing (primary f u)).view ≡ u) × (q ≤ length (standing (primary f u)).log) × Unit {0})
    more (inl a) = inl a
    more (inr a) = inr (a.0, a.1, omega (arith, a.2), tt)

pub record Told {C A : Type 0} (f : ℕ) (standing : ℕ → ReplicaState C) (stores : ℕ → ℕ) (used : ℕ → ℕ → Bool) (messages : List (Message C A)) (order : List (Request C)) : Type 0 where
  pub steady : (i : ℕ) → Steady i (standing i) (stores i)
  pub kept : (i : ℕ) → Kept f i (Led f Any standing stores) (IsAcknowledged messages) (standing i)
  pub sent : (k : ℕ) (m : Message C A) → slice_get messages k ≡ Some m → BodyTells (Led f Any standing stores) m.body
  pub low : (i : ℕ) → ReplicaLow (length order) (standing i)
  pub told : (k : ℕ) (m : Message C A) → slice_get messages k ≡ Some m → BodyLow (length order) m.body

-- of more
state_tells_more : {C : Type 0} (L M : ℕ → ℕ → Type 0) → ((u p : ℕ) → L u p → M u p) → (u : ℕ) (a : Option (PrimaryState C)) → StateTells L u a → StateTells M u a
state_tells_more L M more u None k = tt
state_tells_more L M more u (Some a) k = more u (length a.log) k

tells_more : {C A : Type 0} (L M : ℕ → ℕ → Type 0) → ((u p : ℕ) → L u p → M u p) → (b : Body C A) → BodyTells L b → BodyTells M b
tells_more L M more (RequestMessage m) k = tt
tells_more L M more (Prepare u m p c) k = more u p k
tells_more L M more (PrepareOk u p) k = more u p k
tells_more L M more (Commit u c) k = tt
tells_more L M more (Reply u n a) k = tt
tells_more L M more (StartViewChange u) k = tt
tells_more L M more (DoViewChangeMessage u a) k = tt
tells_more L M more (StartView u c log) k = more u (length log) k
tells_more L M more (Recovery x w) k = tt
tells_more L M more (RecoveryResponseMessage x a) k = state_tells_more L M more a.view a.state k
tells_more L M more (GetState u p) k = tt
tells_more L M more (NewState u p c log) k = more u (p + length log) k

kept_more : {C : Type 0} (f i : ℕ) (L M : ℕ → ℕ → Type 0) (K H : ℕ → ℕ → ℕ → Type 0) → ((u p : ℕ) → L u p → M u p) → ((s u p : ℕ) → K s u p → H s u p) → (r : ReplicaState C) → Kept f i L K r → Kept f i M H r
kept_more f i L M K H more known r k = record {
  normal = λ e. more r.view (length r.log) (k.normal e);
  responses = λ s a e. state_tells_more L M more a.view a.state (k.responses s a e);
  acknowledged = λ e leads s. elim (k.acknowledged e leads s) [ inl z ↦ inl z | inr y ↦ inr (known s r.view (r.acknowledged s) y) ];
}

kept_down : {C : Type 0} (f i : ℕ) (M : ℕ → ℕ → Type 0) (H : ℕ → ℕ → ℕ → Type 0) (r : ReplicaState C) → ((s : ℕ) (a : RecoveryResponse C) → r.responses s ≡ Some a → StateTells M a.view a.state) → Kept f i M H (down r)
kept_down f i M H r k = record { normal = λ e. absurd cc; responses = k; acknowledged = λ e. absurd cc }

pub tell_at : {C A : Type 0} (L : ℕ → ℕ → Type 0) (i : ℕ) (ms : List (Message C A)) → AllTell L i ms → (k : ℕ) (m : Message C A) → slice_get ms k ≡ Some m → (m.from ≡ Replica i) × BodyTells L m.body
tell_at L i [] all k m e = absurd cc
tell_at {C} {A} L i (x ∷ xs) all zero m e = let same : x ≡ m = cc in subst (λ (y : Message C A). (y.from ≡ Replica i) × BodyTells L y.body) same all.0
tell_at L i (x ∷ xs) all (suc k) m e = tell_at L i xs all.1 k m e

requests_tell : {C A : Type 0} (L : ℕ → ℕ → Type 0) (n : ℕ) (ms : List (Message C A)) → AllRequests ms → (k : ℕ) (m : Message C A) → slice_get ms k ≡ Some m → BodyTells L m.body × BodyLow n m.body
requests_tell L n [] all k m e = absurd cc
requests_tell {C} {A} L n (x ∷ xs) all zero m e = let same : x ≡ m = cc in subst (λ (y : Message C A). BodyTells L y.body × BodyLow n y.body) same (go x.body all.0)
  where
    go : (b : Body C A) → IsRequest b → BodyTells L b × BodyLow n b
    go (RequestMessage q) k = (tt, tt)
    go (Prepare u q p c) k = absurd k
    go (PrepareOk u p) k = absurd k
    go (Commit u c) k = absurd k
    go (Reply u q a) k = absurd k
    go (StartViewChange u) k = absurd k
    go (DoViewChangeMessage u a) k = absurd k
    go (StartView u c log) k = absurd k
    go (Recovery y w) k = absurd k
    go (RecoveryResponseMessage y a) k = absurd k
    go (GetState u p) k = absurd k
    go (NewState u p c log) k = absurd k
requests_tell L n (x ∷ xs) all (suc k) m e = requests_tell L n xs all.1 k m e

-- how long the committed list is behind a step
pub longer_is : {C A : Type 0} (f i : ℕ) (order : List (Request C)) (r : ReplicaState C) (o : Outcome C A) → Lows f i (length order) r o → length (longer order (executed o.replica)) ≡ max (length order) o.replica.commit_number
longer_is {C} f i order r o l = go (ltb (length order) (length (executed o.replica))) refl
  where
    n : ℕ
    n = length order

    go : (b : Bool) → ltb (length order) (length (executed o.replica)) ≡ b → length (cond b (executed o.replica) order) ≡ max (length order) o.replica.commit_number
    go true e =
        let more : length order < length (executed o.replica) = ltb-true _ _ e in
        let short : length (executed o.replica) ≤ o.replica.commit_number = take_short o.replica.commit_number o.replica.log in
        let long : length (executed o.replica) ≡ o.replica.commit_number = l.whole (omega arith) in
        omega arith
    go false e =
        let at_most : length (executed o.replica) ≤ length order = ltb-false _ _ e in
        elim (cases_lt (length order) o.replica.commit_number) [
          | inl past ↦ absurd (omega (arith, l.whole past))
          | inr le ↦ omega arith
        ]

-- where no more is executed the list stays
pub longer_stays : {C : Type 0} (order : List (Request C)) (r : ReplicaState C) → r.commit_number ≤ length order → longer order (executed r) ≡ order
longer_stays order r l = go (ltb (length order) (length (executed r))) refl
  where
    go : (b : Bool) → ltb (length order) (length (executed r)) ≡ b → cond b (executed r) order ≡ order
    go true e =
        let more : length order < length (executed r) = ltb-true _ _ e in
        let short : length (executed r) ≤ r.commit_number = take_short r.commit_number r.log in
        absurd (omega arith)
    go false e = refl

module _ {C A : Type 0} (f : ℕ) (answer : List C → A) where
  abbrev pub ToldIn : World C A → Type 0
  ToldIn w = Told f w.replicas w.stores w.used w.sent w.order

  module _ (w : World C A) (h : ToldIn w) where
    abbrev pub L : ℕ → ℕ → Type 0
    L = Led f Any w.replicas w.stores

    -- replica i and its store are these now
    pub led_put : (G : List (Request C) → Type 0) (i : ℕ) (r : ReplicaState C) (stored u p : ℕ) → (primary f u ≡ i → Leads G u p (w.replicas i) (w.stores i) → Leads G u p r stored)
        → Led f G w.replicas w.stores u p → Led f G (put w.replicas i r) (put w.stores i stored) u p
    led_put G i r stored u p step l = put_both w.replicas w.stores i r stored (primary f u) (Leads G u p)
        (λ e. step e (subst (λ j. Leads G u p (w.replicas j) (w.stores j)) e l)) (λ d. l)

    abbrev pub K : ℕ → ℕ → ℕ → Type 0
    K = IsAcknowledged w.sent

    fewer : (u p q : ℕ) → q ≤ p → L u p → L u q
    fewer u p q l k = less f w.replicas w.stores u p q l k

    took : (e : Event C) (i : ℕ) (input : Input C A) → Came w e i input → Took f i answer L K fewer input
    took e i (Takes m) came = (h.sent came.0 m came.2, acks m.from m.body refl refl)
      where
        acks : (p : Party) (b : Body C A) → m.from ≡ p → m.body ≡ b → Acknowledges f i answer L K fewer p b
        acks (Replica s) (PrepareOk u p) from body = record {
          place = came.0;
          to = m.to;
          op_number = p;
          reaches = omega arith;
          is = subst (λ (b : Body C A). slice_get w.sent came.0 ≡ Some (record { from = Replica s; to = m.to; body = b })) body
              (subst (λ q. slice_get w.sent came.0 ≡ Some (record { from = q; to = m.to; body = m.body })) from came.2);
        }
        acks (Replica s) (RequestMessage q) from body = tt
        acks (Replica s) (Prepare u q p c) from body = tt
        acks (Replica s) (Commit u c) from body = tt
        acks (Replica s) (Reply u n a) from body = tt
        acks (Replica s) (StartViewChange u) from body = tt
        acks (Replica s) (DoViewChangeMessage u a) from body = tt
        acks (Replica s) (StartView u c log) from body = tt
        acks (Replica s) (Recovery x v) from body = tt
        acks (Replica s) (RecoveryResponseMessage x a) from body = tt
        acks (Replica s) (GetState u p) from body = tt
        acks (Replica s) (NewState u p c log) from body = tt
        acks (Client c) b from body = tt
    took e i TimesOut came = tt
    took e i Resends came = tt

    took_low : (e : Event C) (i : ℕ) (input : Input C A) → Came w e i input → TookLow f i answer (length w.order) input
    took_low e i (Takes m) came = h.told came.0 m came.2
    took_low e i TimesOut came = tt
    took_low e i Resends came = tt

    mine : (i : ℕ) → Mine f i answer L K fewer (w.replicas i)
    mine i u p l leads part behind = go behind (here.part part)
      where
        here : Leads Any u p (w.replicas i) (w.stores i)
        here = subst (λ j. Leads Any u p (w.replicas j) (w.stores j)) leads l

        go : ((w.replicas i).view < u) ⊎ ((is_view_change (w.replicas i).status ≡ true) × ((w.replicas i).view ≡ u))
            → (u < (w.replicas i).view) ⊎ ((is_normal (w.replicas i).status ≡ true) × ((w.replicas i).view ≡ u) × (p ≤ length (w.replicas i).log) × Unit {0}) → ⊥
        go (inl a) (inl b) = absurd (omega arith)
        go (inl a) (inr b) = absurd (omega (arith, b.1))
        go (inr a) (inl b) = absurd (omega (arith, a.1))
        go (inr a) (inr b) = absurd (normal_or_late _ b.0 a.0)

    pub tells_here : (e : Event C) (i : ℕ) (input : Input C A) → Came w e i input → Tells f i L K (by_rule f i answer (w.replicas i) input)
    tells_here e i input came = tells_by_rule f i answer L K fewer (w.replicas i) input (h.kept i) (mine i) (λ k. (h.steady i).own k) (took e i input came)

    pub lows_here : (e : Event C) (i : ℕ) (input : Input C A) → Came w e i input → Lows f i (length w.order) (w.replicas i) (by_rule f i answer (w.replicas i) input)
    lows_here e i input came = lows_by_rule f i answer (length w.order) (w.replicas i) input (h.low i) (took_low e i input came)

    normal_up : (r : ReplicaState C) → is_normal r.status ≡ true → is_down r.status ≡ false
    normal_up r e = go r.status e
      where
        go : (s : Status) → is_normal s ≡ true → is_down s ≡ false
        go Normal k = refl
        go ViewChange k = absurd cc
        go Recovering k = absurd cc
        go Down k = absurd cc

    step : (i : ℕ) (o : Outcome C A) (stored : ℕ) (used : ℕ → ℕ → Bool)
        → Steady i o.replica stored
        → ((u p : ℕ) → primary f u ≡ i → Leads Any u p (w.replicas i) (w.stores i) → Leads Any u p o.replica stored)
        → Lows f i (length w.order) (w.replicas i) o
        → ((M : ℕ → ℕ → Type 0) (H : ℕ → ℕ → ℕ → Type 0) → ((u p : ℕ) → L u p → M u p) → ((u p : ℕ) → Own f i o.replica u p → M u p) → ((s u p : ℕ) → K s u p → H s u p)
        → (Kept f i M H o.replica) × ((k : ℕ) (m : Message C A) → slice_get o.sends k ≡ Some m → BodyTells M m.body))
        → Told f (put w.replicas i o.replica) (put w.stores i stored) used (w.sent ++ o.sends) (longer w.order (executed o.replica))
    step i o stored used steady leads lows tells =
        let n : ℕ = length w.order in
        let top : ℕ = length (longer w.order (executed o.replica)) in
        let long : top ≡ max n o.replica.commit_number = longer_is f i w.order (w.replicas i) o lows in
        let M : ℕ → ℕ → Type 0 = Led f Any (put w.replicas i o.replica) (put w.stores i stored) in
        let H : ℕ → ℕ → ℕ → Type 0 = IsAcknowledged (w.sent ++ o.sends) in
        let more : (u p : ℕ) → L u p → M u p = (λ u p l. led_put Any i o.replica stored u p (leads u p) l) in
        let known : (s u p : ℕ) → K s u p → H s u p = (λ s u p a. record { place = a.place; to = a.to; op_number = a.op_number; reaches = a.reaches; is = left_append w.sent o.sends a.place _ a.is }) in
        let own : (u p : ℕ) → Own f i o.replica u p → M u p = (λ u p a. put_both w.replicas w.stores i o.replica stored (primary f u) (Leads Any u p)
        (λ e. record {
          stores = omega (arith, a.view, steady.even (normal_is_part _ a.normal), steady.stores (normal_up o.replica a.normal));
          part = λ q. inr (a.normal, a.view, a.holds, tt);
          recovering = λ q. absurd (normal_or_recovering _ a.normal q);
        })
        (λ d. absurd (d a.leads))) in
        let t = tells M H more own known in
        record {
          steady = λ j. put_both w.replicas w.stores i o.replica stored j (Steady j) (λ e. subst (λ k. Steady k o.replica stored) (sym e) steady) (λ d. h.steady j);
          kept = λ j. put_cases w.replicas i o.replica j (Kept f j M H) (λ e. subst (λ k. Kept f k M H o.replica) (sym e) t.0) (λ d. kept_more f j L M K H more known (w.replicas j) (h.kept j));
          sent = at_append (λ (m : Message C A). BodyTells M m.body) w.sent o.sends (λ k m e. tells_more L M more m.body (h.sent k m e)) t.1;
          low = λ j. put_cases w.replicas i o.replica j (ReplicaLow top) (λ e. subst (λ y. ReplicaLow y o.replica) (sym long) lows.replica) (λ d. replica_more n top (w.replicas j) (omega (arith, long)) (h.low j));
          told = at_append (λ (m : Message C A). BodyLow top m.body) w.sent o.sends (λ k m e. body_more n top m.body (omega (arith, long)) (h.told k m e))
              (λ k m e. subst (λ y. BodyLow y m.body) (sym long) (low_at (max n o.replica.commit_number) o.sends k lows.sends m e));
        }

    -- a step that sends nothing
    abbrev silent : ReplicaState C → Outcome C A
    silent r = record { replica = r; saves = None; sends = [] }

    as_it_was : (i stored : ℕ) (used : ℕ → ℕ → Bool) → Steady i (w.replicas i) stored → ((u p : ℕ) → primary f u ≡ i → Leads Any u p (w.replicas i) (w.stores i) → Leads Any u p (w.replicas i) stored)
        → Told f (put w.replicas i (w.replicas i)) (put w.stores i stored) used (w.sent ++ []) (longer w.order (executed (w.replicas i)))
    as_it_was i stored used steady leads = step i (silent (w.replicas i)) stored used steady leads
        (stays_lows f i (length w.order) (w.replicas i) (silent (w.replicas i)) (record { replica = h.low i; sends = tt }))
        (λ M H more own known. (kept_more f i L M K H more known (w.replicas i) (h.kept i), λ k m e. absurd cc))

    now_down : (i stored : ℕ) (used : ℕ → ℕ → Bool) → ((u p : ℕ) → primary f u ≡ i → Leads Any u p (w.replicas i) (w.stores i) → u ≤ stored)
        → Told f (put w.replicas i (down (w.replicas i))) (put w.stores i stored) used (w.sent ++ []) (longer w.order (executed (down (w.replicas i))))
    now_down i stored used leads = step i (silent (down (w.replicas i))) stored used (steady_down i (w.replicas i) stored) (λ u p e l. leads_down Any u p (w.replicas i) stored (leads u p e l))
        (stays_lows f i (length w.order) (w.replicas i) (silent (down (w.replicas i))) (record { replica = record { commit = omega arith; changes = (h.low i).changes; responses = (h.low i).responses }; sends = tt }))
        (λ M H more own known. (kept_down f i M H (w.replicas i) (λ s a e. state_tells_more L M more a.view a.state ((h.kept i).responses s a e)), λ k m e. absurd cc))

    acts : (e : Event C) (i : ℕ) (input : Input C A) (ending : Ending) → is_down (w.replicas i).status ≡ false → Came w e i input
        → at_effect f answer w (Told f) w.used i (effect (w.replicas i) (w.stores i) (by_rule f i answer (w.replicas i) input) ending)
    acts e i input (Went Done) up came =
        let o : Outcome C A = by_rule f i answer (w.replicas i) input in
        let t : Tells f i L K o = tells_here e i input came in
        step i o (saved_view (w.stores i) o.saves) w.used (steady_steps f i answer (w.replicas i) input (w.stores i) (Went Done) up (h.steady i))
        (λ u p d l. leads_steps f i answer (w.replicas i) input (w.stores i) (Went Done) up (h.steady i) Any u p d l)
        (lows_here e i input came)
        (λ M H more own known.
        let or_own : (u p : ℕ) → OrOwn f i L o.replica u p → M u p = (λ u p y. elim y [ inl l ↦ more u p l | inr a ↦ own u p a ]) in (
          record {
            normal = λ d. or_own o.replica.view (length o.replica.log) (t.normal d);
            responses = λ s a d. state_tells_more L M more a.view a.state (t.responses s a d);
            acknowledged = λ d leads s. elim (t.acknowledged d leads s) [ inl z ↦ inl z | inr y ↦ inr (known s o.replica.view (o.replica.acknowledged s) y) ];
          },
          λ k m d. tells_more (OrOwn f i L o.replica) M or_own m.body (tell_at (OrOwn f i L o.replica) i o.sends t.sends k m d).1,
        ))
    acts e i input (Went (Lost saved)) up came = as_it_was i _ w.used (steady_steps f i answer (w.replicas i) input (w.stores i) (Went (Lost saved)) up (h.steady i))
        (λ u p d l. leads_steps f i answer (w.replicas i) input (w.stores i) (Went (Lost saved)) up (h.steady i) Any u p d l)
    acts e i input (SaveFailed keeps_new) up came = now_down i _ w.used
        (λ u p d l. (leads_steps f i answer (w.replicas i) input (w.stores i) (SaveFailed keeps_new) up (h.steady i) Any u p d l).stores)

    comes_up : (i x : ℕ) (ending : Ending) (used : ℕ → ℕ → Bool)
        → at_effect f answer w (Told f) used i (effect (w.replicas i) (w.stores i) (on_restart f i answer (record (w.replicas i) { stored_view = w.stores i }) x) ending)
    comes_up i x (Went Done) used =
        let o : Outcome C A = on_restart f i answer (record (w.replicas i) { stored_view = w.stores i }) x in
        step i o (w.stores i) used (record { even = λ e. absurd cc; stores = λ e. omega arith; own = λ e. refl })
        (λ u p d l. record { stores = l.stores; part = λ e. absurd cc; recovering = λ e. l.stores })
        (stays_lows f i (length w.order) (w.replicas i) o (stays_restart f i answer (length w.order) (record (w.replicas i) { stored_view = w.stores i }) x))
        (λ M H more own known. (
          record { normal = λ e. absurd cc; responses = λ s a e. absurd cc; acknowledged = λ e. absurd cc },
          at_map f i answer (λ (m : Message C A). BodyTells M m.body) (Recovery x (w.stores i)) (λ to. tt) (others i (group_size f)),
        ))
    comes_up i x (Went (Lost true)) used = as_it_was i (w.stores i) used (h.steady i) (λ u p d l. l)
    comes_up i x (Went (Lost false)) used = as_it_was i (w.stores i) used (h.steady i) (λ u p d l. l)
    comes_up i x (SaveFailed true) used = now_down i (w.stores i) used (λ u p d l. l.stores)
    comes_up i x (SaveFailed false) used = now_down i (w.stores i) used (λ u p d l. l.stores)

    asks : (ms : List (Message C A)) → AllRequests ms → Told f w.replicas w.stores w.used (w.sent ++ ms) w.order
    asks ms all = record {
      steady = h.steady;
      kept = λ j. kept_more f j L L K (IsAcknowledged (w.sent ++ ms)) (λ u p l. l)
          (λ s u p a. record { place = a.place; to = a.to; op_number = a.op_number; reaches = a.reaches; is = left_append w.sent ms a.place _ a.is }) (w.replicas j) (h.kept j);
      sent = at_append (λ (m : Message C A). BodyTells L m.body) w.sent ms h.sent (λ k m e. (requests_tell L (length w.order) ms all k m e).0);
      low = h.low;
      told = at_append (λ (m : Message C A). BodyLow (length w.order) m.body) w.sent ms h.told (λ k m e. (requests_tell L (length w.order) ms all k m e).1);
    }

    pub told_next : (e : Event C) (c : Completion) → ToldIn (happens f answer w e c)
    told_next e c = case_by_case f answer w e c (Told f) (record {
      same = h;
      asks = asks;
      acts = λ i input ending l up came done. acts e i input ending up came;
      crashes = λ i l. now_down i (w.stores i) w.used (λ u p d k. k.stores);
      comes_up = λ i x ending l unused is_down. comes_up i x ending (put w.used i (put (w.used i) x true));
    })

  pub told_run : (w : World C A) (es : List (Event C × Completion)) → ToldIn w → ToldIn (run f answer es w)
  told_run w [] h = h
  told_run w (x ∷ xs) h = told_run (happens f answer w x.0 x.1) xs (told_next w h x.0 x.1)

  pub told_first : ToldIn (start {C = C} {A = A})
  told_first = record {
    steady = λ i. record { even = λ e. refl; stores = λ e. omega arith; own = λ e. absurd cc };
    kept = λ i. record { normal = λ e. record { stores = omega arith; part = λ q. inr (refl, refl, (omega arith), tt); recovering = λ q. absurd cc }; responses = λ s a e. absurd cc; acknowledged = λ e leads s. inl refl };
    sent = λ k m e. absurd cc;
    low = λ i. record { commit = omega arith; changes = λ s. tt; responses = λ s. tt };
    told = λ k m e. absurd cc;
  }
