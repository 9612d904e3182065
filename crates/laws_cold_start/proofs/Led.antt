-- What the primary of a view has of its log: it keeps it while it leads, and never leads that view again.
use Rattle.std.proofs.Common.{◌≡◌, ℕ, zero, suc, ◌+◌, ◌<◌, ◌≤◌, Bool, true, false, cond, not, ◌==◌, leb, ltb, ◌&&◌, List, [], ◌∷◌, ◌++◌, length, take, map, Option, Some, None, arith, refl, sym, ap, ◌∙◌, subst, ◌⊎◌, inl, inr}
use Rattle.std.specs.Prelude.{slice_get, is_some}
use Rattle.std.proofs.lemmas.Grind.{common_steps}
use Rattle.std.proofs.lemmas.Bool.{leb-true, ltb-false, eq-eqb, and_parts, cases_lt}
use Rattle.vr_model.specs.Logs.{Request, IsPrefix}
use Rattle.vr_model.specs.Groups.{group_size, primary, how_many, client_count}
use Rattle.vr_model.specs.Messages.{PrimaryState, RecoveryResponse, Party, Replica, Client, Body, RequestMessage, Prepare, PrepareOk, Commit, Reply, StartViewChange, DoViewChangeMessage, StartView, Recovery, RecoveryResponseMessage, GetState, NewState, Message}
use Rattle.vr_model.specs.Replicas.{Recovering, is_normal, is_recovering, takes_part, is_down, ReplicaState, Outcome, put}
use Rattle.vr_model.specs.Choices.{others, kept_response, latest, state_of}
use Rattle.vr_model.specs.Rules.{keep, send, send_others, recovers, recovers_with, on_timeout, on_resend, on_recovery_response, receives}
use Rattle.vr_model.specs.World.{Done, Lost, Ending, Went, SaveFailed, Effect, effect, saved_view, down}
use Rattle.vr_model.specs.Steps.{Input, Takes, TimesOut, Resends, by_rule}
use Rattle.laws_cold_start.proofs.Statuses.{only_recovering, not_down, part_or_recovering, normal_or_recovering}
use Rattle.laws_cold_start.proofs.Tables.{put_other}
use Rattle.laws_cold_start.proofs.Frozen.{stays_receives, IsAnswer}
use Rattle.laws_cold_start.proofs.Ahead.{SavesFrom, ahead_by_rule}

-- no PREPAREOK
abbrev pub NoPrepareOk : {C A : Type 0} → Body C A → Type 0
NoPrepareOk (PrepareOk u p) = ⊥
NoPrepareOk _ = Unit {0}

pub saved_from : (n stored : ℕ) (a : Option ℕ) → n ≤ stored → SavesFrom n a → n ≤ saved_view stored a
saved_from n stored None l k = l
saved_from n stored (Some u) l k = k

saves_below : (n m : ℕ) (a : Option ℕ) → n ≤ m → SavesFrom m a → SavesFrom n a
saves_below n m None l k = tt
saves_below n m (Some u) l k = omega arith

-- A replica that recovers goes on to recover, or is normal in a view that another leads, none below what its store keeps.
pub record Waits {C A : Type 0} (i : ℕ) (r : ReplicaState C) (o : Outcome C A) : Type 0 where
  pub recovering : is_recovering o.replica.status ≡ true
  pub stored : o.replica.stored_view ≡ r.stored_view
  pub own : o.replica.responses i ≡ None
  pub saves : o.saves ≡ None

pub record Turned {C A : Type 0} (f i : ℕ) (r : ReplicaState C) (o : Outcome C A) : Type 0 where
  pub normal : is_normal o.replica.status ≡ true
  pub even : o.replica.stored_view ≡ o.replica.view
  pub above : r.stored_view ≤ o.replica.view
  pub apart : primary f o.replica.view ≡ i → ⊥
  pub saves : SavesFrom r.stored_view o.saves
  pub kept : (stored : ℕ) → r.stored_view ≤ stored → o.replica.view ≤ saved_view stored o.saves

pub record Back {C A : Type 0} (f i : ℕ) (r : ReplicaState C) (o : Outcome C A) : Type 0 where
  pub sends : (k : ℕ) (m : Message C A) → slice_get o.sends k ≡ Some m → NoPrepareOk m.body
  pub on : Waits i r o ⊎ Turned f i r o

module _ {C A : Type 0} (f i : ℕ) (answer : List C → A) where
  back_keep : (r q : ReplicaState C) → is_recovering q.status ≡ true → q.stored_view ≡ r.stored_view → q.responses i ≡ None → Back f i r (keep {A = A} f i answer q)
  back_keep r q e stored own = record { sends = λ k m d. absurd cc; on = inl (record { recovering = e; stored = stored; own = own; saves = refl }) }

  back_with : (r q : ReplicaState C) (w : ℕ) (a : Option (PrimaryState C)) → is_recovering q.status ≡ true → q.stored_view ≡ r.stored_view → q.responses i ≡ None → r.stored_view ≤ w → (is_some a ≡ true → primary f w ≡ i → ⊥)
      → Back f i r (recovers_with {A = A} f i answer q w a)
  back_with r q w None e stored own l apart = back_keep r q e stored own
  back_with r q w (Some a) e stored own l apart = record {
    sends = λ k m d. absurd cc;
    on = inr (record {
      normal = refl;
      even = omega (arith, stored);
      above = l;
      apart = apart refl;
      saves = from (ltb q.stored_view w);
      kept = λ st k. keeps st k (ltb q.stored_view w) refl;
    });
  }
    where
      from : (b : Bool) → SavesFrom r.stored_view (cond b (Some w) None)
      from true = l
      from false = tt

      keeps : (st : ℕ) → r.stored_view ≤ st → (b : Bool) → ltb q.stored_view w ≡ b → w ≤ saved_view st (cond b (Some w) None)
      keeps st k true e = omega arith
      keeps st k false e = omega (arith, ltb-false q.stored_view w e, stored)

  back_if : (r : ReplicaState C) (b : Bool) (x y : Outcome C A) → (b ≡ true → Back f i r x) → Back f i r y → Back f i r (cond b x y)
  back_if r true x y first second = first refl
  back_if r false x y first second = second

  back_recovers : (r q : ReplicaState C) → is_recovering q.status ≡ true → q.stored_view ≡ r.stored_view → q.responses i ≡ None → Back f i r (recovers {A = A} f i answer q)
  back_recovers r q e stored own =
      let w : ℕ = latest q.responses (group_size f) in
      back_if r _ _ _
      (λ b. let p = and_parts (leb (f + 1) (how_many (λ s. is_some (q.responses s)) (group_size f))) (leb q.stored_view w) b in
      back_with r q w (state_of w (q.responses (primary f w))) e stored own (omega (arith, stored, leb-true _ _ p.1))
      (λ some leads. absurd (let none : state_of w (q.responses (primary f w)) ≡ None = ap (λ y. state_of w y) (ap q.responses leads ∙ own) in
      let c : false ≡ true = sym (ap is_some none) ∙ some in cc)))
      (back_keep r q e stored own)

  back_receives : (r : ReplicaState C) (m : Message C A) → is_recovering r.status ≡ true → r.responses i ≡ None → Back f i r (receives f i answer r m.from m.body)
  back_receives r m e own = go m.from m.body
    where
      now : r ≡ record r { status = Recovering }
      now = ap (λ t. record r { status = t }) (only_recovering r.status e)

      as_before : (p : Party) (b : Body C A) → (IsAnswer b → ⊥) → Back f i r (receives f i answer r p b)
      as_before p b other = subst (Back f i r) (sym (ap (λ (q : ReplicaState C). receives f i answer q p b) now ∙ stays_receives f i answer r p b other ∙ ap (λ (q : ReplicaState C). keep {A = A} f i answer q) (sym now))) (back_keep r r e refl own)

      answered : (s x : ℕ) (a : RecoveryResponse C) → (s ≡ i → ⊥) → Back f i r (on_recovery_response f i answer r s x a)
      answered s x a apart = back_if r (is_recovering r.status && (r.nonce == x)) _ _
          (λ b. back_recovers r (record r { responses = put r.responses s (Some (kept_response (r.responses s) a)) }) e refl (put_other r.responses s (Some (kept_response (r.responses s) a)) i (λ d. apart (sym d)) ∙ own))
          (back_keep r r e refl own)

      not_own : (s : ℕ) → not (s == i) ≡ true → s ≡ i → ⊥
      not_own s n d = let same : (s == i) ≡ true = eq-eqb s i d in absurd (let c : not true ≡ true = subst (λ b. not b ≡ true) same n in cc)

      go : (p : Party) (b : Body C A) → Back f i r (receives f i answer r p b)
      go (Replica s) (RecoveryResponseMessage x a) = back_if r (ltb s (group_size f) && not (s == i)) _ _ (λ n. answered s x a (not_own s (and_parts (ltb s (group_size f)) (not (s == i)) n).1)) (back_keep r r e refl own)
      go (Client c) (RecoveryResponseMessage x a) = back_if r (ltb c client_count) _ _ (λ n. back_keep r r e refl own) (back_keep r r e refl own)
      go p (RequestMessage q) = as_before p (RequestMessage q) (λ k. k)
      go p (Prepare u q o c) = as_before p (Prepare u q o c) (λ k. k)
      go p (PrepareOk u o) = as_before p (PrepareOk u o) (λ k. k)
      go p (Commit u c) = as_before p (Commit u c) (λ k. k)
      go p (Reply u q a) = as_before p (Reply u q a) (λ k. k)
      go p (StartViewChange u) = as_before p (StartViewChange u) (λ k. k)
      go p (DoViewChangeMessage u a) = as_before p (DoViewChangeMessage u a) (λ k. k)
      go p (StartView u c log) = as_before p (StartView u c log) (λ k. k)
      go p (Recovery y w) = as_before p (Recovery y w) (λ k. k)
      go p (GetState u o) = as_before p (GetState u o) (λ k. k)
      go p (NewState u o c log) = as_before p (NewState u o c log) (λ k. k)

  asked : (x v : ℕ) (to : List ℕ) (k : ℕ) (m : Message C A) → slice_get (map (λ t. send f i answer t (Recovery x v)) to) k ≡ Some m → NoPrepareOk m.body
  asked x v [] k m e = absurd cc
  asked x v (t ∷ ts) zero m e = let same : send f i answer t (Recovery x v) ≡ m = cc in subst (λ (y : Message C A). NoPrepareOk y.body) same tt
  asked x v (t ∷ ts) (suc k) m e = asked x v ts k m e

  pub asks_only : (x v : ℕ) (k : ℕ) (m : Message C A) → slice_get (send_others f i answer (Recovery x v)) k ≡ Some m → NoPrepareOk m.body
  asks_only x v = asked x v (others i (group_size f))

  pub back_by_rule : (r : ReplicaState C) (input : Input C A) → is_recovering r.status ≡ true → r.responses i ≡ None → Back f i r (by_rule f i answer r input)
  back_by_rule r (Takes m) e own = back_receives r m e own
  back_by_rule r TimesOut e own =
      let now : r ≡ record r { status = Recovering } = ap (λ t. record r { status = t }) (only_recovering r.status e) in
      subst (Back f i r) (sym (ap (λ (q : ReplicaState C). on_timeout {A = A} f i answer q) now ∙ ap (λ (q : ReplicaState C). keep {A = A} f i answer q) (sym now))) (back_keep r r e refl own)
  back_by_rule r Resends e own =
      let now : r ≡ record r { status = Recovering } = ap (λ t. record r { status = t }) (only_recovering r.status e) in
      subst (λ (q : ReplicaState C). Back f i q (on_resend {A = A} f i answer q)) (sym now)
      (record { sends = asks_only r.nonce r.stored_view; on = inl (record { recovering = refl; stored = refl; own = own; saves = refl }) })

-- a replica and its store: what it knows of it
pub record Steady {C : Type 0} (i : ℕ) (r : ReplicaState C) (stored : ℕ) : Type 0 where
  pub even : takes_part r.status ≡ true → r.stored_view ≡ r.view
  pub stores : is_down r.status ≡ false → r.stored_view ≤ stored
  pub own : is_recovering r.status ≡ true → r.responses i ≡ None

-- The primary of view u: it is normal in it, and its log has come as far as p and meets G there; or it won't be normal in it again.
pub record Leads {C : Type 0} (G : List (Request C) → Type 0) (u p : ℕ) (r : ReplicaState C) (stored : ℕ) : Type 0 where
  pub stores : u ≤ stored
  pub part : takes_part r.status ≡ true → (u < r.view) ⊎ ((is_normal r.status ≡ true) × (r.view ≡ u) × (p ≤ length r.log) × G (take p r.log))
  pub recovering : is_recovering r.status ≡ true → u ≤ r.stored_view

prefix_take : {X : Type 0} (p : ℕ) (xs ys : List X) → IsPrefix xs ys → p ≤ length xs → (p ≤ length ys) × (take p ys ≡ take p xs)
prefix_take {X} p xs ys k l = (long, same)
  where
    append_take : (rest : List X) → take p (xs ++ rest) ≡ take p xs
    append_take rest = grind (arith, common_steps)

    append_long : (rest : List X) → p ≤ length (xs ++ rest)
    append_long rest = grind (arith, common_steps)

    long : p ≤ length ys
    long = subst (λ l. p ≤ length l) k.is (append_long k.rest)

    same : take p ys ≡ take p xs
    same = ap (take p) (sym k.is) ∙ append_take k.rest

module _ {C A : Type 0} (f i : ℕ) (answer : List C → A) (r : ReplicaState C) (input : Input C A) where
  abbrev outcome : Outcome C A
  outcome = by_rule f i answer r input

  -- by the rule
  pub steady_saves : (stored : ℕ) → is_down r.status ≡ false → Steady i r stored → SavesFrom r.stored_view outcome.saves
  steady_saves stored up k = elim (not_down r.status up) [
    | inl p ↦ let a = ahead_by_rule f i answer r input p (k.even p) in saves_below r.stored_view r.view outcome.saves (omega (arith, k.even p)) a.saves
    | inr e ↦ elim ((back_by_rule f i answer r input e (k.own e)).on) [
      | inl w ↦ subst (SavesFrom r.stored_view) (sym w.saves) tt
      | inr t ↦ t.saves
    ]
  ]

  pub steady_done : (stored : ℕ) → is_down r.status ≡ false → Steady i r stored → Steady i outcome.replica (saved_view stored outcome.saves)
  steady_done stored up k = elim (not_down r.status up) [
    | inl p ↦ let a = ahead_by_rule f i answer r input p (k.even p) in record {
      even = λ q. a.even;
      stores = λ q. omega (arith, a.even, a.kept stored (omega (arith, k.even p, k.stores up)));
      own = λ q. absurd (part_or_recovering _ a.part q);
    }
    | inr e ↦ elim ((back_by_rule f i answer r input e (k.own e)).on) [
      | inl w ↦ record {
        even = λ q. absurd (part_or_recovering _ q w.recovering);
        stores = λ q. subst (λ y. outcome.replica.stored_view ≤ saved_view stored y) (sym w.saves) (omega (arith, w.stored, k.stores up));
        own = λ q. w.own;
      }
      | inr t ↦ record {
        even = λ q. t.even;
        stores = λ q. omega (arith, t.even, t.kept stored (k.stores up));
        own = λ q. absurd (normal_or_recovering _ t.normal q);
      }
    ]
  ]

  module _ (G : List (Request C) → Type 0) (u p : ℕ) (leads : primary f u ≡ i) where
    known : (stored : ℕ) → is_down r.status ≡ false → Steady i r stored → Leads G u p r stored → u ≤ r.stored_view
    known stored up k l = elim (not_down r.status up) [
      | inl part ↦ elim (l.part part) [
        | inl above ↦ omega (arith, k.even part)
        | inr here ↦ omega (arith, k.even part, here.1)
      ]
      | inr e ↦ l.recovering e
    ]

    pub leads_lost : (stored : ℕ) → is_down r.status ≡ false → Steady i r stored → Leads G u p r stored → Leads G u p r (saved_view stored outcome.saves)
    leads_lost stored up k l = record {
      stores = saved_from u stored outcome.saves l.stores (saves_below u r.stored_view outcome.saves (known stored up k l) (steady_saves stored up k));
      part = l.part;
      recovering = l.recovering;
    }

    pub leads_done : (stored : ℕ) → is_down r.status ≡ false → Steady i r stored → Leads G u p r stored → Leads G u p outcome.replica (saved_view stored outcome.saves)
    leads_done stored up k l = elim (not_down r.status up) [
      | inl part ↦ let a = ahead_by_rule f i answer r input part (k.even part) in record {
        stores = (leads_lost stored up k l).stores;
        part = λ q. goes_on (l.part part) a.on;
        recovering = λ q. absurd (part_or_recovering _ a.part q);
      }
      | inr e ↦ elim ((back_by_rule f i answer r input e (k.own e)).on) [
        | inl w ↦ record {
          stores = (leads_lost stored up k l).stores;
          part = λ q. absurd (part_or_recovering _ q w.recovering);
          recovering = λ q. omega (arith, w.stored, l.recovering e);
        }
        | inr t ↦ record {
          stores = (leads_lost stored up k l).stores;
          part = λ q. inl (elim (cases_lt u outcome.replica.view) [
            | inl lt ↦ lt
            | inr ge ↦ let same : outcome.replica.view ≡ u = omega (arith, t.above, l.recovering e) in absurd (t.apart (ap (primary f) same ∙ leads))
          ]);
          recovering = λ q. absurd (normal_or_recovering _ t.normal q);
        }
      ]
    ]
      where
        goes_on : (u < r.view) ⊎ ((is_normal r.status ≡ true) × (r.view ≡ u) × (p ≤ length r.log) × G (take p r.log))
            → (r.view < outcome.replica.view) ⊎ ((outcome.replica.view ≡ r.view) × (is_normal r.status ≡ true → primary f r.view ≡ i → (is_normal outcome.replica.status ≡ true) × IsPrefix r.log outcome.replica.log))
            → (u < outcome.replica.view) ⊎ ((is_normal outcome.replica.status ≡ true) × (outcome.replica.view ≡ u) × (p ≤ length outcome.replica.log) × G (take p outcome.replica.log))
        goes_on (inl a) (inl b) = inl (omega arith)
        goes_on (inl a) (inr b) = inl (omega (arith, b.0))
        goes_on (inr a) (inl b) = inl (omega (arith, a.1))
        goes_on (inr a) (inr b) =
            let c = b.1 a.0 (ap (primary f) a.1 ∙ leads) in
            let t = prefix_take p r.log outcome.replica.log c.1 a.2 in
            inr (c.0, b.0 ∙ a.1, t.0, subst G (sym t.1) a.3)

-- what is so of all that a step may leave
pub effect_cases : {C A : Type 0} (Q : ReplicaState C → ℕ → Type 0) (r : ReplicaState C) (stored : ℕ) (o : Outcome C A) (ending : Ending)
    → (ending ≡ Went Done → Q o.replica (saved_view stored o.saves)) → Q r stored → Q r (saved_view stored o.saves) → Q (down r) stored → Q (down r) (saved_view stored o.saves)
    → Q (effect r stored o ending).replica (effect r stored o ending).store
effect_cases Q r stored o (Went Done) a b c d e = a refl
effect_cases Q r stored o (Went (Lost true)) a b c d e = c
effect_cases Q r stored o (Went (Lost false)) a b c d e = b
effect_cases Q r stored o (SaveFailed true) a b c d e = e
effect_cases Q r stored o (SaveFailed false) a b c d e = d

pub steady_down : {C : Type 0} (i : ℕ) (r : ReplicaState C) (stored : ℕ) → Steady i (down r) stored
steady_down i r stored = record { even = λ e. absurd cc; stores = λ e. absurd cc; own = λ e. absurd cc }

pub leads_down : {C : Type 0} (G : List (Request C) → Type 0) (u p : ℕ) (r : ReplicaState C) (stored : ℕ) → u ≤ stored → Leads G u p (down r) stored
leads_down G u p r stored l = record { stores = l; part = λ e. absurd cc; recovering = λ e. absurd cc }

module _ {C A : Type 0} (f i : ℕ) (answer : List C → A) (r : ReplicaState C) (input : Input C A) (stored : ℕ) (ending : Ending) (up : is_down r.status ≡ false) (k : Steady i r stored) where
  abbrev left : Effect C A
  left = effect r stored (by_rule f i answer r input) ending

  pub steady_steps : Steady i left.replica left.store
  steady_steps = effect_cases (Steady i) r stored (by_rule f i answer r input) ending (λ e. steady_done f i answer r input stored up k) k
      (record { even = k.even; stores = λ e. saved_from r.stored_view stored _ (k.stores up) (steady_saves f i answer r input stored up k); own = k.own })
      (steady_down i r stored) (steady_down i r _)

  pub leads_steps : (G : List (Request C) → Type 0) (u p : ℕ) → primary f u ≡ i → Leads G u p r stored → Leads G u p left.replica left.store
  leads_steps G u p leads l =
      let lost = leads_lost f i answer r input G u p leads stored up k l in
      effect_cases (Leads G u p) r stored (by_rule f i answer r input) ending (λ e. leads_done f i answer r input G u p leads stored up k l) l lost
      (leads_down G u p r stored l.stores) (leads_down G u p r _ lost.stores)
