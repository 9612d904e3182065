-- The committed list is one that some replica has executed.
use Rattle.std.proofs.Common.{◌≡◌, ℕ, zero, suc, ◌≤◌, Bool, true, false, cond, not, ltb, ◌||◌, ◌⊎◌, List, [], ◌∷◌, length, take, Option, Some, None, arith, refl, sym, ap, ◌∙◌, inl, inr}
use Rattle.std.specs.Prelude.{slice_get}
use Rattle.vr_model.specs.Groups.{group_size}
use Rattle.vr_model.specs.Messages.{Party, Replica, Client, Body, Reply, Message}
use Rattle.vr_model.specs.Replicas.{ReplicaState, Outcome, put, is_down}
use Rattle.vr_model.specs.Rules.{receives, on_timeout, on_resend, on_restart}
use Rattle.vr_model.specs.World.{Reason, World, Event, Submit, Retry, ClientRestart, Deliver, Timeout, Resend, Crash, Restart, StoreFail, Completion, Done, Lost, executed, down, Ending, Went, SaveFailed, ending_of, becomes, goes, does, if_up, comes_to_client, comes_to, comes, refusal, if_none, steps, happens, run, start}
use Rattle.laws_history.proofs.Tables.{put_same}

-- from w to v the committed list stayed, or some replica has executed what it is in v
abbrev pub Stays : {C A : Type 0} → World C A → World C A → Type 0
Stays w v = (v.order ≡ w.order) ⊎ ((i : ℕ) × (executed (v.replicas i) ≡ v.order))

becomes_stays : {C A : Type 0} (f i : ℕ) (answer : List C → A) (w : World C A) (r : ReplicaState C) (st : ℕ) (ms : List (Message C A)) → Stays w (becomes f answer w i r st ms)
becomes_stays {C} f i answer w r st ms = go (ltb (length w.order) (length (executed r)))
  where
    go : (b : Bool) → (cond b (executed r) w.order ≡ w.order) ⊎ ((j : ℕ) × (executed (put w.replicas i r j) ≡ cond b (executed r) w.order))
    go true = inr (i, ap (λ (x : ReplicaState C). executed x) (put_same w.replicas i r i refl))
    go false = inl refl

goes_stays : {C A : Type 0} (f i : ℕ) (answer : List C → A) (w : World C A) (o : Outcome C A) (ending : Ending) → Stays w (goes f answer w i o ending)
goes_stays f i answer w o (Went Done) = becomes_stays f i answer w o.replica 0 o.sends
goes_stays f i answer w o (Went (Lost s)) = becomes_stays f i answer w (w.replicas i) 0 []
goes_stays f i answer w o (SaveFailed b) = becomes_stays f i answer w (down (w.replicas i)) 0 []

either : {C A : Type 0} (b : Bool) (w v u : World C A) → Stays w v → Stays w u → Stays w (cond b v u)
either true w v u a b = a
either false w v u a b = b

up_stays : {C A : Type 0} (f i : ℕ) (answer : List C → A) (w : World C A) (o : Outcome C A) (l : Completion) → Stays w (if_up f answer w i (does f answer w i o l))
up_stays f i answer w o l = either (is_down (w.replicas i).status || not (ltb i (group_size f))) w w _ (inl refl) (goes_stays f i answer w o (ending_of l o.saves (w.failing i)))

comes_stays : {C A : Type 0} (f : ℕ) (answer : List C → A) (w : World C A) (m : Option (Message C A)) (l : Completion) → Stays w (comes f answer w m l)
comes_stays f answer w None l = inl refl
comes_stays {C} {A} f answer w (Some m) l = to m.to m.body
  where
    client : (c : ℕ) (b : Body C A) → Stays w (comes_to_client f answer w c b)
    client c (Reply v n a) = inl refl
    client c _ = inl refl

    to : (p : Party) (b : Body C A) → Stays w (comes_to f answer w p m.from b l)
    to (Replica i) b = up_stays f i answer w (receives f i answer (w.replicas i) m.from b) l
    to (Client c) b = client c b

steps_stay : {C A : Type 0} (f : ℕ) (answer : List C → A) (w : World C A) (e : Event C) (l : Completion) → Stays w (steps f answer w e l)
steps_stay f answer w (Submit c command) l = inl refl
steps_stay f answer w (Retry c) l = inl refl
steps_stay f answer w (ClientRestart c) l = inl refl
steps_stay f answer w (Deliver n) l = comes_stays f answer w (slice_get w.sent n) l
steps_stay f answer w (Timeout i) l = up_stays f i answer w (on_timeout f i answer (w.replicas i)) l
steps_stay f answer w (Resend i) l = up_stays f i answer w (on_resend f i answer (w.replicas i)) l
steps_stay f answer w (Crash i) l = becomes_stays f i answer w (down (w.replicas i)) (w.stores i) []
steps_stay {C} {A} f answer w (Restart i x) l =
    let v : World C A = record w { used = put w.used i (put (w.used i) x true) } in
    let o : Outcome C A = on_restart f i answer (record (w.replicas i) { stored_view = w.stores i }) x in
    goes_stays f i answer v o (ending_of l o.saves (w.failing i))
steps_stay f answer w (StoreFail i keeps_new) l = inl refl

happens_stays : {C A : Type 0} (f : ℕ) (answer : List C → A) (w : World C A) (e : Event C) (l : Completion) → Stays w (happens f answer w e l)
happens_stays {C} {A} f answer w e l = go (refusal f w e)
  where
    go : (reason : Option Reason) → Stays w (if_none reason (steps f answer w e l) w)
    go None = steps_stay f answer w e l
    go (Some reason) = inl refl

-- of the first e events: the committed list stayed, or some replica has executed it after some of them
run_stays : {C A : Type 0} (f : ℕ) (answer : List C → A) (es : List (Event C × Completion)) (w : World C A) (e : ℕ)
    → ((run f answer (take e es) w).order ≡ w.order) ⊎ ((d : ℕ) × (i : ℕ) × (d ≤ e) × (executed ((run f answer (take d es) w).replicas i) ≡ (run f answer (take e es) w).order))
run_stays f answer es w zero = inl refl
run_stays f answer [] w (suc e) = inl refl
run_stays f answer (x ∷ xs) w (suc e) = elim (run_stays f answer xs (happens f answer w x.0 x.1) e) [
  | inl same ↦ elim (happens_stays f answer w x.0 x.1) [
    | inl s ↦ inl (same ∙ s)
    | inr q ↦ inr (suc zero, q.0, omega arith, q.1 ∙ sym same)
  ]
  | inr q ↦ inr (suc q.0, q.1, omega (arith, q.2), q.3)
]

pub order_executed : {C A : Type 0} (f : ℕ) (answer : List C → A) (es : List (Event C × Completion)) (e : ℕ)
    → (d : ℕ) × (i : ℕ) × (d ≤ e) × (executed ((run f answer (take d es) (start {C = C} {A = A})).replicas i) ≡ (run f answer (take e es) (start {C = C} {A = A})).order)
order_executed {C} {A} f answer es e = elim (run_stays f answer es (start {C = C} {A = A}) e) [
  | inl same ↦ (zero, zero, omega arith, sym same)
  | inr q ↦ q
]
