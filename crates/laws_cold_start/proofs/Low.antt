-- No message, and nothing that is kept, tells of more than the committed list: what an event adds to it, its replica has by PREPAREOK, of the log that it had.
use Rattle.std.proofs.Common.{◌≡◌, ℕ, zero, suc, ◌+◌, ◌-◌, ◌<◌, ◌≤◌, max, min, Bool, true, false, cond, not, ◌==◌, leb, ltb, ◌&&◌, ◌||◌, List, [], ◌∷◌, ◌++◌, length, take, drop, map, Option, Some, None, arith, refl, sym, subst}
use Rattle.std.specs.Prelude.{slice_get, is_some}
use Rattle.std.proofs.lemmas.Grind.{common_steps}
use Rattle.std.proofs.lemmas.Bool.{and_parts, eqb-true}
use Rattle.vr_model.specs.Logs.{Request, last_number, is_above}
use Rattle.vr_model.specs.Groups.{group_size, primary, how_many, client_count}
use Rattle.vr_model.specs.Messages.{DoViewChange, PrimaryState, RecoveryResponse, Party, Replica, Client, Body, RequestMessage, Prepare, PrepareOk, Commit, Reply, StartViewChange, DoViewChangeMessage, StartView, Recovery, RecoveryResponseMessage, GetState, NewState, Message}
use Rattle.vr_model.specs.Replicas.{Status, Normal, ViewChange, Recovering, Down, is_normal, is_view_change, is_recovering, takes_part, ReplicaState, Outcome, put}
use Rattle.vr_model.specs.Choices.{others, reached, best, commit_of, greatest_commit, place_of, is_same, kept_response, latest, state_of, log_length, own_do_view_change}
use Rattle.vr_model.specs.Rules.{keep, send, send_others, is_primary, reply_of, replies, replies_from, on_request, behind, is_backup_in, asks, holds_log, on_prepare, commits_to, on_prepare_ok, on_commit, enters, and_then, on_timeout, adopted, begins_with, is_elected, begins_if_elected, sends_do_view_change, counts_start_view_change, enters_if_above, if_view_change_in, on_start_view_change, keeps_do_view_change, on_do_view_change, on_start_view, on_recovery, recovers_with, recovers, on_recovery_response, on_get_state, on_new_state, prepares, resent, on_resend, on_restart, from_replica, from_client, receives}
use Rattle.vr_model.specs.World.{executed}
use Rattle.vr_model.specs.Steps.{Input, Takes, TimesOut, Resends, by_rule}
use Rattle.laws_cold_start.proofs.Tables.{put_cases}

-- tables of what is kept, and messages, that tell of no more than n entries
abbrev pub ChangeLow : {C : Type 0} → ℕ → Option (DoViewChange C) → Type 0
ChangeLow n None = Unit {0}
ChangeLow n (Some a) = a.commit_number ≤ n

abbrev pub StateLow : {C : Type 0} → ℕ → Option (PrimaryState C) → Type 0
StateLow n None = Unit {0}
StateLow n (Some a) = a.commit_number ≤ n

abbrev pub ResponseLow : {C : Type 0} → ℕ → Option (RecoveryResponse C) → Type 0
ResponseLow n None = Unit {0}
ResponseLow n (Some a) = StateLow n a.state

abbrev pub BodyLow : {C A : Type 0} → ℕ → Body C A → Type 0
BodyLow n (RequestMessage m) = Unit {0}
BodyLow n (Prepare v m p c) = c ≤ n
BodyLow n (PrepareOk v p) = Unit {0}
BodyLow n (Commit v c) = c ≤ n
BodyLow n (Reply v s a) = Unit {0}
BodyLow n (StartViewChange v) = Unit {0}
BodyLow n (DoViewChangeMessage v a) = a.commit_number ≤ n
BodyLow n (StartView v c log) = c ≤ n
BodyLow n (Recovery x v) = Unit {0}
BodyLow n (RecoveryResponseMessage x a) = StateLow n a.state
BodyLow n (GetState v p) = Unit {0}
BodyLow n (NewState v p c log) = c ≤ n

abbrev pub AllLow : {C A : Type 0} → ℕ → List (Message C A) → Type 0
AllLow n [] = Unit {0}
AllLow n (m ∷ ms) = BodyLow n m.body × AllLow n ms

pub record ReplicaLow {C : Type 0} (n : ℕ) (r : ReplicaState C) : Type 0 where
  pub commit : r.commit_number ≤ n
  pub changes : (s : ℕ) → ChangeLow n (r.do_view_changes s)
  pub responses : (s : ℕ) → ResponseLow n (r.responses s)

-- and of more
change_more : {C : Type 0} (n m : ℕ) (a : Option (DoViewChange C)) → n ≤ m → ChangeLow n a → ChangeLow m a
change_more n m None l k = tt
change_more n m (Some a) l k = omega arith

state_more : {C : Type 0} (n m : ℕ) (a : Option (PrimaryState C)) → n ≤ m → StateLow n a → StateLow m a
state_more n m None l k = tt
state_more n m (Some a) l k = omega arith

response_more : {C : Type 0} (n m : ℕ) (a : Option (RecoveryResponse C)) → n ≤ m → ResponseLow n a → ResponseLow m a
response_more n m None l k = tt
response_more n m (Some a) l k = state_more n m a.state l k

pub body_more : {C A : Type 0} (n m : ℕ) (b : Body C A) → n ≤ m → BodyLow n b → BodyLow m b
body_more n m (RequestMessage q) l k = tt
body_more n m (Prepare v q p c) l k = omega arith
body_more n m (PrepareOk v p) l k = tt
body_more n m (Commit v c) l k = omega arith
body_more n m (Reply v s a) l k = tt
body_more n m (StartViewChange v) l k = tt
body_more n m (DoViewChangeMessage v a) l k = omega arith
body_more n m (StartView v c log) l k = omega arith
body_more n m (Recovery x v) l k = tt
body_more n m (RecoveryResponseMessage x a) l k = state_more n m a.state l k
body_more n m (GetState v p) l k = tt
body_more n m (NewState v p c log) l k = omega arith

pub all_more : {C A : Type 0} (n m : ℕ) (ms : List (Message C A)) → n ≤ m → AllLow n ms → AllLow m ms
all_more n m [] l k = tt
all_more n m (x ∷ xs) l k = (body_more n m x.body l k.0, all_more n m xs l k.1)

pub replica_more : {C : Type 0} (n m : ℕ) (r : ReplicaState C) → n ≤ m → ReplicaLow n r → ReplicaLow m r
replica_more n m r l k = record { commit = omega (arith, k.commit); changes = λ s. change_more n m _ l (k.changes s); responses = λ s. response_more n m _ l (k.responses s) }

pub all_append : {C A : Type 0} (n : ℕ) (xs ys : List (Message C A)) → AllLow n xs → AllLow n ys → AllLow n (xs ++ ys)
all_append n [] ys a b = b
all_append n (x ∷ xs) ys a b = (a.0, all_append n xs ys a.1 b)

pub low_at : {C A : Type 0} (n : ℕ) (ms : List (Message C A)) (k : ℕ) → AllLow n ms → (m : Message C A) → slice_get ms k ≡ Some m → BodyLow n m.body
low_at n [] k all m e = absurd cc
low_at {C} {A} n (x ∷ xs) zero all m e = let same : x ≡ m = cc in subst (λ (y : Message C A). BodyLow n y.body) same all.0
low_at n (x ∷ xs) (suc k) all m e = low_at n xs k all.1 m e

-- a rule by which nothing more is told of, or executed
pub record Stays {C A : Type 0} (n : ℕ) (o : Outcome C A) : Type 0 where
  pub replica : ReplicaLow n o.replica
  pub sends : AllLow n o.sends

-- as a normal primary the replica has this many acknowledgements of f others
pub record Reaches {C : Type 0} (f i : ℕ) (r : ReplicaState C) (acknowledged : ℕ → ℕ) (reach : ℕ) : Type 0 where
  pub normal : is_normal r.status ≡ true
  pub leads : primary f r.view ≡ i
  pub quorum : leb f (how_many (λ s. not (s == i) && leb reach (acknowledged s)) (group_size f)) ≡ true

-- or more is executed, of the log that the replica had as a primary, and f others acknowledged
pub record Lows {C A : Type 0} (f i n : ℕ) (r : ReplicaState C) (o : Outcome C A) : Type 0 where
  pub replica : ReplicaLow (max n o.replica.commit_number) o.replica
  pub sends : AllLow (max n o.replica.commit_number) o.sends
  pub whole : n < o.replica.commit_number → length (executed o.replica) ≡ o.replica.commit_number
  pub own : n < o.replica.commit_number → o.replica.log ≡ r.log
  pub was_normal : n < o.replica.commit_number → is_normal r.status ≡ true
  pub view : n < o.replica.commit_number → o.replica.view ≡ r.view
  pub reaches : n < o.replica.commit_number → Reaches f i o.replica o.replica.acknowledged o.replica.commit_number

pub stays_lows : {C A : Type 0} (f i n : ℕ) (r : ReplicaState C) (o : Outcome C A) → Stays n o → Lows f i n r o
stays_lows f i n r o k = record {
  replica = replica_more n (max n o.replica.commit_number) o.replica (omega arith) k.replica;
  sends = all_more n (max n o.replica.commit_number) o.sends (omega arith) k.sends;
  whole = λ l. absurd (omega (arith, k.replica.commit));
  own = λ l. absurd (omega (arith, k.replica.commit));
  was_normal = λ l. absurd (omega (arith, k.replica.commit));
  view = λ l. absurd (omega (arith, k.replica.commit));
  reaches = λ l. absurd (omega (arith, k.replica.commit));
}

stays_if : {C A : Type 0} (n : ℕ) (b : Bool) (x y : Outcome C A) → (b ≡ true → Stays n x) → (b ≡ false → Stays n y) → Stays n (cond b x y)
stays_if n true x y first second = first refl
stays_if n false x y first second = second refl

all_if : {C A : Type 0} (n : ℕ) (b : Bool) (x y : List (Message C A)) → AllLow n x → AllLow n y → AllLow n (cond b x y)
all_if n true x y first second = first
all_if n false x y first second = second

low_greatest : {C : Type 0} (n : ℕ) (table : ℕ → Option (DoViewChange C)) (k : ℕ) → ((s : ℕ) → ChangeLow n (table s)) → greatest_commit table k ≤ n
low_greatest n table zero all = omega arith
low_greatest {C} n table (suc k) all = omega (arith, low_greatest n table k all, at (table k) (all k))
  where
    at : (a : Option (DoViewChange C)) → ChangeLow n a → commit_of a ≤ n
    at None l = omega arith
    at (Some a) l = omega arith

one_of : {n : ℕ} (b : Bool) (x y : ℕ) → x ≤ n → y ≤ n → cond b x y ≤ n
one_of true x y a c = a
one_of false x y a c = c

reached_within : (f i : ℕ) (acknowledged : ℕ → ℕ) (n : ℕ) → reached f i acknowledged n ≤ n
reached_within f i acknowledged zero = omega arith
reached_within f i acknowledged (suc n) = one_of (leb f (how_many (λ s. not (s == i) && leb (suc n) (acknowledged s)) (group_size f))) (suc n) (reached f i acknowledged n) (omega arith) (omega (arith, reached_within f i acknowledged n))

-- what is reached, f others acknowledged
reached_by : (f i : ℕ) (acknowledged : ℕ → ℕ) (n : ℕ) → 0 < reached f i acknowledged n
    → leb f (how_many (λ s. not (s == i) && leb (reached f i acknowledged n) (acknowledged s)) (group_size f)) ≡ true
reached_by f i acknowledged zero l = absurd (omega arith)
reached_by f i acknowledged (suc n) l = go (leb f (how_many (λ s. not (s == i) && leb (suc n) (acknowledged s)) (group_size f))) refl l (λ k. reached_by f i acknowledged n k)
  where
    go : (b : Bool) → leb f (how_many (λ s. not (s == i) && leb (suc n) (acknowledged s)) (group_size f)) ≡ b → 0 < cond b (suc n) (reached f i acknowledged n)
        → (0 < reached f i acknowledged n → leb f (how_many (λ s. not (s == i) && leb (reached f i acknowledged n) (acknowledged s)) (group_size f)) ≡ true)
        → leb f (how_many (λ s. not (s == i) && leb (cond b (suc n) (reached f i acknowledged n)) (acknowledged s)) (group_size f)) ≡ true
    go true e k below = e
    go false e k below = below k

pub take_long : {X : Type 0} (n : ℕ) (xs : List X) → n ≤ length xs → length (take n xs) ≡ n
take_long n xs l = grind (arith, common_steps)

pub take_short : {X : Type 0} (n : ℕ) (xs : List X) → length (take n xs) ≤ n
take_short n xs = grind (arith, common_steps)

module _ {C A : Type 0} (f i : ℕ) (answer : List C → A) (n : ℕ) where
  low_map : (body : Body C A) (to : List ℕ) → BodyLow n body → AllLow n (map (λ t. send f i answer t body) to)
  low_map body [] l = tt
  low_map body (t ∷ ts) l = (l, low_map body ts l)

  low_others : (body : Body C A) → BodyLow n body → AllLow n (send_others f i answer body)
  low_others body l = low_map body (others i (group_size f)) l

  low_reply : (r : ReplicaState C) (j : ℕ) (m : Option (Request C)) → AllLow n (reply_of f i answer r j m)
  low_reply r j None = tt
  low_reply r j (Some m) = (tt, tt)

  low_replies : (r : ReplicaState C) (from count : ℕ) → AllLow n (replies f i answer r from count)
  low_replies r from zero = tt
  low_replies r from (suc count) = all_append n (reply_of f i answer r from (slice_get r.log from)) _ (low_reply r from (slice_get r.log from)) (low_replies r (from + 1) count)

  low_replies_from : (r : ReplicaState C) (from : ℕ) → AllLow n (replies_from f i answer r from)
  low_replies_from r from = all_if n (is_primary f i answer r) _ _ (low_replies r from (r.commit_number - from)) tt

  stays_keep : (r : ReplicaState C) → ReplicaLow n r → Stays n (keep f i answer r)
  stays_keep r k = record { replica = k; sends = tt }

  stays_request : (r : ReplicaState C) (m : Request C) → ReplicaLow n r → Stays n (on_request f i answer r m)
  stays_request r m k =
      stays_if n (is_normal r.status && is_primary f i answer r) _ _
      (λ e. stays_if n (is_above m.number (last_number r.log m.client)) _ _
      (λ a. record { replica = record { commit = k.commit; changes = k.changes; responses = k.responses }; sends = low_others (Prepare r.view m (length r.log + 1) r.commit_number) k.commit })
      (λ a. stays_if n (is_same m.number (last_number r.log m.client)) _ _
      (λ b. record { replica = k; sends = let j = place_of r.log m.client m.number in all_if n (ltb j r.commit_number) _ _ (low_reply r j (slice_get r.log j)) tt })
      (λ b. stays_keep r k)))
      (λ e. stays_keep r k)

  stays_asks : (r : ReplicaState C) (u place : ℕ) → ReplicaLow n r → Stays n (asks f i answer r u place)
  stays_asks r u place k = record { replica = k; sends = all_if n (primary f u == i) _ _ tt (tt, tt) }

  stays_holds_log : (r : ReplicaState C) (log : List (Request C)) (c : ℕ) → ReplicaLow n r → c ≤ n → Stays n (holds_log f i answer r log c)
  stays_holds_log r log c k l = record { replica = record { commit = omega (arith, k.commit); changes = k.changes; responses = k.responses }; sends = (tt, tt) }

  stays_behind : (r : ReplicaState C) (u : ℕ) → ReplicaLow n r → Stays n (cond (behind f i answer r u) (asks f i answer r u r.commit_number) (keep f i answer r))
  stays_behind r u k = stays_if n (behind f i answer r u) _ _ (λ e. stays_asks r u r.commit_number k) (λ e. stays_keep r k)

  stays_prepare : (r : ReplicaState C) (u : ℕ) (m : Request C) (p c : ℕ) → ReplicaLow n r → c ≤ n → Stays n (on_prepare f i answer r u m p c)
  stays_prepare r u m p c k l =
      stays_if n (is_backup_in f i answer r u) _ _
      (λ e. stays_if n (p == length r.log + 1) _ _ (λ a. stays_holds_log r (r.log ++ m ∷ []) c k l)
      (λ a. stays_if n (leb p (length r.log)) _ _ (λ b. stays_holds_log r r.log c k l) (λ b. stays_asks r u (length r.log) k)))
      (λ e. stays_behind r u k)

  stays_commit : (r : ReplicaState C) (u c : ℕ) → ReplicaLow n r → c ≤ n → Stays n (on_commit f i answer r u c)
  stays_commit r u c k l =
      stays_if n (is_backup_in f i answer r u) _ _
      (λ e. record { replica = record { commit = omega (arith, k.commit); changes = k.changes; responses = k.responses }; sends = all_if n (ltb (length r.log) c) _ _ (tt, tt) tt })
      (λ e. stays_behind r u k)

  lows_prepare_ok : (r : ReplicaState C) (s u p : ℕ) → ReplicaLow n r → Lows f i n r (on_prepare_ok f i answer r s u p)
  lows_prepare_ok r s u p k = go ((is_normal r.status && is_primary f i answer r) && ((r.view == u) && leb p (length r.log))) refl
    where
      new : ℕ → ℕ
      new = put r.acknowledged s (max (r.acknowledged s) p)

      last : ℕ
      last = reached f i new (length r.log)

      within : last ≤ length r.log
      within = reached_within f i new (length r.log)

      go : (b : Bool) → ((is_normal r.status && is_primary f i answer r) && ((r.view == u) && leb p (length r.log))) ≡ b → Lows f i n r (cond b (commits_to f i answer (record r { acknowledged = new }) last) (keep f i answer r))
      go true e = let leads = (and_parts (is_normal r.status) (is_primary f i answer r) (and_parts (is_normal r.status && is_primary f i answer r) ((r.view == u) && leb p (length r.log)) e).0) in record {
        replica = record {
          commit = omega arith;
          changes = λ t. change_more n (max n (max r.commit_number last)) _ (omega arith) (k.changes t);
          responses = λ t. response_more n (max n (max r.commit_number last)) _ (omega arith) (k.responses t);
        };
        sends = all_more 0 (max n (max r.commit_number last)) _ (omega arith) (zero_replies (record r { acknowledged = new }) r.commit_number (last - r.commit_number));
        whole = λ l. take_long (max r.commit_number last) r.log (omega (arith, k.commit, within));
        own = λ l. refl;
        was_normal = λ l. leads.0;
        view = λ l. refl;
        reaches = λ l. record {
          normal = leads.0;
          leads = eqb-true _ _ leads.1;
          quorum = let same : max r.commit_number last ≡ last = omega (arith, k.commit) in
              subst (λ y. leb f (how_many (λ t. not (t == i) && leb y (new t)) (group_size f)) ≡ true) (sym same) (reached_by f i new (length r.log) (omega (arith, k.commit)));
        };
      }
        where
          zero_reply : (q : ReplicaState C) (j : ℕ) (m : Option (Request C)) → AllLow 0 (reply_of f i answer q j m)
          zero_reply q j None = tt
          zero_reply q j (Some m) = (tt, tt)

          zero_replies : (q : ReplicaState C) (from count : ℕ) → AllLow 0 (replies f i answer q from count)
          zero_replies q from zero = tt
          zero_replies q from (suc count) = all_append 0 (reply_of f i answer q from (slice_get q.log from)) _ (zero_reply q from (slice_get q.log from)) (zero_replies q (from + 1) count)
      go false e = stays_lows f i n r _ (stays_keep r k)

  stays_enters : (r : ReplicaState C) (u : ℕ) → ReplicaLow n r → Stays n (enters f i answer r u)
  stays_enters r u k = record { replica = record { commit = k.commit; changes = λ s. tt; responses = k.responses }; sends = low_others (StartViewChange u) tt }

  stays_then : (o : Outcome C A) (next : ReplicaState C → Outcome C A) → Stays n o → (ReplicaLow n o.replica → Stays n (next o.replica)) → Stays n (and_then f i answer o next)
  stays_then o next k more = let m = more k.replica in record { replica = m.replica; sends = all_append n o.sends (next o.replica).sends k.sends m.sends }

  stays_timeout : (r : ReplicaState C) → ReplicaLow n r → Stays n (on_timeout f i answer r)
  stays_timeout r k = stays_if n _ _ _ (λ e. stays_enters r (r.view + 1) k) (λ e. stays_keep r k)

  stays_begins : (r : ReplicaState C) (a : Option (DoViewChange C)) → ReplicaLow n r → Stays n (begins_with f i answer r a)
  stays_begins r None k = stays_keep r k
  stays_begins r (Some a) k =
      let g : greatest_commit r.do_view_changes (group_size f) ≤ n = low_greatest n r.do_view_changes (group_size f) k.changes in
      let c : max r.commit_number (min (greatest_commit r.do_view_changes (group_size f)) (length a.log)) ≤ n = omega (arith, k.commit) in
      record { replica = record { commit = c; changes = k.changes; responses = k.responses }; sends = low_others (StartView r.view (max r.commit_number (min (greatest_commit r.do_view_changes (group_size f)) (length a.log))) a.log) c }

  stays_begins_if_elected : (r : ReplicaState C) → ReplicaLow n r → Stays n (begins_if_elected f i answer r)
  stays_begins_if_elected r k = stays_if n (is_elected f i answer r) _ _ (λ e. stays_begins r (best r.do_view_changes (group_size f)) k) (λ e. stays_keep r k)

  put_low : (table : ℕ → Option (DoViewChange C)) (s : ℕ) (a : DoViewChange C) → ((t : ℕ) → ChangeLow n (table t)) → a.commit_number ≤ n → (t : ℕ) → ChangeLow n (put table s (Some a) t)
  put_low table s a all l t = put_cases table s (Some a) t (ChangeLow n) (λ e. l) (λ e. all t)

  stays_sends_change : (r : ReplicaState C) → ReplicaLow n r → Stays n (sends_do_view_change f i answer r)
  stays_sends_change r k = stays_if n (is_primary f i answer r) _ _
      (λ e. stays_begins_if_elected (record r { sent_do_view_change = true; do_view_changes = put r.do_view_changes i (Some (own_do_view_change r)) }) (record { commit = k.commit; changes = put_low r.do_view_changes i (own_do_view_change r) k.changes k.commit; responses = k.responses }))
      (λ e. record { replica = record { commit = k.commit; changes = k.changes; responses = k.responses }; sends = (k.commit, tt) })

  stays_counts : (s : ℕ) (r : ReplicaState C) → ReplicaLow n r → Stays n (counts_start_view_change f i answer s r)
  stays_counts s r k =
      let q : ReplicaState C = record r { start_view_changes = put r.start_view_changes s true } in
      let low : ReplicaLow n q = record { commit = k.commit; changes = k.changes; responses = k.responses } in
      stays_if n (not q.sent_do_view_change && leb f (how_many q.start_view_changes (group_size f))) _ _ (λ e. stays_sends_change q low) (λ e. stays_keep q low)

  stays_enters_if_above : (r : ReplicaState C) (u : ℕ) → ReplicaLow n r → Stays n (enters_if_above f i answer r u)
  stays_enters_if_above r u k = stays_if n (ltb r.view u) _ _ (λ e. stays_enters r u k) (λ e. stays_keep r k)

  stays_in : (u : ℕ) (next : ReplicaState C → Outcome C A) (r : ReplicaState C) → ReplicaLow n r → Stays n (next r) → Stays n (if_view_change_in f i answer u next r)
  stays_in u next r k more = stays_if n (is_view_change r.status && (r.view == u)) _ _ (λ e. more) (λ e. stays_keep r k)

  stays_start_view_change : (r : ReplicaState C) (s u : ℕ) → ReplicaLow n r → Stays n (on_start_view_change f i answer r s u)
  stays_start_view_change r s u k = stays_if n (takes_part r.status) _ _
      (λ e. stays_then (enters_if_above f i answer r u) (if_view_change_in f i answer u (counts_start_view_change f i answer s)) (stays_enters_if_above r u k) (λ l. stays_in u (counts_start_view_change f i answer s) _ l (stays_counts s _ l)))
      (λ e. stays_keep r k)

  stays_keeps_change : (s : ℕ) (a : DoViewChange C) (r : ReplicaState C) → a.commit_number ≤ n → ReplicaLow n r → Stays n (keeps_do_view_change f i answer s a r)
  stays_keeps_change s a r l k = stays_if n (is_some (r.do_view_changes s)) _ _ (λ e. stays_keep r k)
      (λ e. stays_begins_if_elected (record r { do_view_changes = put r.do_view_changes s (Some a) }) (record { commit = k.commit; changes = put_low r.do_view_changes s a k.changes l; responses = k.responses }))

  stays_do_view_change : (r : ReplicaState C) (s u : ℕ) (a : DoViewChange C) → ReplicaLow n r → a.commit_number ≤ n → Stays n (on_do_view_change f i answer r s u a)
  stays_do_view_change r s u a k l = stays_if n (takes_part r.status && (primary f u == i)) _ _
      (λ e. stays_then (enters_if_above f i answer r u) (if_view_change_in f i answer u (keeps_do_view_change f i answer s a)) (stays_enters_if_above r u k) (λ m. stays_in u (keeps_do_view_change f i answer s a) _ m (stays_keeps_change s a _ l m)))
      (λ e. stays_keep r k)

  stays_start_view : (r : ReplicaState C) (u c : ℕ) (log : List (Request C)) → ReplicaLow n r → c ≤ n → Stays n (on_start_view f i answer r u c log)
  stays_start_view r u c log k l = stays_if n (behind f i answer r u && leb r.commit_number (length log)) _ _
      (λ e. record {
        replica = record { commit = omega (arith, k.commit); changes = k.changes; responses = k.responses };
        sends = let q : ReplicaState C = record (adopted f i answer r u) { log = log; commit_number = max r.commit_number (min c (length log)) } in
            all_append n (replies_from f i answer q r.commit_number) _ (low_replies_from q r.commit_number) (all_if n (ltb (max r.commit_number (min c (length log))) (length log)) _ _ (tt, tt) tt);
      })
      (λ e. stays_keep r k)

  stays_recovery : (r : ReplicaState C) (s x w : ℕ) → ReplicaLow n r → Stays n (on_recovery f i answer r s x w)
  stays_recovery r s x w k = stays_if n (is_normal r.status) _ _
      (λ e. stays_if n (leb w r.view) _ _ (λ a. record { replica = k; sends = (own (is_primary f i answer r), tt) }) (λ a. stays_enters r w k))
      (λ e. stays_keep r k)
    where
      own : (b : Bool) → StateLow n (cond b (Some (record { commit_number = r.commit_number; log = r.log })) None)
      own true = k.commit
      own false = tt

  stays_recovers : (r : ReplicaState C) → ReplicaLow n r → Stays n (recovers f i answer r)
  stays_recovers r k = stays_if n _ _ _ (λ e. with (state_of w (r.responses (primary f w))) (found (r.responses (primary f w)) (k.responses (primary f w)))) (λ e. stays_keep r k)
    where
      w : ℕ
      w = latest r.responses (group_size f)

      in_view : (b : Bool) (a : Option (PrimaryState C)) → StateLow n a → StateLow n (cond b a None)
      in_view true a l = l
      in_view false a l = tt

      found : (a : Option (RecoveryResponse C)) → ResponseLow n a → StateLow n (state_of w a)
      found None l = tt
      found (Some a) l = in_view (a.view == w) a.state l

      with : (a : Option (PrimaryState C)) → StateLow n a → Stays n (recovers_with f i answer r w a)
      with None l = stays_keep r k
      with (Some a) l = record { replica = record { commit = omega (arith, k.commit); changes = k.changes; responses = k.responses }; sends = tt }

  stays_recovery_response : (r : ReplicaState C) (s x : ℕ) (a : RecoveryResponse C) → ReplicaLow n r → StateLow n a.state → Stays n (on_recovery_response f i answer r s x a)
  stays_recovery_response r s x a k l = stays_if n (is_recovering r.status && (r.nonce == x)) _ _
      (λ e. stays_recovers _ (record { commit = k.commit; changes = k.changes; responses = λ t. put_cases r.responses s (Some (kept_response (r.responses s) a)) t (ResponseLow n) (λ d. kept (r.responses s) (k.responses s)) (λ d. k.responses t) }))
      (λ e. stays_keep r k)
    where
      kept : (b : Option (RecoveryResponse C)) → ResponseLow n b → StateLow n (kept_response b a).state
      kept None m = l
      kept (Some b) m = go (ltb b.view a.view || (b.view == a.view) && ltb (log_length b.state) (log_length a.state))
        where
          go : (t : Bool) → StateLow n (cond t a b).state
          go true = l
          go false = m

  stays_get_state : (r : ReplicaState C) (s u p : ℕ) → ReplicaLow n r → Stays n (on_get_state f i answer r s u p)
  stays_get_state r s u p k = stays_if n _ _ _ (λ e. record { replica = k; sends = (k.commit, tt) }) (λ e. stays_keep r k)

  stays_new_state : (r : ReplicaState C) (u p c : ℕ) (log : List (Request C)) → ReplicaLow n r → c ≤ n → Stays n (on_new_state f i answer r u p c log)
  stays_new_state r u p c log k l = stays_if n (is_backup_in f i answer r u) _ _
      (λ e. stays_if n (leb p (length r.log) && ltb (length r.log) (p + length log)) _ _ (λ a. stays_holds_log r (r.log ++ drop (length r.log - p) log) c k l) (λ a. stays_keep r k))
      (λ e. stays_if n (behind f i answer r u && (leb p r.commit_number && leb r.commit_number (p + length log))) _ _
      (λ a. let o = stays_holds_log (adopted f i answer r u) (take p r.log ++ log) c (record { commit = k.commit; changes = k.changes; responses = k.responses }) l in
      let q : ReplicaState C = (holds_log f i answer (adopted f i answer r u) (take p r.log ++ log) c).replica in
      record { replica = o.replica; sends = all_append n (replies_from f i answer q r.commit_number) _ (low_replies_from q r.commit_number) o.sends })
      (λ a. stays_keep r k))

  low_prepares : (r : ReplicaState C) (p : ℕ) (ms : List (Request C)) → r.commit_number ≤ n → AllLow n (prepares f i answer r p ms)
  low_prepares r p [] l = tt
  low_prepares r p (m ∷ ms) l = all_append n (send_others f i answer (Prepare r.view m (p + 1) r.commit_number)) _ (low_others (Prepare r.view m (p + 1) r.commit_number) l) (low_prepares r (p + 1) ms l)

  stays_resend : (r : ReplicaState C) → ReplicaLow n r → Stays n (on_resend f i answer r)
  stays_resend r k = record { replica = k; sends = go r.status }
    where
      go : (s : Status) → AllLow n (resent f i answer r s)
      go Normal = all_if n (is_primary f i answer r) _ _
          (all_if n (ltb r.commit_number (length r.log)) _ _ (low_prepares r r.commit_number (drop r.commit_number r.log) k.commit) (low_others (Commit r.view r.commit_number) k.commit))
          (tt, tt)
      go ViewChange = all_append n (send_others f i answer (StartViewChange r.view)) _ (low_others (StartViewChange r.view) tt) (all_if n (r.sent_do_view_change && not (is_primary f i answer r)) _ _ (k.commit, tt) tt)
      go Recovering = low_others (Recovery r.nonce r.stored_view) tt
      go Down = tt

  pub stays_restart : (r : ReplicaState C) (x : ℕ) → Stays n (on_restart f i answer r x)
  stays_restart r x = record { replica = record { commit = omega arith; changes = λ s. tt; responses = λ s. tt }; sends = low_others (Recovery x r.stored_view) tt }

  lows_from_replica : (r : ReplicaState C) (s : ℕ) (b : Body C A) → ReplicaLow n r → BodyLow n b → Lows f i n r (from_replica f i answer r s b)
  lows_from_replica r s (RequestMessage m) k l = stays_lows f i n r _ (stays_keep r k)
  lows_from_replica r s (Prepare u m p c) k l = stays_lows f i n r _ (stays_prepare r u m p c k l)
  lows_from_replica r s (PrepareOk u p) k l = lows_prepare_ok r s u p k
  lows_from_replica r s (Commit u c) k l = stays_lows f i n r _ (stays_commit r u c k l)
  lows_from_replica r s (Reply u m a) k l = stays_lows f i n r _ (stays_keep r k)
  lows_from_replica r s (StartViewChange u) k l = stays_lows f i n r _ (stays_start_view_change r s u k)
  lows_from_replica r s (DoViewChangeMessage u a) k l = stays_lows f i n r _ (stays_do_view_change r s u a k l)
  lows_from_replica r s (StartView u c log) k l = stays_lows f i n r _ (stays_start_view r u c log k l)
  lows_from_replica r s (Recovery x w) k l = stays_lows f i n r _ (stays_recovery r s x w k)
  lows_from_replica r s (RecoveryResponseMessage x a) k l = stays_lows f i n r _ (stays_recovery_response r s x a k l)
  lows_from_replica r s (GetState u p) k l = stays_lows f i n r _ (stays_get_state r s u p k)
  lows_from_replica r s (NewState u p c log) k l = stays_lows f i n r _ (stays_new_state r u p c log k l)

  lows_from_client : (r : ReplicaState C) (b : Body C A) → ReplicaLow n r → Lows f i n r (from_client f i answer r b)
  lows_from_client r (RequestMessage m) k = stays_lows f i n r _ (stays_request r m k)
  lows_from_client r _ k = stays_lows f i n r _ (stays_keep r k)

  lows_if : (r : ReplicaState C) (b : Bool) (x y : Outcome C A) → Lows f i n r x → Lows f i n r y → Lows f i n r (cond b x y)
  lows_if r true x y first second = first
  lows_if r false x y first second = second

  lows_receives : (r : ReplicaState C) (from : Party) (b : Body C A) → ReplicaLow n r → BodyLow n b → Lows f i n r (receives f i answer r from b)
  lows_receives r (Replica s) b k l = lows_if r (ltb s (group_size f) && not (s == i)) _ _ (lows_from_replica r s b k l) (stays_lows f i n r _ (stays_keep r k))
  lows_receives r (Client c) b k l = lows_if r (ltb c client_count) _ _ (lows_from_client r b k) (stays_lows f i n r _ (stays_keep r k))

  abbrev pub TookLow : Input C A → Type 0
  TookLow (Takes m) = BodyLow n m.body
  TookLow TimesOut = Unit {0}
  TookLow Resends = Unit {0}

  pub lows_by_rule : (r : ReplicaState C) (input : Input C A) → ReplicaLow n r → TookLow input → Lows f i n r (by_rule f i answer r input)
  lows_by_rule r (Takes m) k l = lows_receives r m.from m.body k l
  lows_by_rule r TimesOut k l = stays_lows f i n r _ (stays_timeout r k)
  lows_by_rule r Resends k l = stays_lows f i n r _ (stays_resend r k)
