-- What an event commits, its replica had in its log before: no message and nothing that is kept tells of more than the committed list.
use Rattle.std.proofs.Common.{◌≡◌, ℕ, zero, suc, ◌+◌, ◌-◌, ◌<◌, ◌≤◌, max, min, Bool, true, false, cond, not, ◌==◌, leb, ltb, ◌&&◌, ◌||◌, List, [], ◌∷◌, ◌++◌, length, take, drop, map, Option, Some, None, arith, refl, sym, ap, ◌∙◌, subst, inl, inr}
use Rattle.std.specs.Prelude.{slice_get, is_some}
use Rattle.std.proofs.lemmas.Grind.{common_steps}
use Rattle.std.proofs.lemmas.Bool.{ltb-true, ltb-false, cases_lt}
use Rattle.vr_model.specs.Logs.{Request, last_number, is_above}
use Rattle.vr_model.specs.Groups.{group_size, primary, how_many, client_count}
use Rattle.vr_model.specs.Messages.{DoViewChange, PrimaryState, RecoveryResponse, Party, Replica, Client, Body, RequestMessage, Prepare, PrepareOk, Commit, Reply, StartViewChange, DoViewChangeMessage, StartView, Recovery, RecoveryResponseMessage, GetState, NewState, Message}
use Rattle.vr_model.specs.Replicas.{Status, Normal, ViewChange, Recovering, Down, is_normal, is_view_change, is_recovering, takes_part, is_down, ReplicaState, Outcome, put}
use Rattle.vr_model.specs.Choices.{others, reached, best, commit_of, greatest_commit, place_of, is_same, kept_response, latest, state_of, log_length, own_do_view_change}
use Rattle.vr_model.specs.Rules.{keep, send, send_others, is_primary, reply_of, replies, replies_from, on_request, behind, is_backup_in, asks, holds_log, on_prepare, commits_to, on_prepare_ok, on_commit, enters, and_then, on_timeout, adopted, begins_with, is_elected, begins_if_elected, sends_do_view_change, counts_start_view_change, enters_if_above, if_view_change_in, on_start_view_change, keeps_do_view_change, on_do_view_change, on_start_view, on_recovery, recovers_with, recovers, on_recovery_response, on_get_state, on_new_state, prepares, resent, on_resend, on_restart, from_replica, from_client, receives}
use Rattle.vr_model.specs.World.{Reason, World, Event, Submit, Retry, ClientRestart, Deliver, Timeout, Resend, Crash, Restart, StoreFail, Completion, Done, Lost, executed, down, Ending, Went, SaveFailed, ending_of, saved_view, becomes, goes, does, if_up, comes_to_client, comes_to, comes, retried, refusal, if_none, steps, happens, run, start}
use Rattle.vr_model.specs.Agreement.{CommitsWhatItHad}
use Rattle.laws_history.proofs.Tables.{put_cases}

-- tables of what is kept, and messages, that tell of no more than n entries
abbrev ChangeLow : {C : Type 0} → ℕ → Option (DoViewChange C) → Type 0
ChangeLow n None = Unit {0}
ChangeLow n (Some a) = a.commit_number ≤ n

abbrev StateLow : {C : Type 0} → ℕ → Option (PrimaryState C) → Type 0
StateLow n None = Unit {0}
StateLow n (Some a) = a.commit_number ≤ n

abbrev ResponseLow : {C : Type 0} → ℕ → Option (RecoveryResponse C) → Type 0
ResponseLow n None = Unit {0}
ResponseLow n (Some a) = StateLow n a.state

abbrev BodyLow : {C A : Type 0} → ℕ → Body C A → Type 0
BodyLow n (RequestMessage m) = Unit {0}
BodyLow n (Prepare v m p c) = c ≤ n
BodyLow n (PrepareOk v p) = Unit {0}
BodyLow n (Commit v c) = c ≤ n
BodyLow n (Reply v s a) = Unit {0}
BodyLow n (StartViewChange v) = Unit {0}
BodyLow n (DoViewChangeMessage v a) = a.commit_number ≤ n
BodyLow n (StartView v c log) = c ≤ n
BodyLow n (Recovery x v) = Unit {0}
BodyLow n (RecoveryResponseMessage x a) = StateLow n a.state
BodyLow n (GetState v p) = Unit {0}
BodyLow n (NewState v p c log) = c ≤ n

abbrev AllLow : {C A : Type 0} → ℕ → List (Message C A) → Type 0
AllLow n [] = Unit {0}
AllLow n (m ∷ ms) = BodyLow n m.body × AllLow n ms

record ReplicaLow {C : Type 0} (n : ℕ) (r : ReplicaState C) : Type 0 where
  pub commit : r.commit_number ≤ n
  pub changes : (s : ℕ) → ChangeLow n (r.do_view_changes s)
  pub responses : (s : ℕ) → ResponseLow n (r.responses s)

-- and of more
change_more : {C : Type 0} (n m : ℕ) (a : Option (DoViewChange C)) → n ≤ m → ChangeLow n a → ChangeLow m a
change_more n m None l k = tt
change_more n m (Some a) l k = omega arith

state_more : {C : Type 0} (n m : ℕ) (a : Option (PrimaryState C)) → n ≤ m → StateLow n a → StateLow m a
state_more n m None l k = tt
state_more n m (Some a) l k = omega arith

response_more : {C : Type 0} (n m : ℕ) (a : Option (RecoveryResponse C)) → n ≤ m → ResponseLow n a → ResponseLow m a
response_more n m None l k = tt
response_more n m (Some a) l k = state_more n m a.state l k

body_more : {C A : Type 0} (n m : ℕ) (b : Body C A) → n ≤ m → BodyLow n b → BodyLow m b
body_more n m (RequestMessage q) l k = tt
body_more n m (Prepare v q p c) l k = omega arith
body_more n m (PrepareOk v p) l k = tt
body_more n m (Commit v c) l k = omega arith
body_more n m (Reply v s a) l k = tt
body_more n m (StartViewChange v) l k = tt
body_more n m (DoViewChangeMessage v a) l k = omega arith
body_more n m (StartView v c log) l k = omega arith
body_more n m (Recovery x v) l k = tt
body_more n m (RecoveryResponseMessage x a) l k = state_more n m a.state l k
body_more n m (GetState v p) l k = tt
body_more n m (NewState v p c log) l k = omega arith

all_more : {C A : Type 0} (n m : ℕ) (ms : List (Message C A)) → n ≤ m → AllLow n ms → AllLow m ms
all_more n m [] l k = tt
all_more n m (x ∷ xs) l k = (body_more n m x.body l k.0, all_more n m xs l k.1)

replica_more : {C : Type 0} (n m : ℕ) (r : ReplicaState C) → n ≤ m → ReplicaLow n r → ReplicaLow m r
replica_more n m r l k = record { commit = omega (arith, k.commit); changes = λ s. change_more n m _ l (k.changes s); responses = λ s. response_more n m _ l (k.responses s) }

all_append : {C A : Type 0} (n : ℕ) (xs ys : List (Message C A)) → AllLow n xs → AllLow n ys → AllLow n (xs ++ ys)
all_append n [] ys a b = b
all_append n (x ∷ xs) ys a b = (a.0, all_append n xs ys a.1 b)

low_at : {C A : Type 0} (n : ℕ) (ms : List (Message C A)) (k : ℕ) → AllLow n ms → (m : Message C A) → slice_get ms k ≡ Some m → BodyLow n m.body
low_at n [] k all m e = absurd cc
low_at {C} {A} n (x ∷ xs) zero all m e = let same : x ≡ m = cc in subst (λ (y : Message C A). BodyLow n y.body) same all.0
low_at n (x ∷ xs) (suc k) all m e = low_at n xs k all.1 m e

-- a rule by which nothing more is told of, or executed
record Stays {C A : Type 0} (n : ℕ) (o : Outcome C A) : Type 0 where
  pub replica : ReplicaLow n o.replica
  pub sends : AllLow n o.sends

-- or more is executed, of the log that the replica had
record Lows {C A : Type 0} (n : ℕ) (r : ReplicaState C) (o : Outcome C A) : Type 0 where
  pub replica : ReplicaLow (max n o.replica.commit_number) o.replica
  pub sends : AllLow (max n o.replica.commit_number) o.sends
  pub whole : n < o.replica.commit_number → length (executed o.replica) ≡ o.replica.commit_number
  pub own : n < o.replica.commit_number → o.replica.log ≡ r.log

stays_lows : {C A : Type 0} (n : ℕ) (r : ReplicaState C) (o : Outcome C A) → Stays n o → Lows n r o
stays_lows n r o k = record {
  replica = replica_more n (max n o.replica.commit_number) o.replica (omega arith) k.replica;
  sends = all_more n (max n o.replica.commit_number) o.sends (omega arith) k.sends;
  whole = λ l. absurd (omega (arith, k.replica.commit));
  own = λ l. absurd (omega (arith, k.replica.commit));
}

stays_if : {C A : Type 0} (n : ℕ) (b : Bool) (x y : Outcome C A) → (b ≡ true → Stays n x) → (b ≡ false → Stays n y) → Stays n (cond b x y)
stays_if n true x y first second = first refl
stays_if n false x y first second = second refl

all_if : {C A : Type 0} (n : ℕ) (b : Bool) (x y : List (Message C A)) → AllLow n x → AllLow n y → AllLow n (cond b x y)
all_if n true x y first second = first
all_if n false x y first second = second

low_greatest : {C : Type 0} (n : ℕ) (table : ℕ → Option (DoViewChange C)) (k : ℕ) → ((s : ℕ) → ChangeLow n (table s)) → greatest_commit table k ≤ n
low_greatest n table zero all = omega arith
low_greatest {C} n table (suc k) all = omega (arith, low_greatest n table k all, at (table k) (all k))
  where
    at : (a : Option (DoViewChange C)) → ChangeLow n a → commit_of a ≤ n
    at None l = omega arith
    at (Some a) l = omega arith

one_of : {n : ℕ} (b : Bool) (x y : ℕ) → x ≤ n → y ≤ n → cond b x y ≤ n
one_of true x y a c = a
one_of false x y a c = c

reached_within : (f i : ℕ) (acknowledged : ℕ → ℕ) (n : ℕ) → reached f i acknowledged n ≤ n
reached_within f i acknowledged zero = omega arith
reached_within f i acknowledged (suc n) = one_of (leb f (how_many (λ s. not (s == i) && leb (suc n) (acknowledged s)) (group_size f))) (suc n) (reached f i acknowledged n) (omega arith) (omega (arith, reached_within f i acknowledged n))

take_long : {X : Type 0} (n : ℕ) (xs : List X) → n ≤ length xs → length (take n xs) ≡ n
take_long n xs l = grind (arith, common_steps)

take_short : {X : Type 0} (n : ℕ) (xs : List X) → length (take n xs) ≤ n
take_short n xs = grind (arith, common_steps)

module _ {C A : Type 0} (f i : ℕ) (answer : List C → A) (n : ℕ) where
  low_map : (body : Body C A) (to : List ℕ) → BodyLow n body → AllLow n (map (λ t. send f i answer t body) to)
  low_map body [] l = tt
  low_map body (t ∷ ts) l = (l, low_map body ts l)

  low_others : (body : Body C A) → BodyLow n body → AllLow n (send_others f i answer body)
  low_others body l = low_map body (others i (group_size f)) l

  low_reply : (r : ReplicaState C) (j : ℕ) (m : Option (Request C)) → AllLow n (reply_of f i answer r j m)
  low_reply r j None = tt
  low_reply r j (Some m) = (tt, tt)

  low_replies : (r : ReplicaState C) (from count : ℕ) → AllLow n (replies f i answer r from count)
  low_replies r from zero = tt
  low_replies r from (suc count) = all_append n (reply_of f i answer r from (slice_get r.log from)) _ (low_reply r from (slice_get r.log from)) (low_replies r (from + 1) count)

  low_replies_from : (r : ReplicaState C) (from : ℕ) → AllLow n (replies_from f i answer r from)
  low_replies_from r from = all_if n (is_primary f i answer r) _ _ (low_replies r from (r.commit_number - from)) tt

  stays_keep : (r : ReplicaState C) → ReplicaLow n r → Stays n (keep f i answer r)
  stays_keep r k = record { replica = k; sends = tt }

  stays_request : (r : ReplicaState C) (m : Request C) → ReplicaLow n r → Stays n (on_request f i answer r m)
  stays_request r m k =
      stays_if n (is_normal r.status && is_primary f i answer r) _ _
      (λ e. stays_if n (is_above m.number (last_number r.log m.client)) _ _
      (λ a. record { replica = record { commit = k.commit; changes = k.changes; responses = k.responses }; sends = low_others (Prepare r.view m (length r.log + 1) r.commit_number) k.commit })
      (λ a. stays_if n (is_same m.number (last_number r.log m.client)) _ _
      (λ b. record { replica = k; sends = let j = place_of r.log m.client m.number in all_if n (ltb j r.commit_number) _ _ (low_reply r j (slice_get r.log j)) tt })
      (λ b. stays_keep r k)))
      (λ e. stays_keep r k)

  stays_asks : (r : ReplicaState C) (u place : ℕ) → ReplicaLow n r → Stays n (asks f i answer r u place)
  stays_asks r u place k = record { replica = k; sends = all_if n (primary f u == i) _ _ tt (tt, tt) }

  stays_holds_log : (r : ReplicaState C) (log : List (Request C)) (c : ℕ) → ReplicaLow n r → c ≤ n → Stays n (holds_log f i answer r log c)
  stays_holds_log r log c k l = record { replica = record { commit = omega (arith, k.commit); changes = k.changes; responses = k.responses }; sends = (tt, tt) }

  stays_behind : (r : ReplicaState C) (u : ℕ) → ReplicaLow n r → Stays n (cond (behind f i answer r u) (asks f i answer r u r.commit_number) (keep f i answer r))
  stays_behind r u k = stays_if n (behind f i answer r u) _ _ (λ e. stays_asks r u r.commit_number k) (λ e. stays_keep r k)

  stays_prepare : (r : ReplicaState C) (u : ℕ) (m : Request C) (p c : ℕ) → ReplicaLow n r → c ≤ n → Stays n (on_prepare f i answer r u m p c)
  stays_prepare r u m p c k l =
      stays_if n (is_backup_in f i answer r u) _ _
      (λ e. stays_if n (p == length r.log + 1) _ _ (λ a. stays_holds_log r (r.log ++ m ∷ []) c k l)
      (λ a. stays_if n (leb p (length r.log)) _ _ (λ b. stays_holds_log r r.log c k l) (λ b. stays_asks r u (length r.log) k)))
      (λ e. stays_behind r u k)

  stays_commit : (r : ReplicaState C) (u c : ℕ) → ReplicaLow n r → c ≤ n → Stays n (on_commit f i answer r u c)
  stays_commit r u c k l =
      stays_if n (is_backup_in f i answer r u) _ _
      (λ e. record { replica = record { commit = omega (arith, k.commit); changes = k.changes; responses = k.responses }; sends = all_if n (ltb (length r.log) c) _ _ (tt, tt) tt })
      (λ e. stays_behind r u k)

  lows_prepare_ok : (r : ReplicaState C) (s u p : ℕ) → ReplicaLow n r → Lows n r (on_prepare_ok f i answer r s u p)
  lows_prepare_ok r s u p k = go ((is_normal r.status && is_primary f i answer r) && ((r.view == u) && leb p (length r.log)))
    where
      new : ℕ → ℕ
      new = put r.acknowledged s (max (r.acknowledged s) p)

      last : ℕ
      last = reached f i new (length r.log)

      within : last ≤ length r.log
      within = reached_within f i new (length r.log)

      go : (b : Bool) → Lows n r (cond b (commits_to f i answer (record r { acknowledged = new }) last) (keep f i answer r))
      go true = record {
        replica = record {
          commit = omega arith;
          changes = λ t. change_more n (max n (max r.commit_number last)) _ (omega arith) (k.changes t);
          responses = λ t. response_more n (max n (max r.commit_number last)) _ (omega arith) (k.responses t);
        };
        sends = all_more 0 (max n (max r.commit_number last)) _ (omega arith) (zero_replies (record r { acknowledged = new }) r.commit_number (last - r.commit_number));
        whole = λ l. take_long (max r.commit_number last) r.log (omega (arith, k.commit, within));
        own = λ l. refl;
      }
        where
          zero_reply : (q : ReplicaState C) (j : ℕ) (m : Option (Request C)) → AllLow 0 (reply_of f i answer q j m)
          zero_reply q j None = tt
          zero_reply q j (Some m) = (tt, tt)

          zero_replies : (q : ReplicaState C) (from count : ℕ) → AllLow 0 (replies f i answer q from count)
          zero_replies q from zero = tt
          zero_replies q from (suc count) = all_append 0 (reply_of f i answer q from (slice_get q.log from)) _ (zero_reply q from (slice_get q.log from)) (zero_replies q (from + 1) count)
      go false = stays_lows n r _ (stays_keep r k)

  stays_enters : (r : ReplicaState C) (u : ℕ) → ReplicaLow n r → Stays n (enters f i answer r u)
  stays_enters r u k = record { replica = record { commit = k.commit; changes = λ s. tt; responses = k.responses }; sends = low_others (StartViewChange u) tt }

  stays_then : (o : Outcome C A) (next : ReplicaState C → Outcome C A) → Stays n o → (ReplicaLow n o.replica → Stays n (next o.replica)) → Stays n (and_then f i answer o next)
  stays_then o next k more = let m = more k.replica in record { replica = m.replica; sends = all_append n o.sends (next o.replica).sends k.sends m.sends }

  stays_timeout : (r : ReplicaState C) → ReplicaLow n r → Stays n (on_timeout f i answer r)
  stays_timeout r k = stays_if n _ _ _ (λ e. stays_enters r (r.view + 1) k) (λ e. stays_keep r k)

  stays_begins : (r : ReplicaState C) (a : Option (DoViewChange C)) → ReplicaLow n r → Stays n (begins_with f i answer r a)
  stays_begins r None k = stays_keep r k
  stays_begins r (Some a) k =
      let g : greatest_commit r.do_view_changes (group_size f) ≤ n = low_greatest n r.do_view_changes (group_size f) k.changes in
      let c : max r.commit_number (min (greatest_commit r.do_view_changes (group_size f)) (length a.log)) ≤ n = omega (arith, k.commit) in
      record { replica = record { commit = c; changes = k.changes; responses = k.responses }; sends = low_others (StartView r.view (max r.commit_number (min (greatest_commit r.do_view_changes (group_size f)) (length a.log))) a.log) c }

  stays_begins_if_elected : (r : ReplicaState C) → ReplicaLow n r → Stays n (begins_if_elected f i answer r)
  stays_begins_if_elected r k = stays_if n (is_elected f i answer r) _ _ (λ e. stays_begins r (best r.do_view_changes (group_size f)) k) (λ e. stays_keep r k)

  put_low : (table : ℕ → Option (DoViewChange C)) (s : ℕ) (a : DoViewChange C) → ((t : ℕ) → ChangeLow n (table t)) → a.commit_number ≤ n → (t : ℕ) → ChangeLow n (put table s (Some a) t)
  put_low table s a all l t = put_cases table s (Some a) t (ChangeLow n) (λ e. l) (λ e. all t)

  stays_sends_change : (r : ReplicaState C) → ReplicaLow n r → Stays n (sends_do_view_change f i answer r)
  stays_sends_change r k = stays_if n (is_primary f i answer r) _ _
      (λ e. stays_begins_if_elected (record r { sent_do_view_change = true; do_view_changes = put r.do_view_changes i (Some (own_do_view_change r)) }) (record { commit = k.commit; changes = put_low r.do_view_changes i (own_do_view_change r) k.changes k.commit; responses = k.responses }))
      (λ e. record { replica = record { commit = k.commit; changes = k.changes; responses = k.responses }; sends = (k.commit, tt) })

  stays_counts : (s : ℕ) (r : ReplicaState C) → ReplicaLow n r → Stays n (counts_start_view_change f i answer s r)
  stays_counts s r k =
      let q : ReplicaState C = record r { start_view_changes = put r.start_view_changes s true } in
      let low : ReplicaLow n q = record { commit = k.commit; changes = k.changes; responses = k.responses } in
      stays_if n (not q.sent_do_view_change && leb f (how_many q.start_view_changes (group_size f))) _ _ (λ e. stays_sends_change q low) (λ e. stays_keep q low)

  stays_enters_if_above : (r : ReplicaState C) (u : ℕ) → ReplicaLow n r → Stays n (enters_if_above f i answer r u)
  stays_enters_if_above r u k = stays_if n (ltb r.view u) _ _ (λ e. stays_enters r u k) (λ e. stays_keep r k)

  stays_in : (u : ℕ) (next : ReplicaState C → Outcome C A) (r : ReplicaState C) → ReplicaLow n r → Stays n (next r) → Stays n (if_view_change_in f i answer u next r)
  stays_in u next r k more = stays_if n (is_view_change r.status && (r.view == u)) _ _ (λ e. more) (λ e. stays_keep r k)

  stays_start_view_change : (r : ReplicaState C) (s u : ℕ) → ReplicaLow n r → Stays n (on_start_view_change f i answer r s u)
  stays_start_view_change r s u k = stays_if n (takes_part r.status) _ _
      (λ e. stays_then (enters_if_above f i answer r u) (if_view_change_in f i answer u (counts_start_view_change f i answer s)) (stays_enters_if_above r u k) (λ l. stays_in u (counts_start_view_change f i answer s) _ l (stays_counts s _ l)))
      (λ e. stays_keep r k)

  stays_keeps_change : (s : ℕ) (a : DoViewChange C) (r : ReplicaState C) → a.commit_number ≤ n → ReplicaLow n r → Stays n (keeps_do_view_change f i answer s a r)
  stays_keeps_change s a r l k = stays_if n (is_some (r.do_view_changes s)) _ _ (λ e. stays_keep r k)
      (λ e. stays_begins_if_elected (record r { do_view_changes = put r.do_view_changes s (Some a) }) (record { commit = k.commit; changes = put_low r.do_view_changes s a k.changes l; responses = k.responses }))

  stays_do_view_change : (r : ReplicaState C) (s u : ℕ) (a : DoViewChange C) → ReplicaLow n r → a.commit_number ≤ n → Stays n (on_do_view_change f i answer r s u a)
  stays_do_view_change r s u a k l = stays_if n (takes_part r.status && (primary f u == i)) _ _
      (λ e. stays_then (enters_if_above f i answer r u) (if_view_change_in f i answer u (keeps_do_view_change f i answer s a)) (stays_enters_if_above r u k) (λ m. stays_in u (keeps_do_view_change f i answer s a) _ m (stays_keeps_change s a _ l m)))
      (λ e. stays_keep r k)

  stays_start_view : (r : ReplicaState C) (u c : ℕ) (log : List (Request C)) → ReplicaLow n r → c ≤ n → Stays n (on_start_view f i answer r u c log)
  stays_start_view r u c log k l = stays_if n (behind f i answer r u && leb r.commit_number (length log)) _ _
      (λ e. record {
        replica = record { commit = omega (arith, k.commit); changes = k.changes; responses = k.responses };
        sends = let q : ReplicaState C = record (adopted f i answer r u) { log = log; commit_number = max r.commit_number (min c (length log)) } in
            all_append n (replies_from f i answer q r.commit_number) _ (low_replies_from q r.commit_number) (all_if n (ltb (max r.commit_number (min c (length log))) (length log)) _ _ (tt, tt) tt);
      })
      (λ e. stays_keep r k)

  stays_recovery : (r : ReplicaState C) (s x w : ℕ) → ReplicaLow n r → Stays n (on_recovery f i answer r s x w)
  stays_recovery r s x w k = stays_if n (is_normal r.status) _ _
      (λ e. stays_if n (leb w r.view) _ _ (λ a. record { replica = k; sends = (own (is_primary f i answer r), tt) }) (λ a. stays_enters r w k))
      (λ e. stays_keep r k)
    where
      own : (b : Bool) → StateLow n (cond b (Some (record { commit_number = r.commit_number; log = r.log })) None)
      own true = k.commit
      own false = tt

  stays_recovers : (r : ReplicaState C) → ReplicaLow n r → Stays n (recovers f i answer r)
  stays_recovers r k = stays_if n _ _ _ (λ e. with (state_of w (r.responses (primary f w))) (found (r.responses (primary f w)) (k.responses (primary f w)))) (λ e. stays_keep r k)
    where
      w : ℕ
      w = latest r.responses (group_size f)

      in_view : (b : Bool) (a : Option (PrimaryState C)) → StateLow n a → StateLow n (cond b a None)
      in_view true a l = l
      in_view false a l = tt

      found : (a : Option (RecoveryResponse C)) → ResponseLow n a → StateLow n (state_of w a)
      found None l = tt
      found (Some a) l = in_view (a.view == w) a.state l

      with : (a : Option (PrimaryState C)) → StateLow n a → Stays n (recovers_with f i answer r w a)
      with None l = stays_keep r k
      with (Some a) l = record { replica = record { commit = omega (arith, k.commit); changes = k.changes; responses = k.responses }; sends = tt }

  stays_recovery_response : (r : ReplicaState C) (s x : ℕ) (a : RecoveryResponse C) → ReplicaLow n r → StateLow n a.state → Stays n (on_recovery_response f i answer r s x a)
  stays_recovery_response r s x a k l = stays_if n (is_recovering r.status && (r.nonce == x)) _ _
      (λ e. stays_recovers _ (record { commit = k.commit; changes = k.changes; responses = λ t. put_cases r.responses s (Some (kept_response (r.responses s) a)) t (ResponseLow n) (λ d. kept (r.responses s) (k.responses s)) (λ d. k.responses t) }))
      (λ e. stays_keep r k)
    where
      kept : (b : Option (RecoveryResponse C)) → ResponseLow n b → StateLow n (kept_response b a).state
      kept None m = l
      kept (Some b) m = go (ltb b.view a.view || (b.view == a.view) && ltb (log_length b.state) (log_length a.state))
        where
          go : (t : Bool) → StateLow n (cond t a b).state
          go true = l
          go false = m

  stays_get_state : (r : ReplicaState C) (s u p : ℕ) → ReplicaLow n r → Stays n (on_get_state f i answer r s u p)
  stays_get_state r s u p k = stays_if n _ _ _ (λ e. record { replica = k; sends = (k.commit, tt) }) (λ e. stays_keep r k)

  stays_new_state : (r : ReplicaState C) (u p c : ℕ) (log : List (Request C)) → ReplicaLow n r → c ≤ n → Stays n (on_new_state f i answer r u p c log)
  stays_new_state r u p c log k l = stays_if n (is_backup_in f i answer r u) _ _
      (λ e. stays_if n (leb p (length r.log) && ltb (length r.log) (p + length log)) _ _ (λ a. stays_holds_log r (r.log ++ drop (length r.log - p) log) c k l) (λ a. stays_keep r k))
      (λ e. stays_if n (behind f i answer r u && (leb p r.commit_number && leb r.commit_number (p + length log))) _ _
      (λ a. let o = stays_holds_log (adopted f i answer r u) (take p r.log ++ log) c (record { commit = k.commit; changes = k.changes; responses = k.responses }) l in
      let q : ReplicaState C = (holds_log f i answer (adopted f i answer r u) (take p r.log ++ log) c).replica in
      record { replica = o.replica; sends = all_append n (replies_from f i answer q r.commit_number) _ (low_replies_from q r.commit_number) o.sends })
      (λ a. stays_keep r k))

  low_prepares : (r : ReplicaState C) (p : ℕ) (ms : List (Request C)) → r.commit_number ≤ n → AllLow n (prepares f i answer r p ms)
  low_prepares r p [] l = tt
  low_prepares r p (m ∷ ms) l = all_append n (send_others f i answer (Prepare r.view m (p + 1) r.commit_number)) _ (low_others (Prepare r.view m (p + 1) r.commit_number) l) (low_prepares r (p + 1) ms l)

  stays_resend : (r : ReplicaState C) → ReplicaLow n r → Stays n (on_resend f i answer r)
  stays_resend r k = record { replica = k; sends = go r.status }
    where
      go : (s : Status) → AllLow n (resent f i answer r s)
      go Normal = all_if n (is_primary f i answer r) _ _
          (all_if n (ltb r.commit_number (length r.log)) _ _ (low_prepares r r.commit_number (drop r.commit_number r.log) k.commit) (low_others (Commit r.view r.commit_number) k.commit))
          (tt, tt)
      go ViewChange = all_append n (send_others f i answer (StartViewChange r.view)) _ (low_others (StartViewChange r.view) tt) (all_if n (r.sent_do_view_change && not (is_primary f i answer r)) _ _ (k.commit, tt) tt)
      go Recovering = low_others (Recovery r.nonce r.stored_view) tt
      go Down = tt

  stays_restart : (r : ReplicaState C) (x : ℕ) → Stays n (on_restart f i answer r x)
  stays_restart r x = record { replica = record { commit = omega arith; changes = λ s. tt; responses = λ s. tt }; sends = low_others (Recovery x r.stored_view) tt }

  lows_from_replica : (r : ReplicaState C) (s : ℕ) (b : Body C A) → ReplicaLow n r → BodyLow n b → Lows n r (from_replica f i answer r s b)
  lows_from_replica r s (RequestMessage m) k l = stays_lows n r _ (stays_keep r k)
  lows_from_replica r s (Prepare u m p c) k l = stays_lows n r _ (stays_prepare r u m p c k l)
  lows_from_replica r s (PrepareOk u p) k l = lows_prepare_ok r s u p k
  lows_from_replica r s (Commit u c) k l = stays_lows n r _ (stays_commit r u c k l)
  lows_from_replica r s (Reply u m a) k l = stays_lows n r _ (stays_keep r k)
  lows_from_replica r s (StartViewChange u) k l = stays_lows n r _ (stays_start_view_change r s u k)
  lows_from_replica r s (DoViewChangeMessage u a) k l = stays_lows n r _ (stays_do_view_change r s u a k l)
  lows_from_replica r s (StartView u c log) k l = stays_lows n r _ (stays_start_view r u c log k l)
  lows_from_replica r s (Recovery x w) k l = stays_lows n r _ (stays_recovery r s x w k)
  lows_from_replica r s (RecoveryResponseMessage x a) k l = stays_lows n r _ (stays_recovery_response r s x a k l)
  lows_from_replica r s (GetState u p) k l = stays_lows n r _ (stays_get_state r s u p k)
  lows_from_replica r s (NewState u p c log) k l = stays_lows n r _ (stays_new_state r u p c log k l)

  lows_from_client : (r : ReplicaState C) (b : Body C A) → ReplicaLow n r → Lows n r (from_client f i answer r b)
  lows_from_client r (RequestMessage m) k = stays_lows n r _ (stays_request r m k)
  lows_from_client r _ k = stays_lows n r _ (stays_keep r k)

  lows_if : (r : ReplicaState C) (b : Bool) (x y : Outcome C A) → Lows n r x → Lows n r y → Lows n r (cond b x y)
  lows_if r true x y first second = first
  lows_if r false x y first second = second

  lows_receives : (r : ReplicaState C) (from : Party) (b : Body C A) → ReplicaLow n r → BodyLow n b → Lows n r (receives f i answer r from b)
  lows_receives r (Replica s) b k l = lows_if r (ltb s (group_size f) && not (s == i)) _ _ (lows_from_replica r s b k l) (stays_lows n r _ (stays_keep r k))
  lows_receives r (Client c) b k l = lows_if r (ltb c client_count) _ _ (lows_from_client r b k) (stays_lows n r _ (stays_keep r k))

-- the world: nothing that is told, kept or executed reaches past the committed list
record WorldLow {C A : Type 0} (w : World C A) : Type 0 where
  pub replicas : (i : ℕ) → ReplicaLow (length w.order) (w.replicas i)
  pub sent : AllLow (length w.order) w.sent

-- from w to v
record Advances {C A : Type 0} (w v : World C A) : Type 0 where
  pub low : WorldLow v
  pub own : (j : ℕ) → length w.order < (v.replicas j).commit_number → v.order ≡ take (v.replicas j).commit_number (w.replicas j).log

stands_still : {C A : Type 0} (w : World C A) → WorldLow w → Advances w w
stands_still w k = record { low = k; own = λ j l. absurd (omega (arith, (k.replicas j).commit)) }

becomes_low : {C A : Type 0} (f i : ℕ) (answer : List C → A) (w : World C A) (o : Outcome C A) (st : ℕ) → WorldLow w → Lows (length w.order) (w.replicas i) o
    → Advances w (becomes f answer w i o.replica st o.sends)
becomes_low {C} {A} f i answer w o st k l = go (ltb (length w.order) (length (executed o.replica))) refl
  where
    n : ℕ
    n = length w.order

    top : ℕ
    top = max n o.replica.commit_number

    replicas : (m : ℕ) → top ≤ m → (j : ℕ) → ReplicaLow m (put w.replicas i o.replica j)
    replicas m le j = put_cases w.replicas i o.replica j (ReplicaLow m) (λ e. replica_more top m o.replica le l.replica) (λ e. replica_more n m (w.replicas j) (omega arith) (k.replicas j))

    sent : (m : ℕ) → top ≤ m → AllLow m (w.sent ++ o.sends)
    sent m le = all_append m w.sent o.sends (all_more n m w.sent (omega arith) k.sent) (all_more top m o.sends le l.sends)

    go : (b : Bool) → ltb (length w.order) (length (executed o.replica)) ≡ b
        → Advances w (record w { replicas = put w.replicas i o.replica; stores = put w.stores i st; sent = w.sent ++ o.sends; order = cond b (executed o.replica) w.order })
    go true e =
        let more : n < length (executed o.replica) = ltb-true _ _ e in
        let short : length (executed o.replica) ≤ o.replica.commit_number = take_short o.replica.commit_number o.replica.log in
        let long : length (executed o.replica) ≡ o.replica.commit_number = l.whole (omega arith) in
        record {
          low = record { replicas = replicas (length (executed o.replica)) (omega arith); sent = sent (length (executed o.replica)) (omega arith) };
          own = λ j. put_cases w.replicas i o.replica j (λ r. n < r.commit_number → executed o.replica ≡ take r.commit_number (w.replicas j).log)
              (λ same past. ap (take o.replica.commit_number) (l.own past ∙ ap (λ t. (w.replicas t).log) (sym same)))
              (λ apart past. absurd (omega (arith, (k.replicas j).commit)));
        }
    go false e =
        let less : length (executed o.replica) ≤ n = ltb-false _ _ e in
        let low : o.replica.commit_number ≤ n = elim (cases_lt n o.replica.commit_number) [ inl past ↦ absurd (omega (arith, l.whole past)) | inr le ↦ le ] in
        record {
          low = record { replicas = replicas n (omega arith); sent = sent n (omega arith) };
          own = λ j. put_cases w.replicas i o.replica j (λ r. n < r.commit_number → w.order ≡ take r.commit_number (w.replicas j).log)
              (λ same past. absurd (omega arith))
              (λ apart past. absurd (omega (arith, (k.replicas j).commit)));
        }

goes_low : {C A : Type 0} (f i : ℕ) (answer : List C → A) (w : World C A) (o : Outcome C A) (ending : Ending) → WorldLow w → Lows (length w.order) (w.replicas i) o → Advances w (goes f answer w i o ending)
goes_low {C} {A} f i answer w o ending k l = go ending
  where
    -- only the list of failing stores is another
    so : (v : World C A) (failing : ℕ → Option Bool) → Advances w v → Advances w (record v { failing = failing })
    so v failing a = record { low = record { replicas = a.low.replicas; sent = a.low.sent }; own = a.own }

    as_it_was : Outcome C A
    as_it_was = record { replica = w.replicas i; saves = None; sends = [] }

    crashed : Outcome C A
    crashed = record { replica = down (w.replicas i); saves = None; sends = [] }

    lost : (st : ℕ) → Advances w (becomes f answer w i as_it_was.replica st [])
    lost st = becomes_low f i answer w as_it_was st k (stays_lows (length w.order) (w.replicas i) as_it_was (record { replica = k.replicas i; sends = tt }))

    failed : (st : ℕ) → Advances w (becomes f answer w i crashed.replica st [])
    failed st = becomes_low f i answer w crashed st k (stays_lows (length w.order) (w.replicas i) crashed (record { replica = record { commit = omega arith; changes = (k.replicas i).changes; responses = (k.replicas i).responses }; sends = tt }))

    go : (ending : Ending) → Advances w (goes f answer w i o ending)
    go (Went Done) = so _ _ (becomes_low f i answer w o (saved_view (w.stores i) o.saves) k l)
    go (Went (Lost saved)) = so _ _ (lost _)
    go (SaveFailed b) = so _ _ (failed _)

either : {C A : Type 0} (b : Bool) (w v u : World C A) → Advances w v → Advances w u → Advances w (cond b v u)
either true w v u a b = a
either false w v u a b = b

up_low : {C A : Type 0} (f i : ℕ) (answer : List C → A) (w : World C A) (o : Outcome C A) (c : Completion) → WorldLow w → Lows (length w.order) (w.replicas i) o → Advances w (if_up f answer w i (does f answer w i o c))
up_low f i answer w o c k l = either (is_down (w.replicas i).status || not (ltb i (group_size f))) w w _ (stands_still w k) (goes_low f i answer w o (ending_of c o.saves (w.failing i)) k l)

client_low : {C A : Type 0} (f : ℕ) (answer : List C → A) (w : World C A) (c : ℕ) (b : Body C A) → WorldLow w → Advances w (comes_to_client f answer w c b)
client_low f answer w c (Reply v n a) k = record { low = record { replicas = k.replicas; sent = k.sent }; own = λ j l. absurd (omega (arith, (k.replicas j).commit)) }
client_low f answer w c _ k = stands_still w k

comes_low : {C A : Type 0} (f : ℕ) (answer : List C → A) (w : World C A) (m : Option (Message C A)) (c : Completion) → WorldLow w → ((x : Message C A) → m ≡ Some x → BodyLow (length w.order) x.body) → Advances w (comes f answer w m c)
comes_low f answer w None c k low = stands_still w k
comes_low {C} {A} f answer w (Some m) c k low = to m.to m.body (low m refl)
  where
    to : (p : Party) (b : Body C A) → BodyLow (length w.order) b → Advances w (comes_to f answer w p m.from b c)
    to (Replica i) b l = up_low f i answer w (receives f i answer (w.replicas i) m.from b) c k (lows_receives f i answer (length w.order) (w.replicas i) m.from b (k.replicas i) l)
    to (Client d) b l = client_low f answer w d b k

-- only clients and what was sent are others
sends_low : {C A : Type 0} (w : World C A) (clients : _) (ms : List (Message C A)) (submitted : _) → WorldLow w → AllLow (length w.order) ms → Advances w (record w { clients = clients; sent = w.sent ++ ms; submitted = submitted })
sends_low w clients ms submitted k l = record { low = record { replicas = k.replicas; sent = all_append (length w.order) w.sent ms k.sent l }; own = λ j past. absurd (omega (arith, (k.replicas j).commit)) }

low_retried : {C A : Type 0} (f : ℕ) (answer : List C → A) (n c k : ℕ) (m : Option (Request C)) → AllLow n (retried f answer c k m)
low_retried f answer n c zero None = tt
low_retried f answer n c (suc k) None = tt
low_retried f answer n c zero (Some m) = tt
low_retried f answer n c (suc k) (Some m) = all_append n (retried f answer c k (Some m)) _ (low_retried f answer n c k (Some m)) (tt, tt)

steps_low : {C A : Type 0} (f : ℕ) (answer : List C → A) (w : World C A) (e : Event C) (c : Completion) → WorldLow w → Advances w (steps f answer w e c)
steps_low f answer w (Submit d command) c k = sends_low w _ _ _ k (tt, tt)
steps_low f answer w (Retry d) c k = sends_low w w.clients _ w.submitted k (low_retried f answer (length w.order) d (group_size f) (w.clients d).waits)
steps_low f answer w (ClientRestart d) c k = record { low = record { replicas = k.replicas; sent = k.sent }; own = λ j l. absurd (omega (arith, (k.replicas j).commit)) }
steps_low f answer w (Deliver n) c k = comes_low f answer w (slice_get w.sent n) c k (λ x e. low_at (length w.order) w.sent n k.sent x e)
steps_low f answer w (Timeout i) c k = up_low f i answer w _ c k (stays_lows (length w.order) (w.replicas i) _ (stays_timeout f i answer (length w.order) (w.replicas i) (k.replicas i)))
steps_low f answer w (Resend i) c k = up_low f i answer w _ c k (stays_lows (length w.order) (w.replicas i) _ (stays_resend f i answer (length w.order) (w.replicas i) (k.replicas i)))
steps_low {C} {A} f answer w (Crash i) c k = becomes_low f i answer w (record { replica = down (w.replicas i); saves = None; sends = [] }) (w.stores i) k
    (stays_lows (length w.order) (w.replicas i) _ (record { replica = record { commit = omega arith; changes = (k.replicas i).changes; responses = (k.replicas i).responses }; sends = tt }))
steps_low {C} {A} f answer w (Restart i x) c k =
    let v : World C A = record w { used = put w.used i (put (w.used i) x true) } in
    let o : Outcome C A = on_restart f i answer (record (w.replicas i) { stored_view = w.stores i }) x in
    let a : Advances v (goes f answer v i o (ending_of c o.saves (w.failing i))) =
    goes_low f i answer v o (ending_of c o.saves (w.failing i)) (record { replicas = k.replicas; sent = k.sent }) (stays_lows (length w.order) (w.replicas i) o (stays_restart f i answer (length w.order) (record (w.replicas i) { stored_view = w.stores i }) x)) in
    record { low = a.low; own = a.own }
steps_low f answer w (StoreFail i keeps_new) c k = record { low = record { replicas = k.replicas; sent = k.sent }; own = λ j l. absurd (omega (arith, (k.replicas j).commit)) }

happens_low : {C A : Type 0} (f : ℕ) (answer : List C → A) (w : World C A) (e : Event C) (c : Completion) → WorldLow w → Advances w (happens f answer w e c)
happens_low {C} {A} f answer w e c k = go (refusal f w e)
  where
    go : (reason : Option Reason) → Advances w (if_none reason (steps f answer w e c) w)
    go None = steps_low f answer w e c k
    go (Some reason) = stands_still w k

run_low : {C A : Type 0} (f : ℕ) (answer : List C → A) (es : List (Event C × Completion)) (w : World C A) → WorldLow w → WorldLow (run f answer es w)
run_low f answer [] w k = k
run_low f answer (x ∷ xs) w k = run_low f answer xs (happens f answer w x.0 x.1) (happens_low f answer w x.0 x.1 k).low

start_low : {C A : Type 0} → WorldLow (start {C = C} {A = A})
start_low = record { replicas = λ i. record { commit = omega arith; changes = λ s. tt; responses = λ s. tt }; sent = tt }

pub commits_what_it_had : {C A : Type 0} (f : ℕ) (answer : List C → A) (events : List (Event C × Completion)) → CommitsWhatItHad f answer events
commits_what_it_had {C} {A} f answer events =
    let low : WorldLow (run f answer events (start {C = C} {A = A})) = run_low f answer events start start_low in
    record { within = λ i. (low.replicas i).commit; had = λ e c i past. (happens_low f answer (run f answer events (start {C = C} {A = A})) e c low).own i past }
