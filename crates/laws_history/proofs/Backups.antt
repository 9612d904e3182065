-- Backups, and the acknowledgements that they send.
use Rattle.std.proofs.Common.{◌≡◌, ℕ, ◌+◌, ◌-◌, ◌≤◌, max, min, Bool, true, false, cond, not, ◌==◌, leb, ltb, ◌&&◌, List, [], ◌∷◌, ◌++◌, length, take, arith, refl, inl, inr, sym, ap, ◌∙◌, subst, length-append}
use Rattle.std.proofs.lemmas.Bool.{and_parts, not-true, eqb-true, eqb-false}
use Rattle.vr_model.specs.Logs.{Request, IsPrefix, IsEntry}
use Rattle.vr_model.specs.Groups.{primary}
use Rattle.laws_history.proofs.History.{History, IsSound, Grows}
use Rattle.vr_model.specs.Messages.{GetState}
use Rattle.vr_model.specs.Replicas.{is_normal, ReplicaState, put}
use Rattle.vr_model.specs.Choices.{reached}
use Rattle.vr_model.specs.Rules.{keep, send, behind, is_backup_in, asks, holds_log, on_prepare, commits_to, on_prepare_ok, on_commit}
use Rattle.laws_history.proofs.Facts.{IsCommitted, IsLogOf, PrepareSays, AllSay, NormalOk, ReplicaOk, Good}
use Rattle.laws_history.proofs.Prefixes.{prefix_length, take_prefix, prefix_is}
use Rattle.laws_history.proofs.Later.{committed_later, log_later}
use Rattle.laws_history.proofs.Notes.{finish, finish_grows}
use Rattle.laws_history.proofs.Tables.{put_same, put_cases, put_at, put_at_same}
use Rattle.laws_history.proofs.Notes.{leave_cases}
use Rattle.laws_history.proofs.Actions.{accept, MayAccept, accept_grows, accept_sound, accept_apart}
use Rattle.laws_history.proofs.Committed.{committed_max, committed_min, reached_chosen}
use Rattle.laws_history.proofs.NormalCase.{good_finishes, good_if, good_sends, not_both, not_up, says_replies}

-- what a backup holds now
pub good_holds_log : {C A : Type 0} (f i : ℕ) (answer : List C → A) (h : History (Request C)) (r : ReplicaState C) (log : List (Request C)) (c : ℕ)
    → IsSound f h → ReplicaOk f h i r → is_normal r.status ≡ true → (primary f r.view ≡ i → ⊥)
    → IsLogOf h r.view log → length r.log ≤ length log → IsCommitted f h r.view c
    → Good f answer h i r.stored_view r.commit_number (holds_log f i answer r log c)
good_holds_log {C} f i answer h r log c sound ok e backup whole longer commit =
    let n = ok.normal e in
    let v : ℕ = r.view in
    let may : MayAccept f h i v (length log) = record {
      started = whole.started;
      promised = omega (arith, n.promised);
      more = omega (arith, n.stands.accepted);
      within = prefix_length whole.within;
      follows = λ l. absurd (backup l);
    } in
    let g : History (Request C) = accept h i v (length log) in
    let grows : Grows h g = accept_grows f h i v (length log) may in
    record {
      store = record { is = refl; rises = omega arith };
      unused = λ j y e. e;
      left = leave_cases h i v _ (λ j w same l. (same, inr (e, l)));
      starts = λ u b. inl b;
      done = omega arith;
      grown = omega arith;
      asked = refl;
      rises = λ k. k;
      later = g;
      sound = accept_sound f h i v (length log) sound may;
      grows = grows;
      apart = λ j ne. accept_apart f h i v (length log) j ne;
      replica = record {
        up = ok.up;
        normal = λ s. record {
          stands = record {
            log = log_later grows whole;
            accepted = put_at_same h.accepted i v (length log) i v refl refl;
            commit = committed_later f v (max r.commit_number (min c (length log))) sound grows
                (committed_max f h v r.commit_number (min c (length log)) n.stands.commit (committed_min f h v c (length log) commit));
            executed = omega (arith, n.stands.executed);
          };
          last = n.last;
          promised = put_same h.promised i v i refl;
          stored = n.stored;
          leads = λ l. absurd (backup l);
          acknowledged = λ l. absurd (backup l);
        };
        view_change = λ s. absurd (not_both r.status e s);
        recovering = λ s. absurd (not_up r.status e s);
      };
      sends = (let a : put_at h.accepted i v (length log) i v ≡ length log = put_at_same h.accepted i v (length log) i v refl refl in omega arith, tt);
    }

-- who is a backup of this view
pub backup_is : {C A : Type 0} (f i : ℕ) (answer : List C → A) (r : ReplicaState C) (u : ℕ) → is_backup_in f i answer r u ≡ true
    → (is_normal r.status ≡ true) × (r.view ≡ u) × (primary f r.view ≡ i → ⊥)
backup_is f i answer r u e =
    let a = and_parts (is_normal r.status && (r.view == u)) (not (primary f r.view == i)) e in
    let b = and_parts (is_normal r.status) (r.view == u) a.0 in
    (b.0, eqb-true _ _ b.1, eqb-false _ _ (not-true _ a.1))

pub good_asks : {C A : Type 0} (f i : ℕ) (answer : List C → A) (h : History (Request C)) (r : ReplicaState C) (u place : ℕ)
    → IsSound f h → ReplicaOk f h i r → Good f answer h i r.stored_view r.commit_number (asks f i answer r u place)
good_asks f i answer h r u place sound ok = good_sends f i answer h r _ sound ok (go (primary f u == i))
  where
    go : (b : Bool) → AllSay f answer h (cond b [] (send f i answer (primary f u) (GetState u place) ∷ []))
    go true = tt
    go false = (tt, tt)

good_or_asks : {C A : Type 0} (f i : ℕ) (answer : List C → A) (h : History (Request C)) (r : ReplicaState C) (u : ℕ)
    → IsSound f h → ReplicaOk f h i r → Good f answer h i r.stored_view r.commit_number (cond (behind f i answer r u) (asks f i answer r u r.commit_number) (keep f i answer r))
good_or_asks f i answer h r u sound ok = good_if f i answer h (behind f i answer r u) _ _
    (λ e. good_asks f i answer h r u r.commit_number sound ok)
    (λ e. good_sends f i answer h r [] sound ok tt)

pub good_on_prepare : {C A : Type 0} (f i : ℕ) (answer : List C → A) (h : History (Request C)) (r : ReplicaState C) (u : ℕ) (m : Request C) (p c : ℕ)
    → IsSound f h → ReplicaOk f h i r → PrepareSays f h u m p c → Good f answer h i r.stored_view r.commit_number (on_prepare f i answer r u m p c)
good_on_prepare {C} f i answer h r u m p c sound ok says =
    good_if f i answer h (is_backup_in f i answer r u) _ _
    (λ e. let b = backup_is f i answer r u e in
    let n = ok.normal b.0 in
    let commit : IsCommitted f h r.view c = subst (λ w. IsCommitted f h w c) (sym b.1) says.commit in
    good_if f i answer h (p == length r.log + 1) _ _
    (λ a. let at : p ≡ length r.log + 1 = eqb-true _ _ a in
    good_holds_log f i answer h r (r.log ++ m ∷ []) c sound ok b.0 b.2 (longer b.1 n at) (omega (arith, length-append r.log (m ∷ []))) commit)
    (λ a. good_if f i answer h (leb p (length r.log)) _ _
    (λ d. good_holds_log f i answer h r r.log c sound ok b.0 b.2 n.stands.log (omega arith) commit)
    (λ d. good_asks f i answer h r u (length r.log) sound ok)))
    (λ e. good_or_asks f i answer h r u sound ok)
  where
    longer : r.view ≡ u → NormalOk f h i r → p ≡ length r.log + 1 → IsLogOf h r.view (r.log ++ m ∷ [])
    longer w n at =
        let entry : IsEntry (h.log r.view) (length r.log) m = subst (λ w. IsEntry (h.log w) (length r.log) m) (sym w)
        (subst (λ q. IsEntry (h.log u) q m) (let d : p - 1 ≡ length r.log = omega arith in d) says.entry) in
        let is : take (length r.log + 1) (h.log r.view) ≡ r.log ++ m ∷ [] = entry.last ∙ ap (λ a. a ++ m ∷ []) (prefix_is n.stands.log.within) in
        record {
          started = n.stands.log.started;
          within = subst (λ x. IsPrefix x (h.log r.view)) is (take_prefix (length r.log + 1) (h.log r.view));
          whole = omega (arith, n.stands.log.whole, length-append r.log (m ∷ []));
        }

pub good_on_commit : {C A : Type 0} (f i : ℕ) (answer : List C → A) (h : History (Request C)) (r : ReplicaState C) (u c : ℕ)
    → IsSound f h → ReplicaOk f h i r → IsCommitted f h u c → Good f answer h i r.stored_view r.commit_number (on_commit f i answer r u c)
good_on_commit {C} {A} f i answer h r u c sound ok says =
    good_if f i answer h (is_backup_in f i answer r u) _ _
    (λ e. let b = backup_is f i answer r u e in
    good_finishes f i answer h _ r.commit_number _ sound (executes b.0 (subst (λ w. IsCommitted f h w c) (sym b.1) says) b.2) (omega arith) (go (ltb (length r.log) c)))
    (λ e. good_or_asks f i answer h r u sound ok)
  where
    go : (b : Bool) → AllSay {C = C} {A = A} f answer (finish h (max r.commit_number (min c (length r.log)))) (cond b (send f i answer (primary f u) (GetState u (length r.log)) ∷ []) [])
    go true = (tt, tt)
    go false = tt

    executes : is_normal r.status ≡ true → IsCommitted f h r.view c → (primary f r.view ≡ i → ⊥) → ReplicaOk f h i (record r { commit_number = max r.commit_number (min c (length r.log)) })
    executes e commit backup = let n = ok.normal e in record {
      up = ok.up;
      normal = λ s. record {
        stands = record {
          log = n.stands.log;
          accepted = n.stands.accepted;
          commit = committed_max f h r.view r.commit_number (min c (length r.log)) n.stands.commit (committed_min f h r.view c (length r.log) commit);
          executed = omega (arith, n.stands.executed);
        };
        last = n.last;
        promised = n.promised;
        stored = n.stored;
        leads = n.leads;
        acknowledged = n.acknowledged;
      };
      view_change = λ s. absurd (not_both r.status e s);
      recovering = λ s. absurd (not_up r.status e s);
    }

pub good_on_prepare_ok : {C A : Type 0} (f i : ℕ) (answer : List C → A) (h : History (Request C)) (r : ReplicaState C) (s u p : ℕ)
    → IsSound f h → ReplicaOk f h i r → p ≤ h.accepted s u → Good f answer h i r.stored_view r.commit_number (on_prepare_ok f i answer r s u p)
good_on_prepare_ok {C} {A} f i answer h r s u p sound ok says =
    good_if f i answer h ((is_normal r.status && (primary f r.view == i)) && ((r.view == u) && leb p (length r.log))) _ _
    (λ e. let a = and_parts (is_normal r.status && (primary f r.view == i)) ((r.view == u) && leb p (length r.log)) e in
    let b = and_parts (is_normal r.status) (primary f r.view == i) a.0 in
    let d = and_parts (r.view == u) (leb p (length r.log)) a.1 in
    commits b.0 (eqb-true _ _ b.1) (eqb-true _ _ d.0))
    (λ e. good_sends f i answer h r [] sound ok tt)
  where
    new : ℕ → ℕ
    new = put r.acknowledged s (max (r.acknowledged s) p)

    commits : is_normal r.status ≡ true → primary f r.view ≡ i → r.view ≡ u
        → Good f answer h i r.stored_view r.commit_number (commits_to f i answer (record r { acknowledged = new }) (reached f i new (length r.log)))
    commits e leads same =
        let n = ok.normal e in
        let told : (t : ℕ) → new t ≤ h.accepted t r.view = λ t. put_cases r.acknowledged s (max (r.acknowledged s) p) t (λ x. x ≤ h.accepted t r.view)
        (λ k. let a : h.accepted t r.view ≡ h.accepted s u = ap (λ x. h.accepted x r.view) k ∙ ap (h.accepted s) same in
        let b : r.acknowledged s ≡ r.acknowledged t = ap r.acknowledged (sym k) in omega (arith, says, n.acknowledged leads t))
        (λ ne. n.acknowledged leads t) in
        let k : ℕ = reached f i new (length r.log) in
        let chosen = reached_chosen f h r.view i (length r.log) new leads (omega (arith, n.stands.accepted)) told in
        let c : IsCommitted f h r.view k = record {
          within = omega (arith, chosen.1, prefix_length n.stands.log.within);
          since = r.view;
          upto = omega arith;
          chosen = chosen.0;
          same = refl;
        } in
        let most : IsCommitted f h r.view (max r.commit_number k) = committed_max f h r.view r.commit_number k n.stands.commit c in
        let g : History (Request C) = finish h (max r.commit_number k) in
        let grows : Grows h g = finish_grows h (max r.commit_number k) in
        good_finishes f i answer h _ r.commit_number _ sound
        (record {
          up = ok.up;
          normal = λ s. record {
            stands = record { log = n.stands.log; accepted = n.stands.accepted; commit = most; executed = omega (arith, n.stands.executed, chosen.1) };
            last = n.last;
            promised = n.promised;
            stored = n.stored;
            leads = n.leads;
            acknowledged = λ l. told;
          };
          view_change = λ s. absurd (not_both r.status e s);
          recovering = λ s. absurd (not_up r.status e s);
        })
        (omega arith)
        (says_replies f i answer g (record r { acknowledged = new }) (max r.commit_number k) r.commit_number (k - r.commit_number) (log_later grows n.stands.log) (committed_later f r.view (max r.commit_number k) sound grows most) (omega arith) (omega arith))
