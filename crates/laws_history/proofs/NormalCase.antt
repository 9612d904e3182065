-- The rules of the normal case agree with the history.
use Rattle.std.proofs.Common.{◌≡◌, ℕ, zero, suc, ◌+◌, ◌-◌, ◌<◌, ◌≤◌, Bool, true, false, cond, ◌==◌, ltb, ◌&&◌, List, [], ◌∷◌, ◌++◌, length, take, map, Option, Some, None, arith, refl, inl, sym, ap, ◌∙◌, subst, length-append}
use Rattle.std.specs.Prelude.{slice_get}
use Rattle.std.proofs.lemmas.Grind.{common_steps}
use Rattle.std.proofs.lemmas.List.{take_more}
use Rattle.std.proofs.lemmas.Option.{slice_get_within, get_or_from_slice_get}
use Rattle.std.proofs.lemmas.Bool.{ltb-true, and_parts, eqb-true}
use Rattle.vr_model.specs.Logs.{Request, IsPrefix, last_number, IsEntry, is_above, IsAmong}
use Rattle.vr_model.specs.Groups.{group_size, primary}
use Rattle.laws_history.proofs.History.{History, IsSound, Grows}
use Rattle.vr_model.specs.Messages.{Body, Prepare, Message}
use Rattle.vr_model.specs.Replicas.{Status, Normal, ViewChange, Recovering, Down, is_normal, is_view_change, is_recovering, ReplicaState, Outcome}
use Rattle.vr_model.specs.Choices.{commands, others, place_of, is_same}
use Rattle.vr_model.specs.Rules.{send, reply_of, replies, appends, replies_again, on_request}
use Rattle.laws_history.proofs.Facts.{IsCommitted, IsLogOf, Says, AllSay, ReplicaOk, Good, LogOk}
use Rattle.laws_history.proofs.Prefixes.{prefix_take, prefix_refl}
use Rattle.laws_history.proofs.Later.{grows_refl, apart_refl, committed_later, log_later, entry_later, replica_later}
use Rattle.laws_history.proofs.Notes.{finish, finish_grows, finish_sound, finish_apart}
use Rattle.laws_history.proofs.Tables.{put_same, put_cases, put_at_same}
use Rattle.laws_history.proofs.Actions.{append, MayAppend, append_grows, append_sound, append_apart}
use Rattle.laws_history.proofs.Rising.{log_append}
use Rattle.laws_history.proofs.Committed.{committed_less}

-- messages
pub all_say_append : {C A : Type 0} (f : ℕ) (answer : List C → A) (h : History (Request C)) (xs ys : List (Message C A)) → AllSay f answer h xs → AllSay f answer h ys → AllSay f answer h (xs ++ ys)
all_say_append f answer h [] ys a b = b
all_say_append f answer h (x ∷ xs) ys a b = (a.0, all_say_append f answer h xs ys a.1 b)

pub all_say_map : {C A : Type 0} (f i : ℕ) (answer : List C → A) (h : History (Request C)) (body : Body C A) (to : List ℕ) → ((t : ℕ) → Says f answer h i t body)
    → AllSay f answer h (map (λ t. send f i answer t body) to)
all_say_map f i answer h body [] says = tt
all_say_map f i answer h body (t ∷ ts) says = (says t, all_say_map f i answer h body ts says)

-- either of two
pub good_if : {C A : Type 0} (f i : ℕ) (answer : List C → A) (h : History (Request C)) {st k : ℕ} (b : Bool) (x y : Outcome C A)
    → (b ≡ true → Good f answer h i st k x) → (b ≡ false → Good f answer h i st k y) → Good f answer h i st k (cond b x y)
good_if f i answer h true x y first second = first refl
good_if f i answer h false x y first second = second refl

-- the history stays, and the replica sends this
pub good_sends : {C A : Type 0} (f i : ℕ) (answer : List C → A) (h : History (Request C)) (r : ReplicaState C) (ms : List (Message C A))
    → IsSound f h → ReplicaOk f h i r → AllSay f answer h ms → Good f answer h i r.stored_view r.commit_number (record { replica = r; saves = None; sends = ms })
good_sends f i answer h r ms sound ok says = record {
  store = record { is = refl; rises = omega arith };
  unused = λ j y e. e;
  left = λ j v l. inl l;
  starts = λ u b. inl b;
  done = omega arith;
  grown = omega arith;
  asked = refl;
  rises = λ k. k;
  later = h;
  sound = sound;
  grows = grows_refl h;
  apart = λ j ne. apart_refl f h j;
  replica = ok;
  sends = says;
}

-- the same, where more has been executed
pub good_finishes : {C A : Type 0} (f i : ℕ) (answer : List C → A) (h : History (Request C)) (r : ReplicaState C) (k : ℕ) (ms : List (Message C A))
    → IsSound f h → ReplicaOk f h i r → k ≤ r.commit_number → AllSay f answer (finish h r.commit_number) ms → Good f answer h i r.stored_view k (record { replica = r; saves = None; sends = ms })
good_finishes f i answer h r k ms sound ok l says = record {
  store = record { is = refl; rises = omega arith };
  unused = λ j y e. e;
  left = λ j v l. inl l;
  starts = λ u b. inl b;
  done = omega arith;
  grown = l;
  asked = refl;
  rises = λ x. x;
  later = finish h r.commit_number;
  sound = finish_sound f h r.commit_number sound;
  grows = finish_grows h r.commit_number;
  apart = λ j ne. finish_apart f h r.commit_number j;
  replica = replica_later f h (finish h r.commit_number) i r sound (finish_grows h r.commit_number) (finish_apart f h r.commit_number i) ok;
  sends = says;
}

pub not_up : (s : Status) → is_normal s ≡ true → is_recovering s ≡ true → ⊥
not_up Normal a b = absurd cc
not_up ViewChange a b = absurd cc
not_up Recovering a b = absurd cc
not_up Down a b = absurd cc

pub not_both : (s : Status) → is_normal s ≡ true → is_view_change s ≡ true → ⊥
not_both Normal a b = absurd cc
not_both ViewChange a b = absurd cc
not_both Recovering a b = absurd cc
not_both Down a b = absurd cc

-- an entry that is read
pub entry_read : {X : Type 0} (xs : List X) (j : ℕ) (m : X) → slice_get xs j ≡ Some m → IsEntry xs j m
entry_read xs j m e =
    let l : j < length xs = slice_get_within xs j m e in
    record { within = l; last = take_more xs j m l ∙ ap (λ a. take j xs ++ a ∷ []) (get_or_from_slice_get xs j m m e) }

pub entry_last : {X : Type 0} (xs : List X) (m : X) → IsEntry (xs ++ m ∷ []) (length xs) m
entry_last xs m = record { within = omega (arith, length-append xs (m ∷ [])); last = grind (arith, common_steps) }

-- the reply to an entry that is executed
pub says_reply : {C A : Type 0} (f i : ℕ) (answer : List C → A) (h : History (Request C)) (r : ReplicaState C) (k j : ℕ)
    → IsLogOf h r.view r.log → IsCommitted f h r.view k → j < k → k ≤ h.done
    → AllSay f answer h (reply_of f i answer r j (slice_get r.log j))
says_reply {C} {A} f i answer h r k j log c l d = go (slice_get r.log j) refl
  where
    go : (o : Option (Request C)) → slice_get r.log j ≡ o → AllSay f answer h (reply_of f i answer r j o)
    go None e = tt
    go (Some m) e = (
      record {
        view = r.view;
        place = j;
        request = m;
        commit = committed_less f h r.view k (j + 1) (omega arith) c;
        entry = entry_later log.within (entry_read r.log j m e);
        done = omega arith;
        client_is = refl;
        number_is = refl;
        answer_is = ap (λ x. answer (commands x)) (sym (prefix_take (j + 1) log.within (let w : j < length r.log = slice_get_within r.log j m e in omega arith)));
      },
      tt,
    )

pub says_replies : {C A : Type 0} (f i : ℕ) (answer : List C → A) (h : History (Request C)) (r : ReplicaState C) (k from count : ℕ)
    → IsLogOf h r.view r.log → IsCommitted f h r.view k → from + count ≤ k → k ≤ h.done
    → AllSay f answer h (replies f i answer r from count)
says_replies f i answer h r k from zero log c l d = tt
says_replies f i answer h r k from (suc count) log c l d =
    all_say_append f answer h (reply_of f i answer r from (slice_get r.log from)) (replies f i answer r (from + 1) count)
    (says_reply f i answer h r k from log c (omega arith) d)
    (says_replies f i answer h r k (from + 1) count log c (omega arith) d)

good_appends : {C A : Type 0} (f i : ℕ) (answer : List C → A) (h : History (Request C)) (r : ReplicaState C) (m : Request C)
    → IsSound f h → ReplicaOk f h i r → is_normal r.status ≡ true → primary f r.view ≡ i
    → is_above m.number (last_number r.log m.client) ≡ true → IsAmong h.asked m → Good f answer h i r.stored_view r.commit_number (appends f i answer r m)
good_appends {C} f i answer h r m sound ok e leads above among =
    let n = ok.normal e in
    let v : ℕ = r.view in
    let g : History (Request C) = append h i v m in
    let may : MayAppend f h i v = record { started = n.stands.log.started; promised = n.promised; leads = leads } in
    let grows : Grows h g = append_grows f h i v m sound may in
    let new : g.log v ≡ r.log ++ m ∷ [] = put_same h.log v (h.log v ++ m ∷ []) v refl ∙ ap (λ a. a ++ m ∷ []) (sym (n.leads leads)) in
    let more : length (r.log ++ m ∷ []) ≡ length r.log + 1 = length-append r.log (m ∷ []) in
    let whole : IsLogOf g v (r.log ++ m ∷ []) = record {
      started = n.stands.log.started;
      within = subst (IsPrefix (r.log ++ m ∷ [])) (sym new) (prefix_refl (r.log ++ m ∷ []));
      whole = omega (arith, n.stands.log.whole);
    } in
    let c : IsCommitted f g v r.commit_number = committed_later f v r.commit_number sound grows n.stands.commit in
    record {
      store = record { is = refl; rises = omega arith };
      unused = λ j y e. e;
      left = λ j v l. inl l;
      starts = λ u b. inl b;
      done = omega arith;
      grown = omega arith;
      asked = refl;
      rises = λ k u. put_cases h.log v (h.log v ++ m ∷ []) u (LogOk h.asked)
          (λ d. subst (λ x. LogOk h.asked (x ++ m ∷ [])) (n.leads leads) (log_append h.asked r.log m (subst (LogOk h.asked) (sym (n.leads leads)) (k v)) above among))
          (λ ne. k u);
      later = g;
      sound = append_sound f h i v m sound may;
      grows = grows;
      apart = λ j ne. append_apart f h i v m j leads ne;
      replica = record {
        up = ok.up;
        normal = λ s. record {
          stands = record {
            log = whole;
            accepted = put_at_same h.accepted i v (length (h.log v) + 1) i v refl refl ∙ ap (λ a. length a + 1) (sym (n.leads leads)) ∙ sym more;
            commit = c;
            executed = omega (arith, n.stands.executed);
          };
          last = n.last;
          promised = n.promised;
          stored = n.stored;
          leads = λ l. sym new;
          acknowledged = λ l s. omega (arith, n.acknowledged l s, grows.accepted s v);
        };
        view_change = λ s. absurd (not_both r.status e s);
        recovering = λ s. absurd (not_up r.status e s);
      };
      sends = all_say_map f i answer g (Prepare v m (length r.log + 1) r.commit_number) (others i (group_size f)) (λ t. record {
        started = n.stands.log.started;
        above = omega arith;
        entry = let e : length r.log + 1 - 1 ≡ length r.log = omega arith in subst (λ x. IsEntry x (length r.log + 1 - 1) m) (sym new) (subst (λ p. IsEntry (r.log ++ m ∷ []) p m) (sym e) (entry_last r.log m));
        commit = c;
      });
    }

good_replies_again : {C A : Type 0} (f i : ℕ) (answer : List C → A) (h : History (Request C)) (r : ReplicaState C) (m : Request C)
    → IsSound f h → ReplicaOk f h i r → is_normal r.status ≡ true → Good f answer h i r.stored_view r.commit_number (replies_again f i answer r m)
good_replies_again f i answer h r m sound ok e =
    good_finishes f i answer h r r.commit_number _ sound ok (omega arith) (go (ltb (place_of r.log m.client m.number) r.commit_number) refl)
  where
    go : (b : Bool) → ltb (place_of r.log m.client m.number) r.commit_number ≡ b
        → AllSay f answer (finish h r.commit_number) (cond b (reply_of f i answer r (place_of r.log m.client m.number) (slice_get r.log (place_of r.log m.client m.number))) [])
    go true l = let n = ok.normal e in
        says_reply f i answer (finish h r.commit_number) r r.commit_number (place_of r.log m.client m.number) (log_later (finish_grows h r.commit_number) n.stands.log)
        (committed_later f r.view r.commit_number sound (finish_grows h r.commit_number) n.stands.commit) (ltb-true _ _ l) (omega arith)
    go false l = tt

pub good_on_request : {C A : Type 0} (f i : ℕ) (answer : List C → A) (h : History (Request C)) (r : ReplicaState C) (m : Request C)
    → IsSound f h → ReplicaOk f h i r → IsAmong h.asked m → Good f answer h i r.stored_view r.commit_number (on_request f i answer r m)
good_on_request f i answer h r m sound ok among =
    good_if f i answer h (is_normal r.status && (primary f r.view == i)) _ _
    (λ e. let both = and_parts (is_normal r.status) (primary f r.view == i) e in
    good_if f i answer h (is_above m.number (last_number r.log m.client)) _ _
    (λ a. good_appends f i answer h r m sound ok both.0 (eqb-true _ _ both.1) a among)
    (λ a. good_if f i answer h (is_same m.number (last_number r.log m.client)) _ _
    (λ b. good_replies_again f i answer h r m sound ok both.0)
    (λ b. good_sends f i answer h r [] sound ok tt)))
    (λ e. good_sends f i answer h r [] sound ok tt)
