-- Entering a view, one outcome after another, and what is sent again.
use Rattle.std.proofs.Common.{◌≡◌, ℕ, ◌+◌, ◌-◌, ◌^◌, ◌<◌, ◌≤◌, max, Bool, true, false, cond, not, ◌==◌, ltb, ◌&&◌, ◌⊎◌, List, [], ◌∷◌, ◌++◌, length, take, drop, Option, Some, None, arith, refl, sym, ap, ◌∙◌, subst, inl, inr, length-append, append_assoc}
use Rattle.std.proofs.lemmas.Grind.{common_steps}
use Rattle.std.proofs.lemmas.Bool.{ltb-true, ltb-false, and_parts, not-true, eqb-false}
use Rattle.vr_model.specs.Logs.{Request, IsPrefix, IsEntry}
use Rattle.vr_model.specs.Groups.{group_size, primary}
use Rattle.laws_history.proofs.History.{History, IsSound, Grows}
use Rattle.vr_model.specs.Messages.{Prepare, PrepareOk, Commit, StartViewChange, DoViewChangeMessage, Recovery}
use Rattle.vr_model.specs.Replicas.{Status, Normal, ViewChange, Recovering, Down, is_normal, is_view_change, is_recovering, is_down, takes_part, ReplicaState, Outcome}
use Rattle.vr_model.specs.Choices.{others, own_do_view_change}
use Rattle.vr_model.specs.Rules.{send, send_others, enters, saves_both, and_then, on_timeout, saves_above, enters_if_above, prepares, resent, on_resend}
use Rattle.laws_history.proofs.Facts.{IsCommitted, DoViewChangeSays, AllSay, Stands, NormalOk, ViewChangeOk, ReplicaOk, Apart, Good, saved, LogOk, LeavesBy}
use Rattle.laws_history.proofs.Sent.{left_front, left_back, started_front, started_back}
use Rattle.vr_model.specs.Views.{IsNormalAbove}
use Rattle.laws_history.proofs.Prefixes.{prefix_trans}
use Rattle.laws_history.proofs.Later.{committed_later, log_later, entry_later, all_say_later}
use Rattle.laws_history.proofs.Tables.{put_same}
use Rattle.laws_history.proofs.Actions.{promise, promise_grows, promise_sound, promise_apart}
use Rattle.laws_history.proofs.NormalCase.{all_say_append, all_say_map, good_if, good_sends, not_both, not_up, entry_last}

prefix_all : {X : Type 0} {xs ys zs : List X} → IsPrefix xs ys → IsPrefix ys zs → IsPrefix xs zs
prefix_all p q = prefix_trans p q

pub grows_trans : {X : Type 0} {h g k : History X} → Grows h g → Grows g k → Grows h k
grows_trans {X} {h} {g} {k} a b = record {
  log = λ v. prefix_trans (a.log v) (b.log v);
  started = λ v e. b.started v (a.started v e);
  first = λ v e. b.first v (a.started v e) ∙ a.first v e;
  accepted = λ r v. omega (arith, a.accepted r v, b.accepted r v);
  promised = λ r. omega (arith, a.promised r, b.promised r);
  left = λ r. omega (arith, a.left r, b.left r);
  asked = prefix_trans a.asked b.asked;
  done = omega (arith, a.done, b.done);
  used = λ r x e. b.used r x (a.used r x e);
  held = λ r x v e. b.held r x v (a.used r x e) ∙ a.held r x v e;
  frozen = λ r v l. b.frozen r v (omega (arith, a.promised r)) ∙ a.frozen r v l;
}

pub apart_trans : {X : Type 0} (f : ℕ) {h g k : History X} {j : ℕ} → Apart f h g j → Apart f g k j → Apart f h k j
apart_trans f a b = record {
  accepted = λ v. b.accepted v ∙ a.accepted v;
  promised = b.promised ∙ a.promised;
  log = λ v e. b.log v e ∙ a.log v e;
  started = λ v e. b.started v e ∙ a.started v e;
}

twice_is : {C A : Type 0} (f i : ℕ) (answer : List C → A) (st : ℕ) (a b : Option ℕ) → saved (saved st a) b ≡ saved st (saves_both {C = C} {A = A} f i answer a b)
twice_is f i answer st a None = refl
twice_is f i answer st a (Some u) = refl

-- what is saved where a view is adopted
pub saves_above_ok : {C A : Type 0} (f i : ℕ) (answer : List C → A) (r : ReplicaState C) (u : ℕ)
    → (max r.stored_view u ≡ saved r.stored_view (saves_above f i answer r u)) × (r.stored_view ≤ saved r.stored_view (saves_above f i answer r u))
saves_above_ok f i answer r u = go (ltb r.stored_view u) refl
  where
    go : (b : Bool) → ltb r.stored_view u ≡ b → (max r.stored_view u ≡ saved r.stored_view (cond b (Some u) None)) × (r.stored_view ≤ saved r.stored_view (cond b (Some u) None))
    go true e = let l : r.stored_view < u = ltb-true _ _ e in (omega arith, omega arith)
    go false e = let l : u ≤ r.stored_view = ltb-false _ _ e in (omega arith, omega arith)

pub good_then : {C A : Type 0} (f i : ℕ) (answer : List C → A) (h : History (Request C)) {st k : ℕ} (o : Outcome C A) (next : ReplicaState C → Outcome C A)
    → Good f answer h i st k o
    → (is_normal o.replica.status ≡ true → (next o.replica).replica ≡ o.replica)
    → ((g : History (Request C)) → IsSound f g → Grows h g → ReplicaOk f g i o.replica → Good f answer g i o.replica.stored_view o.replica.commit_number (next o.replica))
    → Good f answer h i st k (and_then f i answer o next)
good_then {C} {A} f i answer h {st} {k} o next a same b =
    let c = b a.later a.sound a.grows a.replica in record {
      store = (let e : saved o.replica.stored_view (next o.replica).saves ≡ saved st (saves_both f i answer o.saves (next o.replica).saves) = ap (λ x. saved x (next o.replica).saves) a.store.is ∙ twice_is f i answer st o.saves (next o.replica).saves in
          record { is = c.store.is ∙ e; rises = omega (arith, a.store.rises, a.store.is, c.store.rises, e) });
      later = c.later;
      sound = c.sound;
      grows = grows_trans a.grows c.grows;
      apart = λ j ne. apart_trans f (a.apart j ne) (c.apart j ne);
      replica = c.replica;
      unused = λ j y e. a.unused j y (c.unused j y e);
      left = λ j v l. elim (c.left j v l) [
        | inl early ↦ elim (a.left j v early) [
          | inl l ↦ inl l
          | inr p ↦ inr (
            p.0,
            elim p.1 [
              | inl sent ↦ inl (left_front o.sends (next o.replica).sends i v sent)
              | inr normal ↦ inr (subst (λ (r : ReplicaState C). IsNormalAbove r v) (sym (same normal.0)) normal)
            ],
          )
        ]
        | inr p ↦ inr (
          p.0,
          elim p.1 [
            | inl sent ↦ inl (left_back o.sends (next o.replica).sends i v sent)
            | inr normal ↦ inr normal
          ],
        )
      ];
      starts = λ u s. elim (c.starts u s) [
        | inl early ↦ elim (a.starts u early) [
          | inl b ↦ inl b
          | inr sent ↦ inr (λ l. started_front o.sends (next o.replica).sends u (sent l))
        ]
        | inr sent ↦ inr (λ l. started_back o.sends (next o.replica).sends u (sent l))
      ];
      done = omega (arith, a.done, c.done, c.grown);
      grown = omega (arith, a.grown, c.grown);
      asked = c.asked ∙ a.asked;
      rises = λ x. c.rises (a.rises x);
      sends = all_say_append f answer c.later o.sends (next o.replica).sends (all_say_later f answer a.later c.later o.sends a.sound c.grows a.sends) c.sends;
    }

-- a step that begins by a later history
pub good_earlier : {C A : Type 0} (f i : ℕ) (answer : List C → A) (h g : History (Request C)) {st k : ℕ} (o : Outcome C A)
    → Grows h g → ((j : ℕ) → Apart f h g j) → g.done ≤ h.done → ((j y : ℕ) → g.used j y ≡ true → h.used j y ≡ true)
    → (((v : ℕ) → LogOk h.asked (h.log v)) → (v : ℕ) → LogOk g.asked (g.log v)) → g.asked ≡ h.asked
    → ((j v : ℕ) → v < g.left j → (v < h.left j) ⊎ ((j ≡ i) × LeavesBy i o v)) → ((u : ℕ) → g.started u ≡ true → h.started u ≡ true)
    → Good f answer g i st k o → Good f answer h i st k o
good_earlier f i answer h g o grows apart done used rises asked left starts good = record {
  asked = good.asked ∙ asked;
  store = good.store;
  later = good.later;
  sound = good.sound;
  grows = grows_trans grows good.grows;
  apart = λ j ne. apart_trans f (apart j) (good.apart j ne);
  replica = good.replica;
  sends = good.sends;
  done = omega (arith, good.done);
  grown = good.grown;
  rises = λ x. good.rises (rises x);
  unused = λ j y e. used j y (good.unused j y e);
  left = λ j v l. elim (good.left j v l) [ inl early ↦ left j v early | inr p ↦ inr p ];
  starts = λ u s. elim (good.starts u s) [ inl early ↦ inl (starts u early) | inr p ↦ inr p ];
}

-- what a replica in a view change is
pub ok_view_change : {C : Type 0} (f : ℕ) (h : History (Request C)) (i : ℕ) (r : ReplicaState C) → is_view_change r.status ≡ true → ViewChangeOk f h i r → ReplicaOk f h i r
ok_view_change f h i r e ok = record {
  up = up_is r.status e;
  normal = λ s. absurd (not_both r.status s e);
  view_change = λ s. ok;
  recovering = λ s. absurd (not_late r.status e s);
}
  where
    not_late : (s : Status) → is_view_change s ≡ true → is_recovering s ≡ true → ⊥
    not_late Normal a b = absurd cc
    not_late ViewChange a b = absurd cc
    not_late Recovering a b = absurd cc
    not_late Down a b = absurd cc

    up_is : (s : Status) → is_view_change s ≡ true → is_down s ≡ false
    up_is Normal a = refl
    up_is ViewChange a = refl
    up_is Recovering a = refl
    up_is Down a = absurd cc

pub ok_normal : {C : Type 0} (f : ℕ) (h : History (Request C)) (i : ℕ) (r : ReplicaState C) → is_normal r.status ≡ true → NormalOk f h i r → ReplicaOk f h i r
ok_normal f h i r e ok = record {
  up = up_is r.status e;
  normal = λ s. ok;
  view_change = λ s. absurd (not_both r.status e s);
  recovering = λ s. absurd (not_up r.status e s);
}
  where
    up_is : (s : Status) → is_normal s ≡ true → is_down s ≡ false
    up_is Normal a = refl
    up_is ViewChange a = refl
    up_is Recovering a = refl
    up_is Down a = absurd cc

-- who takes part is one or the other
pub takes_cases : (s : Status) → takes_part s ≡ true → (is_normal s ≡ true) ⊎ (is_view_change s ≡ true)
takes_cases Normal e = inl refl
takes_cases ViewChange e = inr refl
takes_cases Recovering e = absurd cc
takes_cases Down e = absurd cc

-- what holds of both
pub record UpOk {C : Type 0} (f : ℕ) (h : History (Request C)) (i : ℕ) (r : ReplicaState C) : Type 0 where
  pub stands : Stands f h i r.last_normal_view r.commit_number r.log
  pub below : r.last_normal_view ≤ r.view
  pub promised : h.promised i ≡ r.view
  pub stored : r.stored_view ≡ r.view
  pub later : (v : ℕ) → r.last_normal_view < v → h.accepted i v ≡ 0

pub up_ok : {C : Type 0} (f : ℕ) (h : History (Request C)) (i : ℕ) (r : ReplicaState C) → IsSound f h → takes_part r.status ≡ true → ReplicaOk f h i r → UpOk f h i r
up_ok f h i r sound e ok = elim (takes_cases r.status e) [
  | inl a ↦ let n = ok.normal a in record {
    stands = subst (λ v. Stands f h i v r.commit_number r.log) (sym n.last) n.stands;
    below = omega (arith, n.last);
    promised = n.promised;
    stored = n.stored;
    later = λ v l. sound.accepted_promised i v (omega (arith, n.last, n.promised));
  }
  | inr a ↦ let n = ok.view_change a in record { stands = n.stands; below = omega (arith, n.below); promised = n.promised; stored = n.stored; later = n.later }
]

pub good_enters : {C A : Type 0} (f i : ℕ) (answer : List C → A) (h : History (Request C)) (r : ReplicaState C) (u : ℕ)
    → IsSound f h → ReplicaOk f h i r → takes_part r.status ≡ true → r.view < u → Good f answer h i r.stored_view r.commit_number (enters f i answer r u)
good_enters {C} f i answer h r u sound ok e l =
    let n = up_ok f h i r sound e ok in
    let may : h.promised i ≤ u = omega (arith, n.promised) in
    let g : History (Request C) = promise h i u in
    let grows : Grows h g = promise_grows h i u may in
    record {
      store = record { is = refl; rises = omega (arith, n.stored) };
      unused = λ j y e. e;
      left = λ j v l. inl l;
      starts = λ u b. inl b;
      done = omega arith;
      grown = omega arith;
      asked = refl;
      rises = λ k. k;
      later = g;
      sound = promise_sound f h i u sound may;
      grows = grows;
      apart = λ j ne. promise_apart f h i u j ne;
      replica = ok_view_change f g i _ refl (record {
        stands = record { log = log_later grows n.stands.log; accepted = n.stands.accepted; commit = committed_later f r.last_normal_view r.commit_number sound grows n.stands.commit; executed = n.stands.executed };
        below = omega (arith, n.below);
        promised = put_same h.promised i u i refl;
        stored = refl;
        later = n.later;
        unstarted = λ leads. go (h.started u) refl leads n.promised;
        sent_do_view_change = λ e. absurd cc;
        left = λ s a none. absurd cc;
        do_view_changes = λ s a none. absurd cc;
      });
      sends = all_say_map f i answer g (StartViewChange u) (others i (group_size f)) (λ t. tt);
    }
  where
    go : (b : Bool) → h.started u ≡ b → primary f u ≡ i → h.promised i ≡ r.view → h.started u ≡ false
    go true b leads p = absurd (let k : h.promised (primary f u) ≡ h.promised i = ap h.promised leads in omega (arith, sound.called u b))
    go false b leads p = b

pub good_on_timeout : {C A : Type 0} (f i : ℕ) (answer : List C → A) (h : History (Request C)) (r : ReplicaState C)
    → IsSound f h → ReplicaOk f h i r → Good f answer h i r.stored_view r.commit_number (on_timeout f i answer r)
good_on_timeout f i answer h r sound ok =
    good_if f i answer h (takes_part r.status && ltb (r.view + 1) (2 ^ 64)) _ _
    (λ e. good_enters f i answer h r (r.view + 1) sound ok (and_parts (takes_part r.status) _ e).0 (omega arith))
    (λ e. good_sends f i answer h r [] sound ok tt)

pub good_enters_if_above : {C A : Type 0} (f i : ℕ) (answer : List C → A) (h : History (Request C)) (r : ReplicaState C) (u : ℕ)
    → IsSound f h → ReplicaOk f h i r → takes_part r.status ≡ true → Good f answer h i r.stored_view r.commit_number (enters_if_above f i answer r u)
good_enters_if_above f i answer h r u sound ok e =
    good_if f i answer h (ltb r.view u) _ _
    (λ a. good_enters f i answer h r u sound ok e (ltb-true _ _ a))
    (λ a. good_sends f i answer h r [] sound ok tt)

-- the replica's own DOVIEWCHANGE
pub own_says : {C : Type 0} (f i : ℕ) (h : History (Request C)) (r : ReplicaState C) → ViewChangeOk f h i r → DoViewChangeSays f h i r.view r.last_normal_view r.commit_number r.log
own_says f i h r n = record {
  leaves = record {
    promised = omega (arith, n.promised);
    below = n.below;
    started = n.stands.log.started;
    log = n.stands.log.within;
    whole = n.stands.log.whole;
    covers = omega (arith, n.stands.accepted);
    later = λ v a b. n.later v a;
  };
  commit = n.stands.commit;
  executed = n.stands.executed;
}

-- every entry from place n on is prepared again
says_prepares : {C A : Type 0} (f i : ℕ) (answer : List C → A) (h : History (Request C)) (r : ReplicaState C) (n : ℕ) (rest : List (Request C))
    → NormalOk f h i r → IsCommitted f h r.view r.commit_number → (front : List (Request C)) → length front ≡ n → front ++ rest ≡ r.log
    → AllSay f answer h (prepares f i answer r n rest)
says_prepares f i answer h r n [] ok c front len is = tt
says_prepares f i answer h r n (m ∷ ms) ok c front len is =
    all_say_append f answer h (send_others f i answer (Prepare r.view m (n + 1) r.commit_number)) (prepares f i answer r (n + 1) ms)
    (all_say_map f i answer h (Prepare r.view m (n + 1) r.commit_number) (others i (group_size f)) (λ t. record {
      started = ok.stands.log.started;
      above = omega arith;
      entry = let e : n + 1 - 1 ≡ length front = omega arith in subst (λ p. IsEntry (h.log r.view) p m) (sym e) (entry_later whole (entry_last front m));
      commit = c;
    }))
    (says_prepares f i answer h r (n + 1) ms ok c (front ++ m ∷ []) (omega (arith, length-append front (m ∷ []))) (append_assoc front (m ∷ []) ms ∙ is))
  where
    whole : IsPrefix (front ++ m ∷ []) (h.log r.view)
    whole = prefix_trans (record { rest = ms; is = append_assoc front (m ∷ []) ms ∙ is }) ok.stands.log.within

take_drop : {X : Type 0} (n : ℕ) (xs : List X) → take n xs ++ drop n xs ≡ xs
take_drop n xs = grind (arith, common_steps)

length_take : {X : Type 0} (n : ℕ) (xs : List X) → n ≤ length xs → length (take n xs) ≡ n
length_take n xs l = grind (arith, common_steps)

pub good_on_resend : {C A : Type 0} (f i : ℕ) (answer : List C → A) (h : History (Request C)) (r : ReplicaState C)
    → IsSound f h → ReplicaOk f h i r → Good f answer h i r.stored_view r.commit_number (on_resend f i answer r)
good_on_resend {C} {A} f i answer h r sound ok = good_sends f i answer h r _ sound ok (go r.status refl)
  where
    more : NormalOk f h i r → (b : Bool) → AllSay {C = C} {A = A} f answer h (cond b (prepares f i answer r r.commit_number (drop r.commit_number r.log)) (send_others f i answer (Commit r.view r.commit_number)))
    more n true = says_prepares f i answer h r r.commit_number (drop r.commit_number r.log) n n.stands.commit (take r.commit_number r.log) (length_take r.commit_number r.log n.stands.executed) (take_drop r.commit_number r.log)
    more n false = all_say_map f i answer h (Commit r.view r.commit_number) (others i (group_size f)) (λ t. n.stands.commit)

    as_normal : NormalOk f h i r → (b : Bool) → AllSay {C = C} {A = A} f answer h (cond b (cond (ltb r.commit_number (length r.log)) (prepares f i answer r r.commit_number (drop r.commit_number r.log)) (send_others f i answer (Commit r.view r.commit_number))) (send f i answer (primary f r.view) (PrepareOk r.view (length r.log)) ∷ []))
    as_normal n true = more n (ltb r.commit_number (length r.log))
    as_normal n false = (omega (arith, n.stands.accepted), tt)

    its_own : ViewChangeOk f h i r → (b : Bool) → (r.sent_do_view_change && not (primary f r.view == i)) ≡ b → AllSay {C = C} {A = A} f answer h (cond b (send f i answer (primary f r.view) (DoViewChangeMessage r.view (own_do_view_change r)) ∷ []) [])
    its_own n true e = let p = and_parts r.sent_do_view_change (not (primary f r.view == i)) e in
        ((own_says f i h r n, n.sent_do_view_change p.0 (eqb-false _ _ (not-true _ p.1))), tt)
    its_own n false e = tt

    go : (s : Status) → r.status ≡ s → AllSay {C = C} {A = A} f answer h (resent f i answer r s)
    go Normal e = as_normal (ok.normal (ap is_normal e)) (primary f r.view == i)
    go ViewChange e = all_say_append f answer h (send_others f i answer (StartViewChange r.view)) _
        (all_say_map f i answer h (StartViewChange r.view) (others i (group_size f)) (λ t. tt))
        (its_own (ok.view_change (ap is_view_change e)) (r.sent_do_view_change && not (primary f r.view == i)) refl)
    go Recovering e = all_say_map f i answer h (Recovery r.nonce r.stored_view) (others i (group_size f)) (λ t. (ok.recovering (ap is_recovering e)).used)
    go Down e = tt
