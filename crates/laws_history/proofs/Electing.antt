-- The best DOVIEWCHANGE, and the view that begins with it.
use Rattle.std.proofs.Common.{◌≡◌, ℕ, zero, suc, ◌+◌, ◌<◌, ◌≤◌, max, min, Bool, true, false, cond, not, eqb, ◌==◌, leb, ltb, ◌&&◌, ◌⊎◌, List, [], ◌∷◌, length, Option, Some, None, arith, refl, sym, ap, ◌∙◌, subst, inl, inr}
use Rattle.std.specs.Prelude.{is_some}
use Rattle.std.proofs.lemmas.Bool.{leb-true, ltb-true, ltb-false, cases_lt, cases_eq, and_parts, or_cases, or_parts, and_cases, eqb-true, eqb-false}
use Rattle.vr_model.specs.Logs.{Request, IsPrefix}
use Rattle.vr_model.specs.Groups.{group_size, primary, how_many, IsQuorum}
use Rattle.laws_history.proofs.History.{History, IsSound, Grows, Leaves}
use Rattle.vr_model.specs.Messages.{DoViewChange, Replica, DoViewChangeMessage, StartView, Message}
use Rattle.vr_model.specs.Views.{IsStarted}
use Rattle.laws_history.proofs.Sent.{start_view_sent}
use Rattle.vr_model.specs.Replicas.{Status, Normal, ViewChange, Recovering, Down, is_normal, is_view_change, takes_part, ReplicaState, Outcome, put}
use Rattle.vr_model.specs.Choices.{others, better, pick, best, commit_of, greatest_commit, own_do_view_change}
use Rattle.vr_model.specs.Rules.{keep, send, send_others, begins_with, is_elected, begins_if_elected, sends_do_view_change, counts_start_view_change, enters_if_above, if_view_change_in, on_start_view_change, keeps_do_view_change, on_do_view_change}
use Rattle.laws_history.proofs.Facts.{IsCommitted, IsLogOf, DoViewChangeSays, ViewChangeOk, ReplicaOk, Good, LogOk, LeavesBy}
use Rattle.laws_history.proofs.Prefixes.{prefix_refl}
use Rattle.laws_history.proofs.Carried.{Elected}
use Rattle.laws_history.proofs.Later.{replica_later, committed_later, do_view_change_later}
use Rattle.laws_history.proofs.Notes.{leave, leave_cases, leave_grows, leave_sound, leave_apart}
use Rattle.laws_history.proofs.Tables.{put_same, put_cases, put_other, put_at_same}
use Rattle.laws_history.proofs.Actions.{begin, MayBegin, begin_grows, begin_sound, begin_apart}
use Rattle.laws_history.proofs.Rising.{log_prefix}
use Rattle.laws_history.proofs.Committed.{committed_max, committed_min, committed_zero, committed_up, committed_first}
use Rattle.laws_history.proofs.NormalCase.{all_say_map, good_if, good_sends}
use Rattle.laws_history.proofs.Entering.{good_earlier, good_then, saves_above_ok, ok_view_change, ok_normal, good_enters_if_above, own_says}

-- a is at least as good as b
abbrev pub NotWorse : {C : Type 0} → DoViewChange C → DoViewChange C → Type 0
NotWorse a b = (b.last_normal_view < a.last_normal_view) ⊎ ((b.last_normal_view ≡ a.last_normal_view) × (length b.log ≤ length a.log))

not_worse_refl : {C : Type 0} (a : DoViewChange C) → NotWorse a a
not_worse_refl a = inr (refl, omega arith)

not_worse_trans : {C : Type 0} (a b c : DoViewChange C) → NotWorse a b → NotWorse b c → NotWorse a c
not_worse_trans a b c x y = elim x [
  | inl l ↦ elim y [ inl k ↦ inl (omega arith) | inr k ↦ inl (omega (arith, k.0)) ]
  | inr l ↦ elim y [ inl k ↦ inl (omega (arith, l.0)) | inr k ↦ inr (k.0 ∙ l.0, omega (arith, l.1, k.1)) ]
]

better_is : {C : Type 0} (a b : DoViewChange C) → better a b ≡ true → NotWorse a b
better_is a b e = elim (or_cases (ltb b.last_normal_view a.last_normal_view) ((eqb b.last_normal_view a.last_normal_view) && ltb (length b.log) (length a.log)) e) [
  | inl l ↦ inl (ltb-true _ _ l)
  | inr l ↦ let p = and_parts (eqb b.last_normal_view a.last_normal_view) (ltb (length b.log) (length a.log)) l in inr (eqb-true _ _ p.0, (let k : length b.log < length a.log = ltb-true _ _ p.1 in omega arith))
]

worse_is : {C : Type 0} (a b : DoViewChange C) → better a b ≡ false → NotWorse b a
worse_is a b e =
    let p = or_parts (ltb b.last_normal_view a.last_normal_view) ((eqb b.last_normal_view a.last_normal_view) && ltb (length b.log) (length a.log)) e in
    let l : a.last_normal_view ≤ b.last_normal_view = ltb-false _ _ p.0 in
    elim (cases_lt a.last_normal_view b.last_normal_view) [
      | inl k ↦ inl k
      | inr k ↦ let same : a.last_normal_view ≡ b.last_normal_view = omega arith in
          inr (
            same,
            (elim (and_cases (eqb b.last_normal_view a.last_normal_view) (ltb (length b.log) (length a.log)) p.1) [
              | inl ne ↦ absurd (eqb-false _ _ ne (sym same))
              | inr nl ↦ ltb-false _ _ nl
            ]),
          )
    ]

-- the best DOVIEWCHANGE of the replicas below n
pub record IsBestBelow {C : Type 0} (do_view_changes : ℕ → Option (DoViewChange C)) (n : ℕ) (a : DoViewChange C) : Type 0 where
  pub sender : ℕ
  pub within : sender < n
  pub its : do_view_changes sender ≡ Some a
  pub best : (s : ℕ) (b : DoViewChange C) → s < n → do_view_changes s ≡ Some b → NotWorse a b

abbrev pub BestSays : {C : Type 0} → (ℕ → Option (DoViewChange C)) → ℕ → Option (DoViewChange C) → Type 0
BestSays do_view_changes n None = (s : ℕ) → s < n → do_view_changes s ≡ None
BestSays do_view_changes n (Some a) = IsBestBelow do_view_changes n a

some_same : {X : Type 0} (a b : X) → Some a ≡ Some b → a ≡ b
some_same a b e = cc

pub best_says : {C : Type 0} (do_view_changes : ℕ → Option (DoViewChange C)) (n : ℕ) → BestSays do_view_changes n (best do_view_changes n)
best_says do_view_changes zero = λ s l. absurd (omega arith)
best_says {C} do_view_changes (suc n) = go (do_view_changes n) refl (best do_view_changes n) (best_says do_view_changes n)
  where
    at : (s : ℕ) → s < suc n → (s < n) ⊎ (s ≡ n)
    at s l = elim (cases_lt s n) [ inl k ↦ inl k | inr k ↦ inr (omega arith) ]

    both : (x y : DoViewChange C) → do_view_changes n ≡ Some x → IsBestBelow do_view_changes n y → (b : Bool) → better x y ≡ b → BestSays do_view_changes (suc n) (cond b (Some x) (Some y))
    both x y vx k true e = record {
      sender = n;
      within = omega arith;
      its = vx;
      best = λ s c l v. elim (at s l) [
        | inl m ↦ not_worse_trans x y c (better_is x y e) (k.best s c m v)
        | inr m ↦ subst (NotWorse x) (some_same x c (sym vx ∙ ap do_view_changes (sym m) ∙ v)) (not_worse_refl x)
      ];
    }
    both x y vx k false e = record {
      sender = k.sender;
      within = omega (arith, k.within);
      its = k.its;
      best = λ s c l v. elim (at s l) [
        | inl m ↦ k.best s c m v
        | inr m ↦ subst (NotWorse y) (some_same x c (sym vx ∙ ap do_view_changes (sym m) ∙ v)) (worse_is x y e)
      ];
    }

    go : (x : Option (DoViewChange C)) → do_view_changes n ≡ x → (y : Option (DoViewChange C)) → BestSays do_view_changes n y → BestSays do_view_changes (suc n) (pick x y)
    go None vx None k = λ s l. elim (at s l) [ inl m ↦ k s m | inr m ↦ ap do_view_changes m ∙ vx ]
    go None vx (Some y) k = record {
      sender = k.sender;
      within = omega (arith, k.within);
      its = k.its;
      best = λ s c l v. elim (at s l) [ inl m ↦ k.best s c m v | inr m ↦ absurd (let x : None ≡ Some c = sym vx ∙ ap do_view_changes (sym m) ∙ v in cc) ];
    }
    go (Some x) vx None k = record {
      sender = n;
      within = omega arith;
      its = vx;
      best = λ s c l v. elim (at s l) [
        | inl m ↦ absurd (let x : None ≡ Some c = sym (k s m) ∙ v in cc)
        | inr m ↦ subst (NotWorse x) (some_same x c (sym vx ∙ ap do_view_changes (sym m) ∙ v)) (not_worse_refl x)
      ];
    }
    go (Some x) vx (Some y) k = both x y vx k (better x y) refl

-- the greatest commit number that came is committed
greatest_committed : {C : Type 0} (f : ℕ) (g : History (Request C)) (u : ℕ) (do_view_changes : ℕ → Option (DoViewChange C)) (n : ℕ)
    → ((s : ℕ) (a : DoViewChange C) → do_view_changes s ≡ Some a → IsCommitted f g u a.commit_number) → IsCommitted f g u (greatest_commit do_view_changes n)
greatest_committed f g u do_view_changes zero each = committed_zero f g u
greatest_committed {C} f g u do_view_changes (suc n) each = committed_max f g u (commit_of (do_view_changes n)) (greatest_commit do_view_changes n) (go (do_view_changes n) refl) (greatest_committed f g u do_view_changes n each)
  where
    go : (x : Option (DoViewChange C)) → do_view_changes n ≡ x → IsCommitted f g u (commit_of x)
    go None e = committed_zero f g u
    go (Some a) e = each n a e

-- the DOVIEWCHANGEs of a quorum begin the view
good_begins_with : {C A : Type 0} (f i : ℕ) (answer : List C → A) (h : History (Request C)) (r : ReplicaState C) (a : DoViewChange C)
    → IsSound f h → ViewChangeOk f h i r → r.view ≤ h.left i → primary f r.view ≡ i → IsQuorum f (λ s. is_some (r.do_view_changes s)) → IsBestBelow r.do_view_changes (group_size f) a
    → Good f answer h i r.stored_view r.commit_number (begins_with f i answer r (Some a))
good_begins_with {C} f i answer h r a sound n left leads quorum top =
    let u : ℕ = r.view in
    let its : DoViewChangeSays f h top.sender u a.last_normal_view a.commit_number a.log = n.do_view_changes top.sender a top.its in
    let may : MayBegin f h i u = record { unstarted = n.unstarted leads; promised = n.promised; leads = leads } in
    let el : Elected f h u a.last_normal_view a.log (λ s. is_some (r.do_view_changes s)) = record {
      below = its.leaves.below;
      started = its.leaves.started;
      log = its.leaves.log;
      whole = its.leaves.whole;
      quorum = quorum;
      left = λ s l e. elim (cases_eq s i) [
        | inl same ↦ let k : h.left s ≡ h.left i = ap h.left same in omega (arith, left)
        | inr ne ↦ let k = kept (r.do_view_changes s) e in n.left s k.0 k.1 ne
      ];
      best = λ s l e. sent_do_view_change s l (r.do_view_changes s) refl e;
    } in
    let g : History (Request C) = begin h i u a.log in
    let grows : Grows h g = begin_grows f h i u a.log sound may in
    let sound' : IsSound f g = begin_sound f h i u a.last_normal_view a.log (λ s. is_some (r.do_view_changes s)) sound may el in
    let b : g.started u ≡ true = put_same h.started u true u refl in
    let log : g.log u ≡ a.log = put_same h.log u a.log u refl in
    let first : g.first u ≡ length a.log = put_same h.first u (length a.log) u refl in
    let whole : IsLogOf g u a.log = record {
      started = b;
      within = subst (IsPrefix a.log) (sym log) (prefix_refl a.log);
      whole = omega (arith, first);
    } in
    let mine : IsCommitted f g r.last_normal_view r.commit_number = committed_later f r.last_normal_view r.commit_number sound grows n.stands.commit in
    let up : IsCommitted f g u r.commit_number = committed_up f g r.last_normal_view u r.commit_number sound' (omega (arith, n.below)) b mine in
    let fits : r.commit_number ≤ length a.log = omega (arith, first, committed_first f g r.last_normal_view u r.commit_number sound' n.below b mine) in
    let most : IsCommitted f g u (greatest_commit r.do_view_changes (group_size f)) = greatest_committed f g u r.do_view_changes (group_size f) (λ s x e.
    let v : DoViewChangeSays f h s u x.last_normal_view x.commit_number x.log = n.do_view_changes s x e in
    committed_up f g x.last_normal_view u x.commit_number sound' (omega (arith, v.leaves.below)) b (committed_later f x.last_normal_view x.commit_number sound grows v.commit)) in
    let k : ℕ = max r.commit_number (min (greatest_commit r.do_view_changes (group_size f)) (length a.log)) in
    let done : IsCommitted f g u k = committed_max f g u r.commit_number _ up (committed_min f g u (greatest_commit r.do_view_changes (group_size f)) (length a.log) most) in
    record {
      store = record { is = (saves_above_ok f i answer r u).0; rises = (saves_above_ok f i answer r u).1 };
      unused = λ j y e. e;
      left = leave_cases h i u _ (λ j v same l. (same, inr (refl, l)));
      starts = λ w. put_cases h.started u true w (λ b. b ≡ true → (h.started w ≡ true) ⊎ (0 < f → IsStarted (send_others f i answer (StartView u k a.log)) w))
          (λ e b. inr (λ l. subst (IsStarted (send_others f i answer (StartView u k a.log))) (sym e) (start_view_sent f i answer u k a.log l)))
          (λ ne b. inl b);
      done = omega arith;
      grown = omega arith;
      asked = refl;
      rises = λ k v. put_cases h.log u a.log v (LogOk h.asked) (λ d. log_prefix its.leaves.log (k a.last_normal_view)) (λ ne. k v);
      later = g;
      sound = sound';
      grows = grows;
      apart = λ j ne. begin_apart f h i u a.log j leads ne;
      replica = ok_normal f g i _ refl (record {
        stands = record { log = whole; accepted = put_at_same h.accepted i u (length a.log) i u refl refl; commit = done; executed = omega (arith, fits) };
        last = refl;
        promised = n.promised;
        stored = omega (arith, n.stored);
        leads = λ l. sym log;
        acknowledged = λ l s. omega arith;
      });
      sends = all_say_map f i answer g (StartView u k a.log) (others i (group_size f)) (λ t. record { leads = leads; log = whole; first = first; commit = done });
    }
  where
    kept : (x : Option (DoViewChange C)) → is_some x ≡ true → (a : DoViewChange C) × (x ≡ Some a)
    kept None e = absurd cc
    kept (Some b) e = (b, refl)

    sent_do_view_change : (s : ℕ) → s < group_size f → (x : Option (DoViewChange C)) → r.do_view_changes s ≡ x → is_some (r.do_view_changes s) ≡ true
        → (l : ℕ) × (theirs : List (Request C)) × Leaves h s r.view l theirs × ((l < a.last_normal_view) ⊎ ((l ≡ a.last_normal_view) × (length theirs ≤ length a.log)))
    sent_do_view_change s l None e some = absurd (let x : is_some (r.do_view_changes s) ≡ false = ap is_some e in cc)
    sent_do_view_change s l (Some b) e some = (b.last_normal_view, b.log, (n.do_view_changes s b e).leaves, top.best s b l e)

-- it leaves for the view that it begins
good_leaves_and_begins : {C A : Type 0} (f i : ℕ) (answer : List C → A) (h : History (Request C)) (r : ReplicaState C) (a : DoViewChange C)
    → IsSound f h → is_view_change r.status ≡ true → ViewChangeOk f h i r → primary f r.view ≡ i → IsQuorum f (λ s. is_some (r.do_view_changes s)) → IsBestBelow r.do_view_changes (group_size f) a
    → Good f answer h i r.stored_view r.commit_number (begins_with f i answer r (Some a))
good_leaves_and_begins {C} f i answer h r a sound e old leads quorum top =
    let g : History (Request C) = leave h i r.view in
    let grows : Grows h g = leave_grows h i r.view in
    let sound' : IsSound f g = leave_sound f h i r.view sound (omega (arith, old.promised)) in
    let ok : ReplicaOk f g i r = replica_later f h g i r sound grows (leave_apart f h i r.view i) (ok_view_change f h i r e old) in
    let left : r.view ≤ g.left i = omega (arith, put_same h.left i (max (h.left i) r.view) i refl) in
    good_earlier f i answer h g _ grows (leave_apart f h i r.view) (omega arith) (λ j y x. x) (λ x. x) refl
    (leave_cases h i r.view (λ j v. (j ≡ i) × LeavesBy i (begins_with f i answer r (Some a)) v) (λ j v same l. (same, inr (refl, l)))) (λ u b. b)
    (good_begins_with f i answer g r a sound' (ok.view_change e) left leads quorum top)

pub good_begins_if_elected : {C A : Type 0} (f i : ℕ) (answer : List C → A) (h : History (Request C)) (r : ReplicaState C)
    → IsSound f h → is_view_change r.status ≡ true → ViewChangeOk f h i r → primary f r.view ≡ i → Good f answer h i r.stored_view r.commit_number (begins_if_elected f i answer r)
good_begins_if_elected {C} {A} f i answer h r sound e n leads =
    good_if f i answer h (is_elected f i answer r) _ _
    (λ a. let p = and_parts (is_some (r.do_view_changes i)) (leb (f + 1) (how_many (λ s. is_some (r.do_view_changes s)) (group_size f))) a in
    go (leb-true (f + 1) (how_many (λ s. is_some (r.do_view_changes s)) (group_size f)) p.1) (best r.do_view_changes (group_size f)) (best_says r.do_view_changes (group_size f)))
    (λ a. good_sends f i answer h r [] sound (ok_view_change f h i r e n) tt)
  where
    go : IsQuorum f (λ s. is_some (r.do_view_changes s)) → (x : Option (DoViewChange C)) → BestSays r.do_view_changes (group_size f) x → Good f answer h i r.stored_view r.commit_number (begins_with f i answer r x)
    go quorum None says = good_sends f i answer h r [] sound (ok_view_change f h i r e n) tt
    go quorum (Some a) says = good_leaves_and_begins f i answer h r a sound e n leads quorum says

-- a DOVIEWCHANGE more
with_do_view_changes : {C : Type 0} (f i : ℕ) (h : History (Request C)) (r : ReplicaState C) (do_view_changes : ℕ → Option (DoViewChange C)) (sent_do_view_change : Bool)
    → ViewChangeOk f h i r → (sent_do_view_change ≡ true → (primary f r.view ≡ i → ⊥) → r.view ≤ h.left i) → ((s : ℕ) (a : DoViewChange C) → do_view_changes s ≡ Some a → DoViewChangeSays f h s r.view a.last_normal_view a.commit_number a.log)
    → ((s : ℕ) (a : DoViewChange C) → do_view_changes s ≡ Some a → (s ≡ i → ⊥) → r.view ≤ h.left s)
    → ViewChangeOk f h i (record r { do_view_changes = do_view_changes; sent_do_view_change = sent_do_view_change })
with_do_view_changes f i h r do_view_changes sent_do_view_change n sent says left = record { sent_do_view_change = sent; left = left; stands = n.stands; below = n.below; promised = n.promised; stored = n.stored; later = n.later; unstarted = n.unstarted; do_view_changes = says }

add_do_view_change : {C : Type 0} (f : ℕ) (h : History (Request C)) (u s : ℕ) (a : DoViewChange C) (do_view_changes : ℕ → Option (DoViewChange C))
    → ((t : ℕ) (b : DoViewChange C) → do_view_changes t ≡ Some b → DoViewChangeSays f h t u b.last_normal_view b.commit_number b.log) → DoViewChangeSays f h s u a.last_normal_view a.commit_number a.log
    → (t : ℕ) (b : DoViewChange C) → put do_view_changes s (Some a) t ≡ Some b → DoViewChangeSays f h t u b.last_normal_view b.commit_number b.log
add_do_view_change {C} f h u s a do_view_changes old new t b e = elim (cases_eq t s) [
  | inl k ↦ let same : a ≡ b = some_same a b (sym (put_same do_view_changes s (Some a) t k) ∙ e) in
      subst (λ (x : DoViewChange C). DoViewChangeSays f h t u x.last_normal_view x.commit_number x.log) same (subst (λ w. DoViewChangeSays f h w u a.last_normal_view a.commit_number a.log) (sym k) new)
  | inr ne ↦ old t b (sym (put_other do_view_changes s (Some a) t ne) ∙ e)
]

-- and who sent it
add_left : {C : Type 0} (h : History (Request C)) (i u s : ℕ) (a : DoViewChange C) (do_view_changes : ℕ → Option (DoViewChange C))
    → ((t : ℕ) (b : DoViewChange C) → do_view_changes t ≡ Some b → (t ≡ i → ⊥) → u ≤ h.left t) → ((s ≡ i → ⊥) → u ≤ h.left s)
    → (t : ℕ) (b : DoViewChange C) → put do_view_changes s (Some a) t ≡ Some b → (t ≡ i → ⊥) → u ≤ h.left t
add_left h i u s a do_view_changes old new t b e ne = elim (cases_eq t s) [
  | inl k ↦ let same : h.left t ≡ h.left s = ap h.left k in let l : u ≤ h.left s = new (λ d. ne (k ∙ d)) in omega arith
  | inr d ↦ old t b (sym (put_other do_view_changes s (Some a) t d) ∙ e) ne
]

pub good_sends_do_view_change : {C A : Type 0} (f i : ℕ) (answer : List C → A) (h : History (Request C)) (r : ReplicaState C)
    → IsSound f h → is_view_change r.status ≡ true → ViewChangeOk f h i r → Good f answer h i r.stored_view r.commit_number (sends_do_view_change f i answer r)
good_sends_do_view_change {C} {A} f i answer h r sound e old =
    good_if f i answer h (primary f r.view == i) _ _
    (λ a. let leads : primary f r.view ≡ i = eqb-true _ _ a in
    good_begins_if_elected f i answer h _ sound e
    (with_do_view_changes f i h r _ true old (λ x ne. absurd (ne leads))
    (add_do_view_change f h r.view i (own_do_view_change r) r.do_view_changes old.do_view_changes (own_says f i h r old))
    (add_left h i r.view i (own_do_view_change r) r.do_view_changes old.left (λ ne. absurd (ne refl)))) leads)
    (λ a. let its : Message C A = send f i answer (primary f r.view) (DoViewChangeMessage r.view (own_do_view_change r)) in
    good_earlier f i answer h g _ grows (leave_apart f h i r.view) (omega arith) (λ j y x. x) (λ x. x) refl
    (leave_cases h i r.view _ (λ j v same l. (same, inl (record { place = 0; to = Replica (primary f r.view); later = r.view; content = own_do_view_change r; above = l; is = refl })))) (λ u b. b)
    (good_sends f i answer g _ (its ∷ []) sound' (ok_view_change f g i _ e (with_do_view_changes f i g r r.do_view_changes true n (λ x ne. left) n.do_view_changes n.left)) ((own_says f i g r n, left), tt)))
  where
    g : History (Request C)
    g = leave h i r.view

    grows : Grows h g
    grows = leave_grows h i r.view

    sound' : IsSound f g
    sound' = leave_sound f h i r.view sound (omega (arith, old.promised))

    n : ViewChangeOk f g i r
    n = let ok : ReplicaOk f g i r = replica_later f h g i r sound grows (leave_apart f h i r.view i) (ok_view_change f h i r e old) in ok.view_change e

    left : r.view ≤ g.left i
    left = omega (arith, put_same h.left i (max (h.left i) r.view) i refl)

with_start_view_changes : {C : Type 0} (f i : ℕ) (h : History (Request C)) (r : ReplicaState C) (start_view_changes : ℕ → Bool) → ViewChangeOk f h i r → ViewChangeOk f h i (record r { start_view_changes = start_view_changes })
with_start_view_changes f i h r start_view_changes n = record { sent_do_view_change = n.sent_do_view_change; left = n.left; stands = n.stands; below = n.below; promised = n.promised; stored = n.stored; later = n.later; unstarted = n.unstarted; do_view_changes = n.do_view_changes }

good_if_view_change_in : {C A : Type 0} (f i : ℕ) (answer : List C → A) (h : History (Request C)) (u : ℕ) (next : ReplicaState C → Outcome C A) (r : ReplicaState C)
    → IsSound f h → ReplicaOk f h i r → (is_view_change r.status ≡ true → r.view ≡ u → ViewChangeOk f h i r → Good f answer h i r.stored_view r.commit_number (next r))
    → Good f answer h i r.stored_view r.commit_number (if_view_change_in f i answer u next r)
good_if_view_change_in f i answer h u next r sound ok good =
    good_if f i answer h (is_view_change r.status && (r.view == u)) _ _
    (λ a. let p = and_parts (is_view_change r.status) (r.view == u) a in good p.0 (eqb-true _ _ p.1) (ok.view_change p.0))
    (λ a. good_sends f i answer h r [] sound ok tt)

-- a normal replica does not go on
still_normal : {C A : Type 0} (f i : ℕ) (answer : List C → A) (u : ℕ) (next : ReplicaState C → Outcome C A) (r : ReplicaState C) → is_normal r.status ≡ true → (if_view_change_in f i answer u next r).replica ≡ r
still_normal f i answer u next r e = go r.status e
  where
    go : (s : Status) → is_normal s ≡ true → (cond (is_view_change s && (r.view == u)) (next r) (keep f i answer r)).replica ≡ r
    go Normal e = refl
    go ViewChange e = absurd cc
    go Recovering e = absurd cc
    go Down e = absurd cc

good_counts_start_view_change : {C A : Type 0} (f i : ℕ) (answer : List C → A) (h : History (Request C)) (s : ℕ) (r : ReplicaState C)
    → IsSound f h → is_view_change r.status ≡ true → ViewChangeOk f h i r → Good f answer h i r.stored_view r.commit_number (counts_start_view_change f i answer s r)
good_counts_start_view_change f i answer h s r sound e n =
    let q = with_start_view_changes f i h r (put r.start_view_changes s true) n in
    good_if f i answer h (not r.sent_do_view_change && leb f (how_many (put r.start_view_changes s true) (group_size f))) _ _
    (λ a. good_sends_do_view_change f i answer h _ sound e q)
    (λ a. good_sends f i answer h _ [] sound (ok_view_change f h i _ e q) tt)

pub good_on_start_view_change : {C A : Type 0} (f i : ℕ) (answer : List C → A) (h : History (Request C)) (r : ReplicaState C) (s u : ℕ)
    → IsSound f h → ReplicaOk f h i r → Good f answer h i r.stored_view r.commit_number (on_start_view_change f i answer r s u)
good_on_start_view_change f i answer h r s u sound ok =
    good_if f i answer h (takes_part r.status) _ _
    (λ e. good_then f i answer h (enters_if_above f i answer r u) (if_view_change_in f i answer u (counts_start_view_change f i answer s)) (good_enters_if_above f i answer h r u sound ok e)
    (still_normal f i answer u (counts_start_view_change f i answer s) (enters_if_above f i answer r u).replica)
    (λ g sound' grows ok'. good_if_view_change_in f i answer g u (counts_start_view_change f i answer s) (enters_if_above f i answer r u).replica sound' ok' (λ c w n.
    good_counts_start_view_change f i answer g s (enters_if_above f i answer r u).replica sound' c n)))
    (λ e. good_sends f i answer h r [] sound ok tt)

good_keeps_do_view_change : {C A : Type 0} (f i : ℕ) (answer : List C → A) (h : History (Request C)) (s : ℕ) (a : DoViewChange C) (r : ReplicaState C)
    → IsSound f h → is_view_change r.status ≡ true → ViewChangeOk f h i r → primary f r.view ≡ i → DoViewChangeSays f h s r.view a.last_normal_view a.commit_number a.log → r.view ≤ h.left s
    → Good f answer h i r.stored_view r.commit_number (keeps_do_view_change f i answer s a r)
good_keeps_do_view_change {C} f i answer h s a r sound e n leads says left =
    good_if f i answer h (is_some (r.do_view_changes s)) _ _
    (λ k. good_sends f i answer h r [] sound (ok_view_change f h i r e n) tt)
    (λ k. good_begins_if_elected f i answer h _ sound e (with_do_view_changes f i h r _ r.sent_do_view_change n n.sent_do_view_change (add_do_view_change f h r.view s a r.do_view_changes n.do_view_changes says) (add_left h i r.view s a r.do_view_changes n.left (λ ne. left))) leads)

do_view_change_kept : {C : Type 0} (f : ℕ) (h g : History (Request C)) (s u w : ℕ) (a : DoViewChange C) → IsSound f h → Grows h g → w ≡ u → DoViewChangeSays f h s u a.last_normal_view a.commit_number a.log → DoViewChangeSays f g s w a.last_normal_view a.commit_number a.log
do_view_change_kept f h g s u w a sound grows e v = subst (λ x. DoViewChangeSays f g s x a.last_normal_view a.commit_number a.log) (sym e) (do_view_change_later f sound grows v)

pub good_on_do_view_change : {C A : Type 0} (f i : ℕ) (answer : List C → A) (h : History (Request C)) (r : ReplicaState C) (s u : ℕ) (a : DoViewChange C)
    → IsSound f h → ReplicaOk f h i r → DoViewChangeSays f h s u a.last_normal_view a.commit_number a.log × (u ≤ h.left s) → Good f answer h i r.stored_view r.commit_number (on_do_view_change f i answer r s u a)
good_on_do_view_change f i answer h r s u a sound ok says =
    good_if f i answer h (takes_part r.status && (primary f u == i)) _ _
    (λ e. let p = and_parts (takes_part r.status) (primary f u == i) e in
    good_then f i answer h (enters_if_above f i answer r u) (if_view_change_in f i answer u (keeps_do_view_change f i answer s a)) (good_enters_if_above f i answer h r u sound ok p.0)
    (still_normal f i answer u (keeps_do_view_change f i answer s a) (enters_if_above f i answer r u).replica)
    (λ g sound' grows ok'. good_if_view_change_in f i answer g u (keeps_do_view_change f i answer s a) (enters_if_above f i answer r u).replica sound' ok' (λ c w n.
    good_keeps_do_view_change f i answer g s a (enters_if_above f i answer r u).replica sound' c n (ap (primary f) w ∙ eqb-true (primary f u) i p.1)
    (do_view_change_kept f h g s u (enters_if_above f i answer r u).replica.view a sound grows w says.0) (omega (arith, w, says.1, grows.left s)))))
    (λ e. good_sends f i answer h r [] sound ok tt)
