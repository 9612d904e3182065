-- A view that another replica began, and state transfer.
use Rattle.std.proofs.Common.{◌≡◌, ℕ, ◌+◌, ◌-◌, ◌<◌, ◌≤◌, max, min, Bool, true, false, cond, ◌==◌, leb, ltb, ◌&&◌, ◌||◌, List, [], ◌∷◌, ◌++◌, length, take, drop, arith, refl, sym, ap, ◌∙◌, subst, inl, inr, length-append}
use Rattle.std.proofs.lemmas.Grind.{common_steps}
use Rattle.std.proofs.lemmas.Bool.{leb-true, ltb-true, and_parts, or_cases, eqb-true}
use Rattle.std.proofs.Math.Seq.{drop-append-add}
use Rattle.vr_model.specs.Logs.{Request, IsPrefix}
use Rattle.vr_model.specs.Groups.{primary}
use Rattle.laws_history.proofs.History.{History, IsSound, Grows}
use Rattle.vr_model.specs.Messages.{PrepareOk, Message}
use Rattle.vr_model.specs.Replicas.{is_normal, is_view_change, takes_part, ReplicaState}
use Rattle.vr_model.specs.Rules.{send, replies_from, behind, is_backup_in, holds_log, adopted, saves_above, on_start_view, on_new_state, on_get_state}
use Rattle.laws_history.proofs.Facts.{IsCommitted, IsLogOf, LogSays, PartSays, AllSay, ReplicaOk, Good}
use Rattle.laws_history.proofs.Prefixes.{prefix_length, prefix_take, prefix_is}
use Rattle.laws_history.proofs.Later.{committed_later, log_later}
use Rattle.laws_history.proofs.Tables.{put_same, put_at_same}
use Rattle.laws_history.proofs.Notes.{leave_cases}
use Rattle.laws_history.proofs.Actions.{accept, MayAccept, accept_grows, accept_sound, accept_apart}
use Rattle.laws_history.proofs.Committed.{committed_less, committed_max, committed_min, committed_up, committed_same}
use Rattle.laws_history.proofs.NormalCase.{good_if, good_sends}
use Rattle.laws_history.proofs.Backups.{good_holds_log, backup_is}
use Rattle.laws_history.proofs.Entering.{saves_above_ok, ok_normal, UpOk, up_ok}

-- behind a view that was started, and so not its primary
pub record Behind {C : Type 0} (f : ℕ) (h : History (Request C)) (i : ℕ) (r : ReplicaState C) (u : ℕ) : Type 0 where
  pub up : UpOk f h i r
  pub view : r.view ≤ u
  pub last : r.last_normal_view < u
  pub follows : h.started u ≡ true → primary f u ≡ i → ⊥

pub behind_is : {C A : Type 0} (f i : ℕ) (answer : List C → A) (h : History (Request C)) (r : ReplicaState C) (u : ℕ)
    → IsSound f h → ReplicaOk f h i r → behind f i answer r u ≡ true → Behind f h i r u
behind_is f i answer h r u sound ok e =
    let a = and_parts (takes_part r.status) (ltb r.view u || (is_view_change r.status && (r.view == u))) e in
    let up = up_ok f h i r sound a.0 ok in
    elim (or_cases (ltb r.view u) (is_view_change r.status && (r.view == u)) a.1) [
      | inl l ↦ let k : r.view < u = ltb-true _ _ l in record {
        up = up;
        view = omega arith;
        last = omega (arith, up.below);
        follows = λ b leads. absurd (let p : h.promised (primary f u) ≡ h.promised i = ap h.promised leads in omega (arith, sound.called u b, up.promised));
      }
      | inr l ↦ let p = and_parts (is_view_change r.status) (r.view == u) l in
          let same : r.view ≡ u = eqb-true _ _ p.1 in
          let n = ok.view_change p.0 in record {
            up = up;
            view = omega arith;
            last = omega (arith, n.below);
            follows = λ b leads. absurd (let c : true ≡ false = sym b ∙ ap h.started (sym same) ∙ n.unstarted (ap (primary f) same ∙ leads) in cc);
          }
    ]

-- who isn't the primary sends no replies
silent : {C A : Type 0} (f i : ℕ) (answer : List C → A) (g : History (Request C)) (u : ℕ) (replies ms : List (Message C A)) → (primary f u ≡ i → ⊥) → AllSay f answer g ms
    → AllSay f answer g (cond (primary f u == i) replies [] ++ ms)
silent {C} {A} f i answer g u replies ms ne says = go (primary f u == i) refl
  where
    go : (b : Bool) → (primary f u == i) ≡ b → AllSay f answer g (cond b replies [] ++ ms)
    go true e = absurd (ne (eqb-true _ _ e))
    go false e = says

-- a replica adopts a view with this log
good_adopts : {C A : Type 0} (f i : ℕ) (answer : List C → A) (h : History (Request C)) (r : ReplicaState C) (u c : ℕ) (log : List (Request C)) (ms : List (Message C A))
    → IsSound f h → Behind f h i r u → IsLogOf h u log → r.commit_number ≤ length log → IsCommitted f h u c
    → ((g : History (Request C)) → g.accepted i u ≡ length log → AllSay f answer g ms)
    → Good f answer h i r.stored_view r.commit_number (record { replica = record (adopted f i answer r u) { log = log; commit_number = max r.commit_number (min c (length log)) }; saves = saves_above f i answer r u; sends = ms })
good_adopts {C} f i answer h r u c log ms sound b whole fits commit says =
    let none : h.accepted i u ≡ 0 = b.up.later u b.last in
    let may : MayAccept f h i u (length log) = record {
      started = whole.started;
      promised = omega (arith, b.up.promised, b.view);
      more = omega arith;
      within = prefix_length whole.within;
      follows = λ l. absurd (b.follows whole.started l);
    } in
    let g : History (Request C) = accept h i u (length log) in
    let grows : Grows h g = accept_grows f h i u (length log) may in
    let mine : IsCommitted f h u r.commit_number = committed_up f h r.last_normal_view u r.commit_number sound (omega (arith, b.last)) whole.started b.up.stands.commit in
    let got : g.accepted i u ≡ length log = put_at_same h.accepted i u (length log) i u refl refl in
    record {
      store = record { is = (saves_above_ok f i answer r u).0; rises = (saves_above_ok f i answer r u).1 };
      unused = λ j y e. e;
      left = leave_cases h i u _ (λ j w same l. (same, inr (refl, l)));
      starts = λ u b. inl b;
      done = omega arith;
      grown = omega arith;
      asked = refl;
      rises = λ k. k;
      later = g;
      sound = accept_sound f h i u (length log) sound may;
      grows = grows;
      apart = λ j ne. accept_apart f h i u (length log) j ne;
      replica = ok_normal f g i _ refl (record {
        stands = record {
          log = log_later grows whole;
          accepted = got;
          commit = committed_later f u _ sound grows (committed_max f h u r.commit_number (min c (length log)) mine (committed_min f h u c (length log) commit));
          executed = omega arith;
        };
        last = refl;
        promised = put_same h.promised i u i refl;
        stored = omega (arith, b.up.stored, b.view);
        leads = λ l. absurd (b.follows whole.started l);
        acknowledged = λ l. absurd (b.follows whole.started l);
      });
      sends = says g got;
    }

pub good_on_start_view : {C A : Type 0} (f i : ℕ) (answer : List C → A) (h : History (Request C)) (r : ReplicaState C) (s u c : ℕ) (log : List (Request C))
    → IsSound f h → ReplicaOk f h i r → LogSays f h s u c log → Good f answer h i r.stored_view r.commit_number (on_start_view f i answer r u c log)
good_on_start_view {C} {A} f i answer h r s u c log sound ok says =
    good_if f i answer h (behind f i answer r u && leb r.commit_number (length log)) _ _
    (λ e. let p = and_parts (behind f i answer r u) (leb r.commit_number (length log)) e in
    good_adopts f i answer h r u c log _ sound (behind_is f i answer h r u sound ok p.0) says.log (leb-true _ _ p.1) says.commit
    (λ g got. silent f i answer g u _ _ ((behind_is f i answer h r u sound ok p.0).follows says.log.started) (sent g got (ltb (max r.commit_number (min c (length log))) (length log)))))
    (λ e. good_sends f i answer h r [] sound ok tt)
  where
    sent : (g : History (Request C)) → g.accepted i u ≡ length log → (b : Bool) → AllSay {C = C} {A = A} f answer g (cond b (send f i answer (primary f u) (PrepareOk u (length log)) ∷ []) [])
    sent g got true = (omega arith, tt)
    sent g got false = tt

pub good_on_get_state : {C A : Type 0} (f i : ℕ) (answer : List C → A) (h : History (Request C)) (r : ReplicaState C) (s u p : ℕ)
    → IsSound f h → ReplicaOk f h i r → Good f answer h i r.stored_view r.commit_number (on_get_state f i answer r s u p)
good_on_get_state {C} f i answer h r s u p sound ok =
    good_if f i answer h (is_normal r.status && (r.view == u) && leb p (length r.log)) _ _
    (λ e. let a = and_parts (is_normal r.status && (r.view == u)) (leb p (length r.log)) e in
    let b = and_parts (is_normal r.status) (r.view == u) a.0 in
    let n = ok.normal b.0 in
    let same : r.view ≡ u = eqb-true _ _ b.1 in
    let within : p ≤ length r.log = leb-true _ _ a.1 in
    let cut : take p (h.log r.view) ++ drop p r.log ≡ r.log = ap (λ x. x ++ drop p r.log) (prefix_take p n.stands.log.within within) ∙ take_drop p r.log in
    good_sends f i answer h r _ sound ok (
      subst (λ w. PartSays f h w p r.commit_number (drop p r.log)) same (record {
        log = subst (IsLogOf h r.view) (sym cut) n.stands.log;
        place = omega (arith, prefix_length n.stands.log.within);
        commit = n.stands.commit;
      }),
      tt,
    ))
    (λ e. good_sends f i answer h r [] sound ok tt)
  where
    take_drop : {X : Type 0} (n : ℕ) (xs : List X) → take n xs ++ drop n xs ≡ xs
    take_drop n xs = grind (arith, common_steps)

-- the log with what lies past its end, from a part that begins within it
pub joined : {X : Type 0} (xs ys part : List X) (p : ℕ) → IsPrefix xs ys → p ≤ length xs → length xs ≤ p + length part → IsPrefix (take p ys ++ part) ys
    → xs ++ drop (length xs - p) part ≡ take p ys ++ part
joined xs ys part p a l m b =
    let e1 : take p ys ≡ take p xs = prefix_take p a l in
    let len : length (take p ys) ≡ p = ap length e1 ∙ length_take p xs l in
    let whole : take (length xs) (take p ys ++ part) ≡ take (length xs) ys = sym (prefix_take (length xs) b (omega (arith, length-append (take p ys) part))) in
    let front : take (length xs) (take p ys ++ part) ≡ xs = whole ∙ prefix_is a in
    let split : take (length xs) (take p ys ++ part) ++ drop (length xs) (take p ys ++ part) ≡ take p ys ++ part = take_drop (length xs) (take p ys ++ part) in
    let rest : drop (length xs) (take p ys ++ part) ≡ drop (length xs - p) part = drop_past (take p ys) part (length xs) (omega arith) ∙ ap (λ n. drop (length xs - n) part) len in
    ap (λ x. x ++ drop (length xs - p) part) (sym front) ∙ ap (λ x. take (length xs) (take p ys ++ part) ++ x) (sym rest) ∙ split
  where
    take_drop : {X : Type 0} (n : ℕ) (xs : List X) → take n xs ++ drop n xs ≡ xs
    take_drop n xs = grind (arith, common_steps)

    length_take : {X : Type 0} (n : ℕ) (xs : List X) → n ≤ length xs → length (take n xs) ≡ n
    length_take n xs l = grind (arith, common_steps)

    drop_past : {X : Type 0} (a b : List X) (n : ℕ) → length a ≤ n → drop n (a ++ b) ≡ drop (n - length a) b
    drop_past a b n l = let e : n ≡ length a + (n - length a) = omega arith in ap (λ k. drop k (a ++ b)) e ∙ drop-append-add a b (n - length a)

pub good_on_new_state : {C A : Type 0} (f i : ℕ) (answer : List C → A) (h : History (Request C)) (r : ReplicaState C) (u p c : ℕ) (part : List (Request C))
    → IsSound f h → ReplicaOk f h i r → PartSays f h u p c part → Good f answer h i r.stored_view r.commit_number (on_new_state f i answer r u p c part)
good_on_new_state {C} {A} f i answer h r u p c part sound ok says =
    good_if f i answer h (is_backup_in f i answer r u) _ _
    (λ e. good_if f i answer h (leb p (length r.log) && ltb (length r.log) (p + length part)) _ _
    (λ a. let q = and_parts (leb p (length r.log)) (ltb (length r.log) (p + length part)) a in
    extends (backup_is f i answer r u e) (leb-true _ _ q.0) (ltb-true _ _ q.1))
    (λ a. good_sends f i answer h r [] sound ok tt))
    (λ e. good_if f i answer h (behind f i answer r u && (leb p r.commit_number && leb r.commit_number (p + length part))) _ _
    (λ a. let q = and_parts (behind f i answer r u) (leb p r.commit_number && leb r.commit_number (p + length part)) a in
    let w = and_parts (leb p r.commit_number) (leb r.commit_number (p + length part)) q.1 in
    adopts (behind_is f i answer h r u sound ok q.0) (leb-true _ _ w.0) (leb-true _ _ w.1))
    (λ a. good_sends f i answer h r [] sound ok tt))
  where
    extends : (is_normal r.status ≡ true) × (r.view ≡ u) × (primary f r.view ≡ i → ⊥) → p ≤ length r.log → length r.log < p + length part
        → Good f answer h i r.stored_view r.commit_number (holds_log f i answer r (r.log ++ drop (length r.log - p) part) c)
    extends b l m =
        let n = ok.normal b.0 in
        let says' : PartSays f h r.view p c part = subst (λ w. PartSays f h w p c part) (sym b.1) says in
        let is : r.log ++ drop (length r.log - p) part ≡ take p (h.log r.view) ++ part = joined r.log (h.log r.view) part p n.stands.log.within l (omega arith) says'.log.within in
        good_holds_log f i answer h r _ c sound ok b.0 b.2 (subst (IsLogOf h r.view) (sym is) says'.log) (omega (arith, length-append r.log (drop (length r.log - p) part))) says'.commit

    length_take : {X : Type 0} (n : ℕ) (xs : List X) → n ≤ length xs → length (take n xs) ≡ n
    length_take n xs l = grind (arith, common_steps)

    adopts : Behind f h i r u → p ≤ r.commit_number → r.commit_number ≤ p + length part
        → Good f answer h i r.stored_view r.commit_number (record { replica = (holds_log f i answer (adopted f i answer r u) (take p r.log ++ part) c).replica; saves = saves_above f i answer r u; sends = replies_from f i answer (holds_log f i answer (adopted f i answer r u) (take p r.log ++ part) c).replica r.commit_number ++ (holds_log f i answer (adopted f i answer r u) (take p r.log ++ part) c).sends })
    adopts b l m =
        let stands = b.up.stands in
        let mine : take p r.log ≡ take p (h.log r.last_normal_view) = sym (prefix_take p stands.log.within (omega (arith, stands.executed))) in
        let same : take p (h.log r.last_normal_view) ≡ take p (h.log u) = committed_same f h r.last_normal_view u p sound (omega (arith, b.last)) says.log.started (committed_less f h r.last_normal_view r.commit_number p l stands.commit) in
        let is : take p r.log ++ part ≡ take p (h.log u) ++ part = ap (λ x. x ++ part) (mine ∙ same) in
        let long : length (take p r.log) ≡ p = length_take p r.log (omega (arith, stands.executed)) in
        good_adopts f i answer h r u c (take p r.log ++ part) _ sound b (subst (IsLogOf h u) (sym is) says.log) (omega (arith, length-append (take p r.log) part)) says.commit
        (λ g got. silent f i answer g u _ _ (b.follows says.log.started) (omega arith, tt))
