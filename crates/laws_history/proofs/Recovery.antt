-- Recovery, and the restart before it.
use Rattle.std.proofs.Common.{◌≡◌, ℕ, ◌+◌, ◌<◌, ◌≤◌, min, Bool, true, false, cond, ◌==◌, leb, ltb, ◌&&◌, ◌||◌, List, [], length, Option, Some, None, arith, refl, sym, ap, ◌∙◌, subst, inl, inr}
use Rattle.std.specs.Prelude.{is_some}
use Rattle.std.proofs.lemmas.Option.{same_Some}
use Rattle.std.proofs.lemmas.Bool.{leb-true, leb-false, cases_eq, and_parts, eqb-true}
use Rattle.vr_model.specs.Logs.{Request}
use Rattle.vr_model.specs.Groups.{group_size, primary, how_many}
use Rattle.laws_history.proofs.History.{History, IsSound, Grows}
use Rattle.vr_model.specs.Messages.{PrimaryState, RecoveryResponse, Recovery}
use Rattle.vr_model.specs.Replicas.{Status, Normal, ViewChange, Recovering, Down, is_normal, is_view_change, is_recovering, is_down, takes_part, ReplicaState, put}
use Rattle.vr_model.specs.Choices.{own_state, others, kept_response, log_length, state_of, latest}
use Rattle.vr_model.specs.Rules.{on_recovery, on_recovery_response, recovers, recovers_with, on_restart}
use Rattle.laws_history.proofs.Facts.{IsCommitted, StateSays, NormalOk, RecoveringOk, ResponseOk, ReplicaOk, Good, Fits}
use Rattle.laws_history.proofs.Prefixes.{prefix_length}
use Rattle.laws_history.proofs.Later.{committed_later, log_later}
use Rattle.laws_history.proofs.Tables.{put_same, put_other, put_at, put_at_same}
use Rattle.laws_history.proofs.Notes.{leave_cases}
use Rattle.laws_history.proofs.Actions.{accept, MayAccept, accept_grows, accept_sound, accept_apart}
use Rattle.laws_history.proofs.Committed.{committed_zero, committed_max, committed_min}
use Rattle.laws_history.proofs.NormalCase.{all_say_map, good_if, good_sends, not_up}
use Rattle.laws_history.proofs.Actions.{rise, rise_grows, rise_sound, rise_apart}
use Rattle.laws_history.proofs.Entering.{saves_above_ok, ok_normal, good_enters}

pub good_on_recovery : {C A : Type 0} (f i : ℕ) (answer : List C → A) (h : History (Request C)) (r : ReplicaState C) (s x w : ℕ)
    → IsSound f h → ReplicaOk f h i r → h.used s x ≡ true → Good f answer h i r.stored_view r.commit_number (on_recovery f i answer r s x w)
good_on_recovery {C} {A} f i answer h r s x w sound ok used =
    good_if f i answer h (is_normal r.status) _ _
    (λ e. good_if f i answer h (leb w r.view) _ _
    (λ a. good_sends f i answer h r _ sound ok (told (ok.normal e) (primary f r.view == i) refl, tt))
    (λ a. good_enters f i answer h r w sound ok (takes r.status e) (let k : r.view < w = leb-false _ _ a in k)))
    (λ e. good_sends f i answer h r [] sound ok tt)
  where
    takes : (t : Status) → is_normal t ≡ true → takes_part t ≡ true
    takes Normal e = refl
    takes ViewChange e = absurd cc
    takes Recovering e = absurd cc
    takes Down e = absurd cc

    told : NormalOk f h i r → (b : Bool) → (primary f r.view == i) ≡ b → (v : PrimaryState C) → cond b (Some (own_state r)) None ≡ Some v → StateSays f h i s r.view x v.commit_number v.log
    told n true e v is = subst (λ (y : PrimaryState C). StateSays f h i s r.view x y.commit_number y.log) (same_Some _ _ is) (record {
      leads = eqb-true _ _ e;
      log = n.stands.log;
      commit = n.stands.commit;
      used = used;
      fresh = omega (arith, sound.held_within s x r.view used, sound.accepted_within s r.view, ap length (n.leads (eqb-true _ _ e)));
    })
    told n false e v is = absurd (let c : None ≡ Some v = is in cc)

-- the kept one of two answers
kept_ok : {C : Type 0} (f : ℕ) (h : History (Request C)) (i x s : ℕ) (old : Option (RecoveryResponse C)) (a : RecoveryResponse C)
    → ((b : RecoveryResponse C) → old ≡ Some b → ResponseOk f h i x s b) → ResponseOk f h i x s a → ResponseOk f h i x s (kept_response old a)
kept_ok f h i x s None a ok new = new
kept_ok {C} f h i x s (Some b) a ok new = go (ltb b.view a.view || ((b.view == a.view) && ltb (log_length b.state) (log_length a.state)))
  where
    go : (t : Bool) → ResponseOk f h i x s (cond t a b)
    go true = new
    go false = ok b refl

good_recovers : {C A : Type 0} (f i : ℕ) (answer : List C → A) (h : History (Request C)) (r : ReplicaState C)
    → IsSound f h → is_recovering r.status ≡ true → RecoveringOk f h i r → Good f answer h i r.stored_view r.commit_number (recovers f i answer r)
good_recovers {C} {A} f i answer h r sound e n =
    good_if f i answer h _ _ _
    (λ a. let p = and_parts (leb (f + 1) (how_many (λ s. is_some (r.responses s)) (group_size f))) (leb r.stored_view w) a in
    go (leb-true _ _ p.1) (r.responses (primary f w)) refl)
    (λ a. good_sends f i answer h r [] sound (stays e n) tt)
  where
    w : ℕ
    w = latest r.responses (group_size f)

    stays : is_recovering r.status ≡ true → RecoveringOk f h i r → ReplicaOk f h i r
    stays e n = record { up = up_is r.status e; normal = λ s. absurd (not_up r.status s e); view_change = λ s. absurd (not_late r.status s e); recovering = λ s. n }
      where
        up_is : (s : Status) → is_recovering s ≡ true → is_down s ≡ false
        up_is Normal a = refl
        up_is ViewChange a = refl
        up_is Recovering a = refl
        up_is Down a = absurd cc

        not_late : (s : Status) → is_view_change s ≡ true → is_recovering s ≡ true → ⊥
        not_late Normal a b = absurd cc
        not_late ViewChange a b = absurd cc
        not_late Recovering a b = absurd cc
        not_late Down a b = absurd cc

    with' : r.stored_view ≤ w → (a : RecoveryResponse C) → r.responses (primary f w) ≡ Some a → a.view ≡ w → (x : Option (PrimaryState C)) → a.state ≡ x → Good f answer h i r.stored_view r.commit_number (recovers_with f i answer r w x)
    with' l a is view None st = good_sends f i answer h r [] sound (stays e n) tt
    with' l a is view (Some v) st =
        let says : StateSays f h (primary f w) i w r.nonce v.commit_number v.log = subst (λ u. StateSays f h (primary f w) i u r.nonce v.commit_number v.log) view (n.responses (primary f w) a is v st) in
        let other : primary f w ≡ i → ⊥ = λ k. absurd (let c : None ≡ Some a = sym n.own ∙ ap r.responses (sym k) ∙ is in cc) in
        let may : MayAccept f h i w (length v.log) = record {
          started = says.log.started;
          promised = omega (arith, n.promised);
          more = omega (arith, says.fresh, n.held w);
          within = prefix_length says.log.within;
          follows = λ k. absurd (other k);
        } in
        let g : History (Request C) = accept h i w (length v.log) in
        let grows : Grows h g = accept_grows f h i w (length v.log) may in
        record {
          unused = λ j y e. e;
          left = leave_cases h i w _ (λ j x same l. (same, inr (refl, l)));
          starts = λ u b. inl b;
          done = omega arith;
          grown = omega (arith, n.commit);
          asked = refl;
          rises = λ k. k;
          store = record { is = (saves_above_ok f i answer r w).0; rises = (saves_above_ok f i answer r w).1 };
          later = g;
          sound = accept_sound f h i w (length v.log) sound may;
          grows = grows;
          apart = λ j ne. accept_apart f h i w (length v.log) j ne;
          replica = ok_normal f g i _ refl (record {
            stands = record {
              log = log_later grows says.log;
              accepted = put_at_same h.accepted i w (length v.log) i w refl refl;
              commit = committed_later f w _ sound grows (committed_max f h w r.commit_number (min v.commit_number (length v.log)) (subst (IsCommitted f h w) (sym n.commit) (committed_zero f h w)) (committed_min f h w v.commit_number (length v.log) says.commit));
              executed = omega (arith, n.commit);
            };
            last = refl;
            promised = put_same h.promised i w i refl;
            stored = omega arith;
            leads = λ k. absurd (other k);
            acknowledged = λ k. absurd (other k);
          });
          sends = tt;
        }

    on_view : r.stored_view ≤ w → (a : RecoveryResponse C) → r.responses (primary f w) ≡ Some a → (b : Bool) → (a.view == w) ≡ b → Good f answer h i r.stored_view r.commit_number (recovers_with f i answer r w (cond b a.state None))
    on_view l a is true view = with' l a is (eqb-true _ _ view) a.state refl
    on_view l a is false view = good_sends f i answer h r [] sound (stays e n) tt

    go : r.stored_view ≤ w → (x : Option (RecoveryResponse C)) → r.responses (primary f w) ≡ x → Good f answer h i r.stored_view r.commit_number (recovers_with f i answer r w (state_of w x))
    go l None is = good_sends f i answer h r [] sound (stays e n) tt
    go l (Some a) is = on_view l a is (a.view == w) refl

pub good_on_recovery_response : {C A : Type 0} (f i : ℕ) (answer : List C → A) (h : History (Request C)) (r : ReplicaState C) (s x : ℕ) (a : RecoveryResponse C)
    → IsSound f h → ReplicaOk f h i r → (s ≡ i → ⊥) → ResponseOk f h i x s a → Good f answer h i r.stored_view r.commit_number (on_recovery_response f i answer r s x a)
good_on_recovery_response {C} f i answer h r s x a sound ok ne says =
    good_if f i answer h (is_recovering r.status && (r.nonce == x)) _ _
    (λ e. let p = and_parts (is_recovering r.status) (r.nonce == x) e in
    let n = ok.recovering p.0 in
    good_recovers f i answer h _ sound p.0 (record {
      empty = n.empty;
      commit = n.commit;
      promised = n.promised;
      used = n.used;
      held = n.held;
      own = put_other r.responses s (Some (kept_response (r.responses s) a)) i (λ k. ne (sym k)) ∙ n.own;
      responses = λ t b is. both n (eqb-true _ _ p.1) t b is;
    }))
    (λ e. good_sends f i answer h r [] sound ok tt)
  where
    both : RecoveringOk f h i r → r.nonce ≡ x → (t : ℕ) (b : RecoveryResponse C) → put r.responses s (Some (kept_response (r.responses s) a)) t ≡ Some b → ResponseOk f h i r.nonce t b
    both n same t b is = elim (cases_eq t s) [
      | inl k ↦
          let new : ResponseOk f h i r.nonce s (kept_response (r.responses s) a) = kept_ok f h i r.nonce s (r.responses s) a (λ c e. n.responses s c e) (subst (λ y. ResponseOk f h i y s a) (sym same) says) in
          let eq : kept_response (r.responses s) a ≡ b = same_Some _ _ (sym (put_same r.responses s (Some (kept_response (r.responses s) a)) t k) ∙ is) in
          subst (λ y. ResponseOk f h i r.nonce y b) (sym k) (subst (ResponseOk f h i r.nonce s) eq new)
      | inr d ↦ n.responses t b (sym (put_other r.responses s (Some (kept_response (r.responses s) a)) t d) ∙ is)
    ]

-- a replica that was down comes up
pub good_on_restart : {C A : Type 0} (f i : ℕ) (answer : List C → A) (h : History (Request C)) (r : ReplicaState C) (x : ℕ)
    → IsSound f h → h.promised i ≤ r.stored_view → h.used i x ≡ false
    → (fits : Fits f answer h i r.stored_view (on_restart f i answer r x)) × ((j y : ℕ) → fits.later.used j y ≡ true → put_at h.used i x true j y ≡ true)
good_on_restart {C} {A} f i answer h r x sound promised new =
    let g : History (Request C) = rise h i x in (
      record {
        store = record { is = refl; rises = omega arith };
        left = λ j v l. inl l;
        starts = λ u b. inl b;
        done = omega arith;
        asked = refl;
        rises = λ k. k;
        later = g;
        sound = rise_sound f h i x sound new;
        grows = rise_grows h i x new;
        apart = λ j ne. rise_apart f h i x j;
        replica = record {
          up = refl;
          normal = λ s. absurd cc;
          view_change = λ s. absurd cc;
          recovering = λ s. record {
            empty = refl;
            commit = refl;
            promised = promised;
            used = put_at_same h.used i x true i x refl refl;
            held = λ v. ap (λ k. k v) (put_at_same h.held i x (h.accepted i) i x refl refl);
            own = refl;
            responses = λ t a e. absurd cc;
          };
        };
        sends = all_say_map f i answer g (Recovery x r.stored_view) (others i (group_size f)) (λ t. put_at_same h.used i x true i x refl refl);
      },
      λ j y e. e,
    )
