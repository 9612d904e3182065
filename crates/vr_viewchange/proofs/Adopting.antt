-- A log that is handed in is adopted with its view.
use Rattle.std.proofs.Common.{◌≡◌, ℕ, ◌<◌, ◌≤◌, ◌-◌, max, min, true, false, cond, eqb, ltb, leb, le-leb, leb-true, lt-ltb, eqb-true, ltb-true, ne_eqb, ◌&&◌, ◌||◌, List, [], ◌∷◌, ◌++◌, length, refl, ap, ◌∙◌, sym, subst, inl, inr, arith, zero, suc, ◌+◌, ap₂, eq-eqb, Option, Some, None, Bool, Ok, Vec, Global}
use Rattle.std.specs.Prelude.{slice_get}
use Rattle.std.proofs.lemmas.Bool.{and_parts, or_cases}
use Rattle.il_model.specs.declared.command.Command.{Command}
use Rattle.il_model.specs.declared.command.Answer.{Answer}
use Rattle.vr_model.specs.declared.message.Body.TheVariants as says
use Rattle.vr_model.specs.declared.message.Message as sent
use Rattle.vr_model.specs.Logs.{Request, IsPrefix}
use Rattle.vr_model.specs.Groups.{primary}
use Rattle.vr_model.specs.Messages.{Message, PrepareOk}
use Rattle.vr_model.specs.Replicas.{Normal, ReplicaState, Outcome, takes_part, is_view_change}
use Rattle.vr_model.specs.Rules.{keep, send, behind, adopted, saves_above, reply_of, replies, replies_from, commits_to, on_start_view}
use Rattle.vr_model.specs.Steps.{Matters}
use Rattle.vr_model.specs.World.{executed}
use Rattle.vr_model.specs.Checkpoints.{KeptLog, base_of, end_of}
use Rattle.vr_model.specs.StandsFor.{IsCarried}
use Rattle.vr_core.specs.declared.state.Core.{Core}
use Rattle.vr_model.specs.Membership.{Membership}
use Rattle.vr_core.specs.StandsFor.{StandsFor, StandsForLog, IsSavedAs, own_group}
use Rattle.ctl_debugger.specs.Prepared.{Prepared}
use Rattle.vr_core.specs.Changes.{AreReady, between, IsReadyFor, BecomesIfReady, FollowsIfReady}
use Rattle.vr_core.proofs.WholeLogs.{is_own_group, begins, whole_length}
use Rattle.vr_core.proofs.Sent.{sent_more, sent_none, sent_to}
use Rattle.vr_core.specs.Follows.{Tells, Says, AreSent, Replaces, Adopts, Leaves, FollowsIfKept, Loses, executed_to, op_number_of, message_from}
use Rattle.vr_core.proofs.Doing.{lost, does_keep}
use Rattle.vr_core.proofs.Keeping.{saved_above, kept_of}

-- its view is no later
pub behind_view : (f i : ℕ) (answer : List Command → Answer) (r : ReplicaState Command) (u : ℕ) → behind f i answer r u ≡ true → (takes_part r.status ≡ true) × (r.view ≤ u)
behind_view f i answer r u e =
    let p = and_parts (takes_part r.status) (ltb r.view u || is_view_change r.status && eqb r.view u) e in (
      p.0,
      elim (or_cases (ltb r.view u) (is_view_change r.status && eqb r.view u) p.1) [
        | inl l ↦ let k : r.view < u = ltb-true _ _ l in omega arith
        | inr b ↦ let k : r.view ≡ u = eqb-true r.view u (and_parts (is_view_change r.status) (eqb r.view u) b).1 in omega arith
      ],
    )

-- who is behind isn't normal in that view
pub behind_matters : (f i : ℕ) (answer : List Command → Answer) (r : ReplicaState Command) (u : ℕ) (o : Outcome Command Answer) → behind f i answer r u ≡ true → o.replica.status ≡ Normal → o.replica.view ≡ u → Matters r o
behind_matters f i answer r u o e s v same none =
    let status : r.status ≡ Normal = ap (λ q. q.status) (sym same) ∙ s in
    let view : r.view ≡ u = ap (λ q. q.view) (sym same) ∙ v in
    never u (sym (ap (λ x. ltb x u || false) view) ∙ sym (ap (λ x. takes_part x && (ltb r.view u || is_view_change x && eqb r.view u)) status) ∙ e)
  where
    never : (n : ℕ) → (ltb n n || false) ≡ true → ⊥
    never n d = elim (or_cases (ltb n n) false d) [
      | inl l ↦ let k : n < n = ltb-true _ _ l in omega arith
      | inr b ↦ absurd cc
    ]

module _ (core : Core) (handed : KeptLog) (u c : ℕ) (behind_it : Tells core (λ w r. behind w.f w.number w.answer r u) true) (long : core.commit_number ≤ end_of handed) (l : List (Request Command)) (its : StandsForLog core c handed l) where
  same_length : length l ≡ end_of handed
  same_length = whole_length (own_group core) handed l its.stands

  -- it stands for the same in a core of the same member
  carried : (mid : Core) (w : Membership) (r q : ReplicaState Command) → StandsFor core w r → StandsFor mid w q → StandsForLog mid c handed l
  carried mid w r q st now = subst (λ m. IsCarried IsSavedAs m c handed l) (is_own_group core w st.member ∙ sym (is_own_group mid w now.member)) its

  -- what is ready for it
  ready_for : (w : Membership) (r : ReplicaState Command) → StandsFor core w r → (n : ℕ) (ps : List Prepared) → IsReadyFor core handed n ps → AreReady (between l (max r.commit_number (base_of handed.checkpoint)) n) ps
  ready_for w r st n ps ready = subst (λ (k : ℕ). AreReady (between l (max k (base_of handed.checkpoint)) n) ps) (sym st.commit_number) (ready.ready l its.stands)

  within : base_of handed.checkpoint ≤ length l
  within = begins (own_group core) handed.checkpoint l its.stands.first

  abbrev pub adopts_it : Membership → ReplicaState Command → Outcome Command Answer
  adopts_it w r =
      let k = max r.commit_number (min c (length l)) in let q = record (adopted w.f w.number w.answer r u) { log = l; commit_number = k } in record {
        replica = q;
        saves = saves_above w.f w.number w.answer r u;
        sends = replies_from w.f w.number w.answer q r.commit_number ++ cond (ltb k (length l)) (send w.f w.number w.answer (primary w.f u) (PrepareOk u (length l)) ∷ []) [];
      }

  adopts_rule : (w : Membership) (r : ReplicaState Command) → StandsFor core w r → on_start_view w.f w.number w.answer r u c l ≡ adopts_it w r
  adopts_rule w r st =
      let n : length l ≡ end_of handed = same_length in
      let k : r.commit_number ≡ core.commit_number = st.commit_number in
      ap (λ b. cond (b && leb r.commit_number (length l)) (adopts_it w r) (keep w.f w.number w.answer r)) (sym (behind_it.tells w r st))
      ∙ ap (λ b. cond b (adopts_it w r) (keep w.f w.number w.answer r)) (le-leb r.commit_number (length l) (omega arith))

  pub start_lost : Loses core (λ w r. on_start_view w.f w.number w.answer r u c l) core
  start_lost = lost core (λ w r. on_start_view w.f w.number w.answer r u c l) (λ w r st.
      subst (λ o. Matters r o) (sym (adopts_rule w r st)) (behind_matters w.f w.number w.answer r u (adopts_it w r) (sym (behind_it.tells w r st)) refl refl))

  pub start_follows : (adopting holding new : Core) (ps : List Prepared) (sends : List sent.Message) → (primary core.config.f u ≡ core.number → ⊥) → Adopts core u adopting → Replaces adopting handed c holding → IsReadyFor core handed c ps → BecomesIfReady holding c ps (λ w r. executed_to c r) new
      → Says core (λ w r. cond (ltb (max r.commit_number (min c (end_of handed))) (end_of handed)) (send w.f w.number w.answer (primary w.f u) (PrepareOk u (end_of handed)) ∷ []) []) sends
      → FollowsIfKept core (λ w r. on_start_view w.f w.number w.answer r u c l) new sends
  start_follows adopting holding new ps sends backup adopts replaces ready executes told = record {
    leaves = λ w r st prefix.
        let same = adopts_rule w r st in
        let kept : IsPrefix (executed r) l = subst (λ (o : Outcome Command Answer). IsPrefix (executed r) o.replica.log) same prefix in
        let b = behind_view w.f w.number w.answer r u (sym (behind_it.tells w r st)) in
        let low : r.stored_view ≤ u = (let x : r.stored_view ≤ r.view = st.stored b.0 in let y : r.view ≤ u = b.1 in omega arith) in
        let one = adopts.adopts w r st low in
        let two = replaces.replaces w (adopted w.f w.number w.answer r u) l one (carried adopting w r (adopted w.f w.number w.answer r u) st one) kept in
        let reached : base_of handed.checkpoint ≤ c = its.reached in
        let low_base : base_of handed.checkpoint ≤ length l = within in
        let e : max (max r.commit_number (base_of handed.checkpoint)) (min c (length l)) ≡ max r.commit_number (min c (length l)) = omega arith in
        let three = subst (λ n. StandsFor new w (record (adopted w.f w.number w.answer r u) { log = l; commit_number = n })) e (executes.becomes w (record (adopted w.f w.number w.answer r u) { log = l; commit_number = max r.commit_number (base_of handed.checkpoint) }) two (ready_for w r st c ps ready)) in
        let other = ne_eqb (primary w.f u) w.number (λ e. backup (ap (λ f. primary f u) (sym st.member.f) ∙ e ∙ st.member.number)) in
        let k = max r.commit_number (min c (length l)) in
        let q = record (adopted w.f w.number w.answer r u) { log = l; commit_number = k } in
        let goes : List (Message Command Answer) = cond (ltb k (length l)) (send w.f w.number w.answer (primary w.f u) (PrepareOk u (length l)) ∷ []) [] in
        subst (λ o. Leaves core new sends w o) (sym same) (record {
          replica = three;
          saves = saved_above core new w r u st.stored_view (sym three.stored_view ∙ ap (λ n. max n u) st.stored_view);
          sends = subst (λ (ms : List (Message Command Answer)). AreSent w.group sends ms)
              (ap (λ n. cond (ltb (max r.commit_number (min c n)) n) (send w.f w.number w.answer (primary w.f u) (PrepareOk u n) ∷ []) []) (sym same_length)
              ∙ sym (ap (λ t. cond t (replies w.f w.number w.answer q r.commit_number (k - r.commit_number)) [] ++ goes) other))
              (told.says w r st);
        });
  }

  -- it is the primary, and replies
  pub start_replies : (adopting holding new : Core) (ps : List Prepared) (some more sends : List sent.Message) (k number : ℕ) → base_of handed.checkpoint ≤ core.commit_number → primary core.config.f u ≡ core.number → Adopts core u adopting → Replaces adopting handed c holding
      → k ≡ max core.commit_number (min c (end_of handed)) → number ≡ min k (op_number_of holding) → IsReadyFor core handed k ps → FollowsIfReady holding number ps (λ w r. commits_to w.f w.number w.answer r number) new some
      → sends ≡ some ++ more → ((w : Membership) (r : ReplicaState Command) → StandsFor new w r → AreSent w.group more (cond (ltb k (end_of handed)) (send w.f w.number w.answer (primary w.f u) (PrepareOk u (end_of handed)) ∷ []) []))
      → FollowsIfKept core (λ w r. on_start_view w.f w.number w.answer r u c l) new sends
  start_replies adopting holding new ps some more sends k number early own adopts replaces is_k is_number ready commits joined told = record {
    leaves = λ w r st prefix.
        let same = adopts_rule w r st in
        let kept : IsPrefix (executed r) l = subst (λ (o : Outcome Command Answer). IsPrefix (executed r) o.replica.log) same prefix in
        let b = behind_view w.f w.number w.answer r u (sym (behind_it.tells w r st)) in
        let low : r.stored_view ≤ u = (let x : r.stored_view ≤ r.view = st.stored b.0 in let y : r.view ≤ u = b.1 in omega arith) in
        let one = adopts.adopts w r st low in
        let two = replaces.replaces w (adopted w.f w.number w.answer r u) l one (carried adopting w r (adopted w.f w.number w.answer r u) st one) kept in
        let mid = record (adopted w.f w.number w.answer r u) { log = l } in
        let cn : r.commit_number ≡ core.commit_number = st.commit_number in
        let stays : max r.commit_number (base_of handed.checkpoint) ≡ r.commit_number = omega arith in
        let held : StandsFor holding w mid = subst (λ n. StandsFor holding w (record (adopted w.f w.number w.answer r u) { log = l; commit_number = n })) stays two in
        let prim = eq-eqb (primary w.f u) w.number (ap (λ f. primary f u) st.member.f ∙ own ∙ sym st.member.number) in
        let m = max r.commit_number (min c (length l)) in
        let n : length l ≡ end_of handed = same_length in
        let h : length l ≡ op_number_of holding = whole_length w.group holding.log l held.log in
        let e1 : k ≡ m = omega arith in
        let e2 : number ≡ m = omega arith in
        let e3 : max r.commit_number number ≡ m = omega arith in
        let same_end : k ≡ number = e1 ∙ sym e2 in
        let for_k : AreReady (between l r.commit_number k) ps = subst (λ (n : ℕ). AreReady (between l n k) ps) stays (ready_for w r st k ps ready) in
        let left = commits.leaves w mid held (subst (λ (n : ℕ). AreReady (between l r.commit_number n) ps) same_end for_k) in
        let q = record mid { commit_number = m } in
        let three = subst (λ x. StandsFor new w (record mid { commit_number = x })) e3 left.replica in
        let goes : ℕ → ℕ → List (Message Command Answer) = λ x y. cond (ltb x y) (send w.f w.number w.answer (primary w.f u) (PrepareOk u y) ∷ []) [] in
        subst (λ o. Leaves core new sends w o) (sym same) (record {
          replica = three;
          saves = saved_above core new w r u st.stored_view (sym three.stored_view ∙ ap (λ x. max x u) st.stored_view);
          sends = subst (λ (ms : List (Message Command Answer)). AreSent w.group sends ms)
              (ap (λ ms. ms ++ goes k (end_of handed)) (ap (λ x. replies w.f w.number w.answer mid r.commit_number (x - r.commit_number)) e2 ∙ same_replies w mid m r.commit_number (m - r.commit_number))
              ∙ ap (λ x. replies w.f w.number w.answer q r.commit_number (m - r.commit_number) ++ goes x (end_of handed)) e1
              ∙ ap (λ y. replies w.f w.number w.answer q r.commit_number (m - r.commit_number) ++ goes m y) (sym n)
              ∙ sym (ap (λ t. cond t (replies w.f w.number w.answer q r.commit_number (m - r.commit_number)) [] ++ goes m (length l)) prim))
              (subst (λ (xs : List sent.Message). AreSent w.group xs (replies w.f w.number w.answer mid r.commit_number (number - r.commit_number) ++ goes k (end_of handed))) (sym joined)
              (sent_more w.group some more (replies w.f w.number w.answer mid r.commit_number (number - r.commit_number)) (goes k (end_of handed)) left.sends (told w q three)));
        });
  }
    where
      same_replies : (w : Membership) (r : ReplicaState Command) (k from count : ℕ) → replies w.f w.number w.answer r from count ≡ replies w.f w.number w.answer (record r { commit_number = k }) from count
      same_replies w r k from zero = refl
      same_replies w r k from (suc count) = ap₂ (λ a b. a ++ b) (same_reply w r k from (slice_get r.log from)) (same_replies w r k (from + 1) count)
        where
          same_reply : (w : Membership) (r : ReplicaState Command) (k j : ℕ) (o : Option (Request Command)) → reply_of w.f w.number w.answer r j o ≡ reply_of w.f w.number w.answer (record r { commit_number = k }) j o
          same_reply w r k j None = refl
          same_reply w r k j (Some m) = refl

pub not_below : (x y : ℕ) → y ≤ x → ltb x y ≡ false
not_below x y l = go (ltb x y) refl
  where
    go : (t : Bool) → ltb x y ≡ t → ltb x y ≡ false
    go false d = d
    go true d = absurd (let k : x < y = ltb-true x y d in omega arith)

branch_false : {X : Type 0} (b t : Bool) (x y : X) → t ≡ false → cond (b && t) x y ≡ y
branch_false b t x y e = ap (λ s. cond (b && s) x y) e ∙ go b
  where
    go : (s : Bool) → cond (s && false) x y ≡ y
    go true = refl
    go false = refl

too_long : (a b : ℕ) → b < a → leb a b ≡ false
too_long a b l = go (leb a b) refl
  where
    go : (t : Bool) → leb a b ≡ t → leb a b ≡ false
    go false e = e
    go true e = absurd (let k : a ≤ b = leb-true a b e in omega arith)

-- a log that is shorter than what was executed is dropped
pub start_short : (core : Core) (handed : KeptLog) (u c : ℕ) (l : List (Request Command)) → StandsForLog core c handed l → end_of handed < core.commit_number → (sends : Vec sent.Message Global) → sends.items ≡ []
    → FollowsIfKept core (λ w r. on_start_view w.f w.number w.answer r u c l) core sends.items
start_short core handed u c l its short sends none = kept_of core (λ w r. on_start_view w.f w.number w.answer r u c l) core (Ok sends) (does_keep core (λ w r. on_start_view w.f w.number w.answer r u c l) sends none same)
  where
    same : (w : Membership) (r : ReplicaState Command) → StandsFor core w r → on_start_view w.f w.number w.answer r u c l ≡ keep w.f w.number w.answer r
    same w r st =
        let n : length l ≡ end_of handed = whole_length (own_group core) handed l its.stands in
        let k : r.commit_number ≡ core.commit_number = st.commit_number in
        branch_false (behind w.f w.number w.answer r u) (leb r.commit_number (length l)) _ _ (too_long r.commit_number (length l) (omega arith))

-- a PREPAREOK to itself, where its log goes on past what is executed
module _ (new : Core) (w : Membership) (r : ReplicaState Command) (st : StandsFor new w r) (u k n : ℕ) where
  abbrev pub Acknowledges : List sent.Message → Type 0
  Acknowledges more = AreSent w.group more (cond (ltb k n) (send w.f w.number w.answer (primary w.f u) (PrepareOk u n) ∷ []) [])

  pub acknowledges : (to : ℕ) (m : sent.Message) → m ≡ message_from new.number (says.PrepareOk u n) to → to ≡ primary new.config.f u → k < n → Acknowledges (m ∷ [])
  acknowledges to m is own more =
      let said : m ≡ message_from new.number (says.PrepareOk u n) (primary w.f u) = is ∙ ap (message_from new.number (says.PrepareOk u n)) (own ∙ ap (λ f. primary f u) (sym st.member.f)) in
      subst (λ t. AreSent w.group (m ∷ []) (cond t (send w.f w.number w.answer (primary w.f u) (PrepareOk u n) ∷ []) [])) (sym (lt-ltb k n more))
      (subst (λ (x : sent.Message). AreSent w.group (x ∷ []) (send w.f w.number w.answer (primary w.f u) (PrepareOk u n) ∷ [])) (sym said) (sent_to w new.number (says.PrepareOk u n) [] (primary w.f u) st.member.number tt))

  pub acknowledges_none : n ≤ k → Acknowledges []
  acknowledges_none all = subst (λ t. AreSent w.group [] (cond t (send w.f w.number w.answer (primary w.f u) (PrepareOk u n) ∷ []) [])) (sym (not_below k n all)) (sent_none w.group)
