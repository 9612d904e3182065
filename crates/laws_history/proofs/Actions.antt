-- What a group does: a replica accepts entries, appends one, promises a view, begins one, or comes up again.
use Rattle.std.proofs.Common.{max, ◌≡◌, ℕ, ◌+◌, ◌<◌, ◌≤◌, Bool, true, false, List, [], ◌∷◌, ◌++◌, length, take, arith, refl, sym, ap, ◌∙◌, subst, length-append, inl, inr}
use Rattle.std.proofs.lemmas.Bool.{cases_eq}
use Rattle.vr_model.specs.Logs.{IsPrefix}
use Rattle.vr_model.specs.Groups.{primary}
use Rattle.laws_history.proofs.History.{History, CouldBeChosen, IsSound, Grows, IsCarried}
use Rattle.vr_model.specs.Replicas.{put}
use Rattle.laws_history.proofs.Facts.{Apart}
use Rattle.laws_history.proofs.Prefixes.{prefix_refl, prefix_length, prefix_take, prefix_append}
use Rattle.laws_history.proofs.Carried.{could_before, carried_grows, Elected, carried_elected, Among}
use Rattle.laws_history.proofs.Tables.{put_at, put_at_cases, put_at_other, put_at_same, put_cases, put_other, put_same}

-- nothing began: what was carried still is
pub carried_same : {X : Type 0} (f : ℕ) (h g : History X) → IsSound f h → Grows h g → ((u : ℕ) → g.started u ≡ h.started u)
    → (u v n : ℕ) → g.started u ≡ true → v < u → CouldBeChosen f g v n → IsCarried g v u n
carried_same f h g sound grows same u v n b l could =
    let b' : h.started u ≡ true = sym (same u) ∙ b in
    carried_grows h g v u n grows b' (sound.first_within u b') (sound.carried u v n b' l (could_before f h g v n sound grows could))

abbrev pub accept : {X : Type 0} → History X → ℕ → ℕ → ℕ → History X
accept h i v n = record h { accepted = put_at h.accepted i v n; promised = put h.promised i v; left = put h.left i (max (h.left i) v) }

pub record MayAccept {X : Type 0} (f : ℕ) (h : History X) (i v n : ℕ) : Type 0 where
  pub started : h.started v ≡ true
  pub promised : h.promised i ≤ v
  pub more : h.accepted i v ≤ n
  pub within : n ≤ length (h.log v)
  pub follows : primary f v ≡ i → n ≡ length (h.log v)

pub accept_grows : {X : Type 0} (f : ℕ) (h : History X) (i v n : ℕ) → MayAccept f h i v n → Grows h (accept h i v n)
accept_grows f h i v n may = record {
  log = λ u. prefix_refl (h.log u);
  started = λ u e. e;
  first = λ u e. refl;
  accepted = λ r u. put_at_cases h.accepted i v n r u (λ x. h.accepted r u ≤ x)
      (λ e d. let k : h.accepted r u ≡ h.accepted i v = ap (λ x. h.accepted x u) e ∙ ap (h.accepted i) d in omega (arith, may.more))
      (λ ne. omega arith);
  promised = λ r. put_cases h.promised i v r (λ x. h.promised r ≤ x)
      (λ e. let k : h.promised r ≡ h.promised i = ap h.promised e in omega (arith, may.promised))
      (λ ne. omega arith);
  left = λ r. put_cases h.left i (max (h.left i) v) r (λ x. h.left r ≤ x) (λ e. let k : h.left r ≡ h.left i = ap h.left e in omega arith) (λ ne. omega arith);
  asked = prefix_refl h.asked;
  done = omega arith;
  used = λ r x e. e;
  held = λ r x w e. refl;
  frozen = λ r u l. put_at_other h.accepted i v n r u (λ e d. let k : h.promised r ≡ h.promised i = ap h.promised e in omega (arith, may.promised));
}

pub accept_sound : {X : Type 0} (f : ℕ) (h : History X) (i v n : ℕ) → IsSound f h → MayAccept f h i v n → IsSound f (accept h i v n)
accept_sound f h i v n sound may = record {
  left_promised = λ r. elim (cases_eq r i) [
    | inl e ↦ omega (arith, put_same h.left i (max (h.left i) v) r e, put_same h.promised i v r e, sound.left_promised i, may.promised)
    | inr ne ↦ omega (arith, put_other h.left i (max (h.left i) v) r ne, put_other h.promised i v r ne, sound.left_promised r)
  ];
  first_within = sound.first_within;
  unstarted = sound.unstarted;
  accepted_within = λ r u. put_at_cases h.accepted i v n r u (λ x. x ≤ length (h.log u))
      (λ e d. let k : length (h.log u) ≡ length (h.log v) = ap (λ x. length (h.log x)) d in omega (arith, may.within))
      (λ ne. sound.accepted_within r u);
  accepted_promised = λ r u l. put_at_cases h.accepted i v n r u (λ x. x ≡ 0)
      (λ e d. absurd (let k : put h.promised i v r ≡ v = put_same h.promised i v r e in omega arith))
      (λ ne. sound.accepted_promised r u (let b : h.promised r ≤ put h.promised i v r = (accept_grows f h i v n may).promised r in omega arith));
  leads = λ u b. put_at_cases h.accepted i v n (primary f u) u (λ x. x ≡ length (h.log u))
      (λ e d. let k : primary f v ≡ i = ap (primary f) (sym d) ∙ e in
      may.follows k ∙ ap (λ x. length (h.log x)) (sym d))
      (λ ne. sound.leads u b);
  held_within = λ r x u e. omega (arith, sound.held_within r x u e, (accept_grows f h i v n may).accepted r u);
  called = λ u b. omega (arith, sound.called u b, (accept_grows f h i v n may).promised (primary f u));
  carried = carried_same f h (accept h i v n) sound (accept_grows f h i v n may) (λ u. refl);
}

pub accept_apart : {X : Type 0} (f : ℕ) (h : History X) (i v n j : ℕ) → (j ≡ i → ⊥) → Apart f h (accept h i v n) j
accept_apart f h i v n j ne = record {
  accepted = λ u. put_at_other h.accepted i v n j u (λ e d. ne e);
  promised = put_other h.promised i v j ne;
  log = λ u e. refl;
  started = λ u e. refl;
}

-- the primary appends
abbrev pub append : {X : Type 0} → History X → ℕ → ℕ → X → History X
append h i v m = record h { log = put h.log v (h.log v ++ m ∷ []); accepted = put_at h.accepted i v (length (h.log v) + 1) }

pub record MayAppend {X : Type 0} (f : ℕ) (h : History X) (i v : ℕ) : Type 0 where
  pub started : h.started v ≡ true
  pub promised : h.promised i ≡ v
  pub leads : primary f v ≡ i

pub append_grows : {X : Type 0} (f : ℕ) (h : History X) (i v : ℕ) (m : X) → IsSound f h → MayAppend f h i v → Grows h (append h i v m)
append_grows f h i v m sound may = record {
  log = λ u. put_cases h.log v (h.log v ++ m ∷ []) u (λ x. IsPrefix (h.log u) x)
      (λ e. subst (λ w. IsPrefix (h.log w) (h.log v ++ m ∷ [])) (sym e) (prefix_append (h.log v) (m ∷ [])))
      (λ ne. prefix_refl (h.log u));
  started = λ u e. e;
  first = λ u e. refl;
  accepted = λ r u. put_at_cases h.accepted i v (length (h.log v) + 1) r u (λ x. h.accepted r u ≤ x)
      (λ e d. let k : length (h.log u) ≡ length (h.log v) = ap (λ x. length (h.log x)) d in omega (arith, sound.accepted_within r u))
      (λ ne. omega arith);
  promised = λ r. omega arith;
  left = λ r. omega arith;
  asked = prefix_refl h.asked;
  done = omega arith;
  used = λ r x e. e;
  held = λ r x w e. refl;
  frozen = λ r u l. put_at_other h.accepted i v (length (h.log v) + 1) r u (λ e d. let k : h.promised r ≡ h.promised i = ap h.promised e in omega (arith, may.promised));
}

pub append_sound : {X : Type 0} (f : ℕ) (h : History X) (i v : ℕ) (m : X) → IsSound f h → MayAppend f h i v → IsSound f (append h i v m)
append_sound f h i v m sound may =
    let grows = append_grows f h i v m sound may in
    let long : (u : ℕ) → length (h.log u) ≤ length (put h.log v (h.log v ++ m ∷ []) u) = λ u. prefix_length (grows.log u) in
    record {
      first_within = λ u b. omega (arith, sound.first_within u b, long u);
      unstarted = λ u b. put_other h.log v (h.log v ++ m ∷ []) u (λ e. absurd (let c : true ≡ false = sym may.started ∙ ap h.started (sym e) ∙ b in cc)) ∙ sound.unstarted u b;
      accepted_within = λ r u. put_at_cases h.accepted i v (length (h.log v) + 1) r u (λ x. x ≤ length (put h.log v (h.log v ++ m ∷ []) u))
          (λ e d. let k : put h.log v (h.log v ++ m ∷ []) u ≡ h.log v ++ m ∷ [] = put_same h.log v (h.log v ++ m ∷ []) u d in
          omega (arith, ap length k, length-append (h.log v) (m ∷ [])))
          (λ ne. omega (arith, sound.accepted_within r u, long u));
      accepted_promised = λ r u l. put_at_cases h.accepted i v (length (h.log v) + 1) r u (λ x. x ≡ 0)
          (λ e d. absurd (let k : h.promised r ≡ h.promised i = ap h.promised e in omega (arith, may.promised)))
          (λ ne. sound.accepted_promised r u l);
      leads = λ u b. put_at_cases h.accepted i v (length (h.log v) + 1) (primary f u) u (λ x. x ≡ length (put h.log v (h.log v ++ m ∷ []) u))
          (λ e d. let k : put h.log v (h.log v ++ m ∷ []) u ≡ h.log v ++ m ∷ [] = put_same h.log v (h.log v ++ m ∷ []) u d in
          omega (arith, ap length k, length-append (h.log v) (m ∷ [])))
          (λ ne. sound.leads u b ∙ ap length (sym (put_other h.log v (h.log v ++ m ∷ []) u (λ d. ne (ap (primary f) d ∙ may.leads) d))));
      held_within = λ r x u e. omega (arith, sound.held_within r x u e, grows.accepted r u);
      left_promised = sound.left_promised;
      called = sound.called;
      carried = carried_same f h (append h i v m) sound grows (λ u. refl);
    }

pub append_apart : {X : Type 0} (f : ℕ) (h : History X) (i v : ℕ) (m : X) (j : ℕ) → primary f v ≡ i → (j ≡ i → ⊥) → Apart f h (append h i v m) j
append_apart f h i v m j leads ne = record {
  accepted = λ u. put_at_other h.accepted i v (length (h.log v) + 1) j u (λ e d. ne e);
  promised = refl;
  log = λ u e. put_other h.log v (h.log v ++ m ∷ []) u (λ d. ne (sym e ∙ ap (primary f) d ∙ leads));
  started = λ u e. refl;
}

-- a replica enters a view
abbrev pub promise : {X : Type 0} → History X → ℕ → ℕ → History X
promise h i u = record h { promised = put h.promised i u }

pub promise_grows : {X : Type 0} (h : History X) (i u : ℕ) → h.promised i ≤ u → Grows h (promise h i u)
promise_grows h i u may = record {
  log = λ v. prefix_refl (h.log v);
  started = λ v e. e;
  first = λ v e. refl;
  accepted = λ r v. omega arith;
  promised = λ r. put_cases h.promised i u r (λ x. h.promised r ≤ x)
      (λ e. let k : h.promised r ≡ h.promised i = ap h.promised e in omega arith)
      (λ ne. omega arith);
  left = λ r. omega arith;
  asked = prefix_refl h.asked;
  done = omega arith;
  used = λ r x e. e;
  held = λ r x w e. refl;
  frozen = λ r v l. refl;
}

pub promise_sound : {X : Type 0} (f : ℕ) (h : History X) (i u : ℕ) → IsSound f h → h.promised i ≤ u → IsSound f (promise h i u)
promise_sound f h i u sound may = record {
  first_within = sound.first_within;
  unstarted = sound.unstarted;
  accepted_within = sound.accepted_within;
  accepted_promised = λ r v l. sound.accepted_promised r v (let b : h.promised r ≤ put h.promised i u r = (promise_grows h i u may).promised r in omega arith);
  leads = sound.leads;
  left_promised = λ r. omega (arith, sound.left_promised r, (promise_grows h i u may).promised r);
  held_within = sound.held_within;
  called = λ v b. omega (arith, sound.called v b, (promise_grows h i u may).promised (primary f v));
  carried = carried_same f h (promise h i u) sound (promise_grows h i u may) (λ v. refl);
}

pub promise_apart : {X : Type 0} (f : ℕ) (h : History X) (i u j : ℕ) → (j ≡ i → ⊥) → Apart f h (promise h i u) j
promise_apart f h i u j ne = record { accepted = λ v. refl; promised = put_other h.promised i u j ne; log = λ v e. refl; started = λ v e. refl }

-- a view begins with this log
abbrev pub begin : {X : Type 0} → History X → ℕ → ℕ → List X → History X
begin h i u mine = record {
  asked = h.asked;
  done = h.done;
  used = h.used;
  held = h.held;
  log = put h.log u mine;
  first = put h.first u (length mine);
  started = put h.started u true;
  accepted = put_at h.accepted i u (length mine);
  promised = h.promised;
  left = put h.left i (max (h.left i) u);
}

pub record MayBegin {X : Type 0} (f : ℕ) (h : History X) (i u : ℕ) : Type 0 where
  pub unstarted : h.started u ≡ false
  pub promised : h.promised i ≡ u
  pub leads : primary f u ≡ i

pub begin_grows : {X : Type 0} (f : ℕ) (h : History X) (i u : ℕ) (mine : List X) → IsSound f h → MayBegin f h i u → Grows h (begin h i u mine)
begin_grows f h i u mine sound may = record {
  log = λ v. put_cases h.log u mine v (λ x. IsPrefix (h.log v) x)
      (λ e. let k : h.log v ≡ [] = sound.unstarted v (ap h.started e ∙ may.unstarted) in subst (λ x. IsPrefix x mine) (sym k) (record { rest = mine; is = refl }))
      (λ ne. prefix_refl (h.log v));
  started = λ v e. put_cases h.started u true v (λ x. x ≡ true) (λ d. refl) (λ ne. e);
  first = λ v e. put_other h.first u (length mine) v (λ d. absurd (let c : true ≡ false = sym e ∙ ap h.started d ∙ may.unstarted in cc));
  accepted = λ r v. put_at_cases h.accepted i u (length mine) r v (λ x. h.accepted r v ≤ x)
      (λ e d. let k : h.log v ≡ [] = sound.unstarted v (ap h.started d ∙ may.unstarted) in omega (arith, sound.accepted_within r v, ap length k))
      (λ ne. omega arith);
  promised = λ r. omega arith;
  left = λ r. put_cases h.left i (max (h.left i) u) r (λ x. h.left r ≤ x) (λ e. let k : h.left r ≡ h.left i = ap h.left e in omega arith) (λ ne. omega arith);
  asked = prefix_refl h.asked;
  done = omega arith;
  used = λ r x e. e;
  held = λ r x w e. refl;
  frozen = λ r v l. put_at_other h.accepted i u (length mine) r v (λ e d. let k : h.promised r ≡ h.promised i = ap h.promised e in omega (arith, may.promised));
}

pub begin_sound : {X : Type 0} (f : ℕ) (h : History X) (i u last : ℕ) (mine : List X) (do_view_changes : ℕ → Bool)
    → IsSound f h → MayBegin f h i u → Elected f h u last mine do_view_changes → IsSound f (begin h i u mine)
begin_sound {X} f h i u last mine do_view_changes sound may el =
    let g : History X = begin h i u mine in
    let grows : Grows h g = begin_grows f h i u mine sound may in
    record {
      first_within = λ v b. elim (cases_eq v u) [
        | inl e ↦ omega (arith, put_same h.first u (length mine) v e, ap length (put_same h.log u mine v e))
        | inr ne ↦ let b' : h.started v ≡ true = sym (put_other h.started u true v ne) ∙ b in
            omega (arith, put_other h.first u (length mine) v ne, ap length (put_other h.log u mine v ne), sound.first_within v b')
      ];
      unstarted = λ v b. elim (cases_eq v u) [
        | inl e ↦ absurd (let c : true ≡ false = sym (put_same h.started u true v e) ∙ b in cc)
        | inr ne ↦ put_other h.log u mine v ne ∙ sound.unstarted v (sym (put_other h.started u true v ne) ∙ b)
      ];
      accepted_within = λ r v. put_at_cases h.accepted i u (length mine) r v (λ x. x ≤ length (put h.log u mine v))
          (λ e d. omega (arith, ap length (put_same h.log u mine v d)))
          (λ ne. omega (arith, sound.accepted_within r v, prefix_length (grows.log v)));
      accepted_promised = λ r v l. put_at_cases h.accepted i u (length mine) r v (λ x. x ≡ 0)
          (λ e d. absurd (let k : h.promised r ≡ h.promised i = ap h.promised e in omega (arith, may.promised)))
          (λ ne. sound.accepted_promised r v l);
      leads = λ v b. elim (cases_eq v u) [
        | inl e ↦ put_at_same h.accepted i u (length mine) (primary f v) v (ap (primary f) e ∙ may.leads) e ∙ ap length (sym (put_same h.log u mine v e))
        | inr ne ↦ put_at_other h.accepted i u (length mine) (primary f v) v (λ a d. ne d)
            ∙ sound.leads v (sym (put_other h.started u true v ne) ∙ b) ∙ ap length (sym (put_other h.log u mine v ne))
      ];
      held_within = λ r x v e. omega (arith, sound.held_within r x v e, grows.accepted r v);
      left_promised = λ r. elim (cases_eq r i) [
        | inl e ↦ let k : h.promised r ≡ h.promised i = ap h.promised e in omega (arith, put_same h.left i (max (h.left i) u) r e, sound.left_promised i, may.promised)
        | inr ne ↦ omega (arith, put_other h.left i (max (h.left i) u) r ne, sound.left_promised r)
      ];
      called = λ v b. elim (cases_eq v u) [
        | inl e ↦ let k : h.promised (primary f v) ≡ h.promised i = ap h.promised (ap (primary f) e ∙ may.leads) in omega (arith, may.promised)
        | inr ne ↦ sound.called v (sym (put_other h.started u true v ne) ∙ b)
      ];
      carried = λ w v n b l could. elim (cases_eq w u) [
        | inl e ↦ started grows w v n e l (could_before f h g v n sound grows could)
        | inr ne ↦ let b' : h.started w ≡ true = sym (put_other h.started u true w ne) ∙ b in
            carried_grows h g v w n grows b' (sound.first_within w b') (sound.carried w v n b' l (could_before f h g v n sound grows could))
      ];
    }
  where
    started : Grows h (begin h i u mine) → (w v n : ℕ) → w ≡ u → v < w → CouldBeChosen f h v n → IsCarried (begin h i u mine) v w n
    started grows w v n e l could =
        let a : Among h v n mine = carried_elected f h u last mine do_view_changes sound el v n (omega arith) could in
        record {
          within = omega (arith, a.0, prefix_length (grows.log v));
          first = omega (arith, a.1, put_same h.first u (length mine) w e);
          same = prefix_take n (grows.log v) a.0 ∙ a.2 ∙ ap (take n) (sym (put_same h.log u mine w e));
        }

pub begin_apart : {X : Type 0} (f : ℕ) (h : History X) (i u : ℕ) (mine : List X) (j : ℕ) → primary f u ≡ i → (j ≡ i → ⊥) → Apart f h (begin h i u mine) j
begin_apart f h i u mine j leads ne = record {
  accepted = λ v. put_at_other h.accepted i u (length mine) j v (λ e d. ne e);
  promised = refl;
  log = λ v e. put_other h.log u mine v (λ d. ne (sym e ∙ ap (primary f) d ∙ leads));
  started = λ v e. put_other h.started u true v (λ d. ne (sym e ∙ ap (primary f) d ∙ leads));
}

-- a replica comes up again, with a nonce of its own
abbrev pub rise : {X : Type 0} → History X → ℕ → ℕ → History X
rise h i x = record h { used = put_at h.used i x true; held = put_at h.held i x (h.accepted i) }

pub rise_grows : {X : Type 0} (h : History X) (i x : ℕ) → h.used i x ≡ false → Grows h (rise h i x)
rise_grows h i x new = record {
  log = λ v. prefix_refl (h.log v);
  started = λ v e. e;
  first = λ v e. refl;
  accepted = λ r v. omega arith;
  promised = λ r. omega arith;
  left = λ r. omega arith;
  asked = prefix_refl h.asked;
  done = omega arith;
  used = λ r y e. put_at_cases h.used i x true r y (λ b. b ≡ true) (λ a b. refl) (λ ne. e);
  held = λ r y v e. ap (λ k. k v) (put_at_other h.held i x (h.accepted i) r y (λ a b.
      absurd (let c : true ≡ false = sym e ∙ ap (λ z. h.used z y) a ∙ ap (h.used i) b ∙ new in cc)));
  frozen = λ r v l. refl;
}

pub rise_sound : {X : Type 0} (f : ℕ) (h : History X) (i x : ℕ) → IsSound f h → h.used i x ≡ false → IsSound f (rise h i x)
rise_sound f h i x sound new = record {
  first_within = sound.first_within;
  unstarted = sound.unstarted;
  accepted_within = sound.accepted_within;
  accepted_promised = sound.accepted_promised;
  leads = sound.leads;
  held_within = λ r y v e. elim (cases_eq r i) [
    | inl a ↦ elim (cases_eq y x) [
      | inl b ↦ let k : put_at h.held i x (h.accepted i) r y v ≡ h.accepted i v = ap (λ k. k v) (put_at_same h.held i x (h.accepted i) r y a b) in
          let m : h.accepted i v ≡ h.accepted r v = ap (λ z. h.accepted z v) (sym a) in omega arith
      | inr b ↦ old r y v (λ p q. b q) e
    ]
    | inr a ↦ old r y v (λ p q. a p) e
  ];
  left_promised = sound.left_promised;
  called = sound.called;
  carried = carried_same f h (rise h i x) sound (rise_grows h i x new) (λ v. refl);
}
  where
    old : (r y v : ℕ) → (r ≡ i → y ≡ x → ⊥) → put_at h.used i x true r y ≡ true → put_at h.held i x (h.accepted i) r y v ≤ h.accepted r v
    old r y v ne e =
        let k : put_at h.held i x (h.accepted i) r y v ≡ h.held r y v = ap (λ k. k v) (put_at_other h.held i x (h.accepted i) r y ne) in
        let u : h.used r y ≡ true = sym (put_at_other h.used i x true r y ne) ∙ e in omega (arith, sound.held_within r y v u)

pub rise_apart : {X : Type 0} (f : ℕ) (h : History X) (i x j : ℕ) → Apart f h (rise h i x) j
rise_apart f h i x j = record { accepted = λ v. refl; promised = refl; log = λ v e. refl; started = λ v e. refl }
