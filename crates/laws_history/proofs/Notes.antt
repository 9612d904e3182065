-- What is only noted: what was executed, for which view a replica left, what was submitted.
use Rattle.std.proofs.Common.{max, ◌≡◌, ℕ, ◌<◌, ◌≤◌, ◌⊎◌, [], ◌∷◌, ◌++◌, arith, refl, ap, inl, inr}
use Rattle.std.proofs.lemmas.Bool.{cases_lt}
use Rattle.laws_history.proofs.History.{History, IsSound, Grows}
use Rattle.vr_model.specs.Replicas.{put}
use Rattle.laws_history.proofs.Facts.{Apart}
use Rattle.laws_history.proofs.Prefixes.{prefix_refl, prefix_append}
use Rattle.laws_history.proofs.Tables.{put_cases}
use Rattle.laws_history.proofs.Actions.{carried_same}

-- somebody has executed this many entries
abbrev pub finish : {X : Type 0} → History X → ℕ → History X
finish h n = record h { done = max h.done n }

pub finish_grows : {X : Type 0} (h : History X) (n : ℕ) → Grows h (finish h n)
finish_grows h n = record {
  log = λ v. prefix_refl (h.log v);
  started = λ v e. e;
  first = λ v e. refl;
  accepted = λ r v. omega arith;
  promised = λ r. omega arith;
  left = λ r. omega arith;
  asked = prefix_refl h.asked;
  done = omega arith;
  used = λ r x e. e;
  held = λ r x v e. refl;
  frozen = λ r v l. refl;
}

pub finish_sound : {X : Type 0} (f : ℕ) (h : History X) (n : ℕ) → IsSound f h → IsSound f (finish h n)
finish_sound f h n sound = record {
  first_within = sound.first_within;
  unstarted = sound.unstarted;
  accepted_within = sound.accepted_within;
  accepted_promised = sound.accepted_promised;
  leads = sound.leads;
  left_promised = sound.left_promised;
  held_within = sound.held_within;
  called = sound.called;
  carried = carried_same f h (finish h n) sound (finish_grows h n) (λ v. refl);
}

pub finish_apart : {X : Type 0} (f : ℕ) (h : History X) (n j : ℕ) → Apart f h (finish h n) j
finish_apart f h n j = record { accepted = λ v. refl; promised = refl; log = λ v e. refl; started = λ v e. refl }

-- a replica leaves for a view
abbrev pub leave : {X : Type 0} → History X → ℕ → ℕ → History X
leave h i u = record h { left = put h.left i (max (h.left i) u) }

pub leave_grows : {X : Type 0} (h : History X) (i u : ℕ) → Grows h (leave h i u)
leave_grows h i u = record {
  log = λ v. prefix_refl (h.log v);
  started = λ v e. e;
  first = λ v e. refl;
  accepted = λ r v. omega arith;
  promised = λ r. omega arith;
  left = λ r. put_cases h.left i (max (h.left i) u) r (λ x. h.left r ≤ x) (λ e. let k : h.left r ≡ h.left i = ap h.left e in omega arith) (λ ne. omega arith);
  asked = prefix_refl h.asked;
  done = omega arith;
  used = λ r x e. e;
  held = λ r x v e. refl;
  frozen = λ r v l. refl;
}

-- who has left a view then had left it, or is the one that leaves
pub leave_cases : {X : Type 0} (h : History X) (i u : ℕ) (P : ℕ → ℕ → Type 0) → ((j v : ℕ) → j ≡ i → v < u → P j v) → (j v : ℕ) → v < (leave h i u).left j → (v < h.left j) ⊎ P j v
leave_cases h i u P now j v = put_cases h.left i (max (h.left i) u) j (λ x. v < x → (v < h.left j) ⊎ P j v)
    (λ e l. elim (cases_lt v (h.left i)) [
      | inl early ↦ inl (let k : h.left j ≡ h.left i = ap h.left e in omega arith)
      | inr late ↦ inr (now j v e (omega arith))
    ])
    (λ ne l. inl l)

pub leave_sound : {X : Type 0} (f : ℕ) (h : History X) (i u : ℕ) → IsSound f h → u ≤ h.promised i → IsSound f (leave h i u)
leave_sound f h i u sound l = record {
  first_within = sound.first_within;
  unstarted = sound.unstarted;
  accepted_within = sound.accepted_within;
  accepted_promised = sound.accepted_promised;
  leads = sound.leads;
  held_within = sound.held_within;
  called = sound.called;
  left_promised = λ r. put_cases h.left i (max (h.left i) u) r (λ x. x ≤ h.promised r)
      (λ e. let k : h.promised r ≡ h.promised i = ap h.promised e in omega (arith, sound.left_promised i)) (λ ne. sound.left_promised r);
  carried = carried_same f h (leave h i u) sound (leave_grows h i u) (λ v. refl);
}

pub leave_apart : {X : Type 0} (f : ℕ) (h : History X) (i u j : ℕ) → Apart f h (leave h i u) j
leave_apart f h i u j = record { accepted = λ v. refl; promised = refl; log = λ v e. refl; started = λ v e. refl }

-- a client submits
abbrev pub submit : {X : Type 0} → History X → X → History X
submit h m = record h { asked = h.asked ++ m ∷ [] }

pub submit_grows : {X : Type 0} (h : History X) (m : X) → Grows h (submit h m)
submit_grows h m = record {
  log = λ v. prefix_refl (h.log v);
  started = λ v e. e;
  first = λ v e. refl;
  accepted = λ r v. omega arith;
  promised = λ r. omega arith;
  left = λ r. omega arith;
  asked = prefix_append h.asked (m ∷ []);
  done = omega arith;
  used = λ r x e. e;
  held = λ r x v e. refl;
  frozen = λ r v l. refl;
}

pub submit_sound : {X : Type 0} (f : ℕ) (h : History X) (m : X) → IsSound f h → IsSound f (submit h m)
submit_sound f h m sound = record {
  first_within = sound.first_within;
  unstarted = sound.unstarted;
  accepted_within = sound.accepted_within;
  accepted_promised = sound.accepted_promised;
  leads = sound.leads;
  left_promised = sound.left_promised;
  held_within = sound.held_within;
  called = sound.called;
  carried = carried_same f h (submit h m) sound (submit_grows h m) (λ v. refl);
}

pub submit_apart : {X : Type 0} (f : ℕ) (h : History X) (m : X) (j : ℕ) → Apart f h (submit h m) j
submit_apart f h m j = record { accepted = λ v. refl; promised = refl; log = λ v e. refl; started = λ v e. refl }
