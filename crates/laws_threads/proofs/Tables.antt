-- Tables with one place changed.
use Rattle.std.proofs.Common.{◌≡◌, ℕ, cond, sym, ap, subst, inl, inr}
use Rattle.std.proofs.lemmas.Bool.{eq-eqb, ne_eqb, cases_eq}
use Rattle.vr_model.specs.Replicas.{put}

pub put_same : {X : Type 0} (t : ℕ → X) (k : ℕ) (x : X) (j : ℕ) → j ≡ k → put t k x j ≡ x
put_same t k x j e = ap (λ b. cond b x (t j)) (eq-eqb j k e)

pub put_other : {X : Type 0} (t : ℕ → X) (k : ℕ) (x : X) (j : ℕ) → (j ≡ k → ⊥) → put t k x j ≡ t j
put_other t k x j ne = ap (λ b. cond b x (t j)) (ne_eqb j k ne)

pub put_cases : {X : Type 0} (t : ℕ → X) (k : ℕ) (x : X) (j : ℕ) → (P : X → Type 0) → (j ≡ k → P x) → ((j ≡ k → ⊥) → P (t j)) → P (put t k x j)
put_cases t k x j P here there = elim (cases_eq j k) [
  | inl e ↦ subst P (sym (put_same t k x j e)) (here e)
  | inr d ↦ subst P (sym (put_other t k x j d)) (there d)
]
