-- Tables with one place changed, and counts of replicas.
use Rattle.std.proofs.Common.{◌≡◌, ℕ, zero, suc, ◌+◌, ◌<◌, ◌≤◌, Bool, true, false, cond, ◌&&◌, arith, refl, sym, ap, subst, inl, inr}
use Rattle.std.proofs.lemmas.Bool.{eq-eqb, ne_eqb, cases_eq}
use Rattle.vr_model.specs.Groups.{how_many}
use Rattle.vr_model.specs.Replicas.{put}

pub put_same : {X : Type 0} (t : ℕ → X) (k : ℕ) (x : X) (j : ℕ) → j ≡ k → put t k x j ≡ x
put_same t k x j e = ap (λ b. cond b x (t j)) (eq-eqb j k e)

pub put_other : {X : Type 0} (t : ℕ → X) (k : ℕ) (x : X) (j : ℕ) → (j ≡ k → ⊥) → put t k x j ≡ t j
put_other t k x j ne = ap (λ b. cond b x (t j)) (ne_eqb j k ne)

pub put_cases : {X : Type 0} (t : ℕ → X) (k : ℕ) (x : X) (j : ℕ) → (P : X → Type 0) → (j ≡ k → P x) → ((j ≡ k → ⊥) → P (t j)) → P (put t k x j)
put_cases t k x j P here there = elim (cases_eq j k) [
  | inl e ↦ subst P (sym (put_same t k x j e)) (here e)
  | inr d ↦ subst P (sym (put_other t k x j d)) (there d)
]

one : (a b : Bool) → cond a 1 0 + cond b 1 0 ≤ 1 + cond (a && b) 1 0
one true true = omega arith
one true false = omega arith
one false b = elim b as (λ b. cond false 1 0 + cond b 1 0 ≤ 1 + cond (false && b) 1 0) [ true ↦ omega arith | false ↦ omega arith ]

-- two that count more than all share a member
pub both : (p q : ℕ → Bool) (n : ℕ) → how_many p n + how_many q n ≤ n + how_many (λ r. p r && q r) n
both p q zero = omega arith
both p q (suc n) = omega (arith, both p q n, one (p n) (q n))

pub some_member : (p : ℕ → Bool) (n : ℕ) → 0 < how_many p n → (r : ℕ) × (r < n) × (p r ≡ true)
some_member p zero h = absurd (omega arith)
some_member p (suc n) h = go (p n) refl (λ k. some_member p n k)
  where
    go : (b : Bool) → p n ≡ b → (0 < how_many p n → (r : ℕ) × (r < n) × (p r ≡ true)) → (r : ℕ) × (r < suc n) × (p r ≡ true)
    go true e below = (n, (omega arith), e)
    go false e below =
        let k : cond {A = ℕ} (p n) 1 0 ≡ 0 = rw e refl in
        let s = below (omega arith) in
        (s.0, (omega (arith, s.1)), s.2)

pub left : (a b : Bool) → (a && b) ≡ true → a ≡ true
left true b h = refl
left false b h = cc

pub right : (a b : Bool) → (a && b) ≡ true → b ≡ true
right true b h = h
right false b h = cc

-- two tests that count more than all below n pass one together
pub share : (p q : ℕ → Bool) (n : ℕ) → n < how_many p n + how_many q n → (r : ℕ) × (r < n) × (p r ≡ true) × (q r ≡ true)
share p q n l =
    let s = some_member (λ r. p r && q r) n (omega (arith, both p q n)) in
    (s.0, s.1, (left (p s.0) (q s.0) s.2), (right (p s.0) (q s.0) s.2))
