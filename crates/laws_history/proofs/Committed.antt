-- Committed prefixes of logs.
use Rattle.std.proofs.Common.{◌≡◌, ℕ, zero, suc, ◌+◌, ◌<◌, ◌≤◌, max, min, Bool, true, false, cond, not, eqb, leb, ◌&&◌, take, arith, refl, sym, ap, ◌∙◌, subst, inl, inr}
use Rattle.std.proofs.lemmas.Bool.{leb-true, le-leb, cases_lt, cases_eq, and_parts, eq-eqb}
use Rattle.std.proofs.lemmas.Nat.{mod_below}
use Rattle.vr_model.specs.Groups.{group_size, primary, how_many}
use Rattle.laws_history.proofs.History.{History, IsChosen, holds, IsSound, IsCarried}
use Rattle.vr_model.specs.Choices.{reached}
use Rattle.laws_history.proofs.Facts.{IsCommitted}
use Rattle.laws_history.proofs.Counts.{fewer}
use Rattle.laws_history.proofs.Prefixes.{same_less}
use Rattle.laws_history.proofs.Carried.{chosen_could}

-- fewer entries of what is committed
pub committed_less : {X : Type 0} (f : ℕ) (h : History X) (v k j : ℕ) → j ≤ k → IsCommitted f h v k → IsCommitted f h v j
committed_less f h v k j l c = record {
  within = omega (arith, c.within);
  since = c.since;
  upto = c.upto;
  chosen = omega (
    arith,
    c.chosen,
    fewer (holds h c.since k) (holds h c.since j) (group_size f) (λ r b e.
        le-leb j (h.accepted r c.since) (let a : k ≤ h.accepted r c.since = leb-true _ _ e in omega arith)),
  );
  same = same_less j k (h.log v) (h.log c.since) l c.same;
}

pub committed_max : {X : Type 0} (f : ℕ) (h : History X) (v a b : ℕ) → IsCommitted f h v a → IsCommitted f h v b → IsCommitted f h v (max a b)
committed_max f h v a b ca cb = elim (cases_lt a b) [
  | inl l ↦ let e : max a b ≡ b = omega arith in subst (IsCommitted f h v) (sym e) cb
  | inr l ↦ let e : max a b ≡ a = omega arith in subst (IsCommitted f h v) (sym e) ca
]

pub committed_min : {X : Type 0} (f : ℕ) (h : History X) (v c n : ℕ) → IsCommitted f h v c → IsCommitted f h v (min c n)
committed_min f h v c n cc' = committed_less f h v c (min c n) (omega arith) cc'

-- what is committed in a view is committed in each later one that was started
pub committed_up : {X : Type 0} (f : ℕ) (h : History X) (v u k : ℕ) → IsSound f h → v ≤ u → h.started u ≡ true → IsCommitted f h v k → IsCommitted f h u k
committed_up f h v u k sound l b c = elim (cases_lt c.since u) [
  | inl lt ↦
      let i : IsCarried h c.since u k = sound.carried u c.since k b lt (chosen_could f h c.since k c.chosen) in
      record { within = omega (arith, i.first, sound.first_within u b); since = c.since; upto = omega arith; chosen = c.chosen; same = sym i.same }
  | inr ge ↦ let e : v ≡ u = omega (arith, c.upto) in subst (λ w. IsCommitted f h w k) e c
]

-- and is in its first log
pub committed_first : {X : Type 0} (f : ℕ) (h : History X) (v u k : ℕ) → IsSound f h → v < u → h.started u ≡ true → IsCommitted f h v k → k ≤ h.first u
committed_first f h v u k sound l b c =
    let i : IsCarried h c.since u k = sound.carried u c.since k b (omega (arith, c.upto)) (chosen_could f h c.since k c.chosen) in i.first

-- the same entries in both views
pub committed_same : {X : Type 0} (f : ℕ) (h : History X) (v u k : ℕ) → IsSound f h → v ≤ u → h.started u ≡ true → IsCommitted f h v k → take k (h.log v) ≡ take k (h.log u)
committed_same f h v u k sound l b c = elim (cases_lt c.since u) [
  | inl lt ↦
      let i : IsCarried h c.since u k = sound.carried u c.since k b lt (chosen_could f h c.since k c.chosen) in c.same ∙ i.same
  | inr ge ↦ let e : v ≡ u = omega (arith, c.upto) in ap (λ w. take k (h.log w)) e
]

-- nothing is always chosen, and committed
pub chosen_zero : {X : Type 0} (f : ℕ) (h : History X) (v : ℕ) → IsChosen f h v 0
chosen_zero f h v = omega (arith, everyone (group_size f))
  where
    everyone : (n : ℕ) → n ≤ how_many (holds h v 0) n
    everyone zero = omega arith
    everyone (suc n) = let e : holds h v 0 n ≡ true = le-leb 0 (h.accepted n v) (omega arith) in
        let k : cond {A = ℕ} (holds h v 0 n) 1 0 ≡ 1 = rw e refl in omega (arith, everyone n)

pub committed_zero : {X : Type 0} (f : ℕ) (h : History X) (v : ℕ) → IsCommitted f h v 0
committed_zero f h v = record { within = omega arith; since = v; upto = omega arith; chosen = chosen_zero f h v; same = refl }

-- i alone is in q and not in p
pub one_more : (p q : ℕ → Bool) (i n : ℕ) → i < n → p i ≡ false → q i ≡ true → ((r : ℕ) → r < n → p r ≡ true → q r ≡ true) → how_many p n + 1 ≤ how_many q n
one_more p q i zero l out here all = absurd (omega arith)
one_more p q i (suc n) l out here all = elim (cases_eq i n) [
  | inl e ↦
      let a : cond {A = ℕ} (p n) 1 0 ≡ 0 = ap (λ b. cond b 1 0) (ap p (sym e) ∙ out) in
      let b : cond {A = ℕ} (q n) 1 0 ≡ 1 = ap (λ b. cond b 1 0) (ap q (sym e) ∙ here) in
      omega (arith, fewer p q n (λ r k. all r (omega arith)))
  | inr ne ↦ omega (arith, one_more p q i n (omega arith) out here (λ r k. all r (omega arith)), at (p n) (q n) (all n (omega arith)))
]
  where
    at : (a b : Bool) → (a ≡ true → b ≡ true) → cond {A = ℕ} a 1 0 ≤ cond {A = ℕ} b 1 0
    at true b k = let e : b ≡ true = k refl in rw e (omega arith)
    at false b k = omega arith

pub leader_within : (f v : ℕ) → primary f v < group_size f
leader_within f v = mod_below v (group_size f) (omega arith)

-- what f others acknowledged, and the primary has, a quorum holds
pub reached_chosen : {X : Type 0} (f : ℕ) (h : History X) (v i n : ℕ) (acknowledged : ℕ → ℕ) → primary f v ≡ i → n ≤ h.accepted i v
    → ((s : ℕ) → acknowledged s ≤ h.accepted s v) → (IsChosen f h v (reached f i acknowledged n)) × (reached f i acknowledged n ≤ n)
reached_chosen {X} f h v i zero acknowledged leads mine theirs = (chosen_zero f h v, omega arith)
reached_chosen {X} f h v i (suc n) acknowledged leads mine theirs = go (leb f (how_many test (group_size f))) refl (reached_chosen f h v i n acknowledged leads (omega arith) theirs)
  where
    test : ℕ → Bool
    test s = not (eqb s i) && leb (suc n) (acknowledged s)

    itself : not (eqb i i) && leb (suc n) (acknowledged i) ≡ false
    itself = let e : eqb i i ≡ true = eq-eqb i i refl in rw e refl

    go : (b : Bool) → leb f (how_many test (group_size f)) ≡ b → (IsChosen f h v (reached f i acknowledged n)) × (reached f i acknowledged n ≤ n)
        → (IsChosen f h v (cond b (suc n) (reached f i acknowledged n))) × (cond b (suc n) (reached f i acknowledged n) ≤ suc n)
    go true e below = (
      omega (
        arith,
        leb-true f (how_many test (group_size f)) e,
        one_more test (holds h v (suc n)) i (group_size f) (subst (λ j. j < group_size f) leads (leader_within f v)) itself (le-leb (suc n) (h.accepted i v) mine) (λ s l t.
            let both : (not (eqb s i) ≡ true) × (leb (suc n) (acknowledged s) ≡ true) = and_parts (not (eqb s i)) (leb (suc n) (acknowledged s)) t in
            let k : suc n ≤ acknowledged s = leb-true (suc n) (acknowledged s) both.1 in
            le-leb (suc n) (h.accepted s v) (omega (arith, theirs s))),
      ),
      omega arith,
    )
    go false e below = (below.0, omega (arith, below.1))
