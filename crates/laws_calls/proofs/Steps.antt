-- Two systems of steps of which one follows the other.
use Rattle.std.proofs.Common.{◌≡◌, ℕ, zero, suc, ◌+◌, ◌<◌, ◌≤◌, refl, sym, ap, ◌∙◌, subst, arith, inl, inr}
use Rattle.std.specs.Prelude.{◌⊎◌}
use Rattle.laws_calls.specs.Machines.{RunEnd, Turn, Next, Ends, Stuck, ComesIn, Comes}

-- after so many steps a run stands there; after none it does the step that is done there
abbrev pub Gets : {C S : Type 0} → (C → S → Turn C S) → ℕ → C → S → C → S → Type 0
Gets step zero c s d t = step c s ≡ step d t
Gets {C} {S} step (suc n) c s d t = (e : C) × (u : S) × (step c s ≡ Next e u) × Gets step n e u d t

module _ {C S : Type 0} (step : C → S → Turn C S) where
  pub as_there : (n : ℕ) (c d : C) (s t : S) (end : RunEnd S) → step c s ≡ step d t → ComesIn step n d t end → ComesIn step n c s end
  as_there zero c d s t end e h = e ∙ h
  as_there (suc n) c d s t end e h = (h.0, h.1, e ∙ h.2, h.3)

  pub gets_comes : (n m : ℕ) (c d : C) (s t : S) (end : RunEnd S) → Gets step n c s d t → ComesIn step m d t end → Comes step c s end
  gets_comes zero m c d s t end e h = (m, as_there m c d s t end e h)
  gets_comes (suc n) m c d s t end g h = let r = gets_comes n m g.0 d g.1 t end g.3 h in (suc r.0, (g.0, g.1, g.2, r.1))

module _ {C S : Type 0} (step : C → S → Turn C S) where
  same_rest : (m : ℕ) (c e f : C) (s u v : S) (end : RunEnd S) → step c s ≡ Next e u → step c s ≡ Next f v → ComesIn step m f v end → ComesIn step m e u end
  same_rest m c e f s u v end a b h = let p : f ≡ e = cc in let q : v ≡ u = cc in subst (λ w. ComesIn step m e w end) q (subst (λ w. ComesIn step m w v end) p h)

  pub comes_gets : (n m : ℕ) (c d : C) (s t : S) (end : RunEnd S) → Gets step n c s d t → ComesIn step m c s end → (k : ℕ) × (k + n ≡ m) × ComesIn step k d t end
  comes_gets zero m c d s t end e h = (m, omega arith, as_there step m d c t s end (sym e) h)
  comes_gets (suc n) zero c d s t end g h = absurd (cc (g.2, h))
  comes_gets (suc n) (suc m) c d s t end g h =
      let r = comes_gets n m g.0 d g.1 t end g.3 (same_rest m c g.0 h.0 s g.1 h.1 end g.2 h.2 h.3) in
      (r.0, omega (arith, r.1), r.2)

  pub gets_gets : (n m : ℕ) (c d e : C) (s t u : S) → Gets step n c s d t → Gets step m d t e u → (k : ℕ) × (k ≡ n + m) × Gets step k c s e u
  gets_gets zero zero c d e s t u g h = (zero, omega arith, g ∙ h)
  gets_gets zero (suc m) c d e s t u g h = (suc m, omega arith, (h.0, h.1, g ∙ h.2, h.3))
  gets_gets (suc n) m c d e s t u g h = let r = gets_gets n m g.0 d e g.1 t u g.3 h in (suc r.0, omega (arith, r.1), (g.0, g.1, g.2, r.2))

-- ---- following

-- Where the one system's step comes to a turn, the other comes to the like: after some steps it matches what is left of
-- the one, after none only if that is less; or it ends so; or it is stuck.
abbrev pub Follows : {C D S : Type 0} → (D → S → Turn D S) → (C → D → Type 0) → (C → Type 0) → D → S → Turn C S → Type 0
Follows {C} {D} {S} step M L d s (Next c t) = (n : ℕ) × (e : D) × Gets step n d s e t × M c e × (n ≡ 0 → L c)
Follows {C} {D} {S} step M L d s (Ends r) = (n : ℕ) × (e : D) × (t : S) × Gets step n d s e t × (step e t ≡ Ends r)
Follows {C} {D} {S} step M L d s Stuck = (n : ℕ) × (e : D) × (t : S) × Gets step n d s e t × (step e t ≡ Stuck)

pub follows_after : {C D S : Type 0} (step : D → S → Turn D S) (M : C → D → Type 0) (L : C → Type 0) (n : ℕ) (d e : D) (s t : S) (turn : Turn C S) → Gets step n d s e t → Follows step M L e t turn → Follows step M L d s turn
follows_after step M L n d e s t (Next c u) g h =
    let r = gets_gets step n h.0 d e h.1 s t u g h.2 in
    (r.0, h.1, r.2, h.3, λ z. h.4 (omega (arith, r.1)))
follows_after step M L n d e s t (Ends x) g h = let r = gets_gets step n h.0 d e h.1 s t h.2 g h.3 in (r.0, h.1, h.2, r.2, h.4)
follows_after step M L n d e s t Stuck g h = let r = gets_gets step n h.0 d e h.1 s t h.2 g h.3 in (r.0, h.1, h.2, r.2, h.4)

-- lower, or as high and less
abbrev pub Less : {C : Type 0} → (C → ℕ) → (C → ℕ) → C → C → Type 0
Less high low c b = (high b < high c) ⊎ ((high b ≡ high c) × (low b < low c))

module _ {C D S : Type 0} (calls : C → S → Turn C S) (lines : D → S → Turn D S) (M : C → D → Type 0) (high low : C → ℕ)
    (follow : (c : C) (d : D) (s : S) → M c d → Follows lines M (Less high low c) d s (calls c s)) where
  pub forth : (n : ℕ) (c : C) (d : D) (s : S) (end : RunEnd S) → M c d → ComesIn calls n c s end → Comes lines d s end
  forth zero c d s end m h =
      let f = subst (λ turn. Follows lines M (Less high low c) d s turn) h (follow c d s m) in
      gets_comes lines f.0 zero d f.1 s f.2 end f.3 f.4
  forth (suc n) c d s end m h =
      let f = subst (λ turn. Follows lines M (Less high low c) d s turn) h.2 (follow c d s m) in
      let r = forth n h.0 f.1 h.1 end f.3 h.3 in
      gets_comes lines f.0 r.0 d f.1 s h.1 end f.2 r.1

  abbrev Claim : ℕ → C → Type 0
  Claim n c = (d : D) (s : S) (end : RunEnd S) → M c d → ComesIn lines n d s end → Comes calls c s end

  next_by : (n : ℕ) (c b : C) (t : S) (end : RunEnd S) (j k : ℕ) → k + j ≡ n → (j ≡ 0 → Less high low c b) → (k < n → Comes calls b t end) → (j ≡ 0 → Less high low c b → Comes calls b t end) → Comes calls b t end
  next_by n c b t end zero k sum less x y = y refl (less refl)
  next_by n c b t end (suc j) k sum less x y = x (omega arith)

  onward : (c b : C) (s t : S) (end : RunEnd S) → calls c s ≡ Next b t → Comes calls b t end → Comes calls c s end
  onward c b s t end e h = (suc h.0, (b, t, e, h.1))

  at_end : (k : ℕ) (e : D) (t : S) (end r : RunEnd S) → ComesIn lines k e t end → lines e t ≡ Ends r → r ≡ end
  at_end zero e t end r h is = cc
  at_end (suc k) e t end r h is = absurd (cc (h.2, is))

  no_end : (k : ℕ) (e : D) (t : S) (end : RunEnd S) → ComesIn lines k e t end → lines e t ≡ Stuck → ⊥
  no_end zero e t end h is = cc (h, is)
  no_end (suc k) e t end h is = cc (h.2, is)

  by_turn : (n : ℕ) (c : C) (d : D) (s : S) (end : RunEnd S) (turn : Turn C S) → calls c s ≡ turn
      → ((k : ℕ) → k < n → (b : C) → Claim k b) → ((b : C) → Less high low c b → Claim n b)
      → Follows lines M (Less high low c) d s turn → ComesIn lines n d s end → Comes calls c s end
  by_turn n c d s end (Next b t) is sooner lower f run =
      let r = comes_gets lines f.0 n d f.1 s t end f.2 run in
      onward c b s t end is (next_by n c b t end f.0 r.0 r.1 f.4 (λ (lt : r.0 < n). sooner r.0 lt b f.1 t end f.3 r.2) (λ (z : f.0 ≡ 0) (l : Less high low c b). lower b l f.1 t end f.3 (subst (λ k. ComesIn lines k f.1 t end) (omega (arith, r.1)) r.2)))
  by_turn n c d s end (Ends x) is sooner lower f run =
      let r = comes_gets lines f.0 n d f.1 s f.2 end f.3 run in
      (zero, is ∙ ap Ends (at_end r.0 f.1 f.2 end x r.2 f.4))
  by_turn n c d s end Stuck is sooner lower f run =
      let r = comes_gets lines f.0 n d f.1 s f.2 end f.3 run in
      absurd (no_end r.0 f.1 f.2 end r.2 f.4)

  one : (n : ℕ) (c : C) → ((k : ℕ) → k < n → (b : C) → Claim k b) → ((b : C) → Less high low c b → Claim n b) → Claim n c
  one n c sooner lower d s end m run = by_turn n c d s end (calls c s) refl sooner lower (follow c d s m) run

  lower_by : (n h l : ℕ) (c b : C) → high c ≤ h → low c < suc l → Less high low c b → (high b < h → Claim n b) → (high b ≤ h → low b < l → Claim n b) → Claim n b
  lower_by n h l c b le lt (inl x) hi lo = hi (omega arith)
  lower_by n h l c b le lt (inr x) hi lo = lo (omega (arith, x.0)) (omega (arith, x.1))

  inner : (n h l : ℕ) → ((k : ℕ) → k < n → (b : C) → Claim k b) → ((b : C) → high b < h → Claim n b) → (c : C) → high c ≤ h → low c < l → Claim n c
  inner n h zero sooner higher c le lt = absurd (omega arith)
  inner n h (suc l) sooner higher c le lt =
      one n c sooner (λ (b : C) (less : Less high low c b). lower_by n h l c b le lt less (higher b) (inner n h l sooner higher b))

  outer : (n h : ℕ) → ((k : ℕ) → k < n → (b : C) → Claim k b) → (c : C) → high c < h → Claim n c
  outer n zero sooner c lt = absurd (omega arith)
  outer n (suc h) sooner c lt = inner n h (suc (low c)) sooner (outer n h sooner) c (omega arith) (omega arith)

  below : (n k : ℕ) → k < n → (c : C) → Claim k c
  below zero k lt c = absurd (omega arith)
  below (suc n) k lt c = outer k (suc (high c)) (λ (j : ℕ) (less : j < k) (b : C). below n j (omega arith) b) c (omega arith)

  pub back : (n : ℕ) (c : C) (d : D) (s : S) (end : RunEnd S) → M c d → ComesIn lines n d s end → Comes calls c s end
  back n c d s end m run = below (suc n) n (omega arith) c d s end m run
