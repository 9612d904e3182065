-- What is read is spelled so, and what is spelled so is read: once for each way of putting readings together.
use Rattle.std.proofs.Common.{◌≡◌, ℕ, zero, suc, length, Bool, true, false, not, cond, List, [], ◌∷◌, ◌++◌, Option, Some, None, Result, Ok, Err, refl, sym, ap, subst, ◌∙◌, arith, append_assoc, ◌<◌, ◌+◌, ◌≤◌, ◌⊎◌, inl, inr}
use Rattle.std.specs.List.{flat_map}
use Rattle.std.proofs.lemmas.List.Concat.{flat_map-cons}
use Rattle.il_reader.specs.declared.fault.FaultAt.{FaultAt}
use Rattle.il_reader.specs.Tokens.{Token}
use Rattle.il_reader.specs.declared.contents.Operator.{Operator}
use Rattle.il_reader.specs.Front.{is_sign, first, others, fault_at, skip_breaks, no_token}
use Rattle.il_reader.specs.Reading.{◌>>=◌, many_within, many, Reading, both, pair, led, closed, mapped, choice, past, mark, stand, meant, meaning}
use Rattle.il_reader.specs.declared.lexeme.Sign.TheVariants as signs
use Rattle.il_reader.specs.Spelling.{Part, breaks, one, this, operator, ahead, Spell, going}

abbrev done : {A : Type 0} → A → Result A FaultAt
done x = Ok x

pub ok_is : {A : Type 0} (x y : A) → done x ≡ done y → x ≡ y
ok_is x y e = cc

-- the value of a step that did not fail
pub bind_ok : {A B : Type 0} (r : Result A FaultAt) (f : A → Result B FaultAt) (y : B) → (r >>= f) ≡ Ok y → (x : A) × (r ≡ Ok x) × (f x ≡ Ok y)
bind_ok (Ok x) f y e = (x, refl, e)
bind_ok (Err d) f y e = absurd cc

-- a test that did not fail
pub test_ok : {A : Type 0} (b : Bool) (d : FaultAt) (x y : A) → cond b (Ok x) (Err d) ≡ Ok y → (b ≡ true) × (x ≡ y)
test_ok true d x y e = (refl, cc)
test_ok false d x y e = absurd cc

pub no_front : (b : Bool) → not b ≡ true → b ≡ false
no_front true e = absurd cc
no_front false e = refl

-- parts after parts
pub Spell-append : (ps qs : List Part) (ts mid rest : List Token) → Spell ps ts mid → Spell qs mid rest → Spell (ps ++ qs) ts rest
Spell-append [] qs ts mid rest p q = rw p q
Spell-append (breaks ∷ ps) qs ts mid rest p q = Spell-append ps qs (skip_breaks ts) mid rest p q
Spell-append (ahead a ∷ ps) qs ts mid rest p q = (p.0, Spell-append ps qs ts mid rest p.1 q)
Spell-append (one a ∷ ps) qs [] mid rest p q = absurd p
Spell-append (one a ∷ ps) qs (t ∷ ts) mid rest p q = (p.0, Spell-append ps qs ts mid rest p.1 q)
Spell-append (this a x ∷ ps) qs [] mid rest p q = absurd p
Spell-append (this a x ∷ ps) qs (t ∷ ts) mid rest p q = (p.0, Spell-append ps qs ts mid rest p.1 q)
Spell-append (operator f x ∷ ps) qs [] mid rest p q = absurd p
Spell-append (operator f x ∷ ps) qs (t ∷ ts) mid rest p q = (p.0, Spell-append ps qs ts mid rest p.1 q)

pub Spell-split : (ps qs : List Part) (ts rest : List Token) → Spell (ps ++ qs) ts rest → (mid : List Token) × Spell ps ts mid × Spell qs mid rest
Spell-split [] qs ts rest h = (ts, refl, h)
Spell-split (breaks ∷ ps) qs ts rest h = Spell-split ps qs (skip_breaks ts) rest h
Spell-split (ahead a ∷ ps) qs ts rest h = let more = Spell-split ps qs ts rest h.1 in (more.0, (h.0, more.1), more.2)
Spell-split (one a ∷ ps) qs [] rest h = absurd h
Spell-split (one a ∷ ps) qs (t ∷ ts) rest h = let more = Spell-split ps qs ts rest h.1 in (more.0, (h.0, more.1), more.2)
Spell-split (this a x ∷ ps) qs [] rest h = absurd h
Spell-split (this a x ∷ ps) qs (t ∷ ts) rest h = let more = Spell-split ps qs ts rest h.1 in (more.0, (h.0, more.1), more.2)
Spell-split (operator f x ∷ ps) qs [] rest h = absurd h
Spell-split (operator f x ∷ ps) qs (t ∷ ts) rest h = let more = Spell-split ps qs ts rest h.1 in (more.0, (h.0, more.1), more.2)

-- the reading gives these things, spelled so, and reads them again
pub record Law {X : Type 0} (D : X → Type 0) (s : X → List Part) (r : Reading X) : Type 0 where
  pub takes : (ts : List Token) (x : X × List Token) → r ts ≡ Ok x → D x.0 × Spell (s x.0) ts x.1
  pub again : (x : X) (ts rest : List Token) → D x → Spell (s x) ts rest → r ts ≡ Ok (x, rest)

-- any of them
abbrev pub Any : {X : Type 0} → X → Type 0
Any x = Unit {0}

pub pair_law : {X Y : Type 0} (D : X → Type 0) (E : Y → Type 0) (s : X → List Part) (q : Y → List Part) (a : Reading X) (b : Reading Y)
    → Law D s a → Law E q b → Law (λ (x : X × Y). D x.0 × E x.1) (λ x. s x.0 ++ q x.1) (pair a b)
pair_law {X} {Y} D E s q a b la lb = record {
  takes = λ ts x e.
      let m = bind_ok (a ts) (λ y. b y.1 >>= λ z. Ok (both y.0 z.0, z.1)) x e in
      let n = bind_ok (b m.0.1) (λ z. Ok (both m.0.0 z.0, z.1)) x m.2 in
      let f = la.takes ts m.0 m.1 in
      let g = lb.takes m.0.1 n.0 n.1 in
      let made : (X × Y) × List Token = (both m.0.0 n.0.0, n.0.1) in
      let P : (X × Y) × List Token → Type 0 = λ y. (D y.0.0 × E y.0.1) × Spell (s y.0.0 ++ q y.0.1) ts y.1 in
      subst P (ok_is made x n.2) ((f.0, g.0), Spell-append (s m.0.0) (q n.0.0) ts m.0.1 n.0.1 f.1 g.1);
  again = λ x ts rest d h.
      let parts = Spell-split (s x.0) (q x.1) ts rest h in
      rw (la.again x.0 ts parts.0 d.0 parts.1, lb.again x.1 parts.0 rest d.1 parts.2) refl;
}

-- a mark says nothing, and so has one spelling
pub led_law : {X : Type 0} (D : X → Type 0) (q : List Part) (s : X → List Part) (m : Reading (Unit {0})) (a : Reading X)
    → Law Any (λ u. q) m → Law D s a → Law D (λ x. q ++ s x) (led m a)
led_law D q s m a lm la = record {
  takes = λ ts x e.
      let p = bind_ok (m ts) (λ u. a u.1) x e in
      let g = la.takes p.0.1 x p.2 in
      (g.0, Spell-append q (s x.0) ts p.0.1 x.1 (lm.takes ts p.0 p.1).1 g.1);
  again = λ x ts rest d h.
      let parts = Spell-split q (s x) ts rest h in
      rw (lm.again tt ts parts.0 tt parts.1) (la.again x parts.0 rest d parts.2);
}

pub closed_law : {X : Type 0} (D : X → Type 0) (s : X → List Part) (q : List Part) (a : Reading X) (m : Reading (Unit {0}))
    → Law D s a → Law Any (λ u. q) m → Law D (λ x. s x ++ q) (closed a m)
closed_law {X} D s q a m la lm = record {
  takes = λ ts x e.
      let p = bind_ok (a ts) (λ y. m y.1 >>= λ u. Ok (y.0, u.1)) x e in
      let n = bind_ok (m p.0.1) (λ u. Ok (p.0.0, u.1)) x p.2 in
      let f = la.takes ts p.0 p.1 in
      let g = lm.takes p.0.1 n.0 n.1 in
      let made : X × List Token = (p.0.0, n.0.1) in
      let P : X × List Token → Type 0 = λ y. D y.0 × Spell (s y.0 ++ q) ts y.1 in
      subst P (ok_is made x n.2) (f.0, Spell-append (s p.0.0) q ts p.0.1 n.0.1 f.1 g.1);
  again = λ x ts rest d h.
      let parts = Spell-split (s x) q ts rest h in
      rw (la.again x ts parts.0 d parts.1, lm.again tt parts.0 rest tt parts.2) refl;
}

pub mapped_law : {X Y : Type 0} (D : X → Type 0) (E : Y → Type 0) (s : X → List Part) (q : Y → List Part) (f : X → Y) (a : Reading X)
    → Law D s a → ((x : X) → q (f x) ≡ s x) → ((x : X) → D x → E (f x)) → ((y : Y) → E y → (x : X) × (f x ≡ y) × D x) → Law E q (mapped f a)
mapped_law {X} {Y} D E s q f a la same to from = record {
  takes = λ ts x e.
      let m = bind_ok (a ts) (λ y. Ok (f y.0, y.1)) x e in
      let g = la.takes ts m.0 m.1 in
      let made : Y × List Token = (f m.0.0, m.0.1) in
      let P : Y × List Token → Type 0 = λ y. E y.0 × Spell (q y.0) ts y.1 in
      subst P (ok_is made x m.2) (to m.0.0 g.0, subst (λ (ps : List Part). Spell ps ts m.0.1) (sym (same m.0.0)) g.1);
  again = λ y ts rest d h.
      let x = from y d in
      let k : q y ≡ s x.0 = ap q (sym x.1) ∙ same x.0 in
      let g = subst (λ (ps : List Part). Spell ps ts rest) k h in
      rw (la.again x.0 ts rest x.2 g) (ap (λ (z : Y). done (z, rest)) x.1);
}

pub choice_law : {X : Type 0} (D E : X → Type 0) (s : X → List Part) (p : List Token → Bool) (a b : Reading X)
    → Law D s a → Law E s b
    → ((x : X) (ts rest : List Token) → D x → Spell (s x) ts rest → p ts ≡ true)
    → ((x : X) (ts rest : List Token) → E x → Spell (s x) ts rest → p ts ≡ false)
    → Law (λ x. D x ⊎ E x) s (choice p a b)
choice_law {X} D E s p a b la lb begins begins_not = record {
  takes = λ ts x e. chosen ts x (p ts) e;
  again = λ x ts rest d h. elim d [
    | inl l ↦ rw (begins x ts rest l h) (la.again x ts rest l h)
    | inr r ↦ rw (begins_not x ts rest r h) (lb.again x ts rest r h)
  ];
}
  where
    chosen : (ts : List Token) (x : X × List Token) (c : Bool) → cond c (a ts) (b ts) ≡ Ok x → (D x.0 ⊎ E x.0) × Spell (s x.0) ts x.1
    chosen ts x true e = let g = la.takes ts x e in (inl g.0, g.1)
    chosen ts x false e = let g = lb.takes ts x e in (inr g.0, g.1)

-- by what stands next, the one, or else the other, which says that the first does not stand there
pub else_law : {X : Type 0} (D E : X → Type 0) (s q : X → List Part) (p : List Token → Bool) (a b : Reading X)
    → Law D s a → Law E q b
    → ((x : X) → E x → s x ≡ ahead (λ us. not (p us)) ∷ q x)
    → ((x : X) (ts rest : List Token) → D x → Spell (s x) ts rest → p ts ≡ true)
    → Law (λ x. D x ⊎ E x) s (choice p a b)
else_law {X} D E s q p a b la lb same begins = record {
  takes = λ ts x e. chosen ts x (p ts) refl e;
  again = λ x ts rest d h. elim d [
    | inl l ↦ rw (begins x ts rest l h) (la.again x ts rest l h)
    | inr r ↦
        let Q : List Part → Type 0 = λ ps. Spell ps ts rest in
        let g = subst Q (same x r) h in
        rw (no_front (p ts) g.0) (lb.again x ts rest r g.1)
  ];
}
  where
    chosen : (ts : List Token) (x : X × List Token) (c : Bool) → p ts ≡ c → cond c (a ts) (b ts) ≡ Ok x → (D x.0 ⊎ E x.0) × Spell (s x.0) ts x.1
    chosen ts x true is e = let g = la.takes ts x e in (inl g.0, g.1)
    chosen ts x false is e =
        let g = lb.takes ts x e in
        let Q : List Part → Type 0 = λ ps. Spell ps ts x.1 in
        let n : not (p ts) ≡ true = rw is refl in
        (inr g.0, subst Q (sym (same x.0 g.0)) (n, g.1))

-- the same of others that are the same
pub told_law : {X : Type 0} (D E : X → Type 0) (s : X → List Part) (a : Reading X) → Law D s a → ((x : X) → D x → E x) → ((x : X) → E x → D x) → Law E s a
told_law D E s a la to from = record {
  takes = λ ts x e. let g = la.takes ts x e in (to x.0 g.0, g.1);
  again = λ x ts rest d h. la.again x ts rest (from x d) h;
}

pub past_law : {X : Type 0} (D : X → Type 0) (s : X → List Part) (a : Reading X) → Law D s a → Law D (λ x. breaks ∷ s x) (past a)
past_law D s a la = record {
  takes = λ ts x e. la.takes (skip_breaks ts) x e;
  again = λ x ts rest d h. la.again x (skip_breaks ts) rest d h;
}

pub stand_law : {X : Type 0} (q : X → List Part) (p : List Token → Bool) (x : X) → q x ≡ ahead p ∷ [] → Law (λ (y : X). x ≡ y) q (stand p x)
stand_law {X} q p x same = record {
  takes = λ ts y e.
      let g = test_ok (p ts) _ (x, ts) y e in
      let P : X × List Token → Type 0 = λ z. (x ≡ z.0) × Spell (q z.0) ts z.1 in
      let Q : List Part → Type 0 = λ ps. Spell ps ts ts in
      subst P g.1 (refl, subst Q (sym same) (g.0, refl));
  again = λ y ts rest d h.
      let Q : List Part → Type 0 = λ ps. Spell ps ts rest in
      let g = subst Q (ap q (sym d) ∙ same) h in
      rw (g.0, d, g.1) refl;
}

-- a token that passes, and what is read of it
abbrev pub taken : {X : Type 0} → (Token → Bool) → (Token → X) → Reading X
taken p f ts = cond (p (first ts)) (Ok (f (first ts), others ts)) (Err (fault_at (first ts)))

pub token_law : (p : Token → Bool) → p no_token ≡ false → Law Any (λ t. this p t ∷ []) (taken p (λ t. t))
token_law p none = record { takes = takes; again = again }
  where
    takes : (ts : List Token) (x : Token × List Token) → taken p (λ t. t) ts ≡ Ok x → Unit {0} × Spell (this p x.0 ∷ []) ts x.1
    takes [] x e = let g = test_ok (p no_token) _ (no_token, []) x e in absurd cc
    takes (t ∷ ts) x e =
        let g = test_ok (p t) _ (t, ts) x e in
        (tt, ((g.0, ap (λ (z : Token × List Token). z.0) g.1), ap (λ (z : Token × List Token). z.1) g.1))

    again : (x : Token) (ts rest : List Token) → Unit {0} → Spell (this p x ∷ []) ts rest → taken p (λ t. t) ts ≡ Ok (x, rest)
    again x [] rest d h = absurd h
    again x (t ∷ ts) rest d h = rw (h.0.0, h.0.1, h.1) refl

pub one_law : (p : Token → Bool) → p no_token ≡ false → Law Any (λ (u : Unit {0}). one p ∷ []) (taken p (λ t. tt))
one_law p none = record { takes = takes; again = again }
  where
    takes : (ts : List Token) (x : Unit {0} × List Token) → taken p (λ t. tt) ts ≡ Ok x → Unit {0} × Spell (one p ∷ []) ts x.1
    takes [] x e = let g = test_ok (p no_token) _ (tt, []) x e in absurd cc
    takes (t ∷ ts) x e =
        let g = test_ok (p t) _ (tt, ts) x e in
        (tt, (g.0, ap (λ (z : Unit {0} × List Token). z.1) g.1))

    again : (x : Unit {0}) (ts rest : List Token) → Unit {0} → Spell (one p ∷ []) ts rest → taken p (λ t. tt) ts ≡ Ok (x, rest)
    again x [] rest d h = absurd h
    again x (t ∷ ts) rest d h = rw (h.0, h.1) refl

pub mark_law : (p : Token → Bool) → Law Any (λ x. this p x ∷ []) (taken p (λ t. t)) → Law Any (λ (u : Unit {0}). one p ∷ []) (mark (taken p (λ t. t)))
mark_law p la = record { takes = takes; again = again }
  where
    takes : (ts : List Token) (x : Unit {0} × List Token) → mark (taken p (λ t. t)) ts ≡ Ok x → Unit {0} × Spell (one p ∷ []) ts x.1
    takes [] x e =
        let m = bind_ok (taken p (λ t. t) []) (λ y. Ok (tt, y.1)) x e in
        absurd (la.takes [] m.0 m.1).1
    takes (t ∷ ts) x e =
        let m = bind_ok (taken p (λ t. t) (t ∷ ts)) (λ y. Ok (tt, y.1)) x e in
        let g = la.takes (t ∷ ts) m.0 m.1 in
        (tt, (g.1.0.0, g.1.1 ∙ ap (λ (z : Unit {0} × List Token). z.1) (ok_is (tt, m.0.1) x m.2)))

    again : (x : Unit {0}) (ts rest : List Token) → Unit {0} → Spell (one p ∷ []) ts rest → mark (taken p (λ t. t)) ts ≡ Ok (x, rest)
    again x [] rest d h = absurd h
    again x (t ∷ ts) rest d h = rw (h.0, h.1) refl

-- a token that means something
pub meaning_law : (f : Token → Option Operator) → f no_token ≡ None → Law Any (λ x. operator f x ∷ []) (meaning f)
meaning_law f none = record { takes = takes; again = again }
  where
    has : (o : Option Operator) (t : Token) (ts : List Token) (x : Operator × List Token) → meant o (t ∷ ts) ≡ Ok x → (o ≡ Some x.0) × (ts ≡ x.1)
    has None t ts x e = absurd cc
    has (Some y) t ts x e = (ap (λ (z : Operator × List Token). Some z.0) (ok_is (y, ts) x e), ap (λ (z : Operator × List Token). z.1) (ok_is (y, ts) x e))

    empty : (o : Option Operator) (x : Operator × List Token) → o ≡ None → meant o [] ≡ Ok x → ⊥
    empty None x n e = absurd cc
    empty (Some y) x n e = absurd cc

    takes : (ts : List Token) (x : Operator × List Token) → meaning f ts ≡ Ok x → Unit {0} × Spell (operator f x.0 ∷ []) ts x.1
    takes [] x e = absurd (empty (f no_token) x none e)
    takes (t ∷ ts) x e = (tt, has (f t) t ts x e)

    again : (x : Operator) (ts rest : List Token) → Unit {0} → Spell (operator f x ∷ []) ts rest → meaning f ts ≡ Ok (x, rest)
    again x [] rest d h = absurd h
    again x (t ∷ ts) rest d h = rw (h.0, h.1) refl

-- how many tokens the parts are
abbrev pub count : List Part → ℕ
count [] = 0
count (breaks ∷ ps) = count ps
count (ahead p ∷ ps) = count ps
count (one p ∷ ps) = suc (count ps)
count (this p x ∷ ps) = suc (count ps)
count (operator f x ∷ ps) = suc (count ps)

pub count-append : (ps qs : List Part) → count (ps ++ qs) ≡ count ps + count qs
count-append [] qs = omega arith
count-append (breaks ∷ ps) qs = count-append ps qs
count-append (ahead p ∷ ps) qs = count-append ps qs
count-append (one p ∷ ps) qs = omega (arith, count-append ps qs)
count-append (this p x ∷ ps) qs = omega (arith, count-append ps qs)
count-append (operator f x ∷ ps) qs = omega (arith, count-append ps qs)

skip-shrinks : (ts : List Token) → length (skip_breaks ts) ≤ length ts
unfolding skip_breaks
skip-shrinks [] = omega arith
skip-shrinks (t ∷ ts) = shorter (is_sign signs.Break t) (skip-shrinks ts)
  where
    shorter : (b : Bool) → length (skip_breaks ts) ≤ length ts → length (cond b (skip_breaks ts) (t ∷ ts)) ≤ length (t ∷ ts)
    shorter true h = omega arith
    shorter false h = omega arith

pub Spell-count : (ps : List Part) (ts rest : List Token) → Spell ps ts rest → count ps + length rest ≤ length ts
Spell-count [] ts rest h = omega (arith, ap length h)
Spell-count (breaks ∷ ps) ts rest h = omega (arith, Spell-count ps (skip_breaks ts) rest h, skip-shrinks ts)
Spell-count (ahead p ∷ ps) ts rest h = Spell-count ps ts rest h.1
Spell-count (one p ∷ ps) [] rest h = absurd h
Spell-count (one p ∷ ps) (t ∷ ts) rest h = omega (arith, Spell-count ps ts rest h.1)
Spell-count (this p x ∷ ps) [] rest h = absurd h
Spell-count (this p x ∷ ps) (t ∷ ts) rest h = omega (arith, Spell-count ps ts rest h.1)
Spell-count (operator f x ∷ ps) [] rest h = absurd h
Spell-count (operator f x ∷ ps) (t ∷ ts) rest h = omega (arith, Spell-count ps ts rest h.1)

-- a list of things that take a token each
pub count-length : {X : Type 0} (s : X → List Part) (qs : List Part) → ((x : X) → 0 < count (s x)) → (xs : List X) → length xs ≤ count (flat_map s xs ++ qs)
count-length s qs some [] = omega arith
count-length s qs some (x ∷ xs) =
    let e : count (flat_map s (x ∷ xs) ++ qs) ≡ count (s x) + count (flat_map s xs ++ qs) = rw (flat_map-cons, append_assoc) (count-append (s x) (flat_map s xs ++ qs)) in
    omega (arith, e, some x, count-length s qs some xs)

flat-step : {X : Type 0} (f : X → List Part) (x : X) (xs : List X) (qs : List Part) → flat_map f (x ∷ xs) ++ qs ≡ f x ++ (flat_map f xs ++ qs)
flat-step f x xs qs = rw (flat_map-cons, append_assoc) refl

-- a thing of a list is read where the list doesn't stop, takes a token, and is read again
record Turn {X : Type 0} (s : X → List Part) (stops : List Token → Bool) (item : Reading X) : Type 0 where
  takes : (ts : List Token) (x : X × List Token) → stops ts ≡ false → item ts ≡ Ok x → Spell (s x.0) ts x.1
  again : (x : X) (ts rest : List Token) → Spell (s x) ts rest → (stops ts ≡ false) × (item ts ≡ Ok (x, rest))
  some : (x : X) → 0 < count (s x)

turns_take : {X : Type 0} (s : X → List Part) (stops : List Token → Bool) (item : Reading X) → Turn s stops item
    → (n : ℕ) (ts : List Token) (x : List X × List Token) → many_within stops item n ts ≡ Ok x → Spell (flat_map s x.0 ++ ahead stops ∷ []) ts x.1
unfolding many_within
turns_take s stops item turn zero ts x e = absurd cc
turns_take {X} s stops item turn (suc n) ts x e = chosen (stops ts) refl e (turns_take s stops item turn n)
  where
    chosen : (b : Bool) → stops ts ≡ b → cond b (Ok ([], ts)) (item ts >>= λ y. many_within stops item n y.1 >>= λ ys. Ok (y.0 ∷ ys.0, ys.1)) ≡ Ok x
        → ((us : List Token) (y : List X × List Token) → many_within stops item n us ≡ Ok y → Spell (flat_map s y.0 ++ ahead stops ∷ []) us y.1)
        → Spell (flat_map s x.0 ++ ahead stops ∷ []) ts x.1
    chosen true is h more =
        let P : List X × List Token → Type 0 = λ y. Spell (flat_map s y.0 ++ ahead stops ∷ []) ts y.1 in
        subst P (ok_is ([], ts) x h) (is, refl)
    chosen false is h more =
        let a = bind_ok (item ts) (λ y. many_within stops item n y.1 >>= λ ys. Ok (y.0 ∷ ys.0, ys.1)) x h in
        let b = bind_ok (many_within stops item n a.0.1) (λ ys. Ok (a.0.0 ∷ ys.0, ys.1)) x a.2 in
        let made : List X × List Token = (a.0.0 ∷ b.0.0, b.0.1) in
        let P : List X × List Token → Type 0 = λ y. Spell (flat_map s y.0 ++ ahead stops ∷ []) ts y.1 in
        let head = turn.takes ts a.0 is a.1 in
        let tail = more a.0.1 b.0 b.1 in
        let whole : Spell (flat_map s (a.0.0 ∷ b.0.0) ++ ahead stops ∷ []) ts b.0.1 = subst (λ (ps : List Part). Spell ps ts b.0.1) (sym (flat-step s a.0.0 b.0.0 (ahead stops ∷ []))) (Spell-append (s a.0.0) (flat_map s b.0.0 ++ ahead stops ∷ []) ts a.0.1 b.0.1 head tail) in
        subst P (ok_is made x b.2) whole

turns_again : {X : Type 0} (s : X → List Part) (stops : List Token → Bool) (item : Reading X) → Turn s stops item
    → (n : ℕ) (xs : List X) (ts rest : List Token) → length xs < n → Spell (flat_map s xs ++ ahead stops ∷ []) ts rest → many_within stops item n ts ≡ Ok (xs, rest)
unfolding many_within
turns_again s stops item turn zero xs ts rest lt h = absurd (omega (arith, lt))
turns_again s stops item turn (suc n) [] ts rest lt h = rw (h.0, h.1) refl
turns_again s stops item turn (suc n) (x ∷ xs) ts rest lt h =
    let parts = Spell-split (s x) (flat_map s xs ++ ahead stops ∷ []) ts rest (subst (λ (ps : List Part). Spell ps ts rest) (flat-step s x xs (ahead stops ∷ [])) h) in
    let one = turn.again x ts parts.0 parts.1 in
    let less : length xs < n = omega (arith, lt) in
    rw (one.0, one.1, turns_again s stops item turn n xs parts.0 rest less parts.2) refl

-- as many as there are
list_law : {X : Type 0} (s : X → List Part) (stops : List Token → Bool) (item : Reading X) → Turn s stops item → Law Any (λ xs. flat_map s xs ++ ahead stops ∷ []) (many stops item)
unfolding many
list_law s stops item turn = record {
  takes = λ ts x e. (tt, turns_take s stops item turn (suc (length ts)) ts x e);
  again = λ xs ts rest d h.
      let few : length xs < suc (length ts) = omega (arith, count-length s (ahead stops ∷ []) turn.some xs, Spell-count (flat_map s xs ++ ahead stops ∷ []) ts rest h) in
      turns_again s stops item turn (suc (length ts)) xs ts rest few h;
}

-- where none of them can begin where the list stops
pub many_law : {X : Type 0} (s : X → List Part) (stops : List Token → Bool) (item : Reading X)
    → Law Any s item → ((x : X) → 0 < count (s x)) → ((x : X) (ts rest : List Token) → Spell (s x) ts rest → stops ts ≡ false)
    → Law Any (λ xs. flat_map s xs ++ ahead stops ∷ []) (many stops item)
many_law s stops item law some goes = list_law s stops item (record {
  takes = λ ts x is e. (law.takes ts x e).1;
  again = λ x ts rest h. (goes x ts rest h, law.again x ts rest tt h);
  some = some;
})

-- where it is said of each that the list doesn't stop
pub until_law : {X : Type 0} (s : X → List Part) (stops : List Token → Bool) (item : Reading X)
    → Law Any s item → ((x : X) → 0 < count (s x))
    → Law Any (λ xs. flat_map (going stops s) xs ++ ahead stops ∷ []) (many stops item)
until_law s stops item law some = list_law (going stops s) stops item (record {
  takes = λ ts x is e. (rw is refl, (law.takes ts x e).1);
  again = λ x ts rest h. (no_front (stops ts) h.0, law.again x ts rest tt h.1);
  some = some;
})

-- what takes a token leaves less
pub law_shrinks : {X : Type 0} (s : X → List Part) (item : Reading X) → Law Any s item → ((x : X) → 0 < count (s x)) → (ts : List Token) (x : X × List Token) → item ts ≡ Ok x → length x.1 < length ts
law_shrinks s item law some ts x e = omega (arith, Spell-count (s x.0) ts x.1 (law.takes ts x e).1, some x.0)
