-- A fault stands at the first token such that nothing that is read begins so: once for each way of putting readings together.
use Rattle.std.proofs.Common.{◌≡◌, ℕ, zero, suc, length, Bool, true, false, not, cond, List, [], ◌∷◌, ◌++◌, Result, Ok, Err, refl, sym, ap, ◌∙◌, arith, ◌<◌, ◌≤◌}
use Rattle.std.specs.List.{AllByRecursion}
use Rattle.il_model.specs.declared.dialect.Dialect.{Dialect}
use Rattle.il_reader.specs.declared.fault.FaultAt.{FaultAt}
use Rattle.il_reader.specs.declared.lexeme.Sign.TheVariants as signs
use Rattle.il_reader.specs.Tokens.{Token, goes_on, tokens_of}
use Rattle.il_reader.specs.Front.{is_sign, first, fault_at, skip_breaks, no_token}
use Rattle.il_reader.specs.Reading.{◌>>=◌, many_within, many, Reading, both, pair, led, closed, mapped, mark, choice, stand}
use Rattle.il_reader.proofs.Laws.{taken}
use Rattle.il_reader.proofs.Written.{written, sign_goes, Written}

-- whether what is left is read
abbrev pub Check : Type 0
Check = List Token → Result (Unit {0}) FaultAt

abbrev pub good : Result (Unit {0}) FaultAt
good = Ok tt

abbrev pub bad : FaultAt → Result (Unit {0}) FaultAt
bad f = Err f

-- this was read, and these are left
abbrev pub leaving : {X : Type 0} → X → List Token → Result (X × List Token) FaultAt
leaving x ts = Ok (x, ts)

-- a reading, and a check of what it leaves
abbrev pub followed : {X : Type 0} → Reading X → Check → Check
followed r k ts = r ts >>= λ x. k x.1

-- more may follow it
abbrev pub GoesOn : Token → Type 0
GoesOn t = goes_on t.class ≡ true

-- The fault stands where no list that is read begins so, however it goes on, while a text can follow what is before.
pub record FirstAt (dialect : Dialect) (m : Check) (ts : List Token) (f : FaultAt) : Type 0 where
  pub before : List Token
  pub rest : List Token
  pub parts : before ++ rest ≡ ts
  pub fault : f ≡ fault_at (first rest)
  pub inner : AllByRecursion GoesOn before
  pub more : List ℕ
  pub completes : m (before ++ tokens_of dialect more) ≡ good
  pub never : (us : List Token) → m (before ++ first rest ∷ us) ≡ bad f

-- each fault in a list of fewer tokens stands so
abbrev pub Below : (dialect : Dialect) → ℕ → Check → Type 0
Below dialect n m = (ts : List Token) (f : FaultAt) → length ts < n → m ts ≡ bad f → FirstAt dialect m ts f

-- some text is read
abbrev pub ReadsSome : (dialect : Dialect) → Check → Type 0
ReadsSome dialect m = (text : List ℕ) × (m (tokens_of dialect text) ≡ good)

pub record Exact (dialect : Dialect) (n : ℕ) (m : Check) : Type 0 where
  pub placed : Below dialect n m
  pub some : ReadsSome dialect m

pub fault_is : (f g : FaultAt) → bad f ≡ bad g → f ≡ g
fault_is f g e = cc

-- a fault at the token that stands next
pub here : (dialect : Dialect) → (m : Check) (ts : List Token) (f : FaultAt) → bad (fault_at (first ts)) ≡ bad f → ReadsSome dialect m → ((us : List Token) → m (first ts ∷ us) ≡ bad (fault_at (first ts))) → FirstAt dialect m ts f
here dialect m ts f is some never = record {
  before = [];
  rest = ts;
  parts = refl;
  fault = sym (fault_is (fault_at (first ts)) f is);
  inner = tt;
  more = some.0;
  completes = some.1;
  never = λ us. never us ∙ is;
}

-- a fault behind a token that is taken
pub farther : (dialect : Dialect) → (m k : Check) (t : Token) (ts : List Token) (f : FaultAt) → GoesOn t → ((us : List Token) → m (t ∷ us) ≡ k us) → FirstAt dialect k ts f → FirstAt dialect m (t ∷ ts) f
farther dialect m k t ts f goes same h = record {
  before = t ∷ h.before;
  rest = h.rest;
  parts = ap (λ (us : List Token). t ∷ us) h.parts;
  fault = h.fault;
  inner = (goes, h.inner);
  more = h.more;
  completes = same (h.before ++ tokens_of dialect h.more) ∙ h.completes;
  never = λ us. same (h.before ++ first h.rest ∷ us) ∙ h.never us;
}

-- checks that are the same where this token stands next
pub same_first : (dialect : Dialect) → (m a : Check) (ts : List Token) (f : FaultAt) → ((us : List Token) → first us ≡ first ts → m us ≡ a us) → ReadsSome dialect m → FirstAt dialect a ts f → FirstAt dialect m ts f
same_first dialect m a ts f same some h = by_front h.before h.rest h.more h.parts h.fault h.inner h.completes h.never
  where
    by_front : (before rest : List Token) (more : List ℕ) → before ++ rest ≡ ts → f ≡ fault_at (first rest) → AllByRecursion GoesOn before → a (before ++ tokens_of dialect more) ≡ good → ((us : List Token) → a (before ++ first rest ∷ us) ≡ bad f) → FirstAt dialect m ts f
    by_front [] rest more parts fault inner completes never = record {
      before = [];
      rest = rest;
      parts = parts;
      fault = fault;
      inner = inner;
      more = some.0;
      completes = some.1;
      never = λ us. same (first rest ∷ us) (ap first parts) ∙ never us;
    }
    by_front (t ∷ before) rest more parts fault inner completes never = record {
      before = t ∷ before;
      rest = rest;
      parts = parts;
      fault = fault;
      inner = inner;
      more = more;
      completes = same (t ∷ before ++ tokens_of dialect more) (ap first parts) ∙ completes;
      never = λ us. same (t ∷ before ++ first rest ∷ us) (ap first parts) ∙ never us;
    }

-- checks that are the same
pub same_below : (dialect : Dialect) → (m a : Check) (n : ℕ) → ((ts : List Token) → m ts ≡ a ts) → Below dialect n a → Below dialect n m
same_below dialect m a n same b ts f lt h =
    let g = b ts f lt (sym (same ts) ∙ h) in
    record {
      before = g.before;
      rest = g.rest;
      parts = g.parts;
      fault = g.fault;
      inner = g.inner;
      more = g.more;
      completes = same (g.before ++ tokens_of dialect g.more) ∙ g.completes;
      never = λ us. same (g.before ++ first g.rest ∷ us) ∙ g.never us;
    }

pub same_exact : (dialect : Dialect) → (m a : Check) (n : ℕ) → ((ts : List Token) → m ts ≡ a ts) → Exact dialect n a → Exact dialect n m
same_exact dialect m a n same e = record { placed = same_below dialect m a n same e.placed; some = (e.some.0, same (tokens_of dialect e.some.0) ∙ e.some.1) }

pub fewer_below : (dialect : Dialect) → (m : Check) (n p : ℕ) → n ≤ p → Below dialect p m → Below dialect n m
fewer_below dialect m n p le b ts f lt h = b ts f (omega (arith, lt, le)) h

pub fewer : (dialect : Dialect) → (m : Check) (n : ℕ) → Exact dialect (suc n) m → Exact dialect n m
fewer dialect m n e = record { placed = fewer_below dialect m n (suc n) (omega arith) e.placed; some = e.some }

-- a token that passes
pub taken_exact : (dialect : Dialect) → {X : Type 0} (p : Token → Bool) (g : Token → X) → Written dialect p → p no_token ≡ false → (n : ℕ) (k : Check) → Exact dialect n k → Exact dialect (suc n) (followed (taken p g) k)
taken_exact dialect {X} p g w none n k e = record { placed = placed; some = some }
  where
    some : ReadsSome dialect (followed (taken p g) k)
    some = (written w.word e.some.0, rw (w.makes e.some.0, w.passes e.some.0) e.some.1)

    by_test : (u : Token) (us : List Token) (f : FaultAt) → length us < n → (b : Bool) → p u ≡ b → (cond b (leaving (g u) us) (Err (fault_at u)) >>= λ x. k x.1) ≡ bad f → FirstAt dialect (followed (taken p g) k) (u ∷ us) f
    by_test u us f lt true at h = farther dialect (followed (taken p g) k) k u us f (w.goes u at) (λ vs. rw at refl) (e.placed us f lt h)
    by_test u us f lt false at h = here dialect (followed (taken p g) k) (u ∷ us) f h some (λ vs. rw at refl)

    placed : Below dialect (suc n) (followed (taken p g) k)
    placed [] f lt h = here dialect (followed (taken p g) k) [] f (rw none at h) some (λ vs. rw none refl)
    placed (u ∷ us) f lt h = by_test u us f (omega (arith, lt)) (p u) refl h

-- by the token that stands next, the one or the other
abbrev pub chosen_by : (Token → Bool) → Check → Check → Check
chosen_by q a b ts = cond (q (first ts)) (a ts) (b ts)

pub choice_below : (dialect : Dialect) → (q : Token → Bool) (a b : Check) (n : ℕ) → Below dialect n a → Below dialect n b → ReadsSome dialect (chosen_by q a b) → Below dialect n (chosen_by q a b)
choice_below dialect q a b n on off some ts f lt h = by_test (q (first ts)) refl h
  where
    by_test : (c : Bool) → q (first ts) ≡ c → cond c (a ts) (b ts) ≡ bad f → FirstAt dialect (chosen_by q a b) ts f
    by_test true is h = same_first dialect (chosen_by q a b) a ts f (λ us e. rw (e, is) refl) some (on ts f lt h)
    by_test false is h = same_first dialect (chosen_by q a b) b ts f (λ us e. rw (e, is) refl) some (off ts f lt h)

pub choice_exact : (dialect : Dialect) → (q : Token → Bool) (a b : Check) (n : ℕ) → Below dialect n a → Below dialect n b → ReadsSome dialect (chosen_by q a b) → Exact dialect n (chosen_by q a b)
choice_exact dialect q a b n on off some = record { placed = choice_below dialect q a b n on off some; some = some }

-- nothing is taken, where such a token stands next
abbrev pub standing : (Token → Bool) → Check → Check
standing q k ts = cond (q (first ts)) (k ts) (bad (fault_at (first ts)))

pub standing_exact : (dialect : Dialect) → (q : Token → Bool) (k : Check) (n : ℕ) → Below dialect n k → ReadsSome dialect (standing q k) → Exact dialect n (standing q k)
standing_exact dialect q k n b some = record { placed = placed; some = some }
  where
    placed : Below dialect n (standing q k)
    placed ts f lt h = by_test (q (first ts)) refl h
      where
        by_test : (c : Bool) → q (first ts) ≡ c → cond c (k ts) (bad (fault_at (first ts))) ≡ bad f → FirstAt dialect (standing q k) ts f
        by_test true is h = same_first dialect (standing q k) k ts f (λ us e. rw (e, is) refl) some (b ts f lt h)
        by_test false is h = here dialect (standing q k) ts f h some (λ us. rw is refl)

-- behind any number of line ends
abbrev pub behind_breaks : Check → Check
behind_breaks m ts = m (skip_breaks ts)

pub no_break : (us : List Token) → is_sign signs.Break (first us) ≡ false → skip_breaks us ≡ us
unfolding skip_breaks
no_break [] e = refl
no_break (u ∷ us) e = rw e refl

pub skips_once : (us : List Token) → skip_breaks (skip_breaks us) ≡ skip_breaks us
unfolding skip_breaks
skips_once [] = refl
skips_once (u ∷ us) = by_test (is_sign signs.Break u) refl (skips_once us)
  where
    by_test : (b : Bool) → is_sign signs.Break u ≡ b → skip_breaks (skip_breaks us) ≡ skip_breaks us → skip_breaks (cond b (skip_breaks us) (u ∷ us)) ≡ cond b (skip_breaks us) (u ∷ us)
    by_test true is h = h
    by_test false is h = rw is refl

pub past_below : (dialect : Dialect) → (m : Check) (n : ℕ) → Below dialect n m → ReadsSome dialect (behind_breaks m) → Below dialect n (behind_breaks m)
unfolding skip_breaks
past_below dialect m n b some [] f lt h = same_first dialect (behind_breaks m) m [] f (λ us e. ap m (no_break us (ap (λ (t : Token). is_sign signs.Break t) e))) some (b [] f lt h)
past_below dialect m n b some (t ∷ ts) f lt h = by_test (is_sign signs.Break t) refl h (past_below dialect m n b some ts f (omega (arith, lt)))
  where
    by_test : (c : Bool) → is_sign signs.Break t ≡ c → m (cond c (skip_breaks ts) (t ∷ ts)) ≡ bad f
        → (m (skip_breaks ts) ≡ bad f → FirstAt dialect (behind_breaks m) ts f)
        → FirstAt dialect (behind_breaks m) (t ∷ ts) f
    by_test true is h more = farther dialect (behind_breaks m) (behind_breaks m) t ts f (sign_goes signs.Break t is) (λ us. rw is refl) (more h)
    by_test false is h more = same_first dialect (behind_breaks m) m (t ∷ ts) f (λ us e. ap m (no_break us (ap (λ (u : Token). is_sign signs.Break u) e ∙ is))) some (b (t ∷ ts) f lt h)

-- behind line ends, where something that is read begins with none
pub past_exact : (dialect : Dialect) → (m : Check) (n : ℕ) → Below dialect n m → (text : List ℕ) → is_sign signs.Break (first (tokens_of dialect text)) ≡ false → m (tokens_of dialect text) ≡ good → Exact dialect n (behind_breaks m)
past_exact dialect m n b text solid reads =
    let some : ReadsSome dialect (behind_breaks m) = (text, ap m (no_break (tokens_of dialect text) solid) ∙ reads) in
    record { placed = past_below dialect m n b some; some = some }

pub past_taken_exact : (dialect : Dialect) → {X : Type 0} (p : Token → Bool) (g : Token → X) → Written dialect p → p no_token ≡ false → (n : ℕ) (k : Check) → Exact dialect n k → Exact dialect (suc n) (behind_breaks (followed (taken p g) k))
past_taken_exact dialect p g w none n k e = past_exact dialect (followed (taken p g) k) (suc n) (taken_exact dialect p g w none n k e).placed (written w.word e.some.0) (rw (w.makes e.some.0) (w.solid e.some.0)) (rw (w.makes e.some.0, w.passes e.some.0) e.some.1)

-- one reading after the other

pub tail : {Y Z : Type 0} (r : Result (Y × List Token) FaultAt) (g : Y → Z) (k : Check) → ((r >>= λ y. leaving (g y.0) y.1) >>= (λ z. k z.1)) ≡ (r >>= λ y. k y.1)
tail (Ok y) g k = refl
tail (Err f) g k = refl

pub mapped_same : {X Y : Type 0} (g : X → Y) (a : Reading X) (k : Check) (ts : List Token) → followed (mapped g a) k ts ≡ followed a k ts
mapped_same g a k ts = tail (a ts) g k

pub mark_same : {X : Type 0} (a : Reading X) (k : Check) (ts : List Token) → followed (mark a) k ts ≡ followed a k ts
mark_same a k ts = tail (a ts) (λ x. tt) k

pair_tail : {X Y : Type 0} (r : Result (X × List Token) FaultAt) (b : Reading Y) (k : Check) → ((r >>= λ x. b x.1 >>= λ y. leaving (both x.0 y.0) y.1) >>= (λ z. k z.1)) ≡ (r >>= λ x. followed b k x.1)
pair_tail (Ok x) b k = tail (b x.1) (both x.0) k
pair_tail (Err f) b k = refl

pub pair_same : {X Y : Type 0} (a : Reading X) (b : Reading Y) (k : Check) (ts : List Token) → followed (pair a b) k ts ≡ followed a (followed b k) ts
pair_same a b k ts = pair_tail (a ts) b k

led_tail : {X : Type 0} (r : Result (Unit {0} × List Token) FaultAt) (a : Reading X) (k : Check) → ((r >>= λ u. a u.1) >>= (λ z. k z.1)) ≡ (r >>= λ u. followed a k u.1)
led_tail (Ok u) a k = refl
led_tail (Err f) a k = refl

pub led_same : {X : Type 0} (m : Reading (Unit {0})) (a : Reading X) (k : Check) (ts : List Token) → followed (led m a) k ts ≡ followed m (followed a k) ts
led_same m a k ts = led_tail (m ts) a k

closed_tail : {X : Type 0} (r : Result (X × List Token) FaultAt) (m : Reading (Unit {0})) (k : Check) → ((r >>= λ x. m x.1 >>= λ u. leaving x.0 u.1) >>= (λ z. k z.1)) ≡ (r >>= λ x. followed m k x.1)
closed_tail (Ok x) m k = tail (m x.1) (λ u. x.0) k
closed_tail (Err f) m k = refl

pub closed_same : {X : Type 0} (a : Reading X) (m : Reading (Unit {0})) (k : Check) (ts : List Token) → followed (closed a m) k ts ≡ followed a (followed m k) ts
closed_same a m k ts = closed_tail (a ts) m k

pub mapped_exact : (dialect : Dialect) → {X Y : Type 0} (g : X → Y) (a : Reading X) (n : ℕ) (k : Check) → Exact dialect n (followed a k) → Exact dialect n (followed (mapped g a) k)
mapped_exact dialect g a n k e = same_exact dialect (followed (mapped g a) k) (followed a k) n (mapped_same g a k) e

pub mark_exact : (dialect : Dialect) → {X : Type 0} (a : Reading X) (n : ℕ) (k : Check) → Exact dialect n (followed a k) → Exact dialect n (followed (mark a) k)
mark_exact dialect a n k e = same_exact dialect (followed (mark a) k) (followed a k) n (mark_same a k) e

pub pair_exact : (dialect : Dialect) → {X Y : Type 0} (a : Reading X) (b : Reading Y) (n : ℕ) (k : Check) → Exact dialect n (followed a (followed b k)) → Exact dialect n (followed (pair a b) k)
pair_exact dialect a b n k e = same_exact dialect (followed (pair a b) k) (followed a (followed b k)) n (pair_same a b k) e

pub led_exact : (dialect : Dialect) → {X : Type 0} (m : Reading (Unit {0})) (a : Reading X) (n : ℕ) (k : Check) → Exact dialect n (followed m (followed a k)) → Exact dialect n (followed (led m a) k)
led_exact dialect m a n k e = same_exact dialect (followed (led m a) k) (followed m (followed a k)) n (led_same m a k) e

pub closed_exact : (dialect : Dialect) → {X : Type 0} (a : Reading X) (m : Reading (Unit {0})) (n : ℕ) (k : Check) → Exact dialect n (followed a (followed m k)) → Exact dialect n (followed (closed a m) k)
closed_exact dialect a m n k e = same_exact dialect (followed (closed a m) k) (followed a (followed m k)) n (closed_same a m k) e

-- the one or the other, by what stands next

pub choice_same : {X : Type 0} (p : List Token → Bool) (a b : Reading X) (k : Check) (ts : List Token) → followed (choice p a b) k ts ≡ cond (p ts) (followed a k ts) (followed b k ts)
choice_same p a b k ts = by_test (p ts)
  where
    by_test : (c : Bool) → (cond c (a ts) (b ts) >>= (λ x. k x.1)) ≡ cond c (followed a k ts) (followed b k ts)
    by_test true = refl
    by_test false = refl

-- something, or nothing where it does not stand next
pub option_same : {X : Type 0} (p : List Token → Bool) (a : Reading X) (x : X) (k : Check) (ts : List Token) → followed (choice p a (stand (λ us. not (p us)) x)) k ts ≡ cond (p ts) (followed a k ts) (k ts)
option_same p a x k ts = by_test (p ts)
  where
    by_test : (c : Bool) → (cond c (a ts) (cond (not c) (leaving x ts) (Err (fault_at (first ts)))) >>= (λ y. k y.1)) ≡ cond c (followed a k ts) (k ts)
    by_test true = refl
    by_test false = refl

-- nothing where this stands next, or something
pub stop_same : {X : Type 0} (p : List Token → Bool) (x : X) (b : Reading X) (k : Check) (ts : List Token) → followed (choice p (stand p x) b) k ts ≡ cond (p ts) (k ts) (followed b k ts)
stop_same p x b k ts = by_test (p ts)
  where
    by_test : (c : Bool) → (cond c (cond c (leaving x ts) (Err (fault_at (first ts)))) (b ts) >>= (λ y. k y.1)) ≡ cond c (k ts) (followed b k ts)
    by_test true = refl
    by_test false = refl

pub stand_same : {X : Type 0} (p : List Token → Bool) (x : X) (k : Check) (ts : List Token) → followed (stand p x) k ts ≡ cond (p ts) (k ts) (bad (fault_at (first ts)))
stand_same p x k ts = by_test (p ts)
  where
    by_test : (c : Bool) → (cond c (leaving x ts) (Err (fault_at (first ts))) >>= (λ y. k y.1)) ≡ cond c (k ts) (bad (fault_at (first ts)))
    by_test true = refl
    by_test false = refl

abbrev pub next : (Token → Bool) → List Token → Bool
next q ts = q (first ts)

abbrev pub next_not : (Token → Bool) → List Token → Bool
next_not q ts = not (q (first ts))

pub either_exact : (dialect : Dialect) → {X : Type 0} (q : Token → Bool) (a b : Reading X) (n : ℕ) (k : Check) → Below dialect n (followed a k) → Below dialect n (followed b k)
    → (text : List ℕ) → cond (q (first (tokens_of dialect text))) (followed a k (tokens_of dialect text)) (followed b k (tokens_of dialect text)) ≡ good → Exact dialect n (followed (choice (next q) a b) k)
either_exact dialect q a b n k on off text reads = same_exact dialect (followed (choice (next q) a b) k) (chosen_by q (followed a k) (followed b k)) n (choice_same (next q) a b k)
    (choice_exact dialect q (followed a k) (followed b k) n on off (text, reads))

pub option_exact : (dialect : Dialect) → {X : Type 0} (q : Token → Bool) (a : Reading X) (x : X) (n : ℕ) (k : Check) → Below dialect n k → Below dialect n (followed a k)
    → (text : List ℕ) → cond (q (first (tokens_of dialect text))) (followed a k (tokens_of dialect text)) (k (tokens_of dialect text)) ≡ good → Exact dialect n (followed (choice (next q) a (stand (next_not q) x)) k)
option_exact dialect q a x n k off on text reads = same_exact dialect (followed (choice (next q) a (stand (next_not q) x)) k) (chosen_by q (followed a k) k) n (option_same (next q) a x k)
    (choice_exact dialect q (followed a k) k n on off (text, reads))

pub stop_exact : (dialect : Dialect) → {X : Type 0} (q : Token → Bool) (x : X) (b : Reading X) (n : ℕ) (k : Check) → Below dialect n k → Below dialect n (followed b k)
    → (text : List ℕ) → cond (q (first (tokens_of dialect text))) (k (tokens_of dialect text)) (followed b k (tokens_of dialect text)) ≡ good → Exact dialect n (followed (choice (next q) (stand (next q) x) b) k)
stop_exact dialect q x b n k on off text reads = same_exact dialect (followed (choice (next q) (stand (next q) x) b) k) (chosen_by q k (followed b k)) n (stop_same (next q) x b k)
    (choice_exact dialect q k (followed b k) n on off (text, reads))

pub stand_exact : (dialect : Dialect) → {X : Type 0} (q : Token → Bool) (x : X) (n : ℕ) (k : Check) → Below dialect n k
    → (text : List ℕ) → q (first (tokens_of dialect text)) ≡ true → k (tokens_of dialect text) ≡ good → Exact dialect n (followed (stand (next q) x) k)
stand_exact dialect q x n k b text is reads = same_exact dialect (followed (stand (next q) x) k) (standing q k) n (stand_same (next q) x k) (standing_exact dialect q k n b (text, rw is reads))

-- as many as there are

abbrev pub Shrinks : {X : Type 0} → Reading X → Type 0
Shrinks {X} item = (ts : List Token) (x : X × List Token) → item ts ≡ Ok x → length x.1 < length ts

enough : {X : Type 0} (stops : List Token → Bool) (item : Reading X) → Shrinks item → (n p : ℕ) (ts : List Token) → length ts < n → length ts < p → many_within stops item n ts ≡ many_within stops item p ts
unfolding many_within
enough stops item less zero p ts a b = absurd (omega (arith, a))
enough stops item less (suc n) zero ts a b = absurd (omega (arith, b))
enough {X} stops item less (suc n) (suc p) ts a b = by_item (item ts) refl (enough stops item less n p)
  where
    by_item : (r : Result (X × List Token) FaultAt) → item ts ≡ r
        → ((us : List Token) → length us < n → length us < p → many_within stops item n us ≡ many_within stops item p us)
        → cond (stops ts) (leaving [] ts) (r >>= λ x. many_within stops item n x.1 >>= λ xs. leaving (x.0 ∷ xs.0) xs.1) ≡ cond (stops ts) (leaving [] ts) (r >>= λ x. many_within stops item p x.1 >>= λ xs. leaving (x.0 ∷ xs.0) xs.1)
    by_item (Ok x) is more =
        let l = less ts x is in
        rw (more x.1 (omega (arith, l, a)) (omega (arith, l, b))) refl
    by_item (Err f) is more = refl

-- it stops, or there is one and then as many as there are
pub unrolls : {X : Type 0} (stops : List Token → Bool) (item : Reading X) → Shrinks item → (k : Check) (ts : List Token)
    → followed (many stops item) k ts ≡ cond (stops ts) (k ts) (followed item (followed (many stops item) k) ts)
unfolding many many_within
unrolls {X} stops item less k ts = by_test (stops ts) (item ts) refl
  where
    by_test : (c : Bool) (r : Result (X × List Token) FaultAt) → item ts ≡ r
        → (cond c (leaving [] ts) (r >>= λ x. many_within stops item (length ts) x.1 >>= λ xs. leaving (x.0 ∷ xs.0) xs.1) >>= (λ z. k z.1)) ≡ cond c (k ts) (r >>= λ x. followed (many stops item) k x.1)
    by_test true r is = refl
    by_test false (Err f) is = refl
    by_test false (Ok x) is =
        tail (many_within stops item (length ts) x.1) (λ (xs : List X). x.0 ∷ xs) k
        ∙ ap (λ (z : Result (List X × List Token) FaultAt). z >>= λ y. k y.1) (enough stops item less (length ts) (suc (length x.1)) x.1 (less ts x is) (omega arith))

-- a check that line ends before it do not change
abbrev pub Blind : Check → Type 0
Blind k = (ts : List Token) → k ts ≡ k (skip_breaks ts)

-- a list of things that begin behind line ends, and stop at a token behind line ends
pub record Listed {X : Type 0} (q : Token → Bool) (stops : List Token → Bool) (solid item : Reading X) : Type 0 where
  pub stop : (ts : List Token) → stops ts ≡ q (first (skip_breaks ts))
  pub past : (ts : List Token) → item ts ≡ solid (skip_breaks ts)
  pub less : Shrinks item

-- what is checked of such a list behind line ends
abbrev pub turn : {X : Type 0} → (Token → Bool) → Reading X → Check → Check → Check
turn q solid k more = chosen_by q k (followed solid more)

pub list_same : {X : Type 0} (q : Token → Bool) (stops : List Token → Bool) (solid item : Reading X) (k : Check) → Listed q stops solid item → Blind k
    → (ts : List Token) → followed (many stops item) k ts ≡ turn q solid k (followed (many stops item) k) (skip_breaks ts)
list_same q stops solid item k l blind ts = unrolls stops item l.less k ts ∙ rw (l.stop ts, l.past ts, blind ts) refl

pub list_blind : {X : Type 0} (q : Token → Bool) (stops : List Token → Bool) (solid item : Reading X) (k : Check) → Listed q stops solid item → Blind k → Blind (followed (many stops item) k)
list_blind q stops solid item k l blind ts = list_same q stops solid item k l blind ts ∙ sym (list_same q stops solid item k l blind (skip_breaks ts) ∙ ap (turn q solid k (followed (many stops item) k)) (skips_once ts))

-- what the rest reads where the list stops
pub record Stopped (dialect : Dialect) (q : Token → Bool) (k : Check) : Type 0 where
  pub text : List ℕ
  pub stop : q (first (tokens_of dialect text)) ≡ true
  pub solid : is_sign signs.Break (first (tokens_of dialect text)) ≡ false
  pub reads : k (tokens_of dialect text) ≡ good

pub list_some : (dialect : Dialect) → {X : Type 0} (q : Token → Bool) (stops : List Token → Bool) (solid item : Reading X) (k : Check) → Listed q stops solid item → Blind k → (s : Stopped dialect q k) → followed (many stops item) k (tokens_of dialect s.text) ≡ good
list_some dialect q stops solid item k l blind s = list_same q stops solid item k l blind (tokens_of dialect s.text) ∙ rw (no_break (tokens_of dialect s.text) s.solid, s.stop) s.reads

pub list_exact : (dialect : Dialect) → {X : Type 0} (q : Token → Bool) (stops : List Token → Bool) (solid item : Reading X) (n : ℕ) (k : Check)
    → Listed q stops solid item → Blind k → Stopped dialect q k → Below dialect n k
    → ((p : ℕ) → Exact dialect p (followed (many stops item) k) → Below dialect (suc p) (followed solid (followed (many stops item) k)))
    → Exact dialect n (followed (many stops item) k)
list_exact dialect {X} q stops solid item n k l blind s b step = record { placed = climb n (omega arith); some = some }
  where
    some : ReadsSome dialect (followed (many stops item) k)
    some = (s.text, list_some dialect q stops solid item k l blind s)

    climb : (p : ℕ) → p ≤ n → Below dialect p (followed (many stops item) k)
    climb zero le = λ ts f lt h. absurd (omega (arith, lt))
    climb (suc p) le =
        let m = followed (many stops item) k in
        let body = turn q solid k m in
        let here : ReadsSome dialect body = (s.text, rw s.stop s.reads) in
        let below = choice_below dialect q k (followed solid m) (suc p) (fewer_below dialect k (suc p) n le b) (step p (record { placed = climb p (omega (arith, le)); some = some })) here in
        let behind : ReadsSome dialect (behind_breaks body) = (s.text, rw (no_break (tokens_of dialect s.text) s.solid) here.1) in
        same_below dialect m (behind_breaks body) (suc p) (list_same q stops solid item k l blind) (past_below dialect body (suc p) below behind)
