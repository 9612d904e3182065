-- The positions of breakpoints and the flags at them.
use Rattle.std.proofs.Common.{◌≡◌, cond, ℕ, zero, suc, ◌+◌, ◌<◌, ◌≤◌, Bool, true, false, List, [], ◌∷◌, ◌++◌, length, replicate, drop, get_or, refl, sym, ap, subst, ◌∙◌, arith, append_assoc}
use Rattle.std.specs.Prelude.{nat_le, nat_lt, slice_set, filter}
use Rattle.std.specs.List.{AllByRecursion, range_with_len}
use Rattle.std.proofs.lemmas.Bool.{le-leb, leb-true, lt-ltb, ltb-true}
use Rattle.std.proofs.lemmas.List.{append-nil, length-replicate, length-set}
use Rattle.il_model.proofs.RowTypes.{and_yes}
use Rattle.ctl_model.specs.Scan.{is_break}
use Rattle.ctl_model.specs.Snapshots.{break_positions, fit_breaks}
use Rattle.ctl_model.proofs.Rising.{breaks_from, breaks_fit}
use Rattle.ctl_model.proofs.Fitting.{and_both}

-- ---- one flag after the other

-- the positions of the flags from n on
abbrev pub flagged : ℕ → List Bool → List ℕ
flagged n [] = []
flagged n (true ∷ bs) = n ∷ flagged (n + 1) bs
flagged n (false ∷ bs) = flagged (n + 1) bs

listed_by : (b c : Bool) (n : ℕ) (bs : List Bool) (ps : List ℕ) → c ≡ b → ps ≡ flagged (n + 1) bs → cond c (n ∷ ps) ps ≡ flagged n (b ∷ bs)
listed_by true true n bs ps e f = ap (λ xs. n ∷ xs) f
listed_by false false n bs ps e f = f
listed_by true false n bs ps e f = absurd cc
listed_by false true n bs ps e f = absurd cc

listed : (t : ℕ → Bool) (n : ℕ) (bs : List Bool) → ((k : ℕ) → t (n + k) ≡ is_break bs k) → filter t (range_with_len n (length bs)) ≡ flagged n bs
listed t n [] h = refl
listed t n (b ∷ bs) h =
    let here : n ≡ n + 0 = omega arith in
    listed_by b (t n) n bs _ (ap t here ∙ h 0) (listed t (n + 1) bs (λ k. let on : n + 1 + k ≡ n + suc k = omega arith in ap t on ∙ h (suc k)))

pub positions_flagged : (bs : List Bool) → break_positions bs ≡ flagged 0 bs
positions_flagged bs = listed (is_break bs) 0 bs (λ k. let e : 0 + k ≡ k = omega arith in ap (is_break bs) e)

-- ---- they fit

flagged_fit : (least n : ℕ) (bs : List Bool) (end : ℕ) → least ≤ n → n + length bs ≤ end → breaks_from least end (flagged n bs) ≡ true
flagged_fit least n [] end le small = refl
flagged_fit least n (true ∷ bs) end le small =
    and_both (nat_le least n) _ (le-leb least n le) (and_both (nat_lt n end) _ (lt-ltb n end (omega (arith, small))) (flagged_fit (suc n) (n + 1) bs end (omega arith) (omega (arith, small))))
flagged_fit least n (false ∷ bs) end le small = flagged_fit least (n + 1) bs end (omega (arith, le)) (omega (arith, small))

pub positions_fit : (bs : List Bool) (end : ℕ) → length bs ≡ end → fit_breaks end (break_positions bs) ≡ true
positions_fit bs end e = sym (breaks_fit end (break_positions bs)) ∙ ap (breaks_from 0 end) (positions_flagged bs) ∙ flagged_fit 0 0 bs end (omega arith) (omega (arith, e))

-- each is below the end
below_from : (least end : ℕ) (ps : List ℕ) (k d : ℕ) → breaks_from least end ps ≡ true → k < length ps → get_or ps k d < end
below_from least end [] k d h lt = absurd (omega (arith, lt))
below_from least end (p ∷ ps) zero d h lt = ltb-true p end (and_yes (nat_lt p end) _ (and_yes (nat_le least p) _ h).1).0
below_from least end (p ∷ ps) (suc k) d h lt = below_from (suc p) end ps k d (and_yes (nat_lt p end) _ (and_yes (nat_le least p) _ h).1).1 (omega (arith, lt))

pub each_below : (end : ℕ) (ps : List ℕ) (k d : ℕ) → fit_breaks end ps ≡ true → k < length ps → get_or ps k d < end
each_below end ps k d h lt = below_from 0 end ps k d (breaks_fit end ps ∙ h) lt

-- ---- no two lists of flags have the same

abbrev AreAbove : ℕ → List ℕ → Type 0
AreAbove n ps = AllByRecursion (λ (p : ℕ). n ≤ p) ps

flagged_above : (least n : ℕ) (bs : List Bool) → least ≤ n → AreAbove least (flagged n bs)
flagged_above least n [] le = tt
flagged_above least n (true ∷ bs) le = (le, flagged_above least (n + 1) bs (omega (arith, le)))
flagged_above least n (false ∷ bs) le = flagged_above least (n + 1) bs (omega (arith, le))

not_above : (n : ℕ) (bs : List Bool) (ps : List ℕ) → flagged (n + 1) bs ≡ n ∷ ps → ⊥
not_above n bs ps e = let a : AreAbove (n + 1) (n ∷ ps) = subst (AreAbove (n + 1)) e (flagged_above (n + 1) (n + 1) bs (omega arith)) in omega (arith, a.0)

tail_same : (n : ℕ) (ps qs : List ℕ) → n ∷ ps ≡ n ∷ qs → ps ≡ qs
tail_same n ps qs e = cc

flags_same : (n : ℕ) (bs cs : List Bool) → length bs ≡ length cs → flagged n bs ≡ flagged n cs → bs ≡ cs
flags_same n [] [] e f = refl
flags_same n [] (c ∷ cs) e f = absurd (omega (arith, e))
flags_same n (b ∷ bs) [] e f = absurd (omega (arith, e))
flags_same n (true ∷ bs) (true ∷ cs) e f = ap (λ xs. true ∷ xs) (flags_same (n + 1) bs cs (omega (arith, e)) (tail_same n _ _ f))
flags_same n (false ∷ bs) (false ∷ cs) e f = ap (λ xs. false ∷ xs) (flags_same (n + 1) bs cs (omega (arith, e)) f)
flags_same n (true ∷ bs) (false ∷ cs) e f = absurd (not_above n cs (flagged (n + 1) bs) (sym f))
flags_same n (false ∷ bs) (true ∷ cs) e f = absurd (not_above n bs (flagged (n + 1) cs) f)

pub breaks_same : (bs cs : List Bool) → length bs ≡ length cs → break_positions bs ≡ break_positions cs → bs ≡ cs
breaks_same bs cs e f = flags_same 0 bs cs e (sym (positions_flagged bs) ∙ f ∙ positions_flagged cs)

-- ---- set one after the other

-- the flags with those at these positions set
abbrev pub with_breaks : List Bool → List ℕ → List Bool
with_breaks bs [] = bs
with_breaks bs (p ∷ ps) = with_breaks (slice_set bs p true) ps

abbrev AreBelow : ℕ → List ℕ → Type 0
AreBelow n ps = AllByRecursion (λ (p : ℕ). p < n) ps

below_more : (m n : ℕ) (ps : List ℕ) → m ≤ n → AreBelow m ps → AreBelow n ps
below_more m n [] le h = tt
below_more m n (p ∷ ps) le h = (omega (arith, h.0, le), below_more m n ps le h.1)

below_push : (n p : ℕ) (ps : List ℕ) → AreBelow n ps → p < n → AreBelow n (ps ++ p ∷ [])
below_push n p [] h lt = (lt, tt)
below_push n p (q ∷ ps) h lt = (h.0, below_push n p ps h.1 lt)

none_below : (n m : ℕ) (bs : List Bool) → m ≤ n → AreBelow m (flagged n bs) → flagged n bs ≡ []
none_below n m [] le h = refl
none_below n m (true ∷ bs) le h = absurd (omega (arith, h.0, le))
none_below n m (false ∷ bs) le h = none_below (n + 1) m bs (omega (arith, le)) h

-- the last position is set
set_last : (n k p : ℕ) (bs : List Bool) → n + k ≡ p → k < length bs → AreBelow p (flagged n bs) → flagged n (slice_set bs k true) ≡ flagged n bs ++ p ∷ []
set_last n k p [] e lt h = absurd (omega (arith, lt))
set_last n zero p (true ∷ bs) e lt h = absurd (omega (arith, h.0, e))
set_last n zero p (false ∷ bs) e lt h =
    let none = none_below (n + 1) p bs (omega (arith, e)) h in
    let same : n ≡ p = omega (arith, e) in
    ap (λ (xs : List ℕ). n ∷ xs) none ∙ ap (λ (m : ℕ). m ∷ []) same ∙ sym (ap (λ (xs : List ℕ). xs ++ p ∷ []) none)
set_last n (suc k) p (true ∷ bs) e lt h = ap (λ (xs : List ℕ). n ∷ xs) (set_last (n + 1) k p bs (omega (arith, e)) (omega (arith, lt)) h.1)
set_last n (suc k) p (false ∷ bs) e lt h = set_last (n + 1) k p bs (omega (arith, e)) (omega (arith, lt)) h

set_all : (least : ℕ) (bs : List Bool) (ps : List ℕ) → AreBelow least (flagged 0 bs) → breaks_from least (length bs) ps ≡ true → flagged 0 (with_breaks bs ps) ≡ flagged 0 bs ++ ps
set_all least bs [] below h = sym (append-nil (flagged 0 bs))
set_all least bs (p ∷ ps) below h =
    let a = and_yes (nat_le least p) _ h in
    let b = and_yes (nat_lt p (length bs)) _ a.1 in
    let le : least ≤ p = leb-true least p a.0 in
    let one = set_last 0 p p bs (omega arith) (ltb-true p (length bs) b.0) (below_more least p (flagged 0 bs) le below) in
    let all = subst (AreBelow (suc p)) (sym one) (below_push (suc p) p (flagged 0 bs) (below_more least (suc p) (flagged 0 bs) (omega (arith, le)) below) (omega arith)) in
    set_all (suc p) (slice_set bs p true) ps all (ap (λ (n : ℕ). breaks_from (suc p) n ps) (length-set bs p true) ∙ b.1)
    ∙ ap (λ (xs : List ℕ). xs ++ ps) one ∙ append_assoc (flagged 0 bs) (p ∷ []) ps

none_flagged : (n m : ℕ) → flagged n (replicate m false) ≡ []
none_flagged n zero = refl
none_flagged n (suc m) = none_flagged (n + 1) m

-- flags that are set at positions that fit are at these positions
pub breaks_set : (n : ℕ) (bs : List Bool) (ps : List ℕ) → bs ≡ with_breaks (replicate n false) ps → fit_breaks n ps ≡ true → break_positions bs ≡ ps
breaks_set n bs ps e h =
    let none = none_flagged 0 n in
    positions_flagged bs ∙ ap (flagged 0) e
    ∙ set_all 0 (replicate n false) ps (subst (AreBelow 0) (sym none) tt) (ap (λ (m : ℕ). breaks_from 0 m ps) (length-replicate n false) ∙ breaks_fit n ps ∙ h)
    ∙ ap (λ (xs : List ℕ). xs ++ ps) none

drop_all : {A : Type 0} (xs : List A) (n : ℕ) → length xs ≤ n → drop n xs ≡ []
drop_all [] zero le = refl
drop_all [] (suc n) le = refl
drop_all (x ∷ xs) zero le = absurd (omega (arith, le))
drop_all (x ∷ xs) (suc n) le = drop_all xs n (omega (arith, le))

-- past the last flag all positions are listed
pub listed_all : (done : List ℕ) (bs : List Bool) (k : ℕ) → length bs ≤ k → done ++ flagged k (drop k bs) ≡ flagged 0 bs → done ≡ break_positions bs
listed_all done bs k le h = sym (append-nil done) ∙ sym (ap (λ (cs : List Bool). done ++ flagged k cs) (drop_all bs k le)) ∙ h ∙ sym (positions_flagged bs)

-- past the last position all flags are set
pub all_set : (bs cs : List Bool) (ps : List ℕ) (k : ℕ) → length ps ≤ k → with_breaks bs (drop k ps) ≡ cs → bs ≡ cs
all_set bs cs ps k le h = sym (ap (with_breaks bs) (drop_all ps k le)) ∙ h
