-- Names with dots: their parts, their bytes, and what stands before the last dot.
use Rattle.std.proofs.Common.{◌≡◌, ℕ, ◌+◌, ◌<◌, ◌≤◌, Bool, true, false, cond, eqb, leb, List, [], ◌∷◌, ◌++◌, length, Some, None, refl, sym, ap, ◌∙◌, arith, ◌&&◌, ◌||◌}
use Rattle.std.specs.Prelude.{nat_lt}
use Rattle.std.specs.List.{list_all, list_any}
use Rattle.std.proofs.lemmas.Bool.{leb-true, le-ltb, eqb-true, eq-eqb}
use Rattle.il_model.specs.Words.{is_first_byte, is_name_byte, begins_name, is_well_spelled, is_dot, has_dot, under, onto_first, name_parts, stands_under, before_last, split_last, is_part}
use Rattle.laws_listing.proofs.Fronts.{begins, both_true}

-- ---- tests

pub both_so : (a b : Bool) → a ≡ true → b ≡ true → (a && b) ≡ true
both_so true b e f = f
both_so false b e f = absurd cc

pub first_so : (a b : Bool) → a ≡ true → (a || b) ≡ true
first_so true b e = refl
first_so false b e = absurd cc

pub second_so : (a b : Bool) → b ≡ true → (a || b) ≡ true
second_so true b e = refl
second_so false b e = e

pub both_false : (a b : Bool) → (a || b) ≡ false → (a ≡ false) × (b ≡ false)
both_false true b e = absurd cc
both_false false b e = (refl, e)

pub first_else : (a b : Bool) → (a || b) ≡ true → b ≡ false → a ≡ true
first_else true b e f = refl
first_else false b e f = absurd cc

pub second_else : (a b : Bool) → (a || b) ≡ true → a ≡ false → b ≡ true
second_else true b e f = absurd cc
second_else false b e f = e

-- ---- one part

pub record PartSays (p : List ℕ) : Type 0 where
  pub first : begins_name p ≡ true
  pub bytes : list_all is_name_byte p ≡ true
  pub spelled : is_well_spelled p ≡ true
  pub short : length p ≤ 32

pub part_says : (p : List ℕ) → is_part p ≡ true → PartSays p
part_says p e =
    let a = both_true (begins_name p && list_all is_name_byte p && is_well_spelled p) (leb (length p) 32) e in
    let b = both_true (begins_name p && list_all is_name_byte p) (is_well_spelled p) a.0 in
    let c = both_true (begins_name p) (list_all is_name_byte p) b.0 in
    record { first = c.0; bytes = c.1; spelled = b.1; short = leb-true (length p) 32 a.1 }

-- a byte of a name is no dot
pub no_dot_byte : (b : ℕ) → is_name_byte b ≡ true → is_dot b ≡ false
no_dot_byte b is = by_test (is_dot b) refl
  where
    by_test : (t : Bool) → is_dot b ≡ t → t ≡ false
    by_test false e = refl
    by_test true e = let clash : true ≡ false = sym is ∙ ap is_name_byte (eqb-true b 46 e) in absurd cc

pub no_dots : (w : List ℕ) → list_all is_name_byte w ≡ true → has_dot w ≡ false
no_dots [] all = refl
no_dots (b ∷ bs) all =
    let h = both_true (is_name_byte b) (list_all is_name_byte bs) all in
    rw (no_dot_byte b h.0) (no_dots bs h.1)

-- a name without dots is its only part
pub dotless : (w : List ℕ) → has_dot w ≡ false → name_parts w ≡ w ∷ []
unfolding name_parts
dotless [] e = refl
dotless (b ∷ bs) e =
    let h = both_false (is_dot b) (has_dot bs) e in
    rw h.0 (ap (onto_first b) (dotless bs h.1))

-- ---- the parts of a name under another

parts_some : (w : List ℕ) → 0 < length (name_parts w)
unfolding name_parts
parts_some [] = omega arith
parts_some (b ∷ bs) = by_dot (is_dot b)
  where
    onto_some : (ps : List (List ℕ)) → 0 < length (onto_first b ps)
    onto_some [] = omega arith
    onto_some (p ∷ ps) = omega arith

    by_dot : (d : Bool) → 0 < length (cond d ([] ∷ name_parts bs) (onto_first b (name_parts bs)))
    by_dot true = omega arith
    by_dot false = onto_some (name_parts bs)

onto_append : (b : ℕ) (ps qs : List (List ℕ)) → 0 < length ps → onto_first b (ps ++ qs) ≡ onto_first b ps ++ qs
onto_append b [] qs some = absurd (omega (arith, some))
onto_append b (p ∷ ps) qs some = refl

pub under_parts : (front last : List ℕ) → has_dot last ≡ false → name_parts (under front last) ≡ name_parts front ++ last ∷ []
unfolding name_parts
under_parts [] last e = ap (λ (ps : List (List ℕ)). [] ∷ ps) (dotless last e)
under_parts (b ∷ bs) last e = by_dot (is_dot b) (under_parts bs last e)
  where
    by_dot : (d : Bool) → name_parts (under bs last) ≡ name_parts bs ++ last ∷ []
        → cond d ([] ∷ name_parts (under bs last)) (onto_first b (name_parts (under bs last))) ≡ cond d ([] ∷ name_parts bs) (onto_first b (name_parts bs)) ++ last ∷ []
    by_dot true h = ap (λ (ps : List (List ℕ)). [] ∷ ps) h
    by_dot false h = ap (onto_first b) h ∙ onto_append b (name_parts bs) (last ∷ []) (parts_some bs)

pub all_and_last : {X : Type 0} (p : X → Bool) (xs : List X) (x : X) → list_all p xs ≡ true → p x ≡ true → list_all p (xs ++ x ∷ []) ≡ true
all_and_last p [] x all is = both_so (p x) true is refl
all_and_last p (y ∷ ys) x all is =
    let h = both_true (p y) (list_all p ys) all in
    both_so (p y) (list_all p (ys ++ x ∷ [])) h.0 (all_and_last p ys x h.1 is)

pub dot_under : (front last : List ℕ) → has_dot (under front last) ≡ true
dot_under [] last = refl
dot_under (b ∷ bs) last = second_so (is_dot b) (has_dot (under bs last)) (dot_under bs last)

pub is_under : (front last : List ℕ) → stands_under front (under front last) ≡ true
unfolding stands_under
is_under [] last = refl
is_under (b ∷ bs) last = both_so (eqb b b) (stands_under bs (under bs last)) (eq-eqb b b refl) (is_under bs last)

no_split : (w : List ℕ) → has_dot w ≡ false → split_last w ≡ None
unfolding split_last
no_split [] e = refl
no_split (b ∷ bs) e =
    let h = both_false (is_dot b) (has_dot bs) e in
    rw (no_split bs h.1, h.0) refl

pub split_under : (front last : List ℕ) → has_dot last ≡ false → split_last (under front last) ≡ Some (front, last)
unfolding split_last
split_under [] last e = rw (no_split last e) refl
split_under (b ∷ bs) last e = ap (before_last b (under bs last)) (split_under bs last e)

-- ---- the bytes of a name: each dot stands before the first byte of a part

abbrev pub is_run : List ℕ → Bool
is_run [] = true
is_run (b ∷ bs) = (is_name_byte b || (is_dot b && begins is_first_byte bs)) && is_run bs

-- parts of which the first may have lost bytes in front
abbrev AreRest : List (List ℕ) → Type 0
AreRest [] = Unit {0}
AreRest (p ∷ ps) = (list_all is_name_byte p ≡ true) × (list_all is_part ps ≡ true)

whole_rest : (ps : List (List ℕ)) → list_all is_part ps ≡ true → AreRest ps
whole_rest [] e = tt
whole_rest (p ∷ ps) e = let h = both_true (is_part p) (list_all is_part ps) e in ((part_says p h.0).bytes, h.1)

onto_rest : (b : ℕ) (ps : List (List ℕ)) → AreRest (onto_first b ps) → (is_name_byte b ≡ true) × AreRest ps
onto_rest b [] r = ((both_true (is_name_byte b) true r.0).0, tt)
onto_rest b (p ∷ ps) r = let h = both_true (is_name_byte b) (list_all is_name_byte p) r.0 in (h.0, (h.1, r.1))

onto_begins : (b : ℕ) (ps : List (List ℕ)) → list_all is_part (onto_first b ps) ≡ true → is_first_byte b ≡ true
onto_begins b [] e = (part_says (b ∷ []) (both_true (is_part (b ∷ [])) true e).0).first
onto_begins b (p ∷ ps) e = (part_says (b ∷ p) (both_true (is_part (b ∷ p)) (list_all is_part ps) e).0).first

pub parts_begin : (w : List ℕ) → list_all is_part (name_parts w) ≡ true → begins is_first_byte w ≡ true
unfolding name_parts
parts_begin [] e = absurd cc
parts_begin (b ∷ bs) e = by_dot (is_dot b) e
  where
    by_dot : (d : Bool) → list_all is_part (cond d ([] ∷ name_parts bs) (onto_first b (name_parts bs))) ≡ true → is_first_byte b ≡ true
    by_dot true h = absurd cc
    by_dot false h = onto_begins b (name_parts bs) h

rest_run : (w : List ℕ) → AreRest (name_parts w) → is_run w ≡ true
unfolding name_parts
rest_run [] r = refl
rest_run (b ∷ bs) r = by_dot (is_dot b) refl r (rest_run bs)
  where
    by_dot : (d : Bool) → is_dot b ≡ d → AreRest (cond d ([] ∷ name_parts bs) (onto_first b (name_parts bs))) → (AreRest (name_parts bs) → is_run bs ≡ true) → is_run (b ∷ bs) ≡ true
    by_dot true f h again =
        both_so (is_name_byte b || (is_dot b && begins is_first_byte bs)) (is_run bs)
        (second_so (is_name_byte b) (is_dot b && begins is_first_byte bs) (both_so (is_dot b) (begins is_first_byte bs) f (parts_begin bs h.1)))
        (again (whole_rest (name_parts bs) h.1))
    by_dot false f h again =
        let o = onto_rest b (name_parts bs) h in
        both_so (is_name_byte b || (is_dot b && begins is_first_byte bs)) (is_run bs) (first_so (is_name_byte b) (is_dot b && begins is_first_byte bs) o.0) (again o.1)

pub parts_run : (w : List ℕ) → list_all is_part (name_parts w) ≡ true → is_run w ≡ true
parts_run w e = rest_run w (whole_rest (name_parts w) e)

-- a byte of a run is one of a part or a dot
pub run_byte : (b : ℕ) (bs : List ℕ) → (is_name_byte b || (is_dot b && begins is_first_byte bs)) ≡ true → (is_name_byte b || is_dot b) ≡ true
run_byte b bs e = by_test (is_name_byte b) e
  where
    by_test : (n : Bool) → (n || (is_dot b && begins is_first_byte bs)) ≡ true → (n || is_dot b) ≡ true
    by_test true h = refl
    by_test false h = (both_true (is_dot b) (begins is_first_byte bs) h).0

-- without dots all are bytes of a word
pub plain_run : (w : List ℕ) → is_run w ≡ true → has_dot w ≡ false → list_all is_name_byte w ≡ true
plain_run [] run plain = refl
plain_run (b ∷ bs) run plain =
    let h = both_true (is_name_byte b || (is_dot b && begins is_first_byte bs)) (is_run bs) run in
    let p = both_false (is_dot b) (has_dot bs) plain in
    both_so (is_name_byte b) (list_all is_name_byte bs) (first_else (is_name_byte b) (is_dot b) (run_byte b bs h.0) p.0) (plain_run bs h.1 p.1)

-- ---- parts are spelled well and short

pub well_spelled : (ps : List (List ℕ)) → list_all is_part ps ≡ true → list_all is_well_spelled ps ≡ true
well_spelled [] e = refl
well_spelled (p ∷ ps) e =
    let h = both_true (is_part p) (list_all is_part ps) e in
    both_so (is_well_spelled p) (list_all is_well_spelled ps) (part_says p h.0).spelled (well_spelled ps h.1)

pub none_long : (ps : List (List ℕ)) → list_all is_part ps ≡ true → list_any (λ part. nat_lt 32 (length part)) ps ≡ false
none_long [] e = refl
none_long (p ∷ ps) e =
    let h = both_true (is_part p) (list_all is_part ps) e in
    rw (le-ltb 32 (length p) (part_says p h.0).short) (none_long ps h.1)
