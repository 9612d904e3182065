-- The place behind one byte more, and how far on a place is at most.
use Rattle.std.proofs.Common.{◌≡◌, ℕ, zero, suc, ◌+◌, ◌<◌, ◌≤◌, ◌⊎◌, inl, inr, Bool, true, false, cond, eqb, List, [], ◌∷◌, ◌++◌, length, take, refl, sym, ap, ◌∙◌, arith}
use Rattle.std.specs.Prelude.{count_by}
use Rattle.std.proofs.lemmas.List.Sums.{count_by-le-length, sum_by-cons, sum_by-append, sum_by_push}
use Rattle.std.proofs.lemmas.Bool.{cases_lt}
use Rattle.il_reader.specs.declared.place.Place.{Place}
use Rattle.il_reader.specs.Texts.{column_behind, place_behind}

-- a line end
abbrev is_break : ℕ → Bool
is_break b = eqb b 10

abbrev breaks_in : List ℕ → ℕ
breaks_in xs = count_by is_break xs

column_more : (c : ℕ) (xs : List ℕ) (b : ℕ) → column_behind c (xs ++ b ∷ []) ≡ cond (is_break b) 1 (column_behind c xs + 1)
unfolding column_behind
column_more c [] b = refl
column_more c (x ∷ xs) b = by_test (is_break x) (column_more 1 xs b) (column_more (c + 1) xs b)
  where
    by_test : (t : Bool) → column_behind 1 (xs ++ b ∷ []) ≡ cond (is_break b) 1 (column_behind 1 xs + 1) → column_behind (c + 1) (xs ++ b ∷ []) ≡ cond (is_break b) 1 (column_behind (c + 1) xs + 1)
        → cond t (column_behind 1 (xs ++ b ∷ [])) (column_behind (c + 1) (xs ++ b ∷ [])) ≡ cond (is_break b) 1 (cond t (column_behind 1 xs) (column_behind (c + 1) xs) + 1)
    by_test true p q = p
    by_test false p q = q

column_small : (c : ℕ) (xs : List ℕ) → 1 ≤ c → column_behind c xs ≤ c + length xs
unfolding column_behind
column_small c [] low = omega arith
column_small c (x ∷ xs) low = by_test (is_break x) (column_small 1 xs (omega arith)) (column_small (c + 1) xs (omega arith))
  where
    by_test : (t : Bool) → column_behind 1 xs ≤ 1 + length xs → column_behind (c + 1) xs ≤ (c + 1) + length xs → cond t (column_behind 1 xs) (column_behind (c + 1) xs) ≤ c + length (x ∷ xs)
    by_test true p q = omega (arith, p, low)
    by_test false p q = omega (arith, q)

breaks_more : (xs : List ℕ) (b : ℕ) → breaks_in (xs ++ b ∷ []) ≡ breaks_in xs + cond (is_break b) 1 0
breaks_more xs b = sum_by_push (λ x. cond (is_break x) 1 0) xs b

and_none : (a b c : ℕ) → a ≡ b + c → c ≡ 0 → a ≡ b
and_none a b c sum none = omega (arith, sum, none)

-- behind a line end begins the next line
pub behind_break : (before : List ℕ) (b : ℕ) (here : Place) → here ≡ place_behind before → is_break b ≡ true → record { line = here.line + 1; column = 1 } ≡ place_behind (before ++ b ∷ [])
behind_break before b here is test =
    let line : breaks_in (before ++ b ∷ []) ≡ breaks_in before + 1 = breaks_more before b ∙ rw test refl in
    let column : column_behind 1 (before ++ b ∷ []) ≡ 1 = column_more 1 before b ∙ rw test refl in
    let count : (1 + breaks_in before) + 1 ≡ 1 + (breaks_in before + 1) = omega arith in
    rw (is, line, column, count) refl

pub behind_other : (before : List ℕ) (b : ℕ) (here : Place) → here ≡ place_behind before → is_break b ≡ false → record { line = here.line; column = here.column + 1 } ≡ place_behind (before ++ b ∷ [])
behind_other before b here is test =
    let one : cond (is_break b) 1 0 ≡ 0 = rw test refl in
    let line : breaks_in (before ++ b ∷ []) ≡ breaks_in before = and_none _ _ _ (breaks_more before b) one in
    let column : column_behind 1 (before ++ b ∷ []) ≡ column_behind 1 before + 1 = column_more 1 before b ∙ rw test refl in
    rw (is, line, column) refl

pub line_small : (before : List ℕ) → (place_behind before).line ≤ 1 + length before
line_small before = omega (arith, count_by-le-length is_break before)

pub column_small_behind : (before : List ℕ) → (place_behind before).column ≤ 1 + length before
column_small_behind before = column_small 1 before (omega arith)

-- ---- a place of a text is that behind so many of its bytes, and of no more or fewer

column_append : (c : ℕ) (xs ys : List ℕ) → column_behind c (xs ++ ys) ≡ column_behind (column_behind c xs) ys
unfolding column_behind
column_append c [] ys = refl
column_append c (x ∷ xs) ys = by_test (is_break x) (column_append 1 xs ys) (column_append (c + 1) xs ys)
  where
    by_test : (t : Bool) → column_behind 1 (xs ++ ys) ≡ column_behind (column_behind 1 xs) ys → column_behind (c + 1) (xs ++ ys) ≡ column_behind (column_behind (c + 1) xs) ys
        → cond t (column_behind 1 (xs ++ ys)) (column_behind (c + 1) (xs ++ ys)) ≡ column_behind (cond t (column_behind 1 xs) (column_behind (c + 1) xs)) ys
    by_test true p q = p
    by_test false p q = q

breaks_append : (xs ys : List ℕ) → breaks_in (xs ++ ys) ≡ breaks_in xs + breaks_in ys
breaks_append xs ys = sum_by-append (λ x. cond (is_break x) 1 0) xs ys

-- without a line end the column goes on
column_long : (c : ℕ) (xs : List ℕ) → breaks_in xs ≡ 0 → column_behind c xs ≡ c + length xs
unfolding column_behind
column_long c [] none = omega arith
column_long c (x ∷ xs) none = by_test (is_break x) (sym (sum_by-cons (λ y. cond (is_break y) 1 0) x xs) ∙ none) (column_long (c + 1) xs)
  where
    by_test : (t : Bool) → cond t 1 0 + breaks_in xs ≡ 0 → (breaks_in xs ≡ 0 → column_behind (c + 1) xs ≡ (c + 1) + length xs) → cond t (column_behind 1 xs) (column_behind (c + 1) xs) ≡ c + length (x ∷ xs)
    by_test true sum more = absurd (omega (arith, sum))
    by_test false sum more = let none_left : breaks_in xs ≡ 0 = omega (arith, sum) in omega (arith, more none_left)

grows : (xs ys : List ℕ) (y : ℕ) → place_behind (xs ++ y ∷ ys) ≡ place_behind xs → ⊥
grows xs ys y same =
    let line : 1 + breaks_in (xs ++ y ∷ ys) ≡ 1 + breaks_in xs = ap (λ (p : Place). p.line) same in
    let none : breaks_in (y ∷ ys) ≡ 0 = omega (arith, line, breaks_append xs (y ∷ ys)) in
    let column : column_behind (column_behind 1 xs) (y ∷ ys) ≡ column_behind 1 xs = sym (column_append 1 xs (y ∷ ys)) ∙ ap (λ (p : Place). p.column) same in
    let long : column_behind (column_behind 1 xs) (y ∷ ys) ≡ column_behind 1 xs + length (y ∷ ys) = column_long (column_behind 1 xs) (y ∷ ys) none in
    absurd (omega (arith, column, long))

-- more bytes of a text are fewer, and some behind
farther : (t : List ℕ) (m n : ℕ) → m < n → n ≤ length t → (y : ℕ) × (ys : List ℕ) × (take n t ≡ take m t ++ y ∷ ys)
farther [] m n lt le = absurd (omega (arith, lt, le))
farther (b ∷ t) zero zero lt le = absurd (omega (arith, lt))
farther (b ∷ t) zero (suc n) lt le = (b, take n t, refl)
farther (b ∷ t) (suc m) zero lt le = absurd (omega (arith, lt))
farther (b ∷ t) (suc m) (suc n) lt le = let h = farther t m n (omega (arith, lt)) (omega (arith, le)) in (h.0, h.1, ap (λ (xs : List ℕ). b ∷ xs) h.2)

not_before : (t : List ℕ) (m n : ℕ) → m < n → n ≤ length t → place_behind (take n t) ≡ place_behind (take m t) → ⊥
not_before t m n lt le same =
    let h = farther t m n lt le in
    grows (take m t) h.1 h.0 (ap place_behind (sym h.2) ∙ same)

pub one_place : (t : List ℕ) (m n : ℕ) → m ≤ length t → n ≤ length t → place_behind (take m t) ≡ place_behind (take n t) → m ≡ n
one_place t m n lm ln same = by_order (cases_lt m n)
  where
    by_order : (m < n) ⊎ (n ≤ m) → m ≡ n
    by_order (inl lt) = absurd (not_before t m n lt ln (sym same))
    by_order (inr le) = by_last (cases_lt n m)
      where
        by_last : (n < m) ⊎ (m ≤ n) → m ≡ n
        by_last (inl lt) = absurd (not_before t n m lt lm same)
        by_last (inr ge) = omega (arith, le, ge)
