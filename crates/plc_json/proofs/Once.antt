-- Numbers that are given once, and the cells that they mark.
use Rattle.std.proofs.Common.{◌≡◌, ◌<◌, ◌⊎◌, inl, inr, ℕ, zero, suc, ℤ, pos, Bool, true, false, not, ◌&&◌, ◌||◌, List, [], ◌∷◌, ◌++◌, length, get_or, set, replicate, Option, Some, None, refl, sym, ap, ◌∙◌, append_assoc}
use Rattle.std.specs.Prelude.{nat_eq, nat_lt, option_map, option_and_then, if◌then◌else◌}
use Rattle.std.proofs.lemmas.Bool.{ltb-true, eqb-false, eq-eqb, ne_eqb, lt-ltb, cases_eq, and_parts, or_parts, not-true, both_ways, cond-true, cond-false, false_from_ne_true}
use Rattle.std.proofs.lemmas.List.{get_or-set_same, get_or-set_other, map-append}
use Rattle.std.proofs.lemmas.List.FromFn.{fill_by_all}
use Rattle.plc_json.specs.Commands.{is_in, are_once, value_of, numbers_of, bits_given, words_given}

or_assoc : (a b c : Bool) → (a || (b || c)) ≡ ((a || b) || c)
or_assoc true b c = refl
or_assoc false b c = refl

or_false : (a : Bool) → (a || false) ≡ a
or_false true = refl
or_false false = refl

or_true : (a : Bool) → true ≡ (a || true)
or_true true = refl
or_true false = refl

is_in_more : (n m : ℕ) (xs : List ℕ) → is_in n (xs ++ m ∷ []) ≡ (is_in n xs || nat_eq m n)
is_in_more n m [] = or_false (nat_eq m n)
is_in_more n m (x ∷ xs) = ap (λ b. nat_eq x n || b) (is_in_more n m xs) ∙ or_assoc (nat_eq x n) (is_in n xs) (nat_eq m n)

is_in_apart : (x n : ℕ) (xs ys : List ℕ) → is_in x (xs ++ n ∷ ys) ≡ false → nat_eq n x ≡ false
is_in_apart x n [] ys h = (or_parts (nat_eq n x) (is_in x ys) h).0
is_in_apart x n (z ∷ xs) ys h = is_in_apart x n xs ys (or_parts (nat_eq z x) (is_in x (xs ++ n ∷ ys)) h).1

-- one number more is given
pub once_more : (bound n : ℕ) (xs : List ℕ) → are_once bound xs ≡ true → n < bound → is_in n xs ≡ false → are_once bound (xs ++ n ∷ []) ≡ true
once_more bound n [] once lt new = rw (lt-ltb n bound lt) refl
once_more bound n (x ∷ xs) once lt new =
    let parts = and_parts (nat_lt x bound) (not (is_in x xs) && are_once bound xs) once in
    let later = and_parts (not (is_in x xs)) (are_once bound xs) parts.1 in
    let apart = or_parts (nat_eq x n) (is_in n xs) new in
    let other : nat_eq n x ≡ false = ne_eqb n x (λ e. eqb-false x n apart.0 (sym e)) in
    let absent : is_in x (xs ++ n ∷ []) ≡ is_in x xs = is_in_more x n xs ∙ ap (λ b. is_in x xs || b) other ∙ or_false (is_in x xs) in
    rw (parts.0, absent, later.0) (once_more bound n xs later.1 lt apart.1)

once_split : (bound n : ℕ) (xs ys : List ℕ) → are_once bound (xs ++ n ∷ ys) ≡ true → (n < bound) × (is_in n xs ≡ false)
once_split bound n [] ys once = (ltb-true n bound (and_parts (nat_lt n bound) (not (is_in n ys) && are_once bound ys) once).0, refl)
once_split bound n (x ∷ xs) ys once =
    let parts = and_parts (nat_lt x bound) (not (is_in x (xs ++ n ∷ ys)) && are_once bound (xs ++ n ∷ ys)) once in
    let later = and_parts (not (is_in x (xs ++ n ∷ ys))) (are_once bound (xs ++ n ∷ ys)) parts.1 in
    let rest = once_split bound n xs ys later.1 in
    let other = is_in_apart x n xs ys (not-true (is_in x (xs ++ n ∷ ys)) later.0) in
    (rest.0, rw (ne_eqb x n (λ e. eqb-false n x other (sym e))) rest.1)

-- a number that is too large or was given before
once_not : (bound n : ℕ) (xs ys : List ℕ) → (n < bound → is_in n xs ≡ true) → are_once bound ((xs ++ n ∷ []) ++ ys) ≡ false
once_not bound n xs ys wrong =
    ap (are_once bound) (append_assoc xs (n ∷ []) ys)
    ∙ false_from_ne_true (are_once bound (xs ++ n ∷ ys)) (λ once. let is = once_split bound n xs ys once in both_ways (is_in n xs) is.1 (wrong is.0))

-- ---- bits

pub bits_refused : (n : ℕ) (told : List ℕ) (o : Option (List ℕ)) → (n < 512 → is_in n told ≡ true) → option_and_then bits_given (option_map (λ ys. (told ++ n ∷ []) ++ ys) o) ≡ None
bits_refused n told None wrong = refl
bits_refused n told (Some ys) wrong = cond-false _ _ _ (once_not 512 n told ys wrong)

marked_by : (given : List Bool) (told : List ℕ) (n k : ℕ) → n < length given → get_or given k false ≡ is_in k told → (k ≡ n) ⊎ (k ≡ n → ⊥) → get_or (set given n true) k false ≡ is_in k (told ++ n ∷ [])
marked_by given told n k lt each (inl e) =
    ap (λ j. get_or (set given n true) j false) e ∙ get_or-set_same given n true false lt ∙ or_true (is_in k told)
    ∙ sym (is_in_more k n told ∙ ap (λ b. is_in k told || b) (eq-eqb n k (sym e)))
marked_by given told n k lt each (inr apart) =
    get_or-set_other given n k true false apart ∙ each
    ∙ sym (is_in_more k n told ∙ ap (λ b. is_in k told || b) (ne_eqb n k (λ e. apart (sym e))) ∙ or_false (is_in k told))

-- a number's cell is marked
pub marked : (given : List Bool) (told : List ℕ) (n : ℕ) → n < length given → ((k : ℕ) → get_or given k false ≡ is_in k told) → (k : ℕ) → get_or (set given n true) k false ≡ is_in k (told ++ n ∷ [])
marked given told n lt each k = marked_by given told n k lt (each k) (cases_eq k n)

pub bits_told : (bits : List Bool) (told : List ℕ) → length bits ≡ 512 → are_once 512 told ≡ true → ((k : ℕ) → get_or bits k false ≡ is_in k told) → bits_given told ≡ Some bits
bits_told bits told full once each = cond-true _ _ _ once ∙ ap Some (sym (fill_by_all (λ n. is_in n told) bits 512 false full (λ k lt. each k)))

-- nothing is given yet
pub none_marked : (n k : ℕ) → get_or (replicate n false) k false ≡ false
none_marked zero k = refl
none_marked (suc n) zero = refl
none_marked (suc n) (suc k) = none_marked n k

-- ---- words

pub none_worded : (n k : ℕ) → get_or (replicate n (pos 0)) k (pos 0) ≡ pos 0
none_worded zero k = refl
none_worded (suc n) zero = refl
none_worded (suc n) (suc k) = none_worded n k

numbers_behind : (p : ℕ × ℤ) (told ys : List (ℕ × ℤ)) → numbers_of ((told ++ p ∷ []) ++ ys) ≡ (numbers_of told ++ p.0 ∷ []) ++ numbers_of ys
numbers_behind p told ys = map-append (λ (q : ℕ × ℤ). q.0) (told ++ p ∷ []) ys ∙ ap (λ (ns : List ℕ). ns ++ numbers_of ys) (map-append (λ (q : ℕ × ℤ). q.0) told (p ∷ []))

pub numbers_more : (p : ℕ × ℤ) (told : List (ℕ × ℤ)) → numbers_of (told ++ p ∷ []) ≡ numbers_of told ++ p.0 ∷ []
numbers_more p told = map-append (λ (q : ℕ × ℤ). q.0) told (p ∷ [])

pub words_refused : (p : ℕ × ℤ) (told : List (ℕ × ℤ)) (o : Option (List (ℕ × ℤ))) → (p.0 < 64 → is_in p.0 (numbers_of told) ≡ true) → option_and_then words_given (option_map (λ ys. (told ++ p ∷ []) ++ ys) o) ≡ None
words_refused p told None wrong = refl
words_refused p told (Some ys) wrong = cond-false _ _ _ (ap (are_once 64) (numbers_behind p told ys) ∙ once_not 64 p.0 (numbers_of told) (numbers_of ys) wrong)

pick : (b c : Bool) (x y z w : ℤ) → w ≡ (if c then y else z) → (if b then x else w) ≡ (if b || c then (if b then x else y) else z)
pick true c x y z w e = refl
pick false c x y z w e = e

value_more : (k : ℕ) (p : ℕ × ℤ) (ps : List (ℕ × ℤ)) → value_of k (ps ++ p ∷ []) ≡ (if is_in k (numbers_of ps) then value_of k ps else (if nat_eq p.0 k then p.1 else pos 0))
value_more k p [] = refl
value_more k p (q ∷ ps) = pick (nat_eq q.0 k) (is_in k (numbers_of ps)) q.1 (value_of k ps) (if nat_eq p.0 k then p.1 else pos 0) (value_of k (ps ++ p ∷ [])) (value_more k p ps)

value_absent : (k : ℕ) (ps : List (ℕ × ℤ)) → is_in k (numbers_of ps) ≡ false → value_of k ps ≡ pos 0
value_absent k [] absent = refl
value_absent k (q ∷ ps) absent =
    let apart = or_parts (nat_eq q.0 k) (is_in k (numbers_of ps)) absent in
    cond-false _ _ _ apart.0 ∙ value_absent k ps apart.1

kept : (b : Bool) (x : ℤ) → (b ≡ false → x ≡ pos 0) → (if b then x else pos 0) ≡ x
kept true x h = refl
kept false x h = sym (h refl)

worded_by : (words : List ℤ) (told : List (ℕ × ℤ)) (p : ℕ × ℤ) (k : ℕ) → p.0 < length words → is_in p.0 (numbers_of told) ≡ false → get_or words k (pos 0) ≡ value_of k told → (k ≡ p.0) ⊎ (k ≡ p.0 → ⊥) → get_or (set words p.0 p.1) k (pos 0) ≡ value_of k (told ++ p ∷ [])
worded_by words told p k lt new each (inl e) =
    ap (λ j. get_or (set words p.0 p.1) j (pos 0)) e ∙ get_or-set_same words p.0 p.1 (pos 0) lt
    ∙ sym (value_more k p told ∙ cond-false _ _ _ (ap (λ j. is_in j (numbers_of told)) e ∙ new) ∙ cond-true _ _ _ (eq-eqb p.0 k (sym e)))
worded_by words told p k lt new each (inr apart) =
    get_or-set_other words p.0 k p.1 (pos 0) apart ∙ each
    ∙ sym (value_more k p told
    ∙ ap (λ (z : ℤ). if is_in k (numbers_of told) then value_of k told else z) (cond-false _ _ _ (ne_eqb p.0 k (λ e. apart (sym e))))
    ∙ kept (is_in k (numbers_of told)) (value_of k told) (value_absent k told))

-- a word has its value
pub worded : (words : List ℤ) (told : List (ℕ × ℤ)) (p : ℕ × ℤ) → p.0 < length words → is_in p.0 (numbers_of told) ≡ false → ((k : ℕ) → get_or words k (pos 0) ≡ value_of k told) → (k : ℕ) → get_or (set words p.0 p.1) k (pos 0) ≡ value_of k (told ++ p ∷ [])
worded words told p lt new each k = worded_by words told p k lt new (each k) (cases_eq k p.0)

pub words_told : (words : List ℤ) (told : List (ℕ × ℤ)) → length words ≡ 64 → are_once 64 (numbers_of told) ≡ true → ((k : ℕ) → get_or words k (pos 0) ≡ value_of k told) → words_given told ≡ Some words
words_told words told full once each = cond-true _ _ _ once ∙ ap Some (sym (fill_by_all (λ n. value_of n told) words 64 (pos 0) full (λ k lt. each k)))
