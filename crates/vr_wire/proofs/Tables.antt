-- The clients' answers, one client at a time, as a loop goes over them.
use Rattle.std.proofs.Common.{◌≡◌, ℕ, suc, ◌-◌, ◌+◌, ◌≤◌, ◌<◌, ◌==◌, true, false, List, [], ◌∷◌, ◌++◌, length, take, get_or, Option, Some, None, refl, sym, ap, subst, ◌∙◌, append_assoc, arith}
use Rattle.std.specs.List.{flat_map, AllByRecursion}
use Rattle.std.proofs.lemmas.List.{append-nil, length-append, length-take, take_more}
use Rattle.std.proofs.lemmas.Bool.{eqb-true}
use Rattle.std.proofs.lemmas.Grind.{flat_map-append}
use Rattle.vr_model.specs.declared.log.Executed.{Executed}
use Rattle.vr_wire.specs.declared.log.ClientAnswer.{ClientAnswer}
use Rattle.vr_wire.specs.Logs.{client_bytes, with_answer, answered_from}
use Rattle.vr_wire.specs.MessageReading.{next_of, table_from}
use Rattle.vr_wire.specs.Reading.{◌>>=◌}

-- ---- reading

-- what was read before, and what is still read
abbrev pub with_table : List (Option Executed) → Option (List (Option Executed)) → Option (List (Option Executed))
with_table front read = read >>= λ table. Some (front ++ table)

regroup : (front : List (Option Executed)) (x : Option Executed) (read : Option (List (Option Executed))) → with_table front (read >>= λ table. Some (x ∷ table)) ≡ with_table (front ++ x ∷ []) read
regroup front x (Some table) = ap Some (sym (append_assoc front (x ∷ []) table))
regroup front x None = refl

pub table_goes_on : (front : List (Option Executed)) (n : ℕ) (answers : List ClientAnswer) (x : Option Executed) (others : List ClientAnswer) (total : Option (List (Option Executed))) → n < 16 → (x, others) ≡ next_of n answers
    → with_table front (table_from (16 - n) n answers) ≡ total → with_table (front ++ x ∷ []) (table_from (16 - (n + 1)) (n + 1) others) ≡ total
unfolding table_from
table_goes_on front n answers x others total lt is so_far =
    let count : 16 - n ≡ suc (16 - (n + 1)) = omega arith in
    let after : n + 1 ≡ suc n = omega arith in
    let first : (next_of n answers).0 ≡ x = ap (λ (p : Option Executed × List ClientAnswer). p.0) (sym is) in
    let rest : (next_of n answers).1 ≡ others = ap (λ (p : Option Executed × List ClientAnswer). p.1) (sym is) in
    let one : with_table front (table_from (16 - n) n answers) ≡ with_table (front ++ x ∷ []) (table_from (16 - (n + 1)) (n + 1) others) =
    rw (count, after, first, rest) (regroup front x (table_from (16 - suc n) (suc n) others)) in
    sym one ∙ so_far

none_left : (n : ℕ) (answers : List ClientAnswer) → (length answers == 0) ≡ true → table_from 0 n answers ≡ Some []
unfolding table_from
none_left n [] e = refl
none_left n (a ∷ others) e = absurd (let none : suc (length others) ≡ 0 = eqb-true (suc (length others)) 0 e in omega (arith, none))

some_left : (n : ℕ) (answers : List ClientAnswer) → (length answers == 0) ≡ false → table_from 0 n answers ≡ None
unfolding table_from
some_left n [] e = absurd cc
some_left n (a ∷ others) e = refl

pub table_done : (front : List (Option Executed)) (n : ℕ) (answers : List ClientAnswer) (total : Option (List (Option Executed))) → 16 ≤ n → (length answers == 0) ≡ true → with_table front (table_from (16 - n) n answers) ≡ total → total ≡ Some front
table_done front n answers total le none so_far =
    let count : 16 - n ≡ 0 = omega arith in
    let one : with_table front (table_from (16 - n) n answers) ≡ Some front = rw (count, none_left n answers none) (ap Some (append-nil front)) in
    sym so_far ∙ one

pub table_more : (front : List (Option Executed)) (n : ℕ) (answers : List ClientAnswer) (total : Option (List (Option Executed))) → 16 ≤ n → (length answers == 0) ≡ false → with_table front (table_from (16 - n) n answers) ≡ total → total ≡ None
table_more front n answers total le some so_far =
    let count : 16 - n ≡ 0 = omega arith in
    let one : with_table front (table_from (16 - n) n answers) ≡ None = rw (count, some_left n answers some) refl in
    sym so_far ∙ one

-- ---- writing

with_is : (n : ℕ) (x : Option Executed) (others : List ClientAnswer) → with_answer n x others ≡ with_answer n x [] ++ others
with_is n None others = refl
with_is n (Some x) others = refl

pub answered_more : (n : ℕ) (xs : List (Option Executed)) (x : Option Executed) → answered_from n (xs ++ x ∷ []) ≡ answered_from n xs ++ with_answer (n + length xs) x []
answered_more n [] x = let none : n + 0 ≡ n = omega arith in rw none refl
answered_more n (y ∷ xs) x =
    let ih = answered_more (suc n) xs x in
    let behind : suc n + length xs ≡ n + suc (length xs) = omega arith in
    with_is n y (answered_from (suc n) (xs ++ x ∷ []))
    ∙ (ap (λ (t : List ClientAnswer). with_answer n y [] ++ t) (ih ∙ ap (λ (m : ℕ). answered_from (suc n) xs ++ with_answer m x []) behind)
    ∙ (sym (append_assoc (with_answer n y []) (answered_from (suc n) xs) (with_answer (n + suc (length xs)) x []))
    ∙ ap (λ (t : List ClientAnswer). t ++ with_answer (n + suc (length xs)) x []) (sym (with_is n y (answered_from (suc n) xs)))))

-- one client more
pub answered_next : (xs : List (Option Executed)) (i : ℕ) (d : Option Executed) → i < length xs → answered_from 0 (take (i + 1) xs) ≡ answered_from 0 (take i xs) ++ with_answer i (get_or xs i d) []
answered_next xs i d lt =
    let place : 0 + length (take i xs) ≡ i = omega (arith, length-take i xs) in
    ap (answered_from 0) (take_more xs i d lt) ∙ (answered_more 0 (take i xs) (get_or xs i d) ∙ ap (λ (n : ℕ). answered_from 0 (take i xs) ++ with_answer n (get_or xs i d) []) place)

pub counted_next : (xs : List (Option Executed)) (i count one : ℕ) (x d : Option Executed) → i < length xs → x ≡ get_or xs i d → count ≡ length (answered_from 0 (take i xs)) → one ≡ length (with_answer i x []) → count + one ≡ length (answered_from 0 (take (i + 1) xs))
counted_next xs i count one x d lt is counted answer =
    let answers = answered_from 0 (take i xs) in
    let here : one ≡ length (with_answer i (get_or xs i d) []) = answer ∙ ap (λ (y : Option Executed). length (with_answer i y [])) is in
    let all : length (answered_from 0 (take (i + 1) xs)) ≡ length answers + length (with_answer i (get_or xs i d) []) = ap length (answered_next xs i d lt) ∙ length-append answers (with_answer i (get_or xs i d) []) in
    omega (arith, counted, here, all)

pub written_next : (xs : List (Option Executed)) (i client : ℕ) (d : Option Executed) (out before after : List ℕ) → i < length xs → client ≡ i → before ≡ out ++ flat_map client_bytes (answered_from 0 (take i xs)) → after ≡ before ++ flat_map client_bytes (with_answer client (get_or xs i d) [])
    → after ≡ out ++ flat_map client_bytes (answered_from 0 (take (i + 1) xs))
written_next xs i client d out before after lt is so_far one =
    let answers = answered_from 0 (take i xs) in
    let last = with_answer i (get_or xs i d) [] in
    let here : after ≡ before ++ flat_map client_bytes last = one ∙ ap (λ (n : ℕ). before ++ flat_map client_bytes (with_answer n (get_or xs i d) [])) is in
    let all : flat_map client_bytes (answered_from 0 (take (i + 1) xs)) ≡ flat_map client_bytes answers ++ flat_map client_bytes last = ap (flat_map client_bytes) (answered_next xs i d lt) ∙ flat_map-append client_bytes answers last in
    here ∙ (ap (λ (t : List ℕ). t ++ flat_map client_bytes last) so_far ∙ (append_assoc out (flat_map client_bytes answers) (flat_map client_bytes last) ∙ ap (λ (t : List ℕ). out ++ t) (sym all)))

all_push : {X : Type 0} (p : X → Type 0) (xs : List X) (x : X) → AllByRecursion p xs → p x → AllByRecursion p (xs ++ x ∷ [])
all_push p [] x all one = (one, tt)
all_push p (y ∷ xs) x all one = (all.0, all_push p xs x all.1 one)

-- one more of them is so
pub all_next : {X : Type 0} (p : X → Type 0) (xs : List X) (i : ℕ) (d : X) → i < length xs → AllByRecursion p (take i xs) → p (get_or xs i d) → AllByRecursion p (take (i + 1) xs)
all_next p xs i d lt all one = subst (AllByRecursion p) (sym (take_more xs i d lt)) (all_push p (take i xs) (get_or xs i d) all one)
