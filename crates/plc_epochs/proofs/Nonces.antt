-- What machines told, one by one, as a loop goes over it.
use Rattle.std.proofs.Common.{◌≡◌, ℕ, suc, ◌+◌, ◌-◌, ◌*◌, ◌<◌, ◌≤◌, List, [], ◌∷◌, ◌++◌, length, get_or, take, drop, Option, Some, None, refl, sym, ap, subst, ◌∙◌, append_assoc, append-nil, arith, length-take, take_all, take-suc-set}
use Rattle.std.specs.Prelude.{slice_set}
use Rattle.std.specs.List.{flat_map, AllByRecursion}
use Rattle.std.proofs.lemmas.List.{take_more}
use Rattle.std.proofs.lemmas.Grind.{flat_map-append}
use Rattle.plc_epochs.specs.Visits.{nonce_bytes, nonce_of, nonces_of, told_of, with_nonce}

-- ---- writing

all_push : {X : Type 0} (p : X → Type 0) (xs : List X) (x : X) → AllByRecursion p xs → p x → AllByRecursion p (xs ++ x ∷ [])
all_push p [] x all one = (one, tt)
all_push p (y ∷ xs) x all one = (all.0, all_push p xs x all.1 one)

-- one more of them is so
pub all_next : {X : Type 0} (p : X → Type 0) (xs : List X) (i : ℕ) (d : X) → i < length xs → AllByRecursion p (take i xs) → p (get_or xs i d) → AllByRecursion p (take (i + 1) xs)
all_next p xs i d lt all one = subst (AllByRecursion p) (sym (take_more xs i d lt)) (all_push p (take i xs) (get_or xs i d) all one)

-- the nonce of one more machine is written
pub written_next : (xs : List (Option ℕ)) (i : ℕ) (d : Option ℕ) (out before after : List ℕ) → i < length xs → before ≡ out ++ flat_map nonce_bytes (take i xs)
    → after ≡ before ++ nonce_bytes (get_or xs i d) → after ≡ out ++ flat_map nonce_bytes (take (i + 1) xs)
written_next xs i d out before after lt so_far one =
    let front = take i xs in
    let last = get_or xs i d in
    let all : flat_map nonce_bytes (take (i + 1) xs) ≡ flat_map nonce_bytes front ++ nonce_bytes last =
    ap (flat_map nonce_bytes) (take_more xs i d lt) ∙ (flat_map-append nonce_bytes front (last ∷ []) ∙ ap (λ (t : List ℕ). flat_map nonce_bytes front ++ t) (append-nil (nonce_bytes last))) in
    one ∙ (ap (λ (t : List ℕ). t ++ nonce_bytes last) so_far ∙ (append_assoc out (flat_map nonce_bytes front) (nonce_bytes last) ∙ ap (λ (t : List ℕ). out ++ t) (sym all)))

-- ---- reading

-- what was read before, and what is still read
abbrev pub behind : List (Option ℕ) → Option (List (Option ℕ)) → Option (List (Option ℕ))
behind front None = None
behind front (Some others) = Some (front ++ others)

at_first : (read : Option (List (Option ℕ))) → behind [] read ≡ read
at_first (Some others) = refl
at_first None = refl

regroup : (front : List (Option ℕ)) (x : Option ℕ) (read : Option (List (Option ℕ))) → behind front (with_nonce (Some x) read) ≡ behind (front ++ x ∷ []) read
regroup front x (Some others) = ap Some (sym (append_assoc front (x ∷ []) others))
regroup front x None = refl

module _ (told : List (Option ℕ)) (i : ℕ) (rest : List ℕ) (total : Option (List (Option ℕ))) (lt : i < 7)
    (so_far : behind (take i told) (nonces_of (7 - i) rest) ≡ total) where
  one_more : 7 - i ≡ suc (7 - (i + 1))
  one_more = omega (arith, lt)

  pub goes_on : (x : Option ℕ) → length told ≡ 7 → nonce_of (take 9 rest) ≡ Some x
      → behind (take (i + 1) (slice_set told i x)) (nonces_of (7 - (i + 1)) (drop 9 rest)) ≡ total
  goes_on x long is =
      let more : take (i + 1) (slice_set told i x) ≡ take i told ++ x ∷ [] = (let on : i + 1 ≡ suc i = omega arith in ap (λ (n : ℕ). take n (slice_set told i x)) on ∙ take-suc-set told i x (omega (arith, long, lt))) in
      let one : behind (take i told) (nonces_of (7 - i) rest) ≡ behind (take i told ++ x ∷ []) (nonces_of (7 - (i + 1)) (drop 9 rest)) =
      ap (λ (n : ℕ). behind (take i told) (nonces_of n rest)) one_more
      ∙ (ap (λ (p : Option (Option ℕ)). behind (take i told) (with_nonce p (nonces_of (7 - (i + 1)) (drop 9 rest)))) is
      ∙ regroup (take i told) x (nonces_of (7 - (i + 1)) (drop 9 rest))) in
      ap (λ (t : List (Option ℕ)). behind t (nonces_of (7 - (i + 1)) (drop 9 rest))) more ∙ (sym one ∙ so_far)

  pub ends : nonce_of (take 9 rest) ≡ None → total ≡ None
  ends is =
      let one : behind (take i told) (nonces_of (7 - i) rest) ≡ None =
      ap (λ (n : ℕ). behind (take i told) (nonces_of n rest)) one_more
      ∙ ap (λ (p : Option (Option ℕ)). behind (take i told) (with_nonce p (nonces_of (7 - (i + 1)) (drop 9 rest)))) is in
      sym so_far ∙ one

-- before the first nothing was read
pub begins : (told : List (Option ℕ)) (bytes : List ℕ) → behind (take 0 told) (nonces_of (7 - 0) bytes) ≡ told_of bytes
unfolding told_of
begins told bytes = at_first (nonces_of 7 bytes)

pub done : (told : List (Option ℕ)) (i : ℕ) (rest : List ℕ) (total : Option (List (Option ℕ))) → 7 ≤ i → length told ≡ 7
    → behind (take i told) (nonces_of (7 - i) rest) ≡ total → total ≡ Some told
done told i rest total le long so_far =
    let none : 7 - i ≡ 0 = omega (arith, le) in
    let all : take i told ≡ told = take_all i told (omega (arith, le, long)) in
    let one : behind (take i told) (nonces_of (7 - i) rest) ≡ Some told =
    ap (λ (n : ℕ). behind (take i told) (nonces_of n rest)) none ∙ (ap Some (append-nil (take i told)) ∙ ap Some all) in
    sym so_far ∙ one
