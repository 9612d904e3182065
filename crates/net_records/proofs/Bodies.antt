-- Bodies of records, byte by byte.
use Rattle.std.proofs.Common.{◌≡◌, ℕ, zero, suc, ◌+◌, ◌-◌, ◌*◌, ◌^◌, ◌<◌, ◌≤◌, List, [], ◌∷◌, ◌++◌, length, drop, get_or, refl, sym, ap, subst, ◌∙◌, append_assoc, arith, le_refl}
use Rattle.std.proofs.Math.Dec.{eqb-suc-zero}
use Rattle.std.specs.Int.{w16, to_be_bytes}
use Rattle.std.specs.List.{flat_map, AllByRecursion}
use Rattle.std.proofs.lemmas.List.Concat.{flat_map-cons}
use Rattle.std.proofs.lemmas.Nat.{from_be_bytes-to_be_bytes_2}
use Rattle.net_records.specs.declared.place.Place.{Place}
use Rattle.net_records.specs.declared.place.Place.TheVariants.{Length, LowByte, Body}
use Rattle.net_records.specs.Records.{record_of, IsBody, IsPartial, IsPlace, joined, place_in, next_place, bodies_from, place_behind}

pub bodies_append : (place : Place) (xs ys : List ℕ) → bodies_from place (xs ++ ys) ≡ bodies_from place xs ++ bodies_from (place_behind place xs) ys
bodies_append place [] ys = refl
bodies_append Length (x ∷ xs) ys = bodies_append (LowByte x) xs ys
bodies_append (LowByte high) (x ∷ xs) ys = bodies_append (next_place (LowByte high) x) xs ys
bodies_append (Body left) (x ∷ xs) ys = ap (λ (t : List ℕ). x ∷ t) (bodies_append (next_place (Body left) x) xs ys)

pub place_append : (place : Place) (xs ys : List ℕ) → place_behind place (xs ++ ys) ≡ place_behind (place_behind place xs) ys
place_append place [] ys = refl
place_append place (x ∷ xs) ys = place_append (next_place place x) xs ys

-- in a body of which bytes are to come
in_some : (n : ℕ) → place_in (suc n) ≡ Body (suc n)
in_some n = rw (eqb-suc-zero n) refl

-- bytes of one body
pub record InBody (left : ℕ) (xs : List ℕ) : Type 0 where
  pub bodies : bodies_from (place_in left) xs ≡ xs
  pub place : place_behind (place_in left) xs ≡ place_in (left - length xs)

pub record InBodyOf (of : Place) (left : ℕ) (xs : List ℕ) : Type 0 where
  pub bodies : bodies_from of xs ≡ xs
  pub place : place_behind of xs ≡ place_in (left - length xs)

pub in_body : (left : ℕ) (xs : List ℕ) → length xs ≤ left → InBody left xs
in_body left [] le = record { bodies = refl; place = ap place_in (let e : left ≡ left - 0 = omega arith in e) }
in_body zero (x ∷ xs) le = absurd (omega arith)
in_body (suc left) (x ∷ xs) le =
    let rest = in_body left xs (omega arith) in
    let one : suc left - 1 ≡ left = omega arith in
    let fewer : left - length xs ≡ suc left - length (x ∷ xs) = omega arith in
    record {
      bodies = ap (λ (p : Place). bodies_from p (x ∷ xs)) (in_some left) ∙ (ap (λ (n : ℕ). x ∷ bodies_from (place_in n) xs) one ∙ ap (λ (t : List ℕ). x ∷ t) rest.bodies);
      place = ap (λ (p : Place). place_behind p (x ∷ xs)) (in_some left) ∙ (ap (λ (n : ℕ). place_behind (place_in n) xs) one ∙ (rest.place ∙ ap place_in fewer));
    }

-- the same, where the place is known
pub of_body : (place : Place) (left : ℕ) → place ≡ Body left → IsPlace place → (xs : List ℕ) → length xs ≤ left → InBodyOf place left xs
of_body place zero e lawful xs le = absurd (omega (arith, subst IsPlace e lawful))
of_body place (suc left) e lawful xs le =
    let all = in_body (suc left) xs le in
    let is : place ≡ place_in (suc left) = e ∙ sym (in_some left) in
    record { bodies = ap (λ (p : Place). bodies_from p xs) is ∙ all.bodies; place = ap (λ (p : Place). place_behind p xs) is ∙ all.place }

-- a length in two bytes, and the body
cells : (high low : ℕ) (body : List ℕ) → 256 * high + low ≡ length body → (bodies_from Length (high ∷ low ∷ body) ≡ body) × (place_behind Length (high ∷ low ∷ body) ≡ Length)
cells high low body e =
    let all = in_body (length body) body (le_refl (length body)) in
    let none : length body - length body ≡ 0 = omega arith in
    (ap (λ (n : ℕ). bodies_from (place_in n) body) e ∙ all.bodies, ap (λ (n : ℕ). place_behind (place_in n) body) e ∙ (all.place ∙ ap place_in none))

pub bodies_of_record : (body : List ℕ) → IsBody body → bodies_from Length (record_of body) ≡ body
bodies_of_record body lt = (cells (get_or (to_be_bytes w16 (length body)) 0 0) (get_or (to_be_bytes w16 (length body)) 1 0) body (omega (arith, from_be_bytes-to_be_bytes_2 (length body) lt))).0

pub place_of_record : (body : List ℕ) → IsBody body → place_behind Length (record_of body) ≡ Length
place_of_record body lt = (cells (get_or (to_be_bytes w16 (length body)) 0 0) (get_or (to_be_bytes w16 (length body)) 1 0) body (omega (arith, from_be_bytes-to_be_bytes_2 (length body) lt))).1

-- what has come of a record
of_partial : (rest : List ℕ) → IsPartial rest → bodies_from Length rest ≡ drop 2 rest
of_partial [] partial = refl
of_partial (high ∷ []) partial = refl
of_partial (high ∷ low ∷ bytes) partial = (in_body (256 * high + low) bytes (omega arith)).bodies

pub bodies_of_stream : (bodies : List (List ℕ)) (rest : List ℕ) → AllByRecursion IsBody bodies → IsPartial rest → bodies_from Length (flat_map record_of bodies ++ rest) ≡ joined bodies ++ drop 2 rest
bodies_of_stream [] rest each partial = of_partial rest partial
bodies_of_stream (body ∷ bodies) rest each partial =
    let whole : flat_map record_of (body ∷ bodies) ++ rest ≡ record_of body ++ (flat_map record_of bodies ++ rest) = ap (λ (t : List ℕ). t ++ rest) (flat_map-cons record_of body bodies) ∙ append_assoc (record_of body) (flat_map record_of bodies) rest in
    let others = flat_map record_of bodies ++ rest in
    let behind : bodies_from (place_behind Length (record_of body)) others ≡ joined bodies ++ drop 2 rest = ap (λ (p : Place). bodies_from p others) (place_of_record body each.0) ∙ bodies_of_stream bodies rest each.1 partial in
    let both : bodies_from Length (record_of body) ++ bodies_from (place_behind Length (record_of body)) others ≡ body ++ (joined bodies ++ drop 2 rest) = ap (λ (t : List ℕ). t ++ bodies_from (place_behind Length (record_of body)) others) (bodies_of_record body each.0) ∙ ap (λ (t : List ℕ). body ++ t) behind in
    let joins : body ++ (joined bodies ++ drop 2 rest) ≡ joined (body ∷ bodies) ++ drop 2 rest = sym (append_assoc body (joined bodies) (drop 2 rest)) ∙ ap (λ (t : List ℕ). t ++ drop 2 rest) (sym (flat_map-cons (λ (b : List ℕ). b) body bodies)) in
    ap (bodies_from Length) whole ∙ (bodies_append Length (record_of body) others ∙ (both ∙ joins))
