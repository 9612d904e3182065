-- Records as a format of frames.
use Rattle.std.proofs.Common.{◌≡◌, ℕ, ◌+◌, ◌*◌, ◌<◌, List, [], ◌∷◌, ◌++◌, length, drop, take, get_or, refl, sym, ap, subst, ◌∙◌, arith, length-append}
use Rattle.std.specs.Int.{w16, to_be_bytes}
use Rattle.std.proofs.lemmas.List.{take_at, drop_at}
use Rattle.std.proofs.lemmas.Nat.{from_be_bytes-to_be_bytes_2}
use Rattle.io_model.specs.Streams.{IsOneStream, Splits, Rest}
use Rattle.io_model.proofs.Streams.{IsReadable, one_stream}
use Rattle.net_records.specs.declared.place.Place.TheVariants.{Length}
use Rattle.net_records.specs.Records.{record_of, IsBody, IsPartial, records, joined, bodies_from, place_behind, AreJoined}
use Rattle.net_records.proofs.Bodies.{bodies_append, bodies_of_stream}

same_front : (x y rest other : List ℕ) → length x ≡ length y → x ++ rest ≡ y ++ other → (x ≡ y) × (rest ≡ other)
same_front x y rest other long e =
    (sym (take_at x rest (length x) refl) ∙ (ap (take (length x)) e ∙ take_at y other (length x) (sym long)), sym (drop_at x rest (length x) refl) ∙ (ap (drop (length x)) e ∙ drop_at y other (length x) (sym long)))

two_cells : (a b c d : ℕ) (x y : List ℕ) → a ∷ b ∷ x ≡ c ∷ d ∷ y → (a ≡ c) × (b ≡ d) × (x ≡ y)
two_cells a b c d x y e = (cc, cc, cc)

-- the length that two bytes tell
told : (body : List ℕ) → IsBody body → 256 * get_or (to_be_bytes w16 (length body)) 0 0 + get_or (to_be_bytes w16 (length body)) 1 0 ≡ length body
told body lt = omega (arith, from_be_bytes-to_be_bytes_2 (length body) lt)

first : (x y rest other : List ℕ) → IsBody x → IsBody y → record_of x ++ rest ≡ record_of y ++ other → (x ≡ y) × (rest ≡ other)
first x y rest other lt lt' e =
    let cells = two_cells (get_or (to_be_bytes w16 (length x)) 0 0) (get_or (to_be_bytes w16 (length x)) 1 0) (get_or (to_be_bytes w16 (length y)) 0 0) (get_or (to_be_bytes w16 (length y)) 1 0) (x ++ rest) (y ++ other) e in
    let long : length x ≡ length y = omega (arith, told x lt, told y lt', cells.0, cells.1) in
    same_front x y rest other long cells.2

partial : (x rest : List ℕ) → IsBody x → IsPartial (record_of x ++ rest) → ⊥
partial x rest lt fewer = let all = length-append x rest in omega (arith, fewer, told x lt, all)

readable : IsReadable records
readable = record {
  first = first;
  partial = partial;
  broken = λ fault x rest framed h. h;
  one_fault = λ fault other bytes h k. absurd h;
  apart = λ fault bytes fewer h. h;
  more = λ fault bytes rest h. absurd h;
  nothing = tt;
}

bodies_given : (stream : List ℕ) (bodies : List (List ℕ)) (rest : List ℕ) → Splits records stream bodies (Rest rest) → bodies_from Length stream ≡ joined bodies ++ drop 2 rest
bodies_given stream bodies rest s =
    ap (bodies_from Length) s.whole ∙ (bodies_of_stream bodies s.rest s.each s.ends.1 ∙ ap (λ (t : List ℕ). joined bodies ++ drop 2 t) s.ends.0)

pub are_joined : AreJoined
are_joined = record {
  one_stream = one_stream records readable;
  bodies = bodies_given;
  prefixes = λ stream more. (bodies_from (place_behind Length stream) more, bodies_append Length stream more);
}
