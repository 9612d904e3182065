-- Two sums, compared byte by byte.
use Rattle.std.proofs.Common.{◌≡◌, ℕ, ◌<◌, ◌+◌, Bool, true, List, take, get_or, length, sym, ap, ◌∙◌, arith}
use Rattle.std.specs.Prelude.{◌↔◌, ◌&&◌, ◌==◌}
use Rattle.std.proofs.lemmas.Bool.{and_parts, and_from, eqb-true, eq-eqb}
use Rattle.std.proofs.lemmas.List.{take-take, take_more_same, get_or-take}

-- what is alike up to one byte more is so up to here
alike_before : (xs ys : List ℕ) (i : ℕ) → take (i + 1) xs ≡ take (i + 1) ys → take i xs ≡ take i ys
alike_before xs ys i same = sym (take-take i (i + 1) xs (omega arith)) ∙ (ap (take i) same ∙ take-take i (i + 1) ys (omega arith))

-- and the byte here is the same
alike_here : (xs ys : List ℕ) (i : ℕ) → take (i + 1) xs ≡ take (i + 1) ys → get_or xs i 0 ≡ get_or ys i 0
alike_here xs ys i same = sym (get_or-take (i + 1) xs i 0 (omega arith)) ∙ (ap (λ (l : List ℕ). get_or l i 0) same ∙ get_or-take (i + 1) ys i 0 (omega arith))

pub alike_next : (a : Bool) (xs ys : List ℕ) (i : ℕ) → i < length xs → i < length ys → ((a ≡ true) ↔ (take i xs ≡ take i ys))
    → ((a && (get_or ys i 0 == get_or xs i 0)) ≡ true) ↔ (take (i + 1) xs ≡ take (i + 1) ys)
alike_next a xs ys i in_xs in_ys h = (
  (λ both. let parts = and_parts a (get_or ys i 0 == get_or xs i 0) both in
      take_more_same xs ys i 0 in_xs in_ys (h.0 parts.0) (sym (eqb-true (get_or ys i 0) (get_or xs i 0) parts.1))),
  (λ same. and_from a (get_or ys i 0 == get_or xs i 0) (h.1 (alike_before xs ys i same)) (eq-eqb (get_or ys i 0) (get_or xs i 0) (sym (alike_here xs ys i same)))),
)
