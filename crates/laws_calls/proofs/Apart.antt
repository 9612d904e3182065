-- Two calls of a unit share no label.
use Rattle.std.proofs.Common.{◌≡◌, ℕ, ◌+◌, ◌<◌, ◌≤◌, ◌%◌, ◌^◌, arith, ◌++◌, ◌∙◌, Bool, true, false, List, [], ◌∷◌, refl, sym, ap, nat_eq}
use Rattle.std.specs.Prelude.{◌||◌}
use Rattle.std.specs.Fmt.{decimal}
use Rattle.std.proofs.lemmas.Bool.{eq-eqb, ne_eqb}
use Rattle.std.proofs.lemmas.Fmt.{decimal_by_steps, decimal_injective}
use Rattle.std.proofs.lemmas.List.Folds.{list_any-append}
use Rattle.il_model.specs.Words.{is_dot, has_dot, under}
use Rattle.il_units.specs.Expansion.{call_name}

abbrev IsPart : List ℕ → Type 0
IsPart name = has_dot name ≡ false

abbrev first : List ℕ → ℕ
first [] = 0
first (x ∷ xs) = x

abbrev others : List ℕ → List ℕ
others [] = []
others (x ∷ xs) = xs

or_false : (a b : Bool) → (a || b) ≡ false → (a ≡ false) × (b ≡ false)
or_false true b e = absurd cc
or_false false b e = (refl, e)

no_dot_first : (x : ℕ) (xs : List ℕ) → IsPart (x ∷ xs) → x ≡ 46 → ⊥
no_dot_first x xs p e = let no = (or_false (nat_eq x 46) (has_dot xs) p).0 in let yes = eq-eqb x 46 e in absurd cc

apart : (f g a b : List ℕ) → IsPart f → IsPart g → under f a ≡ under g b → (f ≡ g) × (a ≡ b)
apart [] [] a b p q e = (refl, ap others e)
apart [] (y ∷ g) a b p q e = absurd (no_dot_first y g q (sym (ap first e)))
apart (x ∷ f) [] a b p q e = absurd (no_dot_first x f p (ap first e))
apart (x ∷ f) (y ∷ g) a b p q e =
    let more = apart f g a b (or_false (nat_eq x 46) (has_dot f) p).1 (or_false (nat_eq y 46) (has_dot g) q).1 (ap others e) in
    let same : x ≡ y = ap first e in
    let rest = more.0 in
    (cc, more.1)

-- ---- calls

no_dot_digit : (n : ℕ) → is_dot (48 + n) ≡ false
no_dot_digit n = ne_eqb (48 + n) 46 (λ (e : 48 + n ≡ 46). omega arith)

one_digit : (n : ℕ) → IsPart ((48 + n) ∷ [])
one_digit n = rw (no_dot_digit n) refl

more_digits : (n : ℕ) (ds : List ℕ) → IsPart ds → IsPart (ds ++ (48 + n) ∷ [])
more_digits n ds part = list_any-append is_dot ds ((48 + n) ∷ []) ∙ rw (part, one_digit n) refl

part_of_decimal : (n : ℕ) → n < 2 ^ 64 → IsPart (decimal n)
part_of_decimal n small = decimal_by_steps (λ (k : ℕ) (ds : List ℕ). IsPart ds) (λ (k : ℕ) (lt : k < 10). one_digit k) (λ (k : ℕ) (ds : List ℕ) (le : 10 ≤ k) (part : IsPart ds). more_digits (k % 10) ds part) n small

part_of_call : (k : ℕ) → k < 2 ^ 64 → IsPart (call_name k)
part_of_call k small = part_of_decimal k small

pub calls_apart : (j k : ℕ) (a b : List ℕ) → j < 2 ^ 64 → k < 2 ^ 64 → under (call_name j) a ≡ under (call_name k) b → (j ≡ k) × (a ≡ b)
calls_apart j k a b small least e =
    let both = apart (call_name j) (call_name k) a b (part_of_call j small) (part_of_call k least) e in
    (decimal_injective j k small least (ap others both.0), both.1)
