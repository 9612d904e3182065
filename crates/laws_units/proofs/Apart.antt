-- Under fronts of one part each no name stands twice.
use Rattle.std.proofs.Common.{◌≡◌, ℕ, Bool, true, false, List, [], ◌∷◌, refl, sym, ap, nat_eq}
use Rattle.std.specs.Prelude.{◌||◌}
use Rattle.std.proofs.lemmas.Bool.{eq-eqb}
use Rattle.il_model.specs.Words.{has_dot}
use Rattle.laws_units.specs.Names.{IsPart, TellsApart}

abbrev first : List ℕ → ℕ
first [] = 0
first (x ∷ xs) = x

abbrev others : List ℕ → List ℕ
others [] = []
others (x ∷ xs) = xs

or_false : (a b : Bool) → (a || b) ≡ false → (a ≡ false) × (b ≡ false)
or_false true b e = absurd cc
or_false false b e = (refl, e)

no_dot_first : (x : ℕ) (xs : List ℕ) → IsPart (x ∷ xs) → x ≡ 46 → ⊥
no_dot_first x xs p e = let no = (or_false (nat_eq x 46) (has_dot xs) p).0 in let yes = eq-eqb x 46 e in absurd cc

pub apart : TellsApart
apart [] [] a b p q e = (refl, ap others e)
apart [] (y ∷ g) a b p q e = absurd (no_dot_first y g q (sym (ap first e)))
apart (x ∷ f) [] a b p q e = absurd (no_dot_first x f p (ap first e))
apart (x ∷ f) (y ∷ g) a b p q e =
    let more = apart f g a b (or_false (nat_eq x 46) (has_dot f) p).1 (or_false (nat_eq y 46) (has_dot g) q).1 (ap others e) in
    let same : x ≡ y = ap first e in
    let rest = more.0 in
    (cc, more.1)
