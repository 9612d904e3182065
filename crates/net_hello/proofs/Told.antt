-- Other terms are other bytes.
use Rattle.std.proofs.Common.{◌≡◌, ℕ, ◌+◌, ◌^◌, ◌<◌, List, ◌∷◌, ◌++◌, length, take, drop, refl, sym, ap, ◌∙◌}
use Rattle.std.specs.Int.{w16, w32, to_be_bytes, from_be_bytes}
use Rattle.std.proofs.lemmas.List.{take_at, drop_at}
use Rattle.std.proofs.lemmas.Nat.{from_be_bytes-to_be_bytes_2, from_be_bytes-to_be_bytes_4}
use Rattle.net_hello.specs.Identity.{Terms, FitsTerms, encoded, AreTold}

-- both fronts and what is behind them, where the fronts are as long
fronts : (x y rest other : List ℕ) (n : ℕ) → length x ≡ n → length y ≡ n → x ++ rest ≡ y ++ other → (x ≡ y) × (rest ≡ other)
fronts x y rest other n a b e = (sym (take_at x rest n a) ∙ (ap (take n) e ∙ take_at y other n b), sym (drop_at x rest n a) ∙ (ap (drop n) e ∙ drop_at y other n b))

of_two : (x y : ℕ) → x < 2 ^ 16 → y < 2 ^ 16 → to_be_bytes w16 x ≡ to_be_bytes w16 y → x ≡ y
of_two x y lt lt' e = sym (from_be_bytes-to_be_bytes_2 x lt) ∙ (ap (from_be_bytes w16) e ∙ from_be_bytes-to_be_bytes_2 y lt')

of_four : (x y : ℕ) → x < 2 ^ 32 → y < 2 ^ 32 → to_be_bytes w32 x ≡ to_be_bytes w32 y → x ≡ y
of_four x y lt lt' e = sym (from_be_bytes-to_be_bytes_4 x lt) ∙ (ap (from_be_bytes w32) e ∙ from_be_bytes-to_be_bytes_4 y lt')

heads : (x y : ℕ) (xs ys : List ℕ) → x ∷ xs ≡ y ∷ ys → (x ≡ y) × (xs ≡ ys)
heads x y xs ys e = (cc, cc)

same_terms : (a b : Terms) → a.name ≡ b.name → a.drawn ≡ b.drawn → a.f ≡ b.f → a.budget ≡ b.budget → a.every ≡ b.every → a ≡ b
same_terms a b p d q r s = λ i. record { name = p i; drawn = d i; f = q i; budget = r i; every = s i }

pub are_told : AreTold
are_told a b fits fits' e =
    let third = λ (t : Terms). to_be_bytes w16 t.every ++ (t.drawn ++ t.name) in
    let second = λ (t : Terms). to_be_bytes w32 t.budget ++ (to_be_bytes w16 t.every ++ (t.drawn ++ t.name)) in
    let one = heads a.f b.f (second a) (second b) e in
    let two = fronts (to_be_bytes w32 a.budget) (to_be_bytes w32 b.budget) (third a) (third b) 4 refl refl one.1 in
    let three = fronts (to_be_bytes w16 a.every) (to_be_bytes w16 b.every) (a.drawn ++ a.name) (b.drawn ++ b.name) 2 refl refl two.1 in
    let four = fronts a.drawn b.drawn a.name b.name 16 fits.drawn fits'.drawn three.1 in
    same_terms a b four.1 four.0 one.0 (of_four a.budget b.budget fits.budget fits'.budget two.0) (of_two a.every b.every fits.every fits'.every three.0)
