-- Each two words in the other order.
use Rattle.std.proofs.Common.{◌≡◌, ℕ, zero, suc, ◌+◌, ◌*◌, ◌≤◌, ◌<◌, List, [], ◌∷◌, ◌++◌, refl, sym, ◌∙◌, ap, arith, length, drop, get_or}
use Rattle.std.specs.Prelude.{ℤ}
use Rattle.std.proofs.lemmas.Grind.{common_steps}
use Rattle.field_map.specs.Layouts.{swapped}

-- the next two
swapped_more : (ws : List ℤ) (m : ℕ) (d e : ℤ) → suc m < length ws
    → swapped (drop m ws) ≡ get_or ws (suc m) d ∷ (get_or ws m e ∷ swapped (drop (suc (suc m)) ws))
swapped_more [] m d e h = absurd (omega arith)
swapped_more (a ∷ []) zero d e h = absurd (omega arith)
swapped_more (a ∷ (b ∷ ws)) zero d e h = refl
swapped_more (a ∷ ws) (suc m) d e h = swapped_more ws m d e (omega arith)

-- both are put behind those before
pub swapped_step : (vs ws all : List ℤ) (k : ℕ) (d e : ℤ) → 2 * k + 1 < length ws → vs ++ swapped (drop (2 * k) ws) ≡ all
    → ((vs ++ get_or ws (2 * k + 1) d ∷ []) ++ get_or ws (2 * k) e ∷ []) ++ swapped (drop (2 * (k + 1)) ws) ≡ all
swapped_step vs ws all k d e h so =
    let one : 2 * k + 1 ≡ suc (2 * k) = omega arith in
    let two : 2 * (k + 1) ≡ suc (suc (2 * k)) = omega arith in
    let next : swapped (drop (2 * k) ws)
    ≡ get_or ws (2 * k + 1) d ∷ (get_or ws (2 * k) e ∷ swapped (drop (2 * (k + 1)) ws)) =
    swapped_more ws (2 * k) d e (omega arith)
    ∙ (ap (λ (n : ℕ). get_or ws n d ∷ (get_or ws (2 * k) e ∷ swapped (drop (suc (suc (2 * k))) ws))) (sym one)
    ∙ ap (λ (n : ℕ). get_or ws (2 * k + 1) d ∷ (get_or ws (2 * k) e ∷ swapped (drop n ws))) (sym two)) in
    grind (arith, common_steps)

-- the one that is left over, if one is
pub swapped_end : (ws : List ℤ) (m : ℕ) (d : ℤ) → length ws ≡ suc m → swapped (drop m ws) ≡ get_or ws m d ∷ []
swapped_end [] m d h = absurd (omega arith)
swapped_end (a ∷ []) zero d h = refl
swapped_end (a ∷ (b ∷ ws)) zero d h = absurd (omega arith)
swapped_end (a ∷ ws) (suc m) d h = swapped_end ws m d (omega arith)
