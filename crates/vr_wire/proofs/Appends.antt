-- Fields that were put one behind the other.
use Rattle.std.proofs.Common.{◌≡◌, ℕ, List, ◌++◌, append_assoc, ap, ◌∙◌}

-- two fields, and what follows
pub behind_two : (out a b tail one two new : List ℕ) → one ≡ out ++ a → two ≡ one ++ b → new ≡ two ++ tail → new ≡ out ++ (a ++ (b ++ tail))
behind_two out a b tail one two new e f g = g ∙ (ap (λ (x : List ℕ). x ++ tail) f ∙ (ap (λ (x : List ℕ). (x ++ b) ++ tail) e ∙ (append_assoc (out ++ a) b tail ∙ append_assoc out a (b ++ tail))))

-- one field, and what follows
pub behind_one : (out a tail one new : List ℕ) → one ≡ out ++ a → new ≡ one ++ tail → new ≡ out ++ (a ++ tail)
behind_one out a tail one new e g = g ∙ (ap (λ (x : List ℕ). x ++ tail) e ∙ append_assoc out a tail)

-- three, and what follows
pub behind_three : (out a b c tail one two three new : List ℕ) → one ≡ out ++ a → two ≡ one ++ b → three ≡ two ++ c → new ≡ three ++ tail → new ≡ out ++ (a ++ (b ++ (c ++ tail)))
behind_three out a b c tail one two three new e f g h = behind_two out a b (c ++ tail) one two new e f (behind_one two c tail three new g h)
