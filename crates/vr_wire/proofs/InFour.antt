-- What is put piece by piece.
use Rattle.std.proofs.Common.{◌≡◌, List, ◌++◌, Result, Ok, Err, ap, ◌∙◌}
use Rattle.std.specs.Prelude.{OnOk}
use Rattle.std.proofs.lemmas.List.{append_assoc}

-- four pieces behind one another
pub in_four : {X E A : Type 0} (r : Result X E) (a b c d e p q s t : List A) → b ≡ a ++ p → c ≡ b ++ q → d ≡ c ++ s → OnOk r (e ≡ d ++ t) → OnOk r (e ≡ a ++ (p ++ (q ++ (s ++ t))))
in_four (Ok x) a b c d e p q s t one two three h =
    h
    ∙ ap (λ z. z ++ t) (three ∙ ap (λ z. z ++ s) (two ∙ ap (λ z. z ++ q) one))
    ∙ append_assoc ((a ++ p) ++ q) s t
    ∙ append_assoc (a ++ p) q (s ++ t)
    ∙ append_assoc a p (q ++ (s ++ t))
in_four (Err x) a b c d e p q s t one two three h = tt
