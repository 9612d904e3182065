-- Texts that were added one behind the other.
use Rattle.std.proofs.Common.{◌≡◌, ℕ, List, [], ◌++◌, ap, ◌∙◌, sym, append-nil, append_assoc}
use Rattle.plc_figures.specs.Texts.{IsAdded}

-- one text, and then what was added behind it
pub then : {s t u a b : List ℕ} → IsAdded s a t → IsAdded t b u → IsAdded s (a ++ b) u
then {s = s} {a = a} {b = b} h k = record { is = k.is ∙ ap (λ (l : List ℕ). l ++ b) h.is ∙ append_assoc s a b }

-- the same text, by an equal value
pub equally : {s t a b : List ℕ} → a ≡ b → IsAdded s a t → IsAdded s b t
equally {s = s} e h = record { is = h.is ∙ ap (λ (l : List ℕ). s ++ l) e }

-- the same, by a value that's yet to be found
pub that : {s t a : List ℕ} (b : List ℕ) → IsAdded s a t → a ≡ b → IsAdded s b t
that b h e = equally e h

-- no text
pub nothing : {s : List ℕ} → IsAdded s [] s
nothing {s = s} = record { is = sym (append-nil s) }
