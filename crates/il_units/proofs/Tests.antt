-- The tests of MUX, one after the other.
use Rattle.std.proofs.Common.{◌≡◌, ℕ, suc, ◌+◌, ◌<◌, List, [], ◌∷◌, ◌++◌, length, get_or, drop, map, sym, ap, ◌∙◌, append_assoc, add-one, arith}
use Rattle.std.proofs.lemmas.List.{at_drop_more}
use Rattle.il_reader.specs.Grammar.{OperandText}
use Rattle.il_units.specs.declared.word.Line.{Line}
use Rattle.il_units.specs.Choices.{test_of, tests_from}

-- one more test
pub tests_next : {A : Type 0} (f : A → OperandText) (call : List ℕ) (left n : ℕ) (xs : List A) (before after total : List Line)
    → n < length xs → after ≡ before ++ test_of call left n
    → before ++ tests_from call left n (map f (drop n xs)) ≡ total
    → after ++ tests_from call left (n + 1) (map f (drop (n + 1) xs)) ≡ total
unfolding tests_from
tests_next f call left n [] before after total lt put so_far = absurd (omega arith)
tests_next f call left n (y ∷ ys) before after total lt put so_far =
    let more : map f (drop n (y ∷ ys)) ≡ f (get_or (y ∷ ys) n y) ∷ map f (drop (n + 1) (y ∷ ys)) = at_drop_more (map f) (y ∷ ys) n y lt in
    let behind = map f (drop (n + 1) (y ∷ ys)) in
    let later = tests_from call left (n + 1) behind in
    let step : tests_from call left (suc n) behind ≡ later = ap (λ (k : ℕ). tests_from call left k behind) (sym (add-one n)) in
    let one : tests_from call left n (map f (drop n (y ∷ ys))) ≡ test_of call left n ++ later = rw more (ap (λ (ls : List Line). test_of call left n ++ ls) step) in
    rw put (append_assoc before (test_of call left n) later ∙ ap (λ (ls : List Line). before ++ ls) (sym one) ∙ so_far)
