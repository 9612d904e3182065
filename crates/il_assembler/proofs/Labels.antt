-- How many labels there are.
use Rattle.std.proofs.Common.{◌≡◌, ℕ, ◌+◌, List, [], ◌∷◌, length, cond, Option, Some, None, refl, ◌∙◌, arith}
use Rattle.std.specs.Prelude.{count_by, is_some}
use Rattle.std.proofs.lemmas.List.Sums.{sum_by-cons}
use Rattle.il_model.specs.declared.program.Instr.{Instr}
use Rattle.il_model.specs.Marks.{Mark, with_mark, marks_from, word_count}

one_more : (n k : ℕ) (label : Option (List ℕ)) (ms : List Mark) → k ≡ length ms → cond (is_some label) 1 0 + k ≡ length (with_mark n label ms)
one_more n k None ms e = omega (arith, e)
one_more n k (Some name) ms e = omega (arith, e)

pub labels_counted : (n : ℕ) (code : List Instr) → count_by (λ (line : Instr). is_some line.label) code ≡ length (marks_from n code)
labels_counted n [] = refl
labels_counted n (line ∷ code) = sum_by-cons (λ (line : Instr). cond (is_some line.label) 1 0) line code ∙ one_more n (count_by (λ (line : Instr). is_some line.label) code) line.label (marks_from (n + word_count line) code) (labels_counted (n + word_count line) code)
