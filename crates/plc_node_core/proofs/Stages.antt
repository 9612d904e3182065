-- A stage whose bits and words are all written has the cells that were written.
use Rattle.std.proofs.Common.{◌≡◌, ◌+◌, ℕ, Bool, List, [], ◌∷◌, ◌++◌, length, take, drop, Option, Some, None, refl, sym, ap, ◌∙◌, subst, append-nil, arith}
use Rattle.std.specs.List.{splice}
use Rattle.std.proofs.lemmas.List.{drop_all}
use Rattle.il_model.specs.declared.cells.Cells.{Cells}
use Rattle.io_image.specs.Book.{Book, bits_at, words_at, cells_of, replayed, sampled, with_change, Changed}
use Rattle.io_image.specs.Calls.{Does, sample_gave, wrote}

whole : {A : Type 0} (xs ys : List A) → length xs ≡ length ys → splice xs 0 (0 + length ys) ys ≡ ys
whole xs ys same = rw (drop_all (0 + length ys) xs (omega (arith, same))) (append-nil ys)

all_written : (shown cells : Cells) → length shown.bits ≡ length cells.bits → length shown.words ≡ length cells.words → replayed shown (bits_at 0 cells.bits ∷ words_at 0 cells.words ∷ []) ≡ cells
all_written shown cells bits words =
    ap (λ b. let c : Cells = record { bits = b; words = splice shown.words 0 (0 + length cells.words) cells.words } in c) (whole shown.bits cells.bits bits)
    ∙ ap (λ w. let c : Cells = record { bits = cells.bits; words = w } in c) (whole shown.words cells.words words)

module _ {P Q : Book → Book → Type 0} (shown cells : Cells) (n k l : ℕ)
    (bits : length shown.bits ≡ length cells.bits) (words : length shown.words ≡ length cells.words)
    (first : (b c : Book) → P b c → Does b (wrote (bits_at 0 cells.bits) k) c)
    (second : (b c : Book) → Q b c → Does b (wrote (words_at 0 cells.words) l) c) where
  filled_book : (a b c d : Book) → Does a (sample_gave shown n) b → P b c → Q c d → cells_of d ≡ cells
  filled_book a b c d sample write more =
      ap cells_of ((second c d more).0 ∙ ap (λ x. with_change x (words_at 0 cells.words)) ((first b c write).0 ∙ ap (λ x. with_change x (bits_at 0 cells.bits)) sample.0))
      ∙ ap (λ x. replayed x (bits_at 0 cells.bits ∷ words_at 0 cells.words ∷ [])) (sym sample.1)
      ∙ all_written shown cells bits words

  pub filled : (a b c d : Option Book) → Changed a b (λ x y. Does x (sample_gave shown n) y) → Changed b c P → Changed c d Q → Changed a d (λ x y. cells_of y ≡ cells)
  filled None b c d sample write more =
      subst (λ x. Changed x d Q) (subst (λ x. Changed x c P) sample write) more
  filled (Some a) None c d sample write more = absurd sample
  filled (Some a) (Some b) None d sample write more = absurd write
  filled (Some a) (Some b) (Some c) None sample write more = absurd more
  filled (Some a) (Some b) (Some c) (Some d) sample write more = filled_book a b c d sample write more
