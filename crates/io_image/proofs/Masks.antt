-- One masked word more.
use Rattle.std.proofs.Common.{◌≡◌, ℕ, ℤ, pos, ◌+◌, List, [], ◌∷◌, ◌++◌, sym, ◌∙◌, ap, ◌==◌, ◌||◌, false, ◌≤◌, length, arith, get_or, slice_set, fold}
use Rattle.std.proofs.lemmas.List.{map-append}
use Rattle.std.proofs.lemmas.List.{length-map}
use Rattle.std.proofs.lemmas.List.Sums.{fold-append}
use Rattle.il_model.specs.declared.cells.Cells.{Cells}
use Rattle.io_image.specs.declared.book.Entry.{Entry}
use Rattle.io_image.specs.declared.book.Entry.TheVariants.{Mask}
use Rattle.io_image.specs.Book.{masked, mask_at, replayed, after_change, change_of, changes_of}

abbrev pub with_word : Cells → ℕ → ℤ → Cells
with_word c at w = record { bits = c.bits; words = slice_set c.words at w }

pub masked_more : (cells sample : Cells) (es fs : List Entry) (at a o : ℕ) (w : ℤ) → cells ≡ replayed sample (changes_of es) → fs ≡ es ++ Mask at a o ∷ []
    → w ≡ masked (get_or cells.words at (pos 0)) a o → with_word cells at w ≡ replayed sample (changes_of fs)
masked_more cells sample es fs at a o w h k r =
    sym (ap (λ (z : List Entry). replayed sample (changes_of z)) k ∙ (ap (fold after_change sample) (map-append change_of es (Mask at a o ∷ []))
    ∙ (fold-append after_change sample (changes_of es) (mask_at at a o ∷ []) ∙ (ap (λ (z : Cells). after_change z (mask_at at a o)) (sym h)
    ∙ ap (with_word cells at) (sym r)))))

-- a book that isn't full has room for one write more
pub room : (es : List Entry) (m : ℕ) → ((length (changes_of es) == 4096) || (m == 18446744073709551615)) ≡ false → length es ≤ 4096 → length es + 1 ≤ 4096
room es m h k = grind (arith, length-map)
