-- A label before the lines of a call.
use Rattle.std.proofs.Common.{◌≡◌, ℕ, ◌<◌, Bool, true, false, List, [], ◌∷◌, length, Option, Some, refl, arith}
use Rattle.std.specs.Prelude.{slice_index_or}
use Rattle.std.specs.List.{insert, remove}
use Rattle.il_units.specs.declared.word.Word.{Word}
use Rattle.il_units.specs.declared.word.Line.{Line}
use Rattle.il_units.specs.Expansion.{is_unlabelled, labelled_lines}

false_true : false ≡ true → ⊥
false_true e = absurd cc

pub some_line : (lines : List Line) → is_unlabelled lines ≡ true → 0 < length lines
some_line [] e = absurd (false_true e)
some_line (line ∷ lines) e = omega arith

-- the first line, with the label
pub first_has_label : (word : Word) (lines : List Line) (line : Line) → is_unlabelled lines ≡ true → line ≡ slice_index_or lines 0 line
    → insert (remove lines 0) 0 (record { label = Some word; words = line.words; left = line.left }) ≡ labelled_lines word lines
first_has_label word [] line e is = absurd (false_true e)
first_has_label word (first ∷ lines) line e is = rw (is, e) refl

-- the label by itself
pub label_alone : (word : Word) (words : List Word) (lines : List Line) → words ≡ [] → is_unlabelled lines ≡ false
    → insert lines 0 (record { label = Some word; words = words; left = word.left }) ≡ labelled_lines word lines
label_alone word words [] none e = rw none refl
label_alone word words (first ∷ lines) none e = rw (none, e) refl
