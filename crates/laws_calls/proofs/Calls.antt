-- Where the labels of a body stand that is placed, and those behind it.
use Rattle.std.proofs.Common.{◌≡◌, ℕ, true, false, List, ◌∷◌, ◌++◌, map, Option, Some, None, ap, ◌∙◌, codes}
use Rattle.std.specs.Prelude.{option_map}
use Rattle.std.specs.List.{AllByRecursion}
use Rattle.std.specs.Str.{bytes_eq}
use Rattle.il_model.specs.Words.{under}
use Rattle.il_units.specs.declared.word.Line.{Line}
use Rattle.il_units.specs.Words.{mark, Placing, placed_line}
use Rattle.il_units.specs.Calls.{back, behind}
use Rattle.laws_calls.specs.Lines.{from}
use Rattle.laws_calls.proofs.Labels.{under_same, bytes_self, bytes_differ, from_found, from_passed, from_first, from_next, from_placed, HasLabelWord}
use Rattle.laws_calls.proofs.Fragments.{IsStraight, none_straight}

placed_by : (at : Placing) (name : List ℕ) (before ls tail : List Line) (o : Option (List Line)) → from (under at.call name) before ≡ None → from (under at.call name) tail ≡ None
    → from (under at.call name) (map (placed_line at) ls) ≡ option_map (map (placed_line at)) o
    → from (under at.call name) (before ++ (map (placed_line at) ls ++ tail)) ≡ option_map (λ (r : List Line). map (placed_line at) r ++ tail) o
placed_by at name before ls tail None lacks none e = from_passed (under at.call name) before (map (placed_line at) ls ++ tail) lacks ∙ from_passed (under at.call name) (map (placed_line at) ls) tail e ∙ none
placed_by at name before ls tail (Some r) lacks none e = from_passed (under at.call name) before (map (placed_line at) ls ++ tail) lacks ∙ from_found (under at.call name) (map (placed_line at) ls) tail (map (placed_line at) r) e

-- a label of the body stands there
pub placed_from : (at : Placing) (name : List ℕ) (before ls tail : List Line) → from (under at.call name) before ≡ None → AllByRecursion HasLabelWord ls → from (under at.call name) tail ≡ None
    → from (under at.call name) (before ++ (map (placed_line at) ls ++ tail)) ≡ option_map (λ (r : List Line). map (placed_line at) r ++ tail) (from name ls)
placed_from at name before ls tail lacks all none = placed_by at name before ls tail (from name ls) lacks none (from_placed at name ls all)

-- one that is none of the body stands behind it
pub placed_behind : (at : Placing) (name : List ℕ) (before ls tail : List Line) → from (under at.call name) before ≡ None → AllByRecursion HasLabelWord ls → from name ls ≡ None
    → from (under at.call name) (before ++ (map (placed_line at) ls ++ tail)) ≡ from (under at.call name) tail
placed_behind at name before ls tail lacks all none =
    from_passed (under at.call name) before (map (placed_line at) ls ++ tail) lacks ∙ from_passed (under at.call name) (map (placed_line at) ls) tail (from_placed at name ls all ∙ ap (option_map (map (placed_line at))) none)

-- ---- marks

pub past_mark : (call name word : List ℕ) (left : ℕ) (rest : List Line) → (word ≡ name → ⊥) → from (under call name) (mark (under call word) left ∷ rest) ≡ from (under call name) rest
past_mark call name word left rest lacks = from_next (under call name) (mark (under call word) left) rest (under_same call word name ∙ bytes_differ word name lacks)

pub at_mark : (call name : List ℕ) (left : ℕ) (rest : List Line) → from (under call name) (mark (under call name) left ∷ rest) ≡ Some (mark (under call name) left ∷ rest)
at_mark call name left rest = from_first (under call name) (mark (under call name) left) rest (bytes_self (under call name))

-- ---- what stands behind the body of a block

abbrev pub block_tail : List ℕ → ℕ → List Line → List Line → List Line
block_tail call left outs rest = mark (back call) left ∷ (outs ++ mark (behind call) left ∷ rest)

pub tail_without : (call name : List ℕ) (left : ℕ) (outs rest : List Line) → (codes "RET" ≡ name → ⊥) → (codes "CAL" ≡ name → ⊥) → AllByRecursion IsStraight outs
    → from (under call name) rest ≡ None → from (under call name) (block_tail call left outs rest) ≡ None
tail_without call name left outs rest no_return no_call all none =
    past_mark call name (codes "RET") left (outs ++ mark (behind call) left ∷ rest) no_return
    ∙ from_passed (under call name) outs (mark (behind call) left ∷ rest) (none_straight (under call name) outs all)
    ∙ past_mark call name (codes "CAL") left rest no_call ∙ none

return_or_call : codes "RET" ≡ codes "CAL" → ⊥
return_or_call e = let f : true ≡ false = ap (λ (x : List ℕ). bytes_eq (codes "RET") x) e in absurd (cc f)

pub tail_behind : (call : List ℕ) (left : ℕ) (outs rest : List Line) → AllByRecursion IsStraight outs
    → from (behind call) (block_tail call left outs rest) ≡ Some (mark (behind call) left ∷ rest)
tail_behind call left outs rest all =
    past_mark call (codes "CAL") (codes "RET") left (outs ++ mark (behind call) left ∷ rest) return_or_call
    ∙ from_passed (behind call) outs (mark (behind call) left ∷ rest) (none_straight (behind call) outs all)
    ∙ at_mark call (codes "CAL") left rest
