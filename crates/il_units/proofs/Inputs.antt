-- The inputs of a function behind the first, one after the other, with an operand each.
use Rattle.std.proofs.Common.{◌≡◌, ℕ, ◌+◌, ◌<◌, ◌≤◌, List, [], ◌∷◌, ◌++◌, length, get_or, drop, map, refl, sym, ap, ◌∙◌, append_assoc}
use Rattle.std.specs.List.{flat_map, filter, zip}
use Rattle.std.proofs.lemmas.List.{append-nil, at_drop_more, at_drop_all}
use Rattle.il_reader.specs.Grammar.{OperandText}
use Rattle.il_units.specs.declared.members.Member.{Member}
use Rattle.il_units.specs.declared.word.Line.{Line}
use Rattle.il_units.specs.Calls.{is_input}

-- one operand more goes into the next input
pub input_next : {A : Type 0} (g : Member × OperandText → List Line) (f : A → OperandText) (xs : List A) (i : ℕ) (d : A) (ms more : List Member) (m : Member) (before after total : List Line)
    → i < length xs → filter is_input ms ≡ m ∷ filter is_input more → after ≡ before ++ g (m, f (get_or xs i d))
    → before ++ flat_map g (zip (filter is_input ms) (map f (drop i xs))) ≡ total
    → after ++ flat_map g (zip (filter is_input more) (map f (drop (i + 1) xs))) ≡ total
input_next {A} g f xs i d ms more m before after total lt next put so_far =
    let left : map f (drop i xs) ≡ f (get_or xs i d) ∷ map f (drop (i + 1) xs) = at_drop_more (map f) xs i d lt in
    let later = flat_map g (zip (filter is_input more) (map f (drop (i + 1) xs))) in
    let one : flat_map g (zip (filter is_input ms) (map f (drop i xs))) ≡ g (m, f (get_or xs i d)) ++ later = rw (next, left) refl in
    rw put (append_assoc before (g (m, f (get_or xs i d))) later ∙ ap (λ (ls : List Line). before ++ ls) (sym one) ∙ so_far)

behind_nothing : (g : Member × OperandText → List Line) (zs : List (Member × OperandText)) (before total : List Line) → zs ≡ [] → before ++ flat_map g zs ≡ total → before ≡ total
behind_nothing g zs before total none so_far =
    let nothing : flat_map g zs ≡ [] = rw none refl in
    sym (append-nil before) ∙ ap (λ (ls : List Line). before ++ ls) (sym nothing) ∙ so_far

zip_none : (ms : List Member) → zip {X = OperandText} ms [] ≡ []
zip_none [] = refl
zip_none (m ∷ ms) = refl

-- no input is left
pub no_input_left : (g : Member × OperandText → List Line) (ms : List Member) (ys : List OperandText) (before total : List Line) → filter is_input ms ≡ []
    → before ++ flat_map g (zip (filter is_input ms) ys) ≡ total → before ≡ total
no_input_left g ms ys before total none so_far =
    let empty : zip (filter is_input ms) ys ≡ [] = rw none refl in
    behind_nothing g (zip (filter is_input ms) ys) before total empty so_far

-- no operand is left
pub no_operand_left : {A : Type 0} (g : Member × OperandText → List Line) (f : A → OperandText) (ms : List Member) (xs : List A) (i : ℕ) (before total : List Line) → length xs ≤ i
    → before ++ flat_map g (zip (filter is_input ms) (map f (drop i xs))) ≡ total → before ≡ total
no_operand_left g f ms xs i before total le so_far =
    let none : map f (drop i xs) ≡ [] = at_drop_all (map f) xs i le in
    let empty : zip (filter is_input ms) (map f (drop i xs)) ≡ [] = rw none (zip_none (filter is_input ms)) in
    behind_nothing g (zip (filter is_input ms) (map f (drop i xs))) before total empty so_far
