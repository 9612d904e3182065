-- Going over numbers that rise.
use Rattle.std.proofs.Common.{◌≡◌, ℕ, ◌+◌, ◌<◌, ◌≤◌, Bool, true, false, leb, List, [], ◌∷◌, length, get_or, drop, refl, sym, ap, ◌∙◌, add-one, arith, length-drop, drop-cons, map}
use Rattle.std.specs.Prelude.{◌&&◌}
use Rattle.std.proofs.lemmas.Bool.{le-leb, lt-leb}
use Rattle.std.proofs.lemmas.List.{nil_from_length, get_or-map}
use Rattle.vr_wire.specs.Snapshots.{rises_from}

one_on : (xs : List ℕ) (i n : ℕ) → i < length xs → rises_from n (drop i xs) ≡ (leb n (get_or xs i 0) && rises_from (get_or xs i 0 + 1) (drop (i + 1) xs))
one_on xs i n lt = ap (rises_from n) (drop-cons xs i 0 lt ∙ ap (λ (j : ℕ). get_or xs i 0 ∷ drop j xs) (sym (add-one i)))

pub goes_up : (xs : List ℕ) (i n x : ℕ) (total : Bool) → i < length xs → x ≡ get_or xs i 0 → n ≤ x → rises_from n (drop i xs) ≡ total → rises_from (x + 1) (drop (i + 1) xs) ≡ total
goes_up xs i n x total lt is le so_far =
    let yes : leb n (get_or xs i 0) ≡ true = le-leb n (get_or xs i 0) (omega (arith, is, le)) in
    let one : rises_from n (drop i xs) ≡ rises_from (get_or xs i 0 + 1) (drop (i + 1) xs) = one_on xs i n lt ∙ rw yes refl in
    ap (λ (y : ℕ). rises_from (y + 1) (drop (i + 1) xs)) is ∙ (sym one ∙ so_far)

pub goes_down : (xs : List ℕ) (i n x : ℕ) (total : Bool) → i < length xs → x ≡ get_or xs i 0 → x < n → rises_from n (drop i xs) ≡ total → false ≡ total
goes_down xs i n x total lt is less so_far =
    let no : leb n (get_or xs i 0) ≡ false = lt-leb n (get_or xs i 0) (omega (arith, is, less)) in
    let one : rises_from n (drop i xs) ≡ false = one_on xs i n lt ∙ rw no refl in
    sym one ∙ so_far

pub at_the_end : (xs : List ℕ) (i n : ℕ) (total : Bool) → length xs ≤ i → rises_from n (drop i xs) ≡ total → true ≡ total
at_the_end xs i n total le so_far =
    let none : drop i xs ≡ [] = nil_from_length (drop i xs) (omega (arith, length-drop i xs)) in
    ap (rises_from n) (sym none) ∙ so_far

pub key_there : {X : Type 0} (key : X → ℕ) (xs : List X) (i : ℕ) (d : X) (n : ℕ) → i < length xs → n ≡ key (get_or xs i d) → n ≡ get_or (map key xs) i 0
key_there key xs i d n lt is = is ∙ sym (get_or-map key xs i d 0 lt)
