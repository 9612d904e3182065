-- The texts of items, numbered or not, one after another.
use Rattle.std.proofs.Common.{◌≡◌, ◌+◌, ◌<◌, ◌≤◌, ℕ, List, [], ◌∷◌, ◌++◌, take, length, get_or, ap, sym, ◌∙◌, arith}
use Rattle.std.proofs.lemmas.List.{flat_map_more, take_more, take_all}
use Rattle.std.proofs.lemmas.List.FromFn.{length-enumerate_from, get_or-enumerate_from}
use Rattle.std.specs.List.{flat_map, enumerate_from}
use Rattle.plc_figures.specs.Texts.{IsAdded}
use Rattle.plc_figures.proofs.Chains.{equally, then}

-- those of the items before a place
abbrev pub texts_before : {X : Type 0} → (ℕ × X → List ℕ) → List X → ℕ → List ℕ
texts_before text xs i = flat_map text (take i (enumerate_from 0 xs))

texts_more : {X : Type 0} (text : ℕ × X → List ℕ) (xs : List X) (i : ℕ) (d : X) → i < length xs → texts_before text xs i ++ text (i, get_or xs i d) ≡ texts_before text xs (i + 1)
texts_more {X = X} text xs i d lt =
    let numbered : List (ℕ × X) = enumerate_from 0 xs in
    let one = take_more numbered i (i, d) (rw (length-enumerate_from 0 xs) lt) in
    let from_0 : i ≡ 0 + i = omega arith in
    let is = ap {B = ℕ × X} (λ k. (k, get_or xs i d)) from_0 ∙ sym (get_or-enumerate_from 0 xs i (i, d) lt) in
    ap (λ (p : ℕ × X). texts_before text xs i ++ text p) is ∙ flat_map_more text [] (take i numbered) _ ∙ ap (flat_map text) (sym one)

-- the text of one more
pub more : {X : Type 0} (text : ℕ × X → List ℕ) (xs : List X) (i : ℕ) (d : X) {first out new : List ℕ} → i < length xs → IsAdded first (texts_before text xs i) out → IsAdded out (text (i, get_or xs i d)) new → IsAdded first (texts_before text xs (i + 1)) new
more text xs i d lt before added = equally (texts_more text xs i d lt) (then before added)

-- the text of one more that was taken by its place
pub more_at : {X : Type 0} (text : ℕ × X → List ℕ) (xs : List X) (i : ℕ) (x : X) {first out new : List ℕ} → i < length xs → x ≡ get_or xs i x → IsAdded first (texts_before text xs i) out → IsAdded out (text (i, x)) new → IsAdded first (texts_before text xs (i + 1)) new
more_at {X = X} text xs i x lt at before added =
    more text xs i x lt before (equally (ap (λ (it : X). text (i, it)) at) added)

-- those of all
pub all : {X : Type 0} (text : ℕ × X → List ℕ) (xs : List X) (i : ℕ) {first out : List ℕ} → length xs ≤ i → IsAdded first (texts_before text xs i) out → IsAdded first (flat_map text (enumerate_from 0 xs)) out
all text xs i le before = equally (ap (flat_map text) (take_all i (enumerate_from 0 xs) (rw (length-enumerate_from 0 xs) le))) before

plain_more : {X : Type 0} (text : X → List ℕ) (xs : List X) (i : ℕ) (x : X) → i < length xs → x ≡ get_or xs i x → flat_map text (take i xs) ++ text x ≡ flat_map text (take (i + 1) xs)
plain_more {X = X} text xs i x lt is = flat_map_more text [] (take i xs) x ∙ ap (flat_map text) (sym (take_more xs i x lt ∙ ap (λ (y : X). take i xs ++ y ∷ []) (sym is)))

-- the text of one more that has no number
pub one_more : {X : Type 0} (text : X → List ℕ) (xs : List X) (i : ℕ) (x : X) {first out new : List ℕ} → i < length xs → x ≡ get_or xs i x → IsAdded first (flat_map text (take i xs)) out → IsAdded out (text x) new → IsAdded first (flat_map text (take (i + 1) xs)) new
one_more text xs i x lt at before added = equally (plain_more text xs i x lt at) (then before added)

-- the same, where it was taken with a value that stands for one that isn't there
pub one_more_by : {X : Type 0} (text : X → List ℕ) (xs : List X) (i : ℕ) (d : X) {first out new : List ℕ} → i < length xs → IsAdded first (flat_map text (take i xs)) out → IsAdded out (text (get_or xs i d)) new → IsAdded first (flat_map text (take (i + 1) xs)) new
one_more_by text xs i d lt before added = equally (flat_map_more text [] (take i xs) (get_or xs i d) ∙ ap (flat_map text) (sym (take_more xs i d lt))) (then before added)

pub all_plain : {X : Type 0} (text : X → List ℕ) (xs : List X) (i : ℕ) {first out : List ℕ} → length xs ≤ i → IsAdded first (flat_map text (take i xs)) out → IsAdded first (flat_map text xs) out
all_plain {X = X} text xs i le before = equally (ap (flat_map text) (take_all i xs le)) before
