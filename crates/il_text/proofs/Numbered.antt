-- The texts of numbered items, one after another.
use Rattle.std.proofs.Common.{◌≡◌, ◌+◌, ◌<◌, ◌≤◌, ℕ, List, [], ◌++◌, take, length, get_or, ap, sym, ◌∙◌, arith}
use Rattle.std.proofs.lemmas.List.{flat_map_more, take_more, take_all}
use Rattle.std.proofs.lemmas.List.FromFn.{length-enumerate_from, get_or-enumerate_from}
use Rattle.std.specs.List.{flat_map, enumerate_from}
use Rattle.std.proofs.Output.{has_written_append, has_written_of_eq, writes_in_calls_nil}
use Rattle.std.specs.Fmt.{HasWritten, IsPlainFormatter}
use Rattle.std.specs.declared.fmt.Formatter.{Formatter}

-- those of the items before a place
abbrev pub texts_before : {X : Type 0} → (ℕ × X → List ℕ) → List X → ℕ → List ℕ
texts_before text xs i = flat_map text (take i (enumerate_from 0 xs))

texts_more : {X : Type 0} (text : ℕ × X → List ℕ) (xs : List X) (i : ℕ) (d : X) → i < length xs → texts_before text xs i ++ text (i, get_or xs i d) ≡ texts_before text xs (i + 1)
texts_more {X = X} text xs i d lt =
    let numbered : List (ℕ × X) = enumerate_from 0 xs in
    let one = take_more numbered i (i, d) (rw (length-enumerate_from 0 xs) lt) in
    let from_0 : i ≡ 0 + i = omega arith in
    let is = ap {B = ℕ × X} (λ k. (k, get_or xs i d)) from_0 ∙ sym (get_or-enumerate_from 0 xs i (i, d) lt) in
    ap (λ (p : ℕ × X). texts_before text xs i ++ text p) is ∙ flat_map_more text [] (take i numbered) _ ∙ ap (flat_map text) (sym one)

texts_all : {X : Type 0} (text : ℕ × X → List ℕ) (xs : List X) (i : ℕ) → length xs ≤ i → texts_before text xs i ≡ flat_map text (enumerate_from 0 xs)
texts_all {X = X} text xs i le =
    ap (flat_map text) (take_all i (enumerate_from 0 xs) (rw (length-enumerate_from 0 xs) le))

module _ {W : Type 0} (took : W → List ℕ → W → Type 0) {X : Type 0} (text : ℕ × X → List ℕ) (xs : List X) where
  -- nothing yet
  pub none_written : (f : Formatter W) → IsPlainFormatter f → HasWritten took f (texts_before text xs 0) f
  none_written f plain = record { wrote = writes_in_calls_nil took f.writer; plain = plain }

  -- one item more
  pub more_written : (f g h : Formatter W) (i : ℕ) (d : X) → i < length xs → HasWritten took f (texts_before text xs i) g → HasWritten took g (text (i, get_or xs i d)) h → HasWritten took f (texts_before text xs (i + 1)) h
  more_written f g h i d lt a b = has_written_of_eq took _ _ _ _ (texts_more text xs i d lt) (has_written_append took _ _ _ _ _ a b)

  -- all of them
  pub all_written : (f g : Formatter W) (i : ℕ) → length xs ≤ i → HasWritten took f (texts_before text xs i) g → HasWritten took f (flat_map text (enumerate_from 0 xs)) g
  all_written f g i le h = has_written_of_eq took _ _ _ _ (texts_all text xs i le) h
