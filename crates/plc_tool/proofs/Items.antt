-- One more of numbered items that are no numbers.
use Rattle.std.proofs.Common.{◌≡◌, ◌+◌, ◌<◌, ℕ, List, length, get_or, subst}
use Rattle.std.specs.Fmt.{HasWritten}
use Rattle.std.specs.declared.fmt.Formatter.{Formatter}
use Rattle.il_text.proofs.Numbered.{texts_before, more_written}

module _ {W : Type 0} (took : W → List ℕ → W → Type 0) {X : Type 0} (text : ℕ × X → List ℕ) (xs : List X) where
  -- the item that was read there
  pub item_written : (f g h : Formatter W) (i : ℕ) (x : X) → i < length xs → x ≡ get_or xs i x → HasWritten took f (texts_before text xs i) g → HasWritten took g (text (i, x)) h → HasWritten took f (texts_before text xs (i + 1)) h
  item_written f g h i x lt is a b = more_written took text xs f g h i x lt a (subst (λ y. HasWritten took g (text (i, y)) h) is b)
