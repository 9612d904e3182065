-- Words, one at a time; and images compared.
use Rattle.std.proofs.Common.{◌≡◌, ℕ, Bool, true, false, ap₂, sym, List, Some, refl, ap, ◌∙◌}
use Rattle.std.specs.Prelude.{ℤ, ◌&&◌}
use mathlib.Core.Bool.{beq}
use Rattle.std.specs.Bool.{Decides}
use Rattle.std.specs.Cmp.Lexicographic.{pointwise, pointwise_decides}
use Rattle.std.specs.Cmp.Rules.{signed_items}
use Rattle.std.specs.Ordering.{int_eq}
use Rattle.il_model.specs.declared.cells.OutImage.{OutImage}
use Rattle.std.specs.Int.{w16, cast_signed}
use Rattle.vr_wire.specs.declared.fault.ReadError.{ReadError}
use Rattle.vr_wire.specs.declared.fault.ReadError.TheVariants as errors
use Rattle.vr_wire.specs.Reading.{Fails, number_at, word_at}

pub fails_word : (e : ReadError) (bytes : List ℕ) → Fails e (number_at w16 bytes) → Fails e (word_at bytes)
fails_word errors.Memory bytes h = tt
fails_word errors.Malformed bytes h = rw h refl

pub word_read : (bytes : List ℕ) (n : ℕ) (after : List ℕ) (z : ℤ) → number_at w16 bytes ≡ Some (n, after) → z ≡ cast_signed w16 n → word_at bytes ≡ Some (z, after)
word_read bytes n after z h e = rw (h, e) refl

truths : (x y : Bool) → Decides (beq x y) (x ≡ y)
truths true true = (λ h. refl, λ h. refl)
truths true false = (λ h. absurd cc, λ h. absurd cc)
truths false true = (λ h. absurd cc, λ h. absurd cc)
truths false false = (λ h. refl, λ h. refl)

both : (p q : Bool) → (p && q) ≡ true → (p ≡ true) × (q ≡ true)
both true true h = (refl, refl)
both true false h = absurd cc
both false q h = absurd cc

-- what the comparison of two images tells
pub same_image : (a b : OutImage) (r : Bool) → r ≡ (pointwise beq a.cells.bits b.cells.bits && pointwise int_eq a.cells.words b.cells.words) → Decides r (a ≡ b)
same_image a b r e =
    let bits = pointwise_decides truths a.cells.bits b.cells.bits in
    let words = signed_items a.cells.words b.cells.words in (
      λ h. let t = both (pointwise beq a.cells.bits b.cells.bits) (pointwise int_eq a.cells.words b.cells.words) (sym e ∙ h) in
          ap₂ (λ (xs : List Bool) (ys : List ℤ). image xs ys) (bits.0 t.0) (words.0 t.1),
      λ h. e ∙ rw (bits.1 (ap (λ (i : OutImage). i.cells.bits) h), words.1 (ap (λ (i : OutImage). i.cells.words) h)) refl,
    )
  where
    image : List Bool → List ℤ → OutImage
    image xs ys = record { cells = record { bits = xs; words = ys } }
