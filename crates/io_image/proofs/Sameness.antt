-- Two views that compare as equal are equal.
use Rattle.std.proofs.Common.{◌≡◌, ◌==◌, ◌&&◌, Bool, true, false, sym}
use Rattle.std.specs.Bool.{OnTrue}
use Rattle.std.proofs.lemmas.Bool.Decides.{Decides-and, Decides-eqb, Decides-int_eq}
use Rattle.std.specs.Cmp.{booleans_Decides}
use Rattle.std.specs.Ordering.{int_eq}
use mathlib.Core.Bool.{beq}
use lib.Pointwise.{pointwise, pointwise_decides}
use Rattle.io_image.specs.declared.release.View.{View}

pub same_view : (a b : View) (r : Bool) → r ≡ (a.number == b.number && (pointwise beq a.image.cells.bits b.image.cells.bits && pointwise int_eq a.image.cells.words b.image.cells.words)) → OnTrue r (a ≡ b)
same_view a b false e = tt
same_view a b true e =
    let bits = pointwise beq a.image.cells.bits b.image.cells.bits in
    let words = pointwise int_eq a.image.cells.words b.image.cells.words in
    let all = Decides-and (a.number == b.number) (bits && words) (Decides-eqb a.number b.number)
    (Decides-and bits words (pointwise_decides booleans_Decides a.image.cells.bits b.image.cells.bits) (pointwise_decides Decides-int_eq a.image.cells.words b.image.cells.words)) in
    let parts = all.0 (sym e) in
    λ i. record { number = parts.0 i; image = record { cells = record { bits = parts.1.0 i; words = parts.1.1 i } } }
