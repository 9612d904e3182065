-- Where nothing is forced, cells stay as they are.
use Rattle.std.proofs.Common.{◌≡◌, ℕ, zero, suc, Bool, false, List, [], ◌∷◌, None, refl, sym, ap, ◌∙◌}
use Rattle.std.specs.Prelude.{replicate}
use Rattle.il_model.specs.declared.cells.Cells.{Cells}
use Rattle.ctl_model.specs.declared.forces.Forces.{Forces}
use Rattle.ctl_model.specs.Forces.{overlay, with_forces, no_mask}
use Rattle.ctl_scan.specs.Kept.{MayForce}

none_laid : {A : Type 0} (n : ℕ) (xs : List A) → overlay (replicate n None) xs ≡ xs
none_laid zero xs = refl
none_laid (suc n) [] = refl
none_laid (suc n) (x ∷ xs) = ap (λ ys. x ∷ ys) (none_laid n xs)

same_cells : (c : Cells) → with_forces no_mask c ≡ c
same_cells c = rw (none_laid 512 c.bits, none_laid 64 c.words) refl

pub inputs_same : (may : Bool) (f : Forces) (c : Cells) → MayForce may f → may ≡ false → c ≡ with_forces f.input c
inputs_same may f c h e = sym (ap (λ (g : Forces). with_forces g.input c) (h e) ∙ same_cells c)

pub outputs_same : (may : Bool) (f : Forces) (c : Cells) → MayForce may f → may ≡ false → c ≡ with_forces f.output c
outputs_same may f c h e = sym (ap (λ (g : Forces). with_forces g.output c) (h e) ∙ same_cells c)
