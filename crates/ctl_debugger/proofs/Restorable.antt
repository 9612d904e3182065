-- Whether a snapshot has a controller.
use Rattle.std.proofs.Common.{◌≡◌, ℕ, Bool, true, false, List, inl, inr, sym, subst, ◌∙◌}
use Rattle.std.specs.Prelude.{MatchBool}
use Rattle.il_model.specs.Snapshots.{SavedBlock, SavedController}
use Rattle.il_model.specs.Program.{Program}
use Rattle.ctl_model.specs.Snapshots.{fits}
use Rattle.ctl_scan.specs.Kept.{HaveBlocks, HasNoState}
use Rattle.ctl_debugger.specs.Restored.{CanRestore}

-- it doesn't fit
pub no_fit : (Q : Program) (budget : ℕ) (s : SavedController) (b : Bool) → b ≡ false → b ≡ fits Q budget s → CanRestore Q budget s b
no_fit Q budget s b is e = subst (CanRestore Q budget s) (sym is) (inl (sym e ∙ is))

judged : (Q : Program) (budget : ℕ) (s : SavedController) (b : Bool) → fits Q budget s ≡ true → MatchBool b (HaveBlocks s.instances) (HasNoState s.instances) → CanRestore Q budget s b
judged Q budget s true fit has = (fit, has)
judged Q budget s false fit has = inr (fit, has)

-- it fits, and its blocks are judged
pub blocks_judged : (Q : Program) (budget : ℕ) (s : SavedController) (b : Bool) (xs : List SavedBlock) → xs ≡ s.instances → fits Q budget s ≡ true → MatchBool b (HaveBlocks xs) (HasNoState xs) → CanRestore Q budget s b
blocks_judged Q budget s b xs is fit has = judged Q budget s b fit (subst (λ (ys : List SavedBlock). MatchBool b (HaveBlocks ys) (HasNoState ys)) is has)
