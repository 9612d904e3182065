-- Why a text gives no change.
use Rattle.std.proofs.Common.{◌≡◌, ◌≤◌, inl, inr, ℕ, List, length, Bool, false, true, Result, Ok, Err, IfErr, Vec, Global, refl, subst, sym, arith}
use Rattle.std.specs.Result.{IsErrAnd}
use Rattle.il_model.specs.declared.limits.TheConstants.{MOST_IMAGE_BYTES}
use Rattle.il_text.specs.declared.fault.Fault.{Fault}
use Rattle.il_text.specs.declared.fault.Fault.TheVariants as faults
use Rattle.plc_tool.specs.Calls.{IsFaultOfChange}
use Rattle.il_text.specs.Meaning.{IsImageOfText, IsTextFault, OrMemory}

wider : (text : List ℕ) (e : Fault) → OrMemory (IsTextFault text) e → OrMemory (IsFaultOfChange text) e
wider text e (inl h) = inl (inl h)
wider text e (inr h) = inr h

-- what `?` hands on
pub unassembled : (text : List ℕ) (e : Fault) (r : Result (Vec ℕ Global) Fault) → IsErrAnd r (λ x. x ≡ e) → OrMemory (IsTextFault text) e → IfErr r (OrMemory (IsFaultOfChange text))
unassembled text e (Ok v) wrong h = absurd wrong
unassembled text e (Err f) is h = subst (λ (x : Fault). OrMemory (IsFaultOfChange text) x) (sym is) (wider text e h)

no_such : (let b : Bool = false in b ≡ true) → ⊥
no_such h = cc

-- `ImageBytes::new` takes what is not too long
pub too_long : (text image : List ℕ) → IsImageOfText text image → (length image ≤ MOST_IMAGE_BYTES → (let b : Bool = false in b ≡ true)) → OrMemory (IsFaultOfChange text) faults.Commands
too_long text image is taken =
    let untaken : length image ≤ MOST_IMAGE_BYTES → ⊥ = λ h. no_such (taken h) in
    inl (inr (refl, record { image = image; is = is; long = omega (arith, untaken) }))
