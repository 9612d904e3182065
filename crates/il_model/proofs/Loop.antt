-- Going over the instructions, from left to right.
use Rattle.std.proofs.Common.{◌≡◌, ℕ, zero, suc, ◌+◌, ◌<◌, ◌≤◌, true, false, length, List, Some, Ok, Err, refl, sym, ap, ◌∙◌, arith, get_or}
use Rattle.std.specs.Prelude.{slice_get, nat_lt}
use Rattle.std.proofs.lemmas.Bool.{ltb-true, ltb-false}
use Rattle.std.proofs.lemmas.Option.{slice_get_read}
use Rattle.il_model.specs.declared.program.Instr.{Instr}
use Rattle.il_model.specs.declared.typing.TypeFault.{TypeFault}
use Rattle.il_model.specs.Program.{Program}
use Rattle.il_model.specs.Typing.{Shape}
use Rattle.il_model.specs.Checking.{◌>>=◌, shape_at, after_at, after_line, with_number, judgement_of, typing_end}

pub goes_at : (Q : Program) (n : ℕ) (sh sh' : Shape) (line : Instr) → shape_at Q n ≡ Ok sh → slice_get Q.code n ≡ Some line → after_line Q n sh line ≡ Ok sh' → shape_at Q (n + 1) ≡ Ok sh'
goes_at Q n sh sh' line at here h =
    let is : n + 1 ≡ suc n = omega arith in
    ap (shape_at Q) is ∙ ap (λ r. r >>= λ sh. after_at Q n sh (slice_get Q.code n)) at ∙ ap (after_at Q n sh) here ∙ ap (with_number n) h

pub err_after : (Q : Program) (m n : ℕ) (x : TypeFault × ℕ) → shape_at Q n ≡ Err x → n ≤ m → shape_at Q m ≡ Err x
err_after Q zero n x e le = let is : 0 ≡ n = omega arith in ap (shape_at Q) is ∙ e
err_after Q (suc m) n x e le =
    elim (nat_lt m n) as (λ v. nat_lt m n ≡ v → shape_at Q (suc m) ≡ Err x) [
      | true ↦ λ h. let lt : m < n = ltb-true m n h in let is : suc m ≡ n = omega arith in ap (shape_at Q) is ∙ e
      | false ↦ λ h. let le2 : n ≤ m = ltb-false m n h in ap (λ r. r >>= λ sh. after_at Q m sh (slice_get Q.code m)) (err_after Q m n x e le2)
    ] refl

pub err_here : (Q : Program) (n : ℕ) (sh : Shape) (line : Instr) (fault : TypeFault) → shape_at Q n ≡ Ok sh → slice_get Q.code n ≡ Some line → after_line Q n sh line ≡ Err fault → shape_at Q (suc n) ≡ Err (fault, n)
err_here Q n sh line fault at here h = ap (λ r. r >>= λ sh. after_at Q n sh (slice_get Q.code n)) at ∙ ap (after_at Q n sh) here ∙ ap (with_number n) h

pub fails_at : (Q : Program) (n : ℕ) (sh : Shape) (line : Instr) (fault : TypeFault) → n < length Q.code → shape_at Q n ≡ Ok sh → slice_get Q.code n ≡ Some line → after_line Q n sh line ≡ Err fault → Err (fault, n) ≡ judgement_of Q
fails_at Q n sh line fault lt at here h =
    sym (ap (λ r. r >>= typing_end Q) (err_after Q (length Q.code) (suc n) (fault, n) (err_here Q n sh line fault at here h) (omega arith)))

-- the element that a read gave
pub read_line : (Q : Program) (code : List Instr) (n : ℕ) (line : Instr) → code ≡ Q.code → n < length code → line ≡ get_or code n line → slice_get Q.code n ≡ Some line
read_line Q code n line e lt h = ap (λ (c : List Instr). slice_get c n) (sym e) ∙ slice_get_read code (length code) n line refl lt h
