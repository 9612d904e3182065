use Rattle.std.proofs.Common.{◌≡◌, ℕ, ◌+◌, ◌-◌, ◌≤◌, List, [], ◌∷◌, ◌++◌, length, take, get_or, ap, ap₂, ◌∙◌, arith, refl}
use Rattle.std.proofs.Math.ListN.{set, length-set}
use Rattle.std.specs.Int.{w16, to_be_bytes}
use Rattle.std.proofs.lemmas.Slice.{take-put_mid}
use Rattle.net_records.proofs.outgoing.put_record.Goals as goal

-- two cells were written
two_set : (xs : List ℕ) (a b : ℕ) → 2 ≤ length xs → take 2 (set (set xs 0 a) 1 b) ≡ a ∷ b ∷ []
two_set [] a b le = absurd (omega arith)
two_set (x ∷ []) a b le = absurd (omega arith)
two_set (x ∷ y ∷ xs) a b le = refl

pub returns : goal.returns
returns c =
    let body = c.args.body.now in
    let cells = c.to_be_bytes.result in
    let high = get_or cells 0 0 in
    let low = get_or cells 1 0 in
    let out = set (set c.args.out.now 0 high) 1 low in
    let front = take-put_mid 2 (length body + 2 - 2) out c.copy_from_slice.new.self (length body + 2) (omega (arith, ap length c.copy_from_slice.ensures.after)) (simp length-set (omega arith)) in
    front ∙ (ap₂ (λ (x y : List ℕ). x ++ y) (two_set c.args.out.now high low (omega arith)) c.copy_from_slice.ensures.after ∙ ap (λ (x : List ℕ). get_or x 0 0 ∷ get_or x 1 0 ∷ body) c.to_be_bytes.ensures)
