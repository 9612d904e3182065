use Rattle.std.proofs.Common.{◌≡◌, ◌-◌, ◌+◌, List, ℕ, ◌++◌, length, replicate, get_or, ap, ◌∙◌, arith, refl}
use Rattle.std.proofs.Math.ListN.{set}
use Rattle.std.proofs.Math.Seq.{paste}
use Rattle.std.proofs.lemmas.List.{drop-replicate}
use Rattle.std.proofs.lemmas.List.Edits.{paste_more, paste_all}
use Rattle.net_keys.proofs.hmac.filled.Goals as goal

pub loop-at-preserved : goal.loop-at-preserved
loop-at-preserved c =
    let bytes = c.args.bytes.now in
    let i : ℕ = c.loop-at.at in
    let byte : ℕ = get_or c.args.bytes.now c.loop-at.at 0 in
    let same : i ≡ 0 + i = omega arith in
    ap (λ (l : List ℕ). set l i byte) c.loop-at.invariant
    ∙ (ap (λ (j : ℕ). set (paste (replicate 64 0) 0 bytes i) j byte) same
    ∙ paste_more (replicate 64 0) 0 bytes i 0 (omega arith) (omega arith))

pub returns : goal.returns
returns c =
    let bytes = c.args.bytes.now in
    let n : ℕ = length c.args.bytes.now in
    let end : c.loop-at.at ≡ n = omega arith in
    let none : 0 + n ≡ n = omega arith in
    let all : paste (replicate 64 0) 0 bytes n ≡ bytes ++ replicate (64 - n) 0 =
    paste_all (replicate 64 0) 0 bytes n refl ∙ ap (λ (x : List ℕ). bytes ++ x) (drop-replicate (0 + n) 64 0 ∙ ap (λ (m : ℕ). replicate (64 - m) 0) none) in
    c.loop-at.invariant ∙ (ap (λ (m : ℕ). paste (replicate 64 0) 0 bytes m) end ∙ all)
