use Rattle.std.proofs.Common.{◌≡◌, ◌<◌, ◌++◌, ℕ, List, [], map, take, drop, length, get_or, ap, ap₂, ◌∙◌, arith, length-append, length-take, length-drop}
use Rattle.std.specs.Prelude.{bit_xor}
use Rattle.std.proofs.lemmas.List.{get_or_default, take_all, drop_all, append-nil, length-map}
use Rattle.std.proofs.lemmas.List.Edits.{map_over_more}
use Rattle.net_keys.proofs.hmac.xored.Goals as goal

pub loop-at-preserved : goal.loop-at-preserved
loop-at-preserved c =
    let ys : List ℕ = c.loop-at.changed in
    let i : ℕ = c.loop-at.at in
    let x : ℕ = get_or ys i 0 in
    let long = simp (length-append, length-map, length-take, length-drop) at (ap length c.loop-at.invariant) in
    let inside : i < length ys = omega (arith, long) in
    map_over_more (λ byte. bit_xor byte c.args.by) c.args.block.now ys i x (omega arith) c.loop-at.invariant (get_or_default ys i 0 x inside)

pub returns : goal.returns
returns c =
    let block = c.args.block.now in
    let end : c.loop-at.at ≡ 64 = omega arith in
    let front : take c.loop-at.at block ≡ block = take_all c.loop-at.at block (omega arith) in
    let none : drop c.loop-at.at block ≡ [] = drop_all c.loop-at.at block (omega arith) in
    c.loop-at.invariant ∙ (ap₂ (λ (x y : List ℕ). map (λ byte. bit_xor byte c.args.by) x ++ y) front none ∙ append-nil (map (λ byte. bit_xor byte c.args.by) block))
