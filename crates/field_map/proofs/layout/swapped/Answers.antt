use Rattle.std.proofs.Common.{◌≡◌, ◌++◌, ◌∷◌, [], ◌+◌, ◌*◌, List, ℕ, ℤ, pos, ◌∙◌, ap, arith, drop, rules, get_or, SFits}
use Rattle.std.proofs.lemmas.Grind.{common_steps}
use Rattle.std.specs.Int.{w16}
use Rattle.std.proofs.lemmas.Int.{to_z-of_z}
use Rattle.field_map.specs.Layouts.{swapped}
use Rattle.field_map.proofs.SwapLaws.{swapped_step}
use Rattle.field_map.proofs.layout.swapped.Goals as goal

pub loop-pair-preserved : goal.loop-pair-preserved
loop-pair-preserved c =
    let words = c.args.words.now in
    let k = c.loop-pair.pair in
    let vs = c.loop-pair.values.items in
    let one = get_or words (2 * k + 1) (pos 0) in
    let two = get_or words (2 * k) (pos 0) in
    let fits_one : SFits w16 one = search rules in
    let fits_two : SFits w16 two = search rules in
    let new : c.push-in-loop-pair.new.self.items ≡ (vs ++ one ∷ []) ++ two ∷ [] =
    c.push-in-loop-pair.ensures.items
    ∙ (ap (λ (x : ℤ). c.push.new.self.items ++ x ∷ []) (to_z-of_z w16 two fits_two)
    ∙ ap (λ (xs : List ℤ). xs ++ two ∷ []) (c.push.ensures.items ∙ ap (λ (x : ℤ). vs ++ x ∷ []) (to_z-of_z w16 one fits_one))) in
    record {
      items = ap (λ (xs : List ℤ). xs ++ swapped (drop (2 * (k + 1)) words)) new
          ∙ swapped_step vs words (swapped words) k (pos 0) (pos 0) (search rules) c.loop-pair.invariant.items;
      many = search rules;
    }
