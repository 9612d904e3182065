use Rattle.std.proofs.Common.{◌≡◌, ◌≤◌, ◌+◌, ◌++◌, ◌∷◌, [], Bool, true, false, List, length, ap, subst, arith}
use Rattle.std.specs.Bool.{OnTrue}
use mathlib.Core.List.{IsPrefix}
use Rattle.io_image.specs.declared.release.Release.{Release}
use Rattle.io_image.specs.Releases.{shown, view_of}
use Rattle.io_image.proofs.Fronts.{prefix_shorter, one_more}
use Rattle.io_image.proofs.list.Front.is_before.Goals as goal

-- with one more release than the first list, the longer list ends in r where their comparison said so
next : (xs ys : List Release) (r : Release) (same : Bool) → IsPrefix xs ys → length ys ≡ length xs + 1 → OnTrue same (shown ys ≡ view_of r) → OnTrue same (ys ≡ xs ++ r ∷ [])
next xs ys r false p len last = tt
next xs ys r true p len last = one_more xs ys r p len last

pub returns : goal.returns
returns g c =
    let both = c.learn.new.self.log in
    let this : IsPrefix c.self.inside.seen.log both = subst (λ (l : List Release). IsPrefix l both) (ap (λ s. s.log) c.again-both.ensures) c.learn.ensures.2 in
    let longer : length c.other.inside.seen.log ≡ length c.self.inside.seen.log + 1 = omega (arith, c.self.invariant.1, c.other.invariant.1) in
    let less : length c.self.inside.seen.log ≤ length c.other.inside.seen.log = omega arith in
    let last : OnTrue c.is_same.result (shown c.other.inside.seen.log ≡ view_of c.args.release.now) = rw (← c.other.invariant.0, ← c.view_of.ensures) c.is_same.ensures in
    rw (← c.self.view_is, ← c.other.view_is)
    (next c.self.inside.seen.log c.other.inside.seen.log c.args.release.now c.is_same.result (prefix_shorter c.self.inside.seen.log c.other.inside.seen.log both this c.learn.ensures.3 less) longer last)
