use Rattle.std.proofs.Common.{rules, ℕ, List, Option}
use Rattle.io_shelf.specs.Counts.{IsLeftOrNext}
use Rattle.io_shelf.proofs.Moments.{counts_on}
use Rattle.io_shelf.proofs.counted_file.CountedFile.count.Goals as goal

pub returns-in_err-replace-clause-any_moment : goal.returns-in_err-replace-clause-any_moment
returns-in_err-replace-clause-any_moment g c =
    let left : (d : Option (List ℕ)) → g.S.Shelf.may_leave c.replace.new.self d → IsLeftOrNext (g.S.Shelf.may_leave c.args.self.now.shelf) d = search rules in
    λ tells. counts_on g.S.Shelf.moment g.S.Shelf.left_since g.S.Shelf.may_leave c.args.self.now.shelf c.read.new.self c.replace.new.self
    (λ d is. g.met.S.Shelf.only_now c.args.self.now.shelf d tells is) c.read.ensures.time c.read.ensures.no_more c.replace.ensures.time left

pub returns-clause-any_moment : goal.returns-clause-any_moment
returns-clause-any_moment g c =
    let left : (d : Option (List ℕ)) → g.S.Shelf.may_leave c.replace.new.self d → IsLeftOrNext (g.S.Shelf.may_leave c.args.self.now.shelf) d = search rules in
    λ tells. counts_on g.S.Shelf.moment g.S.Shelf.left_since g.S.Shelf.may_leave c.args.self.now.shelf c.read.new.self c.replace.new.self
    (λ d is. g.met.S.Shelf.only_now c.args.self.now.shelf d tells is) c.read.ensures.time c.read.ensures.no_more c.replace.ensures.time left
