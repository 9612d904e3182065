use Rattle.std.proofs.Common.{◌≡◌}
use Rattle.sim_run.specs.Told.{EndsRight}
use Rattle.sim_run.proofs.simulating.simulate.Goals as goal

pub returns-in-Ok-clause-right : goal.returns-in-Ok-clause-right
returns-in-Ok-clause-right g c = λ is_right.
    let ends = c.conclude.ensures.right is_right in
    record {
      summary = c.in-Ok.summary;
      right = ends.0;
      before = g.W.CountedWrite.held c.seen_of.new.out;
      written = ends.1;
    }
