use Rattle.std.proofs.Common.{◌∙◌}
use Rattle.vr_serving.specs.Serving.{scene}
use Rattle.vr_threads.proofs.working.Work.run.Goals as goal

pub returns-clause-worked : goal.returns-clause-worked
returns-clause-worked g c = record {
  comes = c.in_ok-started.started.replica;
  begun = c.start.new.self.seat.store;
  nonce = c.in_ok-started.started.nonce;
  starts = c.in_ok-started.started.starts;
  start = c.in_ok-started.ensures.started;
  up = scene (g.T.Timer.ticks c.come_up-call.new.self.seat.timer) (g.L.Link.inputs c.come_up-call.new.self.seat.link) (g.L.Link.sent c.come_up-call.new.self.seat.link) c.come_up-call.new.replica c.come_up-call.new.self.seat.store;
  comes_up = rw (c.start.ensures.same.1, c.start.ensures.same.2) at c.come_up-call.ensures.up;
  end = c.serve_from.new.replica;
  served = rw (c.come_up-call.ensures.plan ∙ c.start.ensures.same.0) at c.serve_from.ensures.served;
}
