use Rattle.std.proofs.Common.{refl}
use Rattle.vr_core.specs.StandsFor.{group_of}
use Rattle.vr_world.proofs.Histories.{history_of}
use Rattle.vr_world.proofs.run.run_world.Goals as goal

pub returns-clause-history : goal.returns-clause-history
returns-clause-history c =
    history_of c.args.config.now.f c.args.image.now c.args.budget.instructions c.args.events.now c.run_schedule.result _
    (c.run_schedule.ensures (group_of c.args.config.now.f c.args.image.now c.args.budget.instructions) refl c.in_ok-seats.ensures)
