use Rattle.vr_schedules.proofs.Reached.{IsAt}
use Rattle.vr_schedules.proofs.schedule.run_schedule.Given as goal

abbrev pub invariant-loop-index : goal.invariant-loop-index
invariant-loop-index g l = IsAt g.M.Member.IsSavedAs g.M.Member.StandsFor l.fn.members.items l.fn.config.f l.events l.index l.world
