use Rattle.std.proofs.Common.{rules, true}
use Rattle.vr_recovery.proofs.Telling.{told_by}
use Rattle.vr_recovery.proofs.OwnState.{got_state, got_own}
use Rattle.vr_recovery.proofs.answering.get_state_of_other.Goals as goal

pub returns-then-holds-clause-does : goal.returns-then-holds-clause-does
returns-then-holds-clause-does c = got_state c.args.core.now c.args.sender c.args.view c.args.op_number c.send_state.result c.send_state.ensures (told_by c.args.core.now _ _ true c.holds.ensures.told (search rules))

pub returns-then-holds-clause-own : goal.returns-then-holds-clause-own
returns-then-holds-clause-own c = got_own c.args.core.now c.args.sender c.args.view c.args.op_number c.send_state.result c.send_state.ensures (told_by c.args.core.now _ _ true c.holds.ensures.told (search rules))
