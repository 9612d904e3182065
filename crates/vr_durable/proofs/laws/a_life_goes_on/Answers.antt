use Rattle.vr_durable.proofs.Living.{are_a_life, pauses_only}
use Rattle.vr_durable.proofs.laws.a_life_goes_on.Goals as goal

pub returns-clause-calls : goal.returns-clause-calls
returns-clause-calls c = are_a_life

pub returns-clause-cuts : goal.returns-clause-cuts
returns-clause-cuts c = pauses_only
