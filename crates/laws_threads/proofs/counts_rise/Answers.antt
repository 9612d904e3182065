use Rattle.laws_threads.proofs.Counting.{loads, saves, begins, begin_failed, reopened}
use Rattle.laws_threads.proofs.counts_rise.Goals as goal

pub returns-clause-loads : goal.returns-clause-loads
returns-clause-loads g = loads

pub returns-clause-saves : goal.returns-clause-saves
returns-clause-saves g = saves

pub returns-clause-starts : goal.returns-clause-starts
returns-clause-starts g = begins

pub returns-clause-fails : goal.returns-clause-fails
returns-clause-fails g = begin_failed

pub returns-clause-reopens : goal.returns-clause-reopens
returns-clause-reopens g = reopened
