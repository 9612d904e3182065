use Rattle.laws_threads.proofs.Counting.{begins_just, loads_just, load_failed_just, saves_just}
use Rattle.laws_threads.proofs.Numbers.{within, between, tells}
use Rattle.laws_threads.proofs.numbers_rise.Goals as goal

pub returns-clause-within : goal.returns-clause-within
returns-clause-within g = within

pub returns-clause-between : goal.returns-clause-between
returns-clause-between g = between

pub returns-clause-tells : goal.returns-clause-tells
returns-clause-tells g = tells

pub returns-clause-counts : goal.returns-clause-counts
returns-clause-counts g = begins_just

pub returns-clause-loads : goal.returns-clause-loads
returns-clause-loads g = loads_just

pub returns-clause-fails : goal.returns-clause-fails
returns-clause-fails g = load_failed_just

pub returns-clause-saves : goal.returns-clause-saves
returns-clause-saves g = saves_just
