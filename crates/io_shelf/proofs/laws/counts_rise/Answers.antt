use Rattle.io_shelf.proofs.Lives as lives
use Rattle.io_shelf.proofs.laws.counts_rise.Goals as goal

pub returns : goal.returns
returns g c = λ found m all is h. lives.counts_rise g.S.Shelf.may_leave found m all is h
