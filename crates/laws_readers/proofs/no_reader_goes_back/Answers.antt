use Rattle.laws_readers.proofs.Reading.{no_way_back}
use Rattle.laws_readers.proofs.no_reader_goes_back.Goals as goal

pub returns : goal.returns
returns g c = λ f answer stores belongs fresh first more later earlier now then hosted above order one two.
    no_way_back (c.nothing_new_comes_once_a_later_epoch_begins.ensures) f answer stores belongs fresh first more later earlier now then hosted above order one two
