use Rattle.laws_readers.proofs.Reading.{no_way_back_by_deeds}
use Rattle.laws_readers.proofs.no_reader_goes_back_though_disks_are_lost.Goals as goal

pub returns : goal.returns
returns g c = λ f answer stores fresh first more later earlier now then hosted above order one two.
    no_way_back_by_deeds (c.nothing_new_comes_though_disks_are_lost.ensures) f answer stores fresh first more later earlier now then hosted above order one two
