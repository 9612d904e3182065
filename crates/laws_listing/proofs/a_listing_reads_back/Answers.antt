use Rattle.laws_listing.proofs.ReadBack.{reads_back}
use Rattle.laws_listing.proofs.a_listing_reads_back.Goals as goal

pub returns : goal.returns
returns c = λ Q is. reads_back Q is
