use Rattle.net_hello.proofs.Told.{are_told}
use Rattle.net_hello.proofs.identity.terms_are_told.Goals as goal

pub returns : goal.returns
returns c = are_told
