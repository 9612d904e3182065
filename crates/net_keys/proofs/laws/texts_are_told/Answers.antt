use Rattle.net_keys.proofs.Texts.{are_told}
use Rattle.net_keys.proofs.laws.texts_are_told.Goals as goal

pub returns : goal.returns
returns c = are_told
