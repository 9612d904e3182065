use Rattle.net_keys.proofs.Heard.{only_sealed_is_heard}
use Rattle.net_keys.proofs.laws.only_sealed_is_heard.Goals as goal

pub returns : goal.returns
returns c = only_sealed_is_heard
