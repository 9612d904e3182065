use Rattle.net_records.proofs.Formats.{are_joined}
use Rattle.net_records.proofs.laws.know_records.Goals as goal

pub returns : goal.returns
returns c = are_joined
