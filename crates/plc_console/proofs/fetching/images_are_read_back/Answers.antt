use Rattle.plc_console.proofs.ReadBack.{read_back}
use Rattle.plc_console.proofs.fetching.images_are_read_back.Goals as goal

pub returns : goal.returns
returns c = read_back
