use Rattle.plc_console.proofs.Mirrors.{stays}
use Rattle.plc_console.proofs.mirror.mirrors_stay.Goals as goal

pub returns : goal.returns
returns c = stays
