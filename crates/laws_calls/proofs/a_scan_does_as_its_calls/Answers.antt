use Rattle.laws_calls.proofs.Controlled.{scans_as_its_calls}
use Rattle.laws_calls.proofs.a_scan_does_as_its_calls.Goals as goal

pub returns : goal.returns
returns c = scans_as_its_calls
