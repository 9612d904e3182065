use Rattle.laws_calls.proofs.Controlled.{runs_as_its_lines}
use Rattle.laws_calls.proofs.a_scan_runs_as_its_lines.Goals as goal

pub returns : goal.returns
returns c = runs_as_its_lines
