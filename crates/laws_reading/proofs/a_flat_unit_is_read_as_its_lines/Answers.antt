use Rattle.laws_reading.proofs.Read.{read_as_lines}
use Rattle.laws_reading.proofs.a_flat_unit_is_read_as_its_lines.Goals as goal

pub returns : goal.returns
returns c = read_as_lines
