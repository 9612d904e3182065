use Rattle.std.proofs.Common.{inr}
use Rattle.plc_symbols.proofs.calls.put_compared.Goals as goal

pub returns-in-Err-clause-refused : goal.returns-in-Err-clause-refused
returns-in-Err-clause-refused g c = inr c.in-Err.ensures.refused
