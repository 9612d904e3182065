use Rattle.std.proofs.Common.{◌∙◌, arith}
use Rattle.plc_epochs.proofs.VisitReadings.{found_in, visit_only}
use Rattle.plc_epochs.proofs.visit.Visit.read.Goals as goal

pub returns-clause-found : goal.returns-clause-found
returns-clause-found c = found_in c.args.bytes.now c.visit_of.result (λ i. omega (arith, c.type_inv.bytes i)) c.visit_of.ensures

pub returns-clause-only : goal.returns-clause-only
returns-clause-only c = λ visit is. c.visit_of.ensures ∙ visit_only visit c.args.bytes.now is
