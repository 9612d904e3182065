use Rattle.il_units.proofs.Said.{found_by, given_by}
use Rattle.il_units.proofs.TextFaults.{refused_first, told_first}
use Rattle.il_units.proofs.whole.read.Goals as goal

pub returns-clause-found : goal.returns-clause-found
returns-clause-found c = found_by c.args.bytes.now c.walked.result c.walked.ensures

pub returns-clause-only : goal.returns-clause-only
returns-clause-only c = given_by c.args.bytes.now c.walked.result c.walked.ensures

pub returns-clause-refused : goal.returns-clause-refused
returns-clause-refused c = refused_first c.args.bytes.now c.walked.result c.walked.ensures

pub returns-clause-told : goal.returns-clause-told
returns-clause-told c = told_first c.args.bytes.now c.walked.result c.walked.ensures
