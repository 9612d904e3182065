use Rattle.il_assembler.proofs.FirstFault.{found, is_given, tells_first, told, image}
use Rattle.il_assembler.proofs.assembling.assemble.Goals as goal

pub returns-clause-found : goal.returns-clause-found
returns-clause-found c = found (λ v. v.items) c.args.program.now c.walked.result c.walked.ensures

pub returns-clause-only : goal.returns-clause-only
returns-clause-only c = is_given (λ v. v.items) c.args.program.now c.walked.result c.walked.ensures

pub returns-clause-refused : goal.returns-clause-refused
returns-clause-refused c = tells_first (λ v. v.items) c.args.program.now c.walked.result c.walked.ensures

pub returns-clause-told : goal.returns-clause-told
returns-clause-told c = told (λ v. v.items) c.args.program.now c.walked.result c.walked.ensures

pub returns-clause-image : goal.returns-clause-image
returns-clause-image c declared = image (λ v. v.items) c.args.program.now declared c.walked.result c.walked.ensures
