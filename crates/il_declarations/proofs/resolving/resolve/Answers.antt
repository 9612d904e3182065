use Rattle.il_declarations.proofs.FaultLaws.{ok_clause, ok_only, err_clause, err_only}
use Rattle.il_declarations.proofs.resolving.resolve.Goals as goal

pub returns-clause-found : goal.returns-clause-found
returns-clause-found c = ok_clause _ c.walked.result c.walked.ensures.exact

pub returns-clause-only : goal.returns-clause-only
returns-clause-only c = ok_only _ c.walked.result c.walked.ensures.exact

pub returns-clause-refused : goal.returns-clause-refused
returns-clause-refused c = err_clause _ c.walked.result c.is_read.ensures.source c.walked.ensures.exact

pub returns-clause-told : goal.returns-clause-told
returns-clause-told c = err_only _ c.walked.result c.is_read.ensures.source c.walked.ensures.exact
