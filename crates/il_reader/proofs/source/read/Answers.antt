use Rattle.std.proofs.Common.{Result, subst}
use Rattle.il_reader.specs.declared.fault.Fault.{Fault}
use Rattle.il_reader.specs.Texts.{SourceText, Answers}
use Rattle.il_reader.proofs.TextFaults.{tells_first, fault_told}
use Rattle.il_reader.proofs.source.read.Goals as goal

pub returns-clause-refused : goal.returns-clause-refused
returns-clause-refused c = tells_first c.args.bytes.now c.walked.result c.walked.ensures.exact

pub returns-clause-told : goal.returns-clause-told
returns-clause-told c = λ g f.
    let P : Result SourceText Fault → Type 0 = λ r. Answers {X = SourceText} (λ s. s) c.walked.result r in
    subst P (fault_told c.args.bytes.now g f) c.walked.ensures.exact
