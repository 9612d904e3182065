use Rattle.il_reader.specs.Grammar.{program_text}
use Rattle.il_reader.specs.Walk.{text_of}
use Rattle.il_reader.proofs.Sources.{says_here, same_source, one_outcome}
use Rattle.il_reader.proofs.source.walked.Goals as goal

pub returns-in-Ok-clause-only : goal.returns-in-Ok-clause-only
returns-in-Ok-clause-only c = λ s r. same_source c.args.bytes.now c.dialect_of-dialect.result (program_text c.in-Ok.contents) s r (c.in-Ok.ensures.only s.says (says_here c.args.bytes.now c.dialect_of-dialect.result s c.dialect_of-dialect.ensures r)) c.in-Ok.ensures.exact

pub returns-in-Err-Refused-clause-only : goal.returns-in-Err-Refused-clause-only
returns-in-Err-Refused-clause-only c = λ s r.
    let refused = rw c.in-Err-Refused.field-0-is at c.in-Err-Refused.ensures.exact in
    absurd (one_outcome (text_of c.dialect_of-dialect.result c.args.bytes.now) s.says c.in-Err-Refused.refusal (c.in-Err-Refused.ensures.only s.says (says_here c.args.bytes.now c.dialect_of-dialect.result s c.dialect_of-dialect.ensures r)) refused)
