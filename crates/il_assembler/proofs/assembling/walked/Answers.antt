use Rattle.std.proofs.Common.{◌∙◌, ap, sym}
use Rattle.il_model.specs.Settled.{typed_program_of}
use Rattle.il_assembler.proofs.Encoding.{settled_spelling}
use Rattle.il_assembler.proofs.Literals.{literals_count}
use Rattle.il_assembler.proofs.SettledLines.{few_arguments}
use Rattle.il_assembler.proofs.assembling.walked.Goals as goal

pub encode-requires-clause-literals : goal.encode-requires-clause-literals
encode-requires-clause-literals c =
    let is = c.in_ok-literals.ensures in
    literals_count c.in_ok-program.program is.0 c.as_slice.result.now is.1 (c.as_slice.ensures.value ∙ is.2)

pub encode-requires-clause-few : goal.encode-requires-clause-few
encode-requires-clause-few c =
    let is = c.in_ok-literals.ensures in
    few_arguments c.in_ok-program.program is.0 is.1

pub returns : goal.returns
returns c =
    let is = c.in_ok-literals.ensures in (
      is.0,
      ap typed_program_of (sym c.in_ok-program.ensures) ∙ is.1,
      c.in_ok-encode.ensures ∙ settled_spelling c.in_ok-program.program is.0 c.as_slice.result.now is.1 (c.as_slice.ensures.value ∙ is.2),
    )
