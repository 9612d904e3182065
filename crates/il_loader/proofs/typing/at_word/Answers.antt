use Rattle.std.proofs.Common.{ap, ◌∙◌, arith, List}
use Rattle.il_model.specs.declared.program.Instr.{Instr}
use Rattle.il_model.specs.Marks.{address_of}
use Rattle.il_loader.proofs.Typed.{fault_within}
use Rattle.il_loader.proofs.typing.at_word.Goals as goal

pub overflow_add-result : goal.overflow_add-result
overflow_add-result c =
    let address = c.address_of.ensures ∙ ap (λ (code : List Instr). address_of code c.in-Err.n) c.code.ensures.code in
    omega (arith, fault_within c.args.program.now c.in-Err.n, address, c.faulty_word.ensures, c.requires)
