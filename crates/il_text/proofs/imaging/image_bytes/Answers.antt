use Rattle.std.proofs.lemmas.Result.{err_from_is_err_and}
use Rattle.il_text.proofs.Imaged.{image_of_text_is}
use Rattle.il_text.proofs.Programs.{assembly_told}
use Rattle.il_text.proofs.imaging.image_bytes.Goals as goal

pub returns-clause-found : goal.returns-clause-found
returns-clause-found c =
    image_of_text_is c.args.text.now c.in_ok-program.program c.in_ok-assemble.field-0.items c.in_ok-program.ensures.declared c.in_ok-program.ensures.found c.in_ok-assemble.ensures.found

pub returns-in_err-assemble-clause-refused : goal.returns-in_err-assemble-clause-refused
returns-in_err-assemble-clause-refused c =
    let p = err_from_is_err_and c.from_residual-in_err-assemble.result c.from_residual-in_err-assemble.ensures.1 in
    rw p.1 (assembly_told c.args.text.now c.in_ok-program.program c.in_err-assemble.field-0.0 p.0 c.in_ok-program.ensures.found c.in_ok-program.ensures.typed c.in_err-assemble.ensures.refused p.2)
