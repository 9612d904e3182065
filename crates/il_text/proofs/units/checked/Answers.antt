use Rattle.il_text.proofs.UnitTold.{plain_of, untyped}
use Rattle.il_text.proofs.units.checked.Goals as goal

pub returns-clause-refused : goal.returns-clause-refused
returns-clause-refused c =
    let plain = plain_of c.args.flat.now c.in_ok-expansion.expansion c.text.result.now c.in-Ok.source c.in-Ok-resolve.program c.in_ok-expansion.ensures c.text.ensures c.in-Ok.ensures.found c.in-Ok-resolve.ensures.found in
    untyped c.args.units.now.text c.args.flat.now c.in-Ok-resolve.program c.in-Err-assemble.error c.untyped.result plain c.in-Err-assemble.ensures.refused c.untyped.ensures
