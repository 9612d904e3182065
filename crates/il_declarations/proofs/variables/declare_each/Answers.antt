use Rattle.std.proofs.Common.{map}
use Rattle.std.proofs.lemmas.Result.{err_from_is_err_and}
use Rattle.il_reader.specs.Grammar.{declaration}
use Rattle.il_declarations.specs.Declaring.{in_block}
use Rattle.il_declarations.specs.Walk.{declare, each}
use Rattle.il_declarations.proofs.Steps.{goes_on_item, ends_item, is_done}
use Rattle.il_declarations.proofs.variables.declare_each.Goals as goal

pub returns-in_err-declare_one : goal.returns-in_err-declare_one
returns-in_err-declare_one c =
    let p = err_from_is_err_and c.from_residual.result c.from_residual.ensures.1 in
    rw (p.1, p.2) (ends_item c.in_err-declare_one.field-0.0 (declare c.args.dialect) (λ d. in_block c.args.retained (declaration d)) c.loop-d.known c.args.declarations.now c.loop-d.d-index c.d-item.result (each (declare c.args.dialect) c.args.known.now (map (λ d. in_block c.args.retained (declaration d)) c.args.declarations.now)) c.loop-d-test.true c.d-item.is c.in_err-declare_one.ensures c.loop-d.invariant)

pub loop-d-preserved : goal.loop-d-preserved
loop-d-preserved c = goes_on_item (declare c.args.dialect) (λ d. in_block c.args.retained (declaration d)) c.loop-d.known c.declare_one.new.known c.args.declarations.now c.loop-d.d-index c.d-item.result (each (declare c.args.dialect) c.args.known.now (map (λ d. in_block c.args.retained (declaration d)) c.args.declarations.now)) c.loop-d-test.true c.d-item.is c.in_ok-declare_one.ensures c.loop-d.invariant

pub returns : goal.returns
returns c = is_done (declare c.args.dialect) (λ d. in_block c.args.retained (declaration d)) c.loop-d.known c.args.declarations.now c.loop-d.d-index (each (declare c.args.dialect) c.args.known.now (map (λ d. in_block c.args.retained (declaration d)) c.args.declarations.now)) c.loop-d-test.false c.loop-d.invariant
