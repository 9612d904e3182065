use Rattle.std.proofs.Common.{map}
use Rattle.std.proofs.lemmas.Result.{err_from_is_err_and}
use Rattle.il_reader.specs.Tokens.{token}
use Rattle.il_declarations.specs.Walk.{declare_name, each}
use Rattle.il_declarations.proofs.Steps.{goes_on, ends, is_done}
use Rattle.il_declarations.proofs.variables.push_names.Goals as goal

pub returns-in_err-push_name : goal.returns-in_err-push_name
returns-in_err-push_name c =
    let p = err_from_is_err_and c.from_residual.result c.from_residual.ensures.1 in
    rw (p.1, p.2) (ends c.in_err-push_name.field-0.0 (declare_name c.args.dialect c.args.plan) token c.loop-name.known c.args.names.now c.loop-name.name-index _ (each (declare_name c.args.dialect c.args.plan) c.args.known.now (map token c.args.names.now)) c.loop-name-test.true c.in_err-push_name.ensures c.loop-name.invariant)

pub loop-name-preserved : goal.loop-name-preserved
loop-name-preserved c = goes_on (declare_name c.args.dialect c.args.plan) token c.loop-name.known c.push_name.new.known c.args.names.now c.loop-name.name-index _ (each (declare_name c.args.dialect c.args.plan) c.args.known.now (map token c.args.names.now)) c.loop-name-test.true c.in_ok-push_name.ensures c.loop-name.invariant

pub returns : goal.returns
returns c = is_done (declare_name c.args.dialect c.args.plan) token c.loop-name.known c.args.names.now c.loop-name.name-index (each (declare_name c.args.dialect c.args.plan) c.args.known.now (map token c.args.names.now)) c.loop-name-test.false c.loop-name.invariant
