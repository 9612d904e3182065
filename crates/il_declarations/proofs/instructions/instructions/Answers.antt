use Rattle.std.proofs.Common.{List, [], map, Result, Ok, sym, ap, ◌∙◌}
use Rattle.std.proofs.lemmas.Result.{err_from_is_err_and}
use Rattle.il_model.specs.declared.program.Instr.{Instr}
use Rattle.il_reader.specs.Grammar.{line}
use Rattle.il_declarations.specs.declared.fault.FaultAt.{FaultAt}
use Rattle.il_declarations.specs.Walk.{instruct, each}
use Rattle.il_declarations.proofs.Steps.{goes_on_item, ends_item, is_done}
use Rattle.il_declarations.proofs.instructions.instructions.Goals as goal

pub returns-in_err-push_line : goal.returns-in_err-push_line
returns-in_err-push_line c =
    let p = err_from_is_err_and c.from_residual.result c.from_residual.ensures.1 in
    rw (p.1, p.2) (ends_item c.in_err-push_line.field-0.0 (instruct c.args.dialect c.args.known.now) line c.loop-written.code c.args.lines.now c.loop-written.written-index c.written-item.result (each (instruct c.args.dialect c.args.known.now) [] (map line c.args.lines.now)) c.loop-written-test.true c.written-item.is c.in_err-push_line.ensures c.loop-written.invariant)

pub loop-written-preserved : goal.loop-written-preserved
loop-written-preserved c = goes_on_item (instruct c.args.dialect c.args.known.now) line c.loop-written.code c.push_line.new.code c.args.lines.now c.loop-written.written-index c.written-item.result (each (instruct c.args.dialect c.args.known.now) [] (map line c.args.lines.now)) c.loop-written-test.true c.written-item.is c.in_ok-push_line.ensures c.loop-written.invariant

pub returns : goal.returns
returns c = is_done (instruct c.args.dialect c.args.known.now) line c.loop-written.code c.args.lines.now c.loop-written.written-index (each (instruct c.args.dialect c.args.known.now) [] (map line c.args.lines.now)) c.loop-written-test.false c.loop-written.invariant
    ∙ ap (λ (code : List Instr). let r : Result (List Instr) FaultAt = Ok code in r) (sym c.into_vec.ensures)
