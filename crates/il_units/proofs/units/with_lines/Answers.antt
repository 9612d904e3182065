use Rattle.std.proofs.Common.{map}
use Rattle.std.proofs.lemmas.Result.{err_from_is_err_and}
use Rattle.il_units.specs.Units.{line_text}
use Rattle.il_units.specs.Expansion.{scope_text, body_from}
use Rattle.il_units.specs.Misuse.{lines_fault}
use Rattle.il_units.proofs.Checks.{lines_go_on, lines_end, lines_done, body_goes_on, body_done}
use Rattle.il_units.proofs.units.with_lines.Goals as goal

pub returns-in_err-body-clause-told : goal.returns-in_err-body-clause-told
returns-in_err-body-clause-told c =
    let p = err_from_is_err_and c.from_residual.result c.from_residual.ensures.1 in
    rw (p.1, p.2) (lines_end c.in_err-body.field-0.0 (scope_text c.args.scope) line_text c.loop-i.body _ c.args.lines.now c.loop-i.i c.index-lines-i.result (lines_fault (scope_text c.args.scope) c.args.before 1 (map line_text c.args.lines.now)) c.loop-i-test.true c.index-lines-i.is c.in_err-body.ensures.told c.loop-i.invariant.0)

pub loop-i-preserved : goal.loop-i-preserved
loop-i-preserved c =
    let s = scope_text c.args.scope in
    let xs = c.args.lines.now in
    let made = c.in_ok-body.ensures.joined in (
      lines_go_on s line_text c.loop-i.body _ _ xs c.loop-i.i c.index-lines-i.result (lines_fault s c.args.before 1 (map line_text xs)) c.loop-i-test.true c.index-lines-i.is c.in_ok-body.ensures.told made c.loop-i.invariant.0,
      body_goes_on s line_text c.loop-i.body _ _ xs c.loop-i.i c.index-lines-i.result (body_from s c.args.before 1 (map line_text xs)) c.loop-i-test.true c.index-lines-i.is made c.loop-i.invariant.1,
    )

pub returns-clause-told : goal.returns-clause-told
returns-clause-told c = lines_done (scope_text c.args.scope) line_text c.loop-i.body _ c.args.lines.now c.loop-i.i (lines_fault (scope_text c.args.scope) c.args.before 1 (map line_text c.args.lines.now)) c.loop-i-test.false c.loop-i.invariant.0

pub returns-clause-joined : goal.returns-clause-joined
returns-clause-joined c = body_done (scope_text c.args.scope) line_text c.loop-i.body _ c.args.lines.now c.loop-i.i (body_from (scope_text c.args.scope) c.args.before 1 (map line_text c.args.lines.now)) c.loop-i-test.false c.loop-i.invariant.1
