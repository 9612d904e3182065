use Rattle.std.proofs.Common.{◌++◌, ◌+◌, drop, arith}
use Rattle.il_places.specs.Located.{placed_line, placed_lines}
use Rattle.plc_names.specs.Named.{answers_by}
use Rattle.plc_tool.proofs.Parts.{equally, handed_on, stop, then, unput}
use Rattle.plc_tool.proofs.Told.{lines_around, lines_more}
use Rattle.plc_tool.proofs.running.put_answers.Goals as goal

pub returns-in_err-answer : goal.returns-in_err-answer
returns-in_err-answer g c =
    let before = c.loop-named.invariant in
    handed_on _ c.from_residual.ensures.1 (equally before.whole (then before.put (unput (placed_lines c.args.places.now (answers_by c.loop-named.controller (drop c.loop-named.named-index c.args.commands.now))) c.loop-named.out)))

pub returns-in_err-put_answer : goal.returns-in_err-put_answer
returns-in_err-put_answer g c =
    let before = c.loop-named.invariant in
    let rest = placed_lines c.args.places.now (answers_by c.answer.new.controller (drop (c.loop-named.named-index + 1) c.args.commands.now)) in
    let whole = lines_around c.args.places.now before.told _ c.loop-named.controller c.answer.new.controller c.args.commands.now c.loop-named.named-index c.named-item.result c.in_ok-answer.answer (omega arith) c.named-item.is c.in_ok-answer.ensures.answered before.whole in
    handed_on _ c.from_residual-in_err-put_answer.ensures.1 (equally whole (then before.put (stop rest c.in_err-put_answer.ensures)))

pub loop-named-preserved : goal.loop-named-preserved
loop-named-preserved g c =
    let before = c.loop-named.invariant in
    record {
      told = before.told ++ placed_line c.args.places.now c.in_ok-answer.answer;
      put = then before.put c.in_ok-put_answer.ensures;
      whole = lines_more c.args.places.now before.told _ c.loop-named.controller c.answer.new.controller c.args.commands.now c.loop-named.named-index c.named-item.result c.in_ok-answer.answer (omega arith) c.named-item.is c.in_ok-answer.ensures.answered before.whole;
    }
