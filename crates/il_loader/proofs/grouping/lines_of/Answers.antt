use Rattle.std.proofs.Common.{◌≡◌, rules, ap, sym, ◌∙◌, map-id}
use Rattle.std.proofs.lemmas.Iterator.Consumers.{YieldsList-end}
use Rattle.std.proofs.lemmas.Iterator.Adapters.{YieldsList-from_vec}
use Rattle.il_loader.specs.Tables.{lines_of}
use Rattle.il_loader.proofs.Lines.{joins_last, all_lines}
use Rattle.il_loader.proofs.grouping.lines_of.Goals as goal

pub loop-word-preserved : goal.loop-word-preserved
loop-word-preserved c = joins_last c.args.instances.now c.loop-word.lines.items c.loop-word.last c.in_ok-last-in-Argument.last c.loop-word.yielded c.in-Some.word c.in-Argument.side c.in-Argument.number c.in-Argument.operand c.in-Argument.is (search (rules, c.in_ok-last-in-Argument.ensures)) c.loop-word.invariant

pub returns : goal.returns
returns c =
    let gives = c.into_iter-word-iterator.ensures.into_iter_gives in
    let end = YieldsList-end (YieldsList-from_vec c.args.words.items gives.0 (gives.1 ∙ c.args.words.ok.0)) c.loop-word.yielded c.loop-word.word-iterator c.loop-word.yielded_by c.next.result c.next.new.self c.in-None.is c.next.ensures.steps in
    let all : c.loop-word.yielded ≡ c.args.words.items = sym (map-id c.loop-word.yielded) ∙ end.0 in
    c.in_ok-put_last.ensures ∙ all_lines c.args.instances.now c.loop-word.lines.items c.loop-word.last c.loop-word.yielded c.loop-word.invariant ∙ ap (lines_of c.args.instances.now) all
