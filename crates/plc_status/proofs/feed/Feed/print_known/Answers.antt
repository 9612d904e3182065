use Rattle.std.proofs.Common.{◌≡◌, List, ◌++◌, length, sym, ap, subst, ◌∙◌, arith}
use Rattle.std.proofs.lemmas.Grind.{common_steps}
use Rattle.rtrb.specs.Ring.{known_items}
use Rattle.plc_status.specs.declared.notice.Notice.{Notice}
use Rattle.plc_status.specs.declared.feed.Feed.{Feed}
use Rattle.plc_status.specs.Journal.{printed}
use Rattle.plc_status.specs.Notices.{WentOutInOrder}
use Rattle.plc_status.proofs.Printing.{partly_none, partly_more, all_done}
use Rattle.plc_status.proofs.feed.Feed.print_known.Goals as goal

pub loop-init : goal.loop-init
loop-init g c = record { partly = partly_none g.E.CountedWrite c.args.self.now (known_items c.args.self.now.consumer) c.args.err.now; count = omega arith }

pub loop-preserved : goal.loop-preserved
loop-preserved g c =
    let gone = c.pop_known-notice.ensures.received in
    let after : Feed = record { consumer = c.pop_known-notice.new.self } in record {
      partly = partly_more g.E.CountedWrite c.args.self.now c.loop.self after c.pop_known-notice.result (known_items c.args.self.now.consumer) (known_items c.loop.self.consumer) (known_items c.pop_known-notice.new.self) c.args.err.now c.loop.err c.put_line.new.err c.put_line.result c.loop.invariant.partly c.pop_known-notice.ensures.ring gone.0 gone.1 c.put_line.ensures;
      count = grind (arith, common_steps, ap (λ (xs : List Notice). length xs) gone.1, c.loop.invariant.count);
    }

pub returns-clause-taken : goal.returns-clause-taken
returns-clause-taken g c =
    let it = c.loop.invariant.partly in
    let none : length (known_items c.loop.self.consumer) ≡ 0 = grind (arith, common_steps, c.loop.invariant.count) in
    it.prints.takes.taken ∙ ap (λ (xs : List Notice). printed c.args.self.now ++ xs) (sym (all_done it.prints.notices (known_items c.loop.self.consumer) (known_items c.args.self.now.consumer) it.all_is none))

pub returns-clause-lines : goal.returns-clause-lines
returns-clause-lines g c =
    let it = c.loop.invariant.partly in
    let none : length (known_items c.loop.self.consumer) ≡ 0 = grind (arith, common_steps, c.loop.invariant.count) in
    subst (λ (xs : List Notice). WentOutInOrder g.E.CountedWrite xs c.args.err.now c.loop.err) (sym (all_done it.prints.notices (known_items c.loop.self.consumer) (known_items c.args.self.now.consumer) it.all_is none)) it.prints.lines
