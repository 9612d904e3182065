use Rattle.std.proofs.Common.{List, ◌++◌, sym, ap, ◌∙◌}
use Rattle.rtrb.specs.Ring.{known_items}
use Rattle.plc_status.specs.declared.notice.Notice.{Notice}
use Rattle.plc_status.proofs.feed.Feed.finish.Goals as goal

pub returns-clause-printed : goal.returns-clause-printed
returns-clause-printed g c =
    let there = known_items c.slots_beside.new.self in record {
      notices = there;
      left = sym c.slots_beside.ensures.producer.1 ∙ sym c.slots_beside.ensures.fifo ∙ ap (λ (xs : List Notice). xs ++ there) c.slots_beside.ensures.looked.1;
      lines = c.print_known.ensures.lines;
    }
