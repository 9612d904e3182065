use Rattle.std.proofs.Common.{arith, sym, ◌∙◌}
use Rattle.plc_tool.proofs.Known.{one_more_known, all_known}
use Rattle.plc_tool.proofs.events.all_known.Goals as goal

pub loop-asked-preserved : goal.loop-asked-preserved
loop-asked-preserved c = one_more_known c.args.image.now c.args.named.now c.loop-asked.asked-index c.asked-item.result c.loop-asked.events.items c.push.new.self.items c.in-Some.event (omega arith) c.loop-asked.invariant c.asked-item.is (sym c.in_ok-event.ensures ∙ c.in-Some.is) c.in_ok-push.ensures.items

pub returns : goal.returns
returns c = record { known = all_known c.args.image.now c.args.named.now c.loop-asked.asked-index c.loop-asked.events.items (omega arith) c.loop-asked.invariant; unknown = tt }
