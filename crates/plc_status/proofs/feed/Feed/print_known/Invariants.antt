use Rattle.std.proofs.Common.{◌≡◌, ◌+◌, length}
use Rattle.rtrb.specs.Ring.{known_items}
use Rattle.plc_status.proofs.Printing.{Partly}
use Rattle.plc_status.proofs.feed.Feed.print_known.Given as goal

-- some were printed, as many as there were rounds, and behind them are those that are left
abbrev pub invariant-loop : goal.invariant-loop
invariant-loop g l = record {
  partly : Partly g.E.CountedWrite l.initial.self l.self (known_items l.initial.self.consumer) (known_items l.self.consumer) l.initial.err l.err;
  count : length (known_items l.self.consumer) + l.counter ≡ length (known_items l.initial.self.consumer);
}
