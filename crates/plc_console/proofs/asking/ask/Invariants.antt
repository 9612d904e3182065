use Rattle.plc_console.specs.Asking.{way, Waits}
use Rattle.plc_console.proofs.asking.ask.Given as goal

-- the command was submitted, and waits for its answer
abbrev pub invariant-loop : goal.invariant-loop
invariant-loop g l = record {
  can_next : (goal.iterator-loop g).can_next l.iterator';
  finite : (goal.iterator-loop g).is_finite l.iterator';
  waits : Waits l.fn.client l.command (way (g.L.Link.inputs l.fn.link) (g.L.Link.sent l.fn.link)) (way (g.L.Link.inputs l.link) (g.L.Link.sent l.link)) l.client;
}
