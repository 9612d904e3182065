use Rattle.std.proofs.Common.{◌≡◌}
use Rattle.vr_ports.specs.Parties.{Grows}
use Rattle.vr_ports.proofs.link.send_all.Given as goal

abbrev pub invariant-loop-message : goal.invariant-loop-message
invariant-loop-message g l = record {
  took : Grows (g.L.Link.sent l.initial.link) (g.L.Link.sent l.link) l.yielded;
  same : g.L.Link.inputs l.link ≡ g.L.Link.inputs l.initial.link;
}
