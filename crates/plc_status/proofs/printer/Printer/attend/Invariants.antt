use Rattle.plc_status.specs.Journal.{Prints}
use Rattle.plc_status.proofs.printer.Printer.attend.Given as goal

-- what was put so far was printed
abbrev pub invariant-loop : goal.invariant-loop
invariant-loop g l = record {
  can_next : (goal.iterator-loop g).can_next l.iterator';
  finite : (goal.iterator-loop g).is_finite l.iterator';
  prints : Prints g.E.CountedWrite l.initial.self l.self l.initial.err l.err;
}
