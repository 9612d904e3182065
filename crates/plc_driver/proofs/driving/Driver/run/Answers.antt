use Rattle.std.proofs.Common.{ap, ◌∙◌, rules}
use Rattle.plc_driver.specs.declared.driving.Returning.{Returning}
use Rattle.plc_driver.proofs.Printed.{nothing}
use Rattle.plc_driver.proofs.driving.Driver.run.Goals.{in-Ok, in-Err}
use Rattle.plc_driver.proofs.driving.Driver.run.Goals as goal

pub returns-clause-noted : goal.returns-clause-noted
returns-clause-noted g c = elim c.match-spawn_with.branch [
  | in-Ok w ↦ rw w.ran-is (rw (ap (λ (p : Returning). p.journal.value) w.in-Ok.ensures.ok ∙ c.of.ensures) at w.join-ran.ensures.1)
  | in-Err w ↦ rw w.ran-is (search (rules, w.work-ran.ensures, w.in-Err.ensures))
]

pub returns-clause-printed : goal.returns-clause-printed
returns-clause-printed g c = elim c.match-spawn_with.branch [
  | in-Ok w ↦ rw (w.printer-is, w.err-is) w.attend.ensures
  | in-Err w ↦ rw (w.printer-is, w.err-is) (nothing g.E.CountedWrite c.args.printer.now c.args.err.now)
]
