use Rattle.std.proofs.Common.{refl}
use Rattle.plc_page.proofs.service.AnsweringService.call.Goals as goal

pub returns-clause-ok : goal.returns-clause-ok
returns-clause-ok g c = (refl, (c.in_ok-reading.field-0.reading, c.if-is_in_force.program.now, c.as_slice-seen.result.now, rw c.as_slice-seen.ensures.value c.in_ok-seen.ensures, c.in_ok-respond.ensures))
