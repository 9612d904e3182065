use Rattle.std.proofs.Common.{sym, ◌∙◌}
use Rattle.plc_group.proofs.Reached.{first_told, none_told}
use Rattle.plc_group.proofs.machines.refuse_exposed.Goals as goal

pub returns-in-Some : goal.returns-in-Some
returns-in-Some c = rw (c.if-may_be.false, c.wrong.ensures) (first_told c.args.machines.now c.in-Some.number (sym c.first_exposed.ensures ∙ c.in-Some.is))

pub returns-in-None : goal.returns-in-None
returns-in-None c = rw c.if-may_be.false (none_told c.args.machines.now (sym c.first_exposed.ensures ∙ c.in-None.is), tt)
