use Rattle.std.proofs.lemmas.Bool.{eq-eqb, ne_eqb}
use Rattle.il_text.proofs.Places.{behind_break, behind_other}
use Rattle.il_text.proofs.units.place_behind.Goals as goal

pub returns-then-b-eq10 : goal.returns-then-b-eq10
returns-then-b-eq10 c = λ before is. behind_break before c.args.b c.args.here is (eq-eqb c.args.b 10 c.if-b-eq10.true)

pub returns-else-b-eq10 : goal.returns-else-b-eq10
returns-else-b-eq10 c = λ before is. behind_other before c.args.b c.args.here is (ne_eqb c.args.b 10 c.if-b-eq10.false)
