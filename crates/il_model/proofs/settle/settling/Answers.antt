use Rattle.il_model.proofs.Judged.{faultless}
use Rattle.il_model.proofs.SettledPrograms.{typed_program, typed_only, is_settling, typed_plain, settled_plain}
use Rattle.il_model.proofs.settle.settling.Goals as goal

pub returns-clause-typed : goal.returns-clause-typed
returns-clause-typed c = λ Q e. typed_program c.args.program.now Q e

pub returns-clause-only : goal.returns-clause-only
returns-clause-only c = λ Q is. typed_only c.args.program.now Q is

pub returns-clause-same : goal.returns-clause-same
returns-clause-same c = λ Q is. (is_settling c.args.program.now Q is, typed_plain Q (faultless Q is.typed))

pub returns-clause-plain : goal.returns-clause-plain
returns-clause-plain c = λ plain. settled_plain c.args.program.now plain
