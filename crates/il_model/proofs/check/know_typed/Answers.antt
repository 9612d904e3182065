use Rattle.il_model.proofs.Judged.{arrives, arrived, is_typed, faultless}
use Rattle.il_model.proofs.check.know_typed.Goals as goal

pub returns-clause-typed : goal.returns-clause-typed
returns-clause-typed c = is_typed

pub returns-clause-faultless : goal.returns-clause-faultless
returns-clause-faultless c = faultless

pub returns-clause-arrives : goal.returns-clause-arrives
returns-clause-arrives c = arrives

pub returns-clause-shape : goal.returns-clause-shape
returns-clause-shape c = arrived
