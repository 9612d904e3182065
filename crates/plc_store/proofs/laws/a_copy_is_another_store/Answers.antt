use Rattle.plc_store.proofs.Copies.{another, refused}
use Rattle.plc_store.proofs.laws.a_copy_is_another_store.Goals as goal

pub returns-clause-another : goal.returns-clause-another
returns-clause-another c = another

pub returns-clause-refused : goal.returns-clause-refused
returns-clause-refused c = refused
