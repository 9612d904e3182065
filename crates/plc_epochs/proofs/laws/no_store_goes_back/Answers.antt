use Rattle.std.proofs.Common.{refl}
use Rattle.plc_epochs.proofs.GoingOn as going
use Rattle.plc_epochs.proofs.laws.no_store_goes_back.Goals as goal

pub returns-clause-looks : goal.returns-clause-looks
returns-clause-looks c now a b step h = going.looks now a.phase a b step refl h

pub returns-clause-stores : goal.returns-clause-stores
returns-clause-stores c has a b step h = going.stores has a.phase a b step refl h

pub returns-clause-hello : goal.returns-clause-hello
returns-clause-hello c from now epoch a b step h = going.hears from now epoch a b step h

pub returns-clause-sign : goal.returns-clause-sign
returns-clause-sign c from now epoch a b step h = going.sign from now epoch a b step h

pub returns-clause-recovery : goal.returns-clause-recovery
returns-clause-recovery c from now epoch a b step h = going.recovery from now epoch a b step h

pub returns-clause-word : goal.returns-clause-word
returns-clause-word c from now epoch word a b step h = going.words a.phase from now epoch word a b step refl h
