use Rattle.plc_epochs.proofs.StayingFrozen as staying
use Rattle.plc_epochs.proofs.laws.who_is_frozen_stays_so.Goals as goal

pub returns-clause-recovered : goal.returns-clause-recovered
returns-clause-recovered c = staying.recovered

pub returns-clause-looks : goal.returns-clause-looks
returns-clause-looks c = staying.looks

pub returns-clause-stores : goal.returns-clause-stores
returns-clause-stores c = staying.stores

pub returns-clause-hello : goal.returns-clause-hello
returns-clause-hello c = staying.hears

pub returns-clause-sign : goal.returns-clause-sign
returns-clause-sign c = staying.sign

pub returns-clause-recovery : goal.returns-clause-recovery
returns-clause-recovery c = staying.recovery

pub returns-clause-word : goal.returns-clause-word
returns-clause-word c = staying.words
