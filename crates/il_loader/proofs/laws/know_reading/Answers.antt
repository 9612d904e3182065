use Rattle.il_loader.proofs.WellFormed.{loader_reads, readings_agree}
use Rattle.il_loader.proofs.laws.know_reading.Goals as goal

pub returns-clause-reads : goal.returns-clause-reads
returns-clause-reads c = loader_reads

pub returns-clause-one : goal.returns-clause-one
returns-clause-one c = readings_agree
