use Rattle.laws_keys.proofs.Proved as lemma
use Rattle.laws_keys.proofs.readings_join.Goals as goal

pub returns : goal.returns
returns c = lemma.readings_join
