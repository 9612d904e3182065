use Rattle.laws_keys.proofs.Proved as lemma
use Rattle.laws_keys.proofs.left_visits_are_opened.Goals as goal

pub returns : goal.returns
returns c = lemma.left_open_ways
