use Rattle.laws_keys.proofs.Proved as lemma
use Rattle.laws_keys.proofs.proved_connections_are_ways.Goals as goal

pub returns : goal.returns
returns c = lemma.proved_open_ways
