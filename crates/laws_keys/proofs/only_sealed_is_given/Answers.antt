use Rattle.laws_keys.proofs.Given as lemma
use Rattle.laws_keys.proofs.only_sealed_is_given.Goals as goal

pub returns : goal.returns
returns c = lemma.only_sealed_is_given c.only_sealed_is_heard.ensures c.only_sent_is_given.ensures
