use Rattle.vr_core.specs.StandsFor.{group_of}
use Rattle.laws_answers.proofs.Moves.{seen_as_one}
use Rattle.laws_answers.proofs.one_run_is_seen_as_one_history.Goals as goal

pub returns : goal.returns
returns g c = λ f program budget early late one. seen_as_one f program budget c.know_reading.ensures.reads (c.one_run_is_one_history.ensures (group_of f program budget)) early late one
