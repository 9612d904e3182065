use Rattle.vr_core.specs.StandsFor.{group_of}
use Rattle.laws_answers.proofs.Moves.{seen_over_starts}
use Rattle.laws_answers.proofs.threads_see_one_history.Goals as goal

pub returns : goal.returns
returns g c = λ f program budget early late did. seen_over_starts f program budget (c.one_run_is_seen_as_one_history.ensures f program budget) early late (c.threads_that_ran_are_one_run.ensures (group_of f program budget) early late did)
