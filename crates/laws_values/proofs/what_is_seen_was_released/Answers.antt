use Rattle.laws_values.proofs.Answers.{sees, sees_forces}
use Rattle.laws_values.proofs.what_is_seen_was_released.Goals as goal

pub returns : goal.returns
returns c = record {
  forces = sees_forces;
  released = sees;
}
