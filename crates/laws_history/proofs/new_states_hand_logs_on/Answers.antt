use Rattle.laws_history.proofs.HandedOn.{new_states_hand_logs_on}
use Rattle.laws_history.proofs.new_states_hand_logs_on.Goals as goal

pub returns : goal.returns
returns g c = λ f answer events. new_states_hand_logs_on f answer events
