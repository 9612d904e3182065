-- The worked schedules, computed by the definitions.
use Rattle.std.proofs.Common.{List, refl}
use Rattle.laws_history.specs.Schedules.{WorkedSchedules}

pub worked_schedules : {C A : Type 0} (answer : List C → A) (a b : C) → WorkedSchedules answer a b
worked_schedules answer a b = record {
  commits = record { steps = refl; lengths_are = refl; order_is = refl; releases_are = refl; sent_are = refl };
  resends = record { steps = refl; lengths_are = refl; order_is = refl; releases_are = refl; sent_are = refl };
  changes_view = record { steps = refl; lengths_are = refl; order_is = refl; releases_are = refl; sent_are = refl };
  recovers = record { steps = refl; lengths_are = refl; order_is = refl; releases_are = refl; sent_are = refl };
  recovered = refl;
  keeps_new = record { steps = refl; lengths_are = refl; order_is = refl; releases_are = refl; sent_are = refl };
  calls_new = (refl, refl);
  keeps_old = record { steps = refl; lengths_are = refl; order_is = refl; releases_are = refl; sent_are = refl };
  no_message = refl;
  no_request = refl;
  no_client = refl;
  no_replica = refl;
  waits = refl;
  restarts_up = refl;
  nonce_again = refl;
  nonce_again_while_up = refl;
  next_number = refl;
  chooses = refl;
  too_old = refl;
  at_last = (refl, refl, refl, refl);
}
