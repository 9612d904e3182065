use Rattle.laws_processes.proofs.Clients.{begins, begins_again, submits, asks_again, hears}
use Rattle.laws_processes.proofs.client_calls_are_steps.Goals as goal

pub returns-clause-begins : goal.returns-clause-begins
returns-clause-begins g = begins

pub returns-clause-begins_again : goal.returns-clause-begins_again
returns-clause-begins_again g = begins_again

pub returns-clause-submits : goal.returns-clause-submits
returns-clause-submits g = submits

pub returns-clause-asks_again : goal.returns-clause-asks_again
returns-clause-asks_again g = asks_again

pub returns-clause-hears : goal.returns-clause-hears
returns-clause-hears g = hears
