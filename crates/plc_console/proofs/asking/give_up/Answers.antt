use Rattle.plc_console.proofs.Waiting.{lets_go}
use Rattle.plc_console.proofs.asking.give_up.Goals as goal

pub returns-then-may_start_again : goal.returns-then-may_start_again
returns-then-may_start_again c = lets_go c.start_again.result c.args.client.now c.start_again.new.self c.start_again.ensures.again c.start_again.ensures.same
