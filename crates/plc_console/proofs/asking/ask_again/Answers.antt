use Rattle.plc_console.proofs.Waiting.{again_at_most}
use Rattle.plc_console.proofs.asking.ask_again.Goals as goal

pub returns-clause-sent : goal.returns-clause-sent
returns-clause-sent g c = again_at_most c.args.client.now (g.L.Link.sent c.args.link.now) (g.L.Link.sent c.send_again.new.link) c.send_again.ensures.sent
