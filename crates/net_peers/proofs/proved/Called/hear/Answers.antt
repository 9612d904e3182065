use Rattle.std.proofs.Common.{◌≡◌, rules}
use Rattle.net_peers.specs.Proved.{machine_of}
use Rattle.net_peers.proofs.Believed.{proved_by_listener}
use Rattle.net_peers.proofs.proved.Called.hear.Goals as goal

pub invariant_of-result : goal.invariant_of-result
invariant_of-result c =
    let own : machine_of c.in-Some.hello.party ≡ c.args.self.machine = search rules in
    record { is_proved = proved_by_listener c.args.self.guard c.args.self.machine c.args.self.nonce c.args.self.answer c.args.self.proof c.args.self.ends.opener c.open.new.self c.args.body.now c.args.sum.now c.in-Some.hello c.args.self.has_called c.in-Ok.ensures.opened c.in-Some.ensures own }
