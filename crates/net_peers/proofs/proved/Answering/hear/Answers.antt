use Rattle.std.proofs.Common.{◌≡◌, List, ℕ, rules, sym, subst}
use Rattle.net_peers.specs.Proved.{IsLeft, machine_of}
use Rattle.net_peers.proofs.Believed.{left_by_dialler, proved_by_dialler}
use Rattle.net_peers.proofs.proved.Answering.hear.Goals as goal

pub invariant_of-result : goal.invariant_of-result
invariant_of-result c = record {
  is_left = subst (λ (bytes : List ℕ). ∥ IsLeft c.args.self.guard c.args.self.challenge.from bytes c.args.sum.now ∥₁) (sym c.in-Ok-try_from.ensures.1.same)
      (left_by_dialler c.args.self.guard c.args.self.challenge c.args.self.nonce c.args.self.answered c.args.body.now c.args.sum.now c.in-Ok.ends c.args.self.has_answered c.in-Ok.ensures.met);
}

pub invariant_of-result-2 : goal.invariant_of-result-2
invariant_of-result-2 c =
    let own : machine_of c.in-Some.hello.party ≡ c.args.self.challenge.from = search rules in
    record { is_proved = proved_by_dialler c.args.self.guard c.args.self.challenge c.args.self.nonce c.args.self.answered c.args.body.now c.args.sum.now c.in-Ok.ends c.in-Some.hello c.args.self.has_answered c.in-Ok.ensures.met c.in-Some.ensures own }
