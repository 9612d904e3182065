use Rattle.std.proofs.Common.{◌≡◌, ◌-◌, sym, arith}
use Rattle.vr_model.specs.Groups.{group_size}
use Rattle.vr_core.proofs.ToOthers.{others_but_last, others_but_itself}
use Rattle.vr_core.proofs.state.Core.last_other.Goals as goal

pub returns-then-self-last : goal.returns-then-self-last
returns-then-self-last c =
    let f = c.args.self.now.config.f in
    let n = c.group_size-last.result in
    let size : n ≡ group_size f = c.group_size-last.ensures.size in
    let least = c.args.self.now.config.at_least_one in
    others_but_itself c.args.self.now.number (group_size f) (n - 1) (n - 1 - 1) (omega arith) (sym c.if-self-last.true) (omega arith)

pub returns-else-self-last : goal.returns-else-self-last
returns-else-self-last c =
    let f = c.args.self.now.config.f in
    let n = c.group_size-last.result in
    let size : n ≡ group_size f = c.group_size-last.ensures.size in
    let least = c.args.self.now.config.at_least_one in
    others_but_last c.args.self.now.number (group_size f) (n - 1) (omega arith) (λ e. c.if-self-last.false (sym e))
