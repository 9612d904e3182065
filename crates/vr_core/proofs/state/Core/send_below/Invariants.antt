use Rattle.std.proofs.Common.{◌≡◌, ◌++◌, map}
use Rattle.vr_model.specs.Choices.{others}
use Rattle.vr_core.specs.Follows.{message_from}
use Rattle.vr_core.proofs.state.Core.send_below.Given as goal

abbrev pub invariant-loop-to : goal.invariant-loop-to
invariant-loop-to l = l.sends.items ≡ l.initial.sends.items ++ map (message_from l.self.number l.body) (others l.self.number l.to)
