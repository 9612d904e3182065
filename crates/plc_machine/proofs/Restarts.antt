-- A client that started again waits for nothing, and has one start more.
use Rattle.std.proofs.Common.{◌≡◌, ◌+◌, ℕ, false, ap, is_some}
use Rattle.il_model.specs.declared.command.Command.{Command}
use Rattle.il_model.specs.declared.command.Answer.{Answer}
use Rattle.il_model.specs.declared.command.Answer.TheVariants.{Done}
use Rattle.vr_model.specs.Steps.{StartsAgain}
use Rattle.vr_client.specs.Client.{BecomesAt, Client}

pub waits_for_nothing : (a b : Client) → BecomesAt a StartsAgain b → is_some b.state.waits ≡ false
waits_for_nothing a b becomes = ap (λ (x : Client). is_some x.state.waits) (becomes (λ commands. Done))

pub one_start_more : (a b : Client) → BecomesAt a StartsAgain b → b.state.starts ≡ a.state.starts + 1
one_start_more a b becomes = ap (λ (x : Client). x.state.starts) (becomes (λ commands. Done))
