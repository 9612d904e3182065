-- What a read answers, and that it leaves all as it was.
use Rattle.std.proofs.Common.{◌≡◌, ℕ, Option, Some, None, refl, ap, ◌∙◌}
use Rattle.il_values.specs.declared.value.Value.{Value}
use Rattle.il_model.specs.declared.command.Answer.{Answer}
use Rattle.il_model.specs.declared.command.Command.TheVariants.{ReadVar}
use Rattle.il_model.specs.declared.command.Refusal.TheVariants.{BadSlot}
use Rattle.il_model.specs.declared.slot.Slot.{Slot}
use Rattle.ctl_model.specs.Commands.{value_answer}
use Rattle.ctl_debugger.specs.Outcome.{outcome}
use Rattle.ctl_debugger.specs.Owned.{Owned, with_control}
use Rattle.plc_values.specs.Values.{answered, read_in}

-- by the value that is read
told : (o : Owned) (v : Option Value) → answered (with_control o (value_answer o.control v BadSlot)).0 ≡ v
told o (Some v) = refl
told o None = refl

left : (o : Owned) (v : Option Value) → (with_control o (value_answer o.control v BadSlot)).1 ≡ o
left o (Some v) = refl
left o None = refl

pub is_read : (o p : Owned) (slot : Slot) (answer : Answer) → (answer, p) ≡ outcome o (ReadVar slot) → answered answer ≡ read_in o slot.0
is_read o p slot answer is = ap (λ (x : Answer × Owned). answered x.0) is ∙ told o (read_in o slot.0)

pub is_same : (o p : Owned) (slot : Slot) (answer : Answer) → (answer, p) ≡ outcome o (ReadVar slot) → p ≡ o
is_same o p slot answer is = ap (λ (x : Answer × Owned). x.1) is ∙ left o (read_in o slot.0)
