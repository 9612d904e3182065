-- What an outbox is to its callers.
use Rattle.std.specs.Prelude.{List}
use Rattle.vr_model.specs.declared.message.Message.{Message}
use Rattle.vr_outbox.specs.declared.stage.Stage.{Stage}

-- the messages that wait, in order, and how far what was put is flushed
pub record Waiting : Type 0 where
  pub held : List Message
  pub stage : Stage
