-- What waits in an outbox, and what may leave it.
use Rattle.std.specs.Prelude.{◌≡◌, Bool, if◌then◌else◌, List, [], ◌++◌}
use Rattle.vr_model.specs.declared.message.Message.{Message}
use Rattle.vr_outbox.specs.declared.stage.Stage.{Stage}
use Rattle.vr_outbox.specs.declared.stage.Stage.TheVariants.{Flushed, Unflushed, Flushing, Behind}
use Rattle.vr_outbox.specs.Stages.{behind_put}
use Rattle.vr_outbox.specs.Waiting.{Waiting}

-- nothing waits, and nothing was put
abbrev pub empty : Waiting
empty = record { held = []; stage = Flushed }

abbrev pub with_stage : Waiting → Stage → Waiting
with_stage w stage = record { held = w.held; stage = stage }

-- what a step sends waits behind what waits already; and what that took up was put, or not
abbrev pub behind_take_up : Waiting → List Message → Bool → Waiting
behind_take_up w sends is_put = record {
  held = w.held ++ sends;
  stage = if is_put then behind_put w.stage else w.stage;
}

-- something waits that no flush under way is for
abbrev pub IsFlushDue : Waiting → Type 0
IsFlushDue w = (w.stage ≡ Unflushed) × (w.held ≡ [] → ⊥)

-- what may leave: all that waits, once all that was put is flushed, and until then nothing
abbrev pub due_at : Stage → List Message → List Message
due_at Flushed held = held
due_at Unflushed held = []
due_at Flushing held = []
due_at Behind held = []

abbrev pub due : Waiting → List Message
due w = due_at w.stage w.held

-- what waits on behind that
abbrev pub held_at : Stage → List Message → List Message
held_at Flushed held = []
held_at Unflushed held = held
held_at Flushing held = held
held_at Behind held = held

abbrev pub without_due : Waiting → Waiting
without_due w = record { held = held_at w.stage w.held; stage = w.stage }
