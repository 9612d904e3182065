-- What the messages of a run stand for: those of the rules, and a NEWSTATE's checkpoint for the log from which it was
-- sent.
use Rattle.std.specs.Prelude.{◌≡◌, ℕ, ◌≤◌, List, [], ◌∷◌, length, drop, Option, Some, None}
use Rattle.il_model.specs.declared.command.Command.{Command}
use Rattle.il_model.specs.declared.command.Answer.{Answer}
use Rattle.il_model.specs.Snapshots.{SavedController}
use Rattle.il_model.specs.Program.{Program}
use Rattle.vr_model.specs.declared.message.Body as body
use Rattle.vr_model.specs.declared.message.Body.TheVariants as says
use Rattle.vr_model.specs.declared.message.Message as sent
use Rattle.vr_model.specs.Logs.{Request}
use Rattle.vr_model.specs.Messages.{Body, NewState, Message}
use Rattle.vr_model.specs.World.{Event, Completion}
use Rattle.vr_model.specs.Views.{WasLogOf}
use Rattle.vr_model.specs.Membership.{Group}
use Rattle.vr_model.specs.Checkpoints.{SavedCheckpoint, KeptLog, LogStands}
use Rattle.vr_model.specs.StandsFor.{Stands}

module _ (IsSavedAs : Program → ℕ → List Command → SavedController → Type 0) (g : Group)
    (past : List (Event Command × Completion)) where
  -- it is a NEWSTATE that hands a whole log on, which a replica had that was normal in its view; and its checkpoint and
  -- entries are of that log
  pub record IsHandedOn (log : KeptLog) (meant : Body Command Answer) : Type 0 where
    pub view : ℕ
    pub op_number : ℕ
    pub commit_number : ℕ
    pub whole : List (Request Command)
    pub was : WasLogOf g.f g.answer past view whole
    pub meant_is : meant ≡ NewState view op_number commit_number (drop op_number whole)
    pub within : op_number ≤ length whole
    pub stands : LogStands IsSavedAs g log whole

  abbrev pub MayBeHandedOn : Option SavedCheckpoint → KeptLog → Body Command Answer → Type 0
  MayBeHandedOn None log meant = Unit {0}
  MayBeHandedOn (Some c) log meant = IsHandedOn log meant

  abbrev pub HandsOn : body.Body → Body Command Answer → Type 0
  HandsOn (says.NewState v p c log) meant = MayBeHandedOn log.checkpoint log meant
  HandsOn _ meant = Unit {0}

  -- the message of the run stands for that one, whoever takes it
  pub record StandsIn (m : sent.Message) (meant : Message Command Answer) : Type 0 where
    pub stands : Stands IsSavedAs g m meant
    pub hands_on : HandsOn m.body meant.body

  abbrev pub AllStandIn : List sent.Message → List (Message Command Answer) → Type 0
  AllStandIn [] [] = Unit {0}
  AllStandIn [] (x ∷ xs) = ⊥
  AllStandIn (m ∷ ms) [] = ⊥
  AllStandIn (m ∷ ms) (x ∷ xs) = StandsIn m x × AllStandIn ms xs
