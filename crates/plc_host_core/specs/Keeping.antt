-- What the thread of a replica does about the epochs of its group: what follows of each step, and when its life is
-- over.
use Rattle.std.specs.Prelude.{◌≡◌, ◌==◌, ℕ, ◌-◌, Bool, true, false, not, ◌&&◌, nat_le, Option, Some, None}
use Rattle.std.specs.Prelude.{MatchBool, is_some, if◌then◌else◌}
use Rattle.net_hello.specs.declared.hello.Epoch.{Epoch}
use Rattle.plc_epochs.specs.declared.kept.Kept.{Kept}
use Rattle.plc_epochs.specs.declared.cold_start.Step.{Step}
use Rattle.plc_epochs.specs.declared.cold_start.Step.TheVariants as steps
use Rattle.plc_epochs.specs.declared.cold_start.ColdStart.{ColdStart}
use Rattle.plc_epochs.specs.Table.{HearsHello, HearsRecovery, kept_in, question_in, recovered_in, spoken_in}
use Rattle.plc_host_core.specs.declared.epoch_keeper.EpochAction.{EpochAction}
use Rattle.plc_host_core.specs.declared.epoch_keeper.EpochAction.TheVariants as actions
use Rattle.plc_host_core.specs.declared.epoch_keeper.EpochNotice.TheVariants as notices
use Rattle.plc_host_core.specs.declared.epoch_keeper.LifeEnd.TheVariants as ends
use Rattle.plc_host_core.specs.declared.epoch_keeper.EpochKeeper.{EpochKeeper}

-- What is done by a step, where its store is to have this then.
abbrev pub action_by : Step → Kept → EpochAction
action_by steps.Nothing kept = actions.Rests
action_by steps.Counts kept = actions.Rests
action_by steps.Asks kept = actions.Rests
action_by (steps.Freezes word) kept = actions.Answers word
action_by steps.AsksAgain kept = actions.Rests
action_by (steps.Confirms word) kept = actions.Answers word
action_by (steps.Declines word) kept = actions.Answers word
action_by steps.HearsMarked kept = actions.Tells notices.Marked
action_by (steps.Ends epoch) kept = actions.Leaves ends.EpochEnded kept
action_by (steps.Hears epoch) kept = actions.Leaves ends.LaterHeard kept
action_by (steps.Refuses epoch) kept = actions.Tells (notices.Refused epoch)
action_by (steps.FarAbove epoch) kept = actions.Tells (notices.FarAbove epoch)
action_by (steps.OtherProgram epoch) kept = actions.Tells (notices.OtherProgram epoch)
action_by (steps.Before epoch) kept = actions.Rests
action_by (steps.WaitsAbove epoch) kept = actions.Leaves ends.WaitsAbove kept
action_by (steps.Enters epoch) kept = actions.Rests
action_by (steps.Begins epoch) kept = actions.Keeps kept
action_by (steps.Starts epoch) kept = actions.Starts
action_by (steps.Thaws nonce) kept = actions.Thaws nonce

-- an action by which its life is over
abbrev pub ends_life : EpochAction → Bool
ends_life (actions.Leaves why kept) = true
ends_life actions.Rests = false
ends_life (actions.Answers word) = false
ends_life (actions.Tells notice) = false
ends_life (actions.Keeps kept) = false
ends_life actions.Starts = false
ends_life (actions.Thaws nonce) = false

-- what was asked is said again at once, where it begins to ask once more
abbrev pub asks_at_once : Step → Bool
asks_at_once steps.AsksAgain = true
asks_at_once step = false

-- when it said last what it asks, behind a step
abbrev pub asked_by : Step → Option ℕ → Option ℕ
asked_by step asked = if asks_at_once step then None else asked

-- By a step that is right by the table of epochs, and that it takes as long as its life isn't over, it does what
-- follows of that step, and its life is over where that says so.
pub record Takes (Right : ColdStart → Step → ColdStart → Type 0) (action : EpochAction)
    (a b : EpochKeeper) : Type 0 where
  pub step : Step
  pub right : Right a.cold_start step b.cold_start
  pub does : action ≡ action_by step (kept_in b.cold_start.phase)
  pub left : b.has_left ≡ ends_life action
  pub asked : b.asked ≡ asked_by step a.asked

-- once its life is over it does nothing any more
abbrev pub TakesBy : Bool → (ColdStart → Step → ColdStart → Type 0) → EpochAction → EpochKeeper → EpochKeeper → Type 0
TakesBy true Right action a b = (action ≡ actions.Rests) × (b ≡ a)
TakesBy false Right action a b = Takes Right action a b

abbrev pub KeepsTo : (ColdStart → Step → ColdStart → Type 0) → EpochAction → EpochKeeper → EpochKeeper → Type 0
KeepsTo Right action a b = TakesBy a.has_left Right action a b

-- A machine said hello in this epoch; none has number 0, so who says that has lost its disk, and counts for nothing.
abbrev pub HearsHelloOf : ℕ → Epoch → ℕ → EpochAction → EpochKeeper → EpochKeeper → Type 0
HearsHelloOf from epoch now action a b = MatchBool (epoch.number == 0) ((action ≡ actions.Rests) × (b ≡ a))
    (KeepsTo (HearsHello from epoch now) action a b)

-- A message is the RECOVERY of this replica, if of any, and comes in this epoch, if it has begun any.
abbrev pub NotesRecovery : Option ℕ → Option Epoch → ℕ → EpochKeeper → EpochKeeper → Type 0
NotesRecovery (Some from) (Some epoch) now a b =
    (action : EpochAction) × KeepsTo (HearsRecovery from epoch now) action a b
NotesRecovery (Some from) None now a b = b ≡ a
NotesRecovery None epoch now a b = b ≡ a

-- its replica has recovered: nothing changes once its life is over
abbrev pub recovered_by : Bool → ColdStart → ColdStart
recovered_by true cold_start = cold_start
recovered_by false cold_start = record cold_start { phase = recovered_in cold_start.phase }

-- ---- when

-- in milliseconds: so much time has passed since then, if that was at all
abbrev pub is_past : Option ℕ → ℕ → ℕ → Bool
is_past None now pause = true
is_past (Some last) now pause = nat_le pause (now - last)

-- it looks at its epoch each 50 ms
abbrev pub is_look_due : EpochKeeper → ℕ → Bool
is_look_due keeper now = is_past keeper.looked now 50

-- and says what it asks each 100 ms, as long as it asks anything in the epoch that it has begun
abbrev pub is_question_due : EpochKeeper → ℕ → Bool
is_question_due keeper now = not keeper.has_left && (is_some (question_in keeper.cold_start.phase)
    && (is_some (spoken_in keeper.cold_start.phase) && is_past keeper.asked now 100))
