-- When an epoch has ended: from a moment on nothing new is committed in its run.
use Rattle.std.specs.Prelude.{◌≡◌, ℕ, true, Bool, List, ◌++◌}
use Rattle.vr_model.specs.Logs.{Request}
use Rattle.laws_cold_start.specs.ColdStarts.{AreFrozen, IsInNoLog, IsNeverCommitted}
use Rattle.net_hello.specs.declared.hello.Epoch.{Epoch}
use Rattle.plc_epochs.specs.declared.kept.Kept.{Kept}
use Rattle.plc_epochs.specs.declared.recovery.Recovery.{Recovery}
use Rattle.plc_epochs.specs.Epochs.{is_later}
use Rattle.laws_epoch_ends.specs.TrueMoves.{machine_behind}
use Rattle.laws_epoch_ends.specs.Freezing.{Recovers}
use Rattle.laws_epoch_ends.specs.Acts.{Act, events_in, moves_in}

module _ {C A : Type 0} (f : ℕ) (answer : List C → A) where
  -- what stood in no log of this epoch up to the early acts is committed in it by none of the late ones
  abbrev pub NothingNewIn : Epoch → List (Act C) → List (Act C) → Type 0
  NothingNewIn epoch early late = (m : Request C) → IsInNoLog f answer (events_in epoch early) m
      → IsNeverCommitted f answer (events_in epoch early) (events_in epoch late) m

  -- Machine i recovers in an epoch behind the early acts, and this one is later. There was a moment before at which f+1
  -- replicas of that epoch were out, and are handed no answer from then on: so from that moment on nothing new is
  -- committed in it.
  pub record EndedBefore (stores : ℕ → Kept) (i : ℕ) (epoch next : Epoch) (early late : List (Act C)) : Type 0 where
    pub recovery : Recovery
    pub recovers : Recovers (machine_behind f stores (moves_in early) i) epoch recovery
    pub later : is_later next epoch ≡ true
    pub before : List (Act C)
    pub between : List (Act C)
    pub is : early ≡ before ++ between
    pub who : ℕ → Bool
    pub nonces : ℕ → ℕ
    pub frozen : AreFrozen f answer (events_in epoch before) (events_in epoch (between ++ late)) who nonces
    pub nothing_new : NothingNewIn epoch before (between ++ late)
