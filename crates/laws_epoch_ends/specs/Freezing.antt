-- When machines are frozen: who is, who stays so, and the moment at which f+1 are.
use Rattle.std.specs.Prelude.{◌≡◌, ℕ, ◌+◌, ◌<◌, ◌≤◌, Bool, true, List, ◌++◌, Some, is_some}
use Rattle.vr_model.specs.Groups.{group_size, how_many}
use Rattle.net_hello.specs.declared.hello.Epoch.{Epoch}
use Rattle.plc_epochs.specs.declared.kept.Kept.{Kept}
use Rattle.plc_epochs.specs.declared.recovery.Recovery.{Recovery}
use Rattle.plc_epochs.specs.declared.cold_start.ColdStart.{ColdStart}
use Rattle.plc_epochs.specs.declared.cold_start.Phase.TheVariants.{Recovering}
use Rattle.laws_epochs.specs.Machines.{Telling, WordCame, Move, Machine}
use Rattle.laws_epoch_ends.specs.TrueMoves.{machine_behind}

-- a machine that is up recovers in this epoch, and this is how
pub record Recovers (machine : Machine) (epoch : Epoch) (recovery : Recovery) : Type 0 where
  pub value : ColdStart
  pub runs : machine.runs ≡ Some value
  pub phase : value.phase ≡ Recovering epoch recovery

-- it's frozen in this epoch, under this nonce
pub record IsFrozen (machine : Machine) (epoch : Epoch) (nonce : ℕ) : Type 0 where
  pub recovery : Recovery
  pub recovers : Recovers machine epoch recovery
  pub nonce_is : recovery.nonce ≡ nonce
  pub frozen : is_some recovery.frozen ≡ true

-- as long as it recovers under this nonce, it's in this epoch, and frozen
abbrev pub IsFrozenUnder : Machine → Epoch → ℕ → Type 0
IsFrozenUnder machine epoch nonce = (own : Epoch) (recovery : Recovery) → Recovers machine own recovery
    → recovery.nonce ≡ nonce → (own ≡ epoch) × (is_some recovery.frozen ≡ true)

-- a machine is told a word of another
abbrev pub IsWord : Telling → Type 0
IsWord (WordCame from epoch word now) = Unit {0}
IsWord telling = ⊥

-- At a moment of these moves f+1 machines were frozen in this epoch, each under a nonce of its own.
pub record WereFrozen (f : ℕ) (stores : ℕ → Kept) (moves : List Move) (epoch : Epoch) : Type 0 where
  pub early : List Move
  pub late : List Move
  pub is : moves ≡ early ++ late
  pub who : ℕ → Bool
  pub nonces : ℕ → ℕ
  pub many : f + 1 ≤ how_many who (group_size f)
  pub frozen : (i : ℕ) → i < group_size f → who i ≡ true
      → IsFrozen (machine_behind f stores early i) epoch (nonces i)
