-- When an epoch begins: a majority has come to it for good.
use Rattle.std.specs.Prelude.{◌≡◌, ℕ, ◌+◌, ◌<◌, ◌≤◌, ◌⊎◌, Bool, true, List, ◌∷◌, ◌++◌, Some, None}
use Rattle.vr_model.specs.Groups.{group_size, how_many}
use Rattle.net_hello.specs.declared.hello.Epoch.{Epoch}
use Rattle.plc_epochs.specs.declared.kept.Kept.{Kept}
use Rattle.plc_epochs.specs.declared.kept.Kept.TheVariants as keeps
use Rattle.plc_epochs.specs.declared.cold_start.ColdStart.{ColdStart}
use Rattle.plc_epochs.specs.declared.cold_start.Phase.{Phase}
use Rattle.plc_epochs.specs.declared.cold_start.Phase.TheVariants.{Above, Beginning, Recovering}
use Rattle.plc_epochs.specs.Epochs.{is_later}
use Rattle.plc_epochs.specs.Table.{kept_in, spoken_in}
use Rattle.laws_epochs.specs.Machines.{Move, Machine, AreMoves, after_moves, at_rest}

abbrev pub IsNoEarlier : Epoch → Epoch → Type 0
IsNoEarlier own epoch = (own ≡ epoch) ⊎ (is_later own epoch ≡ true)

-- a store has this epoch, or a later one
abbrev pub HasCome : Epoch → Kept → Type 0
HasCome epoch keeps.Nothing = ⊥
HasCome epoch (keeps.Above above) = ⊥
HasCome epoch (keeps.Entered own) = IsNoEarlier own epoch
HasCome epoch (keeps.Begun own) = IsNoEarlier own epoch

-- a store has begun this epoch, or has a later one
abbrev pub HasBegun : Epoch → Kept → Type 0
HasBegun epoch keeps.Nothing = ⊥
HasBegun epoch (keeps.Above above) = ⊥
HasBegun epoch (keeps.Entered own) = is_later own epoch ≡ true
HasBegun epoch (keeps.Begun own) = IsNoEarlier own epoch

-- a process is beginning this epoch: it waits for its store to have it as begun
abbrev pub IsBeginning : Epoch → Phase → Type 0
IsBeginning epoch (Beginning own) = own ≡ epoch
IsBeginning epoch phase = ⊥

-- A machine has begun this epoch, or is past it: so is its store, and so is its process, if it's up, which isn't just
-- beginning it.
pub record BeganBefore (epoch : Epoch) (machine : Machine) : Type 0 where
  pub store : HasBegun epoch machine.store
  pub process : (a : ColdStart) → machine.runs ≡ Some a
      → HasBegun epoch (kept_in a.phase) × (IsBeginning epoch a.phase → ⊥)

-- the store of a machine has this epoch, or a later one, and its process takes part in none before it
pub record IsPast (epoch : Epoch) (machine : Machine) : Type 0 where
  pub store : HasCome epoch machine.store
  pub part : (a : ColdStart) (own : Epoch) → machine.runs ≡ Some a → spoken_in a.phase ≡ Some own
      → IsNoEarlier own epoch

-- a machine's disk was lost, and it waits above this epoch
pub record WaitsAbove (epoch : Epoch) (machine : Machine) : Type 0 where
  pub store : machine.store ≡ keeps.Above epoch
  pub process : (a : ColdStart) → machine.runs ≡ Some a → a.phase ≡ Above epoch

-- a store waits above this epoch, or has a later one
abbrev pub IsBeyond : Epoch → Kept → Type 0
IsBeyond epoch keeps.Nothing = ⊥
IsBeyond epoch (keeps.Above above) = IsNoEarlier above epoch
IsBeyond epoch (keeps.Entered own) = is_later own epoch ≡ true
IsBeyond epoch (keeps.Begun own) = is_later own epoch ≡ true

-- the store of a machine does, and its process takes part in later epochs alone
pub record TakesPartBeyond (epoch : Epoch) (machine : Machine) : Type 0 where
  pub store : IsBeyond epoch machine.store
  pub part : (a : ColdStart) (own : Epoch) → machine.runs ≡ Some a → spoken_in a.phase ≡ Some own
      → is_later own epoch ≡ true

-- As this move comes behind the early ones, f+1 machines have come to the epoch; and whatever comes later, they have
-- left all epochs before it for good.
pub record MajorityIsPast (f : ℕ) (stores : ℕ → Kept) (early : List Move) (move : Move) (epoch : Epoch) : Type 0 where
  pub who : ℕ → Bool
  pub many : f + 1 ≤ how_many who (group_size f)
  pub past : (late : List Move) (i : ℕ) → AreMoves f (at_rest stores) (early ++ move ∷ late) → i < group_size f
      → who i ≡ true → IsPast epoch ((after_moves f (at_rest stores) (early ++ move ∷ late)).at i)

-- it doesn't recover, or isn't frozen
abbrev pub IsUnfrozen : Phase → Type 0
IsUnfrozen (Recovering epoch recovery) = recovery.frozen ≡ None
IsUnfrozen phase = Unit {0}

-- a process of machine i, one of the group, that knows its number and its group
pub record IsPlaced (f i : ℕ) (a : ColdStart) : Type 0 where
  pub number : a.place.number ≡ i
  pub group : a.place.config.f ≡ f
  pub within : i < group_size f
