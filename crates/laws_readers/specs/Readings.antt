-- Clients that read what machines show, by one clock: what is shown of an epoch, and when.
use Rattle.std.specs.Prelude.{◌≡◌, ℕ, ◌+◌, ◌≤◌, List, ◌∷◌, ◌++◌, map}
use Rattle.vr_model.specs.Logs.{Request, IsAmong}
use Rattle.vr_model.specs.World.{Event, Completion}
use Rattle.laws_cold_start.specs.ColdStarts.{IsInNoLog}
use Rattle.vr_model.specs.Views.{world}
use Rattle.net_hello.specs.declared.hello.Epoch.{Epoch}
use Rattle.plc_epochs.specs.declared.cold_start.ColdStart.{ColdStart}
use Rattle.plc_epochs.specs.declared.cold_start.Step.TheVariants as steps
use Rattle.laws_epochs.specs.Machines.{Takes, TimeHasPassed}
use Rattle.laws_epochs.specs.LostDisks as lost
use Rattle.laws_epoch_ends.specs.Acts.{Act, Moves, events_in}
use Rattle.laws_epoch_ends.specs.LostDisks.{Deed, Does}
use Rattle.laws_epoch_ends.specs.LostDisks as kept

-- an act, or a deed, and when it was done by the one clock
pub record Timed (X : Type 0) : Type 0 where
  pub act : X
  pub done : ℕ

abbrev pub acts_of : {X : Type 0} → List (Timed X) → List X
acts_of timed = map (λ t. t.act) timed

-- by one of these acts the epoch began, and that's so long ago
pub record HasBegunBefore {X : Type 0} (Begins : X → Type 0) (acts : List (Timed X)) (now ago : ℕ) : Type 0 where
  pub early : List (Timed X)
  pub beginning : Timed X
  pub late : List (Timed X)
  pub is : acts ≡ early ++ beginning ∷ late
  pub begins : Begins beginning.act
  pub passed : beginning.done + ago ≤ now

-- What a machine shows of an epoch now, behind these acts, is as of a request that is committed there and is younger
-- than `fresh`: it stood in no log of the epoch before an act that was done `fresh` ago. And who shows something of an
-- epoch does so `fresh` behind the first that began it. It's told of the epoch which events of it acts have, and by
-- which act it begins.
pub record ShowsOf {X C A : Type 0} (f : ℕ) (answer : List C → A) (events : List X → List (Event C × Completion))
    (Begins : X → Type 0) (fresh : ℕ) (acts : List (Timed X)) (now : ℕ) : Type 0 where
  pub request : Request C
  pub committed : IsAmong (world f answer (events (acts_of acts))).order request
  pub young : (early late : List (Timed X)) (act : Timed X) → acts ≡ early ++ act ∷ late → act.done + fresh ≤ now
      → IsInNoLog f answer (events (acts_of early)) request
  pub opened : HasBegunBefore Begins acts now fresh

-- by this act a machine begins this epoch
pub record BeginsBy {C : Type 0} (epoch : Epoch) (act : Act C) : Type 0 where
  pub machine : ℕ
  pub own_time : ℕ
  pub becomes : ColdStart
  pub is : act ≡ Moves (Takes machine (TimeHasPassed own_time) (steps.Begins epoch) becomes)

abbrev pub Shows : {C A : Type 0} → ℕ → (List C → A) → ℕ → List (Timed (Act C)) → Epoch → ℕ → Type 0
Shows f answer fresh acts epoch now = ShowsOf f answer (events_in epoch) (BeginsBy epoch) fresh acts now

-- ---- where disks are lost, too

-- by this deed a machine begins this epoch
pub record BeginsByDeed {C : Type 0} (epoch : Epoch) (deed : Deed C) : Type 0 where
  pub machine : ℕ
  pub own_time : ℕ
  pub becomes : ColdStart
  pub is : deed ≡ Does (lost.Moves (Takes machine (TimeHasPassed own_time) (steps.Begins epoch) becomes))

abbrev pub ShowsByDeeds : {C A : Type 0} → ℕ → (List C → A) → ℕ → List (Timed (Deed C)) → Epoch → ℕ → Type 0
ShowsByDeeds f answer fresh deeds epoch now =
    ShowsOf f answer (kept.events_in epoch) (BeginsByDeed epoch) fresh deeds now
