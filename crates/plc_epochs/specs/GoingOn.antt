-- What holds from step to step: a store never goes back, and who is frozen stays so.
use Rattle.std.specs.Prelude.{◌≡◌, ⊤, true, ◌⊎◌, ℕ, ◌<◌, is_some}
use Rattle.net_hello.specs.declared.hello.Epoch.{Epoch}
use Rattle.plc_epochs.specs.declared.kept.Kept.{Kept}
use Rattle.plc_epochs.specs.declared.cold_start.ColdStart.{ColdStart}
use Rattle.plc_epochs.specs.declared.cold_start.Phase.{Phase}
use Rattle.plc_epochs.specs.declared.cold_start.Phase.TheVariants.{Waiting, Above, Entering, Entered, Beginning}
use Rattle.plc_epochs.specs.declared.cold_start.Phase.TheVariants.{TakingPart, Recovering}
use Rattle.plc_epochs.specs.declared.kept.Kept.TheVariants as keeps
use Rattle.plc_epochs.specs.Epochs.{is_later}
use Rattle.plc_epochs.specs.Table.{kept_in}

-- ---- the store of a machine never goes back

-- What it may have next: who lost its disk is in an epoch above all that it may have been in; an epoch that was entered
-- is begun, or left for a later one; one that was begun is left for a later one, and never entered again.
abbrev pub GoesOn : Kept → Kept → Type 0
GoesOn keeps.Nothing keeps.Nothing = ⊤
GoesOn keeps.Nothing (keeps.Above above) = ⊤
GoesOn keeps.Nothing (keeps.Entered epoch) = ⊥
GoesOn keeps.Nothing (keeps.Begun epoch) = ⊥
GoesOn (keeps.Above above) keeps.Nothing = ⊥
GoesOn (keeps.Above above) (keeps.Above other) = other ≡ above
GoesOn (keeps.Above above) (keeps.Entered epoch) = is_later epoch above ≡ true
GoesOn (keeps.Above above) (keeps.Begun epoch) = ⊥
GoesOn (keeps.Entered epoch) keeps.Nothing = ⊥
GoesOn (keeps.Entered epoch) (keeps.Above above) = ⊥
GoesOn (keeps.Entered epoch) (keeps.Entered other) = (other ≡ epoch) ⊎ (is_later other epoch ≡ true)
GoesOn (keeps.Entered epoch) (keeps.Begun other) = other ≡ epoch
GoesOn (keeps.Begun epoch) keeps.Nothing = ⊥
GoesOn (keeps.Begun epoch) (keeps.Above above) = ⊥
GoesOn (keeps.Begun epoch) (keeps.Entered other) = is_later other epoch ≡ true
GoesOn (keeps.Begun epoch) (keeps.Begun other) = other ≡ epoch

-- from one machine to the same behind a step
abbrev pub StoreGoesOn : ColdStart → ColdStart → Type 0
StoreGoesOn a b = GoesOn (kept_in a.phase) (kept_in b.phase)

-- ---- a machine stays frozen until it recovers under a nonce that it never used, or leaves its epoch

-- of one that recovers under this nonce in this epoch, and is frozen: it still is, or it recovers under a later nonce,
-- or its store is to have a later epoch
abbrev pub StaysFrozen : Epoch → ℕ → Phase → Type 0
StaysFrozen epoch nonce (Recovering own r) =
    (own ≡ epoch) × (((r.nonce ≡ nonce) × (is_some r.frozen ≡ true)) ⊎ (nonce < r.nonce))
StaysFrozen epoch nonce (Entering own heard) = is_later own epoch ≡ true
StaysFrozen epoch nonce (Waiting heard above) = ⊥
StaysFrozen epoch nonce (Above above) = ⊥
StaysFrozen epoch nonce (Entered own heard) = ⊥
StaysFrozen epoch nonce (Beginning own) = ⊥
StaysFrozen epoch nonce (TakingPart own) = ⊥
