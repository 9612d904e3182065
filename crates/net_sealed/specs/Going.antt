-- What goes out as sealed records.
use Rattle.std.specs.Prelude.{◌≡◌, ℕ, List}
use Rattle.net_keys.specs.Sealing.{Seals}
use Rattle.net_keys.specs.declared.sealing.Sealer.{Sealer}
use Rattle.net_sealed.specs.Coming.{sealed_bytes}

-- what seals the next record, and the bytes of records that wait to be written
pub record Going : Type 0 where
  pub sealer : Sealer
  pub waiting : List ℕ

-- a record of this body was sealed under the next number, and waits
pub record SealsNext (before after : Going) (body : List ℕ) : Type 0 where
  pub sum : List ℕ
  pub seals : Seals before.sealer after.sealer body sum
  pub waiting : after.waiting ≡ sealed_bytes body sum
