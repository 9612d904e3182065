-- Lines that find room, and how those are counted that don't.
use Rattle.std.specs.Prelude.{◌≡◌, ◌⊎◌, ℕ, zero, suc, ◌+◌, ◌-◌, ◌^◌, min, List, [], ◌++◌, codes}
use Rattle.std.specs.Fmt.{decimal}
use Rattle.rtrb.specs.Ring.{sent}
use Rattle.io_relay.specs.declared.lines.Lines.{Lines}

-- all that found room, in order
abbrev pub passed : Lines → List ℕ
passed lines = sent lines.producer

-- the line that tells that so many were lost, if any were
abbrev pub loss : ℕ → List ℕ
loss zero = []
loss (suc n) = decimal (suc n) ++ codes " lines lost\n"

-- it was told how many were lost, and none is counted any more; or that found no room, and they still are
abbrev pub IsLossTold : Lines → Lines → Type 0
IsLossTold old new = ((passed new ≡ passed old ++ loss old.lost) × (new.lost ≡ 0))
    ⊎ ((passed new ≡ passed old) × (new.lost ≡ old.lost))

-- A line stands whole behind all that found room, and before it how many had been lost. Or nothing of it does, and it is
-- counted: with those before it, or alone, where these were told.
abbrev pub IsSent : List ℕ → Lines → Lines → Type 0
IsSent line old new = ((passed new ≡ passed old ++ (loss old.lost ++ line)) × (new.lost ≡ 0))
    ⊎ (((passed new ≡ passed old) × (new.lost ≡ min (old.lost + 1) (2 ^ 64 - 1)))
    ⊎ ((passed new ≡ passed old ++ loss old.lost) × (new.lost ≡ 1)))
