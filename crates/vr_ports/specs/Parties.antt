-- The parties of a group: their places, and what an end of one tells of itself.
use Rattle.std.specs.Prelude.{◌≡◌, ℕ, ◌+◌, ◌<◌, List, ◌++◌, Option, Some, None}
use Rattle.vr_model.specs.declared.message.Party.{Party}
use Rattle.vr_model.specs.declared.message.Party.TheVariants.{Replica, Client}

-- ---- places: replicas come first, by their numbers, and then clients by theirs

-- the party at this place of a group with so many replicas
abbrev pub IsPartyAt : ℕ → ℕ → Party → Type 0
IsPartyAt replicas place (Replica number) = (place < replicas) × (number ≡ place)
IsPartyAt replicas place (Client client) = place ≡ replicas + client.number

-- ---- what an end of a party tells of itself

-- what an end told, and tells after these further items; one that tells nothing stays so
abbrev pub Grows : {X : Type 0} → Option (List X) → Option (List X) → List X → Type 0
Grows None after more = after ≡ None
Grows (Some before) after more = after ≡ Some (before ++ more)
