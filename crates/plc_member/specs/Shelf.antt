-- What the directory of a machine is known to keep of its replica.
use Rattle.std.specs.Prelude.{ℕ, Bool, List, Option}

-- the image of the change by which it's marked, if it is; and that the replica has counted a start in its epoch
pub record Shelf : Type 0 where
  pub mark : Option (List ℕ)
  pub is_counted : Bool
