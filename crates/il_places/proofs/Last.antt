-- The origins of the last unit.
use Rattle.std.proofs.Common.{◌≡◌, List, [], ◌∷◌, ◌++◌, refl}
use Rattle.il_places.specs.Origins.{TraceText, last_origins}

pub last_of : (ts : List TraceText) (t : TraceText) → last_origins (ts ++ t ∷ []) ≡ t.origins
unfolding last_origins
last_of [] t = refl
last_of (u ∷ []) t = refl
last_of (u ∷ v ∷ ts) t = last_of (v ∷ ts) t
