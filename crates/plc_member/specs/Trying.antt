-- When the view is given up that a machine leads.
use Rattle.std.specs.Prelude.{Bool, false, ◌&&◌, ◌==◌, ℕ, Option, Some, None}
use Rattle.vr_model.specs.declared.standing.Standing.{Standing}

-- a replica that is this leads the view that is given up
abbrev pub hands_over : Standing → Option ℕ → Bool
hands_over standing None = false
hands_over standing (Some view) = standing.is_primary && (standing.view == view)
