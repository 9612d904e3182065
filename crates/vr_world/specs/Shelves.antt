-- How a store in memory goes on.
use Rattle.std.specs.Prelude.{◌≡◌, ℕ, Bool, true, false, Option, Some, None, if◌then◌else◌}
use Rattle.vr_model.specs.declared.event.Stored.{Stored}
use Rattle.vr_schedules.specs.Members.{failing_of}
use Rattle.vr_world.specs.declared.shelf.Shelf.{Shelf}

-- a load gives the view that it keeps, and never fails
abbrev pub shelf_loads : Shelf → Option Stored → Shelf → Type 0
shelf_loads s (Some stored) t = (stored.view ≡ s.store.view) × (t ≡ s)
shelf_loads s None t = ⊥

-- a save is made where it isn't told to fail; else the new view or the old one is kept, and it is told no longer
abbrev pub shelf_saves : Shelf → ℕ → Bool → Shelf → Type 0
shelf_saves s view true t = (s.store.failing ≡ None) × (t.store ≡ record s.store { view = view })
shelf_saves s view false t = (new : Bool) × (failing_of s.store ≡ Some new)
    × (t.store ≡ record { view = (if new then view else s.store.view); failing = None })
