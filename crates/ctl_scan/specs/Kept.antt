-- What a scan cycle keeps, and what a snapshot has of it.
use Rattle.std.specs.Prelude.{◌≡◌, List, ℕ, ℤ, Bool, false, length, Option, Some, None}
use Rattle.il_model.specs.declared.program.Place.{Place}
use Rattle.il_model.specs.declared.limits.TheConstants.{BITS, WORDS}
use Rattle.il_model.specs.declared.snapshot.ForcedSlot.{ForcedSlot}
use Rattle.il_model.specs.declared.snapshot.SavedPhase.{SavedPhase}
use Rattle.il_values.specs.declared.value.Value.TheVariants as values
use Rattle.il_model.specs.declared.snapshot.SavedPhase.TheVariants as saved_phases
use Rattle.il_model.specs.Program.{Program}
use Rattle.il_model.specs.Snapshots.{SavedController}
use Rattle.ctl_model.specs.declared.forces.Mask.{Mask}
use Rattle.ctl_model.specs.declared.forces.Forces.{Forces}
use Rattle.ctl_model.specs.Suits.{Suits}
use Rattle.ctl_model.specs.Slots.{places_of}
use Rattle.ctl_model.specs.Scan.{Cycle, cold_cycle}
use Rattle.ctl_model.specs.Forces.{no_forces}
use Rattle.ctl_model.specs.Snapshots.{forced_slots}
pub use Rattle.ctl_machine.specs.Kept.{HasState, FitsMachine, AreLawful, HasBlock, HaveBlocks, HasNoBlock, HasNoState}
pub use Rattle.ctl_machine.specs.Kept.{Here, Later}

-- ---- what is kept, and when it is that of a program

pub record KeptCycle : Type 0 where
  pub cycle : Cycle
  -- where the declared variables lie, in order
  pub places : List Place

abbrev pub cold_kept : Program → KeptCycle
cold_kept Q = record { cycle = cold_cycle Q; places = places_of Q }

-- the scan cycle was made from an image of this program
pub record IsCycleOf (Q : Program) (c : KeptCycle) : Type 0 where
  pub suits : Suits Q c.cycle.state
  pub places : c.places ≡ places_of Q

-- ---- what a snapshot has

pub record HasCycle (Q : Program) (s : SavedController) (c : Cycle) : Type 0 where
  pub state : HasState Q s c.state
  pub count : s.count ≡ c.count
  pub moment : s.moment ≡ c.moment
  pub forces : s.forces ≡ forced_slots c.forces

-- how many instructions a held scan has performed
abbrev pub performed_in : SavedPhase → ℕ
performed_in saved_phases.Idle = 0
performed_in (saved_phases.Held performed) = performed
performed_in (saved_phases.Stopped stop) = 0

-- a scan cycle with all that, or none where some words are no state
abbrev pub RestoresCycle : Program → SavedController → Option Cycle → Type 0
RestoresCycle Q s (Some c) = HasCycle Q s c × (c.performed ≡ performed_in s.phase) × AreLawful c.state.instances
RestoresCycle Q s None = HasNoState s.instances

-- the slot of a word, where it is forced
abbrev pub forced_word : ℕ → Option ℤ → Option ForcedSlot
forced_word n None = None
forced_word n (Some z) = Some (record { slot = record { 0 = n }; value = values.Int z })

pub record IsMask (m : Mask) : Type 0 where
  pub bits : length m.bits ≡ BITS
  pub words : length m.words ≡ WORDS

-- a mask has a place for each cell of its area
pub record AreMasks (f : Forces) : Type 0 where
  pub input : IsMask f.input
  pub output : IsMask f.output

-- there are no forces, or there may be
abbrev pub MayForce : Bool → Forces → Type 0
MayForce may f = may ≡ false → f ≡ no_forces
