-- What a change of the program is answered, and what it leaves, said by names.
use Rattle.std.specs.Prelude.{◌≡◌, ℕ, List}
use Rattle.il_model.specs.declared.command.Command.TheVariants as commands
use Rattle.il_model.specs.declared.command.Answer.{Answer}
use Rattle.il_model.specs.declared.command.Answer.TheVariants as answers
use Rattle.il_model.specs.declared.command.Refusal.TheVariants as refusals
use Rattle.il_model.specs.Program.{Program}
use Rattle.il_model.specs.Image.{spelling}
use Rattle.il_loader.specs.Images.{IsWellFormed, Reading, AreBytes, ReadsImages}
use Rattle.ctl_model.specs.declared.phase.Phase.TheVariants.{Idle}
use Rattle.ctl_model.specs.State.{at_rest}
use Rattle.ctl_model.specs.Changes.{CarriesOver}
use Rattle.ctl_model.specs.Commands.{no_breaks}
use Rattle.ctl_debugger.specs.Owned.{Owned, IsController}
use Rattle.ctl_debugger.specs.Outcome.{outcome_with}

-- It goes on with another program: what goes on by its name keeps its value, or its inputs and its state; forces, the
-- count of scans, the greatest moment and the budget stay; no breakpoint is left; no scan is open, so that there is no
-- current result and no deferred operator, and the position is 0. What is left is a controller of that program, so that
-- a next change goes by names too.
pub record GoesOnWith (R : Program) (o n : Owned) : Type 0 where
  pub program : n.program ≡ R
  pub budget : n.budget ≡ o.budget
  pub carries : CarriesOver o.program o.control.cycle.state R n.control.cycle.state
  pub forces : n.control.cycle.forces ≡ o.control.cycle.forces
  pub count : n.control.cycle.count ≡ o.control.cycle.count
  pub moment : n.control.cycle.moment ≡ o.control.cycle.moment
  pub breaks : n.control.breaks ≡ no_breaks R
  pub idle : n.control.phase ≡ Idle
  pub rest : n.control.cycle.state ≡ at_rest n.control.cycle.state
  pub performed : n.control.cycle.performed ≡ 0
  pub lawful : IsController n

-- no program has this image
abbrev pub IsNoImage : List ℕ → Type 0
IsNoImage bytes = (R : Program) → IsWellFormed R → bytes ≡ spelling R → ⊥

-- Between two scans the image of a program is Done, and what is no image is refused; while a scan is held or stopped
-- either is refused. What is refused changes nothing.
pub record IsChanged (bytes : List ℕ) (o : Owned) (x : Answer × Owned) : Type 0 where
  pub done : o.control.phase ≡ Idle → (R : Program) → IsWellFormed R → bytes ≡ spelling R → (x.0 ≡ answers.Done)
      × GoesOnWith R o x.1
  pub no_image : o.control.phase ≡ Idle → IsNoImage bytes → x ≡ (answers.Refused refusals.BadImage, o)
  pub not_idle : (o.control.phase ≡ Idle → ⊥) → x ≡ (answers.Refused refusals.NotIdle, o)

-- whatever reads images
abbrev pub ChangesByNames : Reading → Owned → List ℕ → Type 0
ChangesByNames reading o bytes = ReadsImages reading → IsWellFormed o.program → IsController o → AreBytes bytes
    → IsChanged bytes o (outcome_with reading o (commands.Change bytes))
