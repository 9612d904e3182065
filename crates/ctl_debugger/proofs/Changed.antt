-- A change of the program goes by names.
use Rattle.std.proofs.Common.{◌≡◌, ℕ, zero, suc, ◌<◌, true, false, List, [], ◌∷◌, length, map, Option, Some, None, Result, Ok, Err, refl, sym, ap, subst, ◌∙◌, arith}
use Rattle.std.specs.Prelude.{slice_get, position, unwrap_or}
use Rattle.std.specs.Option.{option_and_then}
use Rattle.std.proofs.lemmas.List.{length-replicate}
use Rattle.il_model.specs.declared.kind.BlockKind.{BlockKind}
use Rattle.il_model.specs.declared.kind.BlockKind.TheVariants as kinds
use Rattle.il_model.specs.declared.program.Instance.{Instance}
use Rattle.ctl_blocks.specs.Blocks.{cold_block, is_block}
use Rattle.ctl_scan.specs.Kept.{AreLawful}
use Rattle.il_model.specs.declared.command.Command.TheVariants as commands
use Rattle.il_model.specs.declared.command.Answer.{Answer}
use Rattle.il_model.specs.declared.command.Answer.TheVariants as answers
use Rattle.il_model.specs.declared.command.Refusal.TheVariants as refusals
use Rattle.il_model.specs.Program.{Program}
use Rattle.il_model.specs.Fits.{IsProgram, IsImage}
use Rattle.il_records.specs.declared.fault.LoadFault.{LoadFault}
use Rattle.il_loader.specs.Images.{IsWellFormed, Reading, AreBytes, ReadsImages}
use Rattle.ctl_model.specs.declared.phase.Phase.{Phase}
use Rattle.ctl_model.specs.declared.phase.Phase.TheVariants as phases
use Rattle.ctl_model.specs.State.{State, BlockInstance, cold_instance}
use Rattle.ctl_model.specs.Suits.{HasValues, Suits}
use Rattle.ctl_model.specs.Changes.{goes_on_as, carried_instance, carried_state, CarriesOver}
use Rattle.ctl_debugger.specs.Owned.{Owned, IsController}
use Rattle.ctl_debugger.specs.Outcome.{outcome_with, changed, on_image, if_idle}
use Rattle.ctl_debugger.specs.Changing.{GoesOnWith, IsNoImage, ChangesByNames}

-- the laws of the state alone
abbrev pub Carries : Type 0
Carries = (Q : Program) (s : State) (R : Program) → IsProgram Q → HasValues Q s → CarriesOver Q s R (carried_state Q s R)

abbrev pub LeavesSuited : Type 0
LeavesSuited = (Q : Program) (s : State) (R : Program) → IsProgram R → HasValues Q s → Suits R (carried_state Q s R)

-- ---- each block's state stays one of its kind

cold_lawful : (kind : BlockKind) → is_block (cold_block kind) ≡ true
cold_lawful kinds.Sr = refl
cold_lawful kinds.Rs = refl
cold_lawful kinds.RTrig = refl
cold_lawful kinds.FTrig = refl
cold_lawful kinds.Ctu = refl
cold_lawful kinds.Ctd = refl
cold_lawful kinds.Ctud = refl
cold_lawful kinds.Tp = refl
cold_lawful kinds.Ton = refl
cold_lawful kinds.Tof = refl

abbrev IsLawful : BlockInstance → Type 0
IsLawful x = is_block x.block ≡ true

lawful_at : (bs : List BlockInstance) (i : ℕ) (b : BlockInstance) → AreLawful bs → slice_get bs i ≡ Some b → IsLawful b
lawful_at [] i b are there = absurd cc
lawful_at (c ∷ bs) zero b are there = let is : c ≡ b = cc in subst IsLawful is are.0
lawful_at (c ∷ bs) (suc i) b are there = lawful_at bs i b are.1 there

lawful_there : (bs : List BlockInstance) (y : Instance) (i : ℕ) (o : Option BlockInstance) → AreLawful bs → slice_get bs i ≡ o → IsLawful (unwrap_or o (cold_instance y))
lawful_there bs y i None are e = cold_lawful y.kind
lawful_there bs y i (Some b) are e = lawful_at bs i b are e

lawful_one : (bs : List BlockInstance) (y : Instance) (place : Option ℕ) → AreLawful bs → IsLawful (unwrap_or (option_and_then (slice_get bs) place) (cold_instance y))
lawful_one bs y None are = cold_lawful y.kind
lawful_one bs y (Some i) are = lawful_there bs y i (slice_get bs i) are refl

carried_lawful : (xs : List Instance) (bs : List BlockInstance) (ys : List Instance) → AreLawful bs → AreLawful (map (carried_instance xs bs) ys)
carried_lawful xs bs [] are = tt
carried_lawful xs bs (y ∷ ys) are = (lawful_one bs y (position (λ (x : Instance). goes_on_as x y) xs) are, carried_lawful xs bs ys are)

-- ---- the change

is_done : (reading : Reading) (o : Owned) (bytes : List ℕ) (R : Program) → o.control.phase ≡ phases.Idle → reading bytes ≡ Ok R → outcome_with reading o (commands.Change bytes) ≡ (answers.Done, changed o R)
is_done reading o bytes R idle e = ap (if_idle o (on_image o (reading bytes))) idle ∙ ap (on_image o) e

left_lawful : (o : Owned) (R : Program) → IsController o → Suits R (carried_state o.program o.control.cycle.state R) → IsController (changed o R)
left_lawful o R is suits = record {
  suits = suits;
  blocks = carried_lawful o.program.instances o.control.cycle.state.instances R.instances is.blocks;
  forces = is.forces;
  breaks = length-replicate (length R.code) false;
  performed = (let lt : o.control.cycle.performed < o.budget = is.performed in let some : 0 < o.budget = omega (arith, lt) in some);
  scan = (refl, refl);
}

goes_on : (o : Owned) (R : Program) → CarriesOver o.program o.control.cycle.state R (carried_state o.program o.control.cycle.state R) → IsController (changed o R) → GoesOnWith R o (changed o R)
goes_on o R carries lawful = record {
  program = refl;
  budget = refl;
  carries = carries;
  forces = refl;
  count = refl;
  moment = refl;
  breaks = refl;
  idle = refl;
  rest = refl;
  performed = refl;
  lawful = lawful;
}

refused_by : (reading : Reading) (o : Owned) (bytes : List ℕ) (r : Result Program LoadFault) → ReadsImages reading → reading bytes ≡ r → AreBytes bytes → IsNoImage bytes → on_image o r ≡ (answers.Refused refusals.BadImage, o)
refused_by reading o bytes (Ok R) reads e fits none = let is = reads.only bytes R fits e in absurd (none R is.0 is.1)
refused_by reading o bytes (Err fault) reads e fits none = refl

open_by : (o : Owned) (x : Answer × Owned) (p : Phase) → (p ≡ phases.Idle → ⊥) → if_idle o x p ≡ (answers.Refused refusals.NotIdle, o)
open_by o x phases.Idle never = absurd (never refl)
open_by o x phases.Held never = refl
open_by o x (phases.Stopped stop) never = refl

-- the law of images
abbrev pub HasImage : Type 0
HasImage = (Q : Program) → IsWellFormed Q → IsImage Q

pub changed_by_names : Carries → LeavesSuited → HasImage → (reading : Reading) (o : Owned) (bytes : List ℕ) → ChangesByNames reading o bytes
changed_by_names carries suited has reading o bytes reads whole is fits = record {
  done = λ idle R formed same.
      subst (λ (x : Answer × Owned). (x.0 ≡ answers.Done) × GoesOnWith R o x.1) (sym (is_done reading o bytes R idle (ap reading same ∙ reads.read R formed)))
      (refl, goes_on o R (carries o.program o.control.cycle.state R (has o.program whole).text is.suits.values) (left_lawful o R is (suited o.program o.control.cycle.state R (has R formed).text is.suits.values)));
  no_image = λ idle none. ap (if_idle o (on_image o (reading bytes))) idle ∙ refused_by reading o bytes (reading bytes) reads refl fits none;
  not_idle = λ never. open_by o (on_image o (reading bytes)) o.control.phase never;
}
