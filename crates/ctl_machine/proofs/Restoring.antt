-- Words that are no state, and what a machine of a snapshot's parts is.
use Rattle.std.proofs.Common.{◌≡◌, ℕ, zero, suc, ◌<◌, ◌≤◌, List, [], ◌∷◌, length, map, reverse, get_or, Option, Some, None, sym, ap, subst, ◌∙◌, arith}
use Rattle.std.specs.Prelude.{IfSome}
use Rattle.std.specs.Option.{option_map}
use Rattle.std.proofs.lemmas.List.{reverse-reverse, length-reverse, length-map}
use Rattle.il_model.specs.declared.program.Place.{Place}
use Rattle.il_model.specs.declared.fetched.Deferred.{Deferred}
use Rattle.il_model.specs.declared.cells.Cells.{Cells}
use Rattle.il_model.specs.Snapshots.{SavedBlock, SavedController}
use Rattle.il_model.specs.Program.{Program}
use Rattle.il_model.specs.Fits.{IsProgram}
use Rattle.il_model.specs.Typing.{Arrives}
use Rattle.il_values.specs.Values.{ty_of}
use Rattle.ctl_model.specs.State.{State}
use Rattle.ctl_model.specs.Slots.{places_of}
use Rattle.ctl_model.specs.Suits.{AreCells, KeepFirsts, held_of, Suits}
use Rattle.ctl_model.specs.Snapshots.{fit_instances}
use Rattle.il_model.proofs.Judged.{arrived}
use Rattle.ctl_model.proofs.ColdSuits.{firsts_typed}
use Rattle.ctl_model.proofs.Fitting.{instances_of, few_deferred}
use Rattle.ctl_machine.proofs.Values.{are_all}
use Rattle.ctl_machine.specs.Kept.{IsMachineOf, HasState, all_values, FitsMachine, RestoresState, HasNoBlock}
use Rattle.ctl_machine.specs.Kept.{HasNoState, Here, Later}

pub lost_at : (xs : List SavedBlock) (i : ℕ) (x : SavedBlock) → i < length xs → x ≡ get_or xs i x → HasNoBlock x → HasNoState xs
lost_at [] i x lt e none = absurd (omega (arith, lt))
lost_at (y ∷ xs) zero x lt e none = Here y xs (subst HasNoBlock e none)
lost_at (y ∷ xs) (suc i) x lt e none = Later y xs (lost_at xs i x (omega (arith, lt)) e none)

pub deferred_few : (Q : Program) (s : SavedController) → FitsMachine Q s → length s.deferred ≤ 16
deferred_few Q s fits =
    let few = few_deferred Q s.position fits.shape (arrived Q s.position fits.shape fits.types) in
    let same : length s.deferred ≡ length fits.shape.kept = sym (length-map (reverse s.deferred) held_of ∙ length-reverse s.deferred) ∙ ap length fits.deferred in
    omega (arith, few, same)

pub restored_suits : (Q : Program) (s : SavedController) (st : State) → IsProgram Q → FitsMachine Q s → HasState Q s st → st.own ≡ all_values Q.variables s.variables → AreCells s.input → AreCells s.output → AreCells s.memory → Suits Q st
restored_suits Q s st is fits has own i o m =
    let all = are_all Q.variables s.variables fits.variables in
    record {
      values = record {
        own = ap (map ty_of) own ∙ all.types (firsts_typed [] Q.variables is.variables);
        firsts = subst (KeepFirsts Q.variables) (sym own) all.firsts;
        instances = instances_of Q.instances st.instances (ap (fit_instances Q.instances) (sym has.instances) ∙ fits.instances);
        input = subst AreCells has.input i;
        output = subst AreCells has.output o;
        memory = subst AreCells has.memory m;
      };
      shape = fits.shape;
      types = subst (λ (n : ℕ). Arrives Q n fits.shape) has.position fits.types;
      has = record {
        cr = ap (option_map ty_of) (sym has.cr) ∙ fits.cr;
        kept = ap (map held_of) (sym (reverse-reverse st.kept)) ∙ ap (λ (ds : List Deferred). map held_of (reverse ds)) (sym has.deferred) ∙ fits.deferred;
      };
    }

pub restored_kept : (Q : Program) (s : SavedController) (o : Option State) (st : State) (places : List Place) (input output memory : Cells)
    → IsProgram Q → FitsMachine Q s → RestoresState Q s o → IfSome o (λ t. t.own ≡ all_values Q.variables s.variables) → o ≡ Some st → places ≡ places_of Q → AreCells input → input ≡ s.input → AreCells output → output ≡ s.output → AreCells memory → memory ≡ s.memory → IsMachineOf Q (record { state = st; places = places })
restored_kept Q s None st places i o m text fits r own is lie a b d e f g = absurd cc
restored_kept Q s (Some t) st places i o m text fits r own is lie a b d e f g =
    let same : t ≡ st = cc in
    let has = subst (HasState Q s) same r.0 in
    let all = subst (λ (x : State). x.own ≡ all_values Q.variables s.variables) same own in
    record { suits = restored_suits Q s st text fits has all (subst AreCells b a) (subst AreCells e d) (subst AreCells g f); places = lie }
