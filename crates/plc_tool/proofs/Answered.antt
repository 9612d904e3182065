-- What a run puts is the answers of the text.
use Rattle.std.proofs.Common.{◌≡◌, ◌⊎◌, inl, ℕ, List, Result, Ok, Err, ap}
use Rattle.std.specs.Prelude.{OnOk, IfErr}
use Rattle.il_model.specs.Program.{Program}
use Rattle.il_model.specs.Typing.{IsTyped}
use Rattle.io_model.specs.declared.counted.CountedWrite.{Ghosts as CountedWriter}
use Rattle.il_loader.specs.Images.{ReadsImages}
use Rattle.il_loader.specs.Judging.{image_of}
use Rattle.ctl_debugger.specs.Owned.{Owned, cold_owned}
use Rattle.plc_json.specs.declared.command.NamedCommand.{NamedCommand}
use Rattle.il_text.specs.declared.fault.Fault.{Fault}
use Rattle.il_places.specs.Places.{PlacesText}
use Rattle.il_places.specs.Located.{placed_lines}
use Rattle.il_text.specs.Meaning.{IsTypedProgramOfText, IsTextFault, OrMemory}
use Rattle.plc_tool.specs.Calls.{IsAnswered}
use Rattle.plc_names.specs.Named.{answers_by}
use Rattle.il_text.specs.Telling.{Puts, IsWhyStopped}
use Rattle.plc_tool.specs.Calls.{AreToldPlaces, IsRun, IsRunCutShort}

pub are_answers : (text : List ℕ) (budget : ℕ) (commands : List NamedCommand) (Q : Program) (c : Owned) → IsTypedProgramOfText text Q → IsTyped Q → ReadsImages image_of → c ≡ cold_owned Q budget → IsAnswered text budget commands (answers_by c commands)
are_answers text budget commands Q c is typed reads cold = record {
  program = Q;
  is = is;
  typed = typed;
  reading = image_of;
  reads = reads;
  answers_are = ap (λ (o : Owned). answers_by o commands) cold;
}

module _ {W : Type 0} (w : CountedWriter W) (text : List ℕ) (budget : ℕ) (commands : List NamedCommand) (c : Owned) (ps : PlacesText) (old new : W) (are : IsAnswered text budget commands (answers_by c commands)) (told : AreToldPlaces text commands ps) where
  pub is_run : (r : Result (Unit {0}) Fault) → Puts w (placed_lines ps (answers_by c commands)) old new r → OnOk r (IsRun text budget commands (w.held old) (w.held new))
  is_run (Ok x) h = record { answers = answers_by c commands; are = are; places = ps; told = told; written = h.sent }
  is_run (Err e) h = tt

  pub is_cut_short : (r : Result (Unit {0}) Fault) → Puts w (placed_lines ps (answers_by c commands)) old new r
      → IfErr r (λ e. IsWhyStopped e (w.faults old) (w.faults new) × IsRunCutShort w text budget commands old new ⊎ OrMemory (IsTextFault text) e × new ≡ old)
  is_cut_short (Ok x) h = tt
  is_cut_short (Err e) h = inl (h.why, record { answers = answers_by c commands; are = are; places = ps; told = told; written = h.sent })
