-- What a report owes, once its line was put.
use Rattle.std.proofs.Common.{◌≡◌, ◌⊎◌, inl, ℕ, List, [], Result, Ok, Err}
use Rattle.std.specs.Prelude.{OnOk, IfErr}
use Rattle.il_model.specs.Program.{Program}
use Rattle.io_model.specs.declared.counted.CountedWrite.{Ghosts as CountedWriter}
use Rattle.plc_json.specs.declared.event.NamedEvent.{NamedEvent}
use Rattle.il_loader.specs.Images.{ReadsImages}
use Rattle.il_loader.specs.Judging.{image_of}
use Rattle.ctl_debugger.specs.Outcome.{answers_of}
use Rattle.vr_core.specs.StandsFor.{group_of, IsSavedAs}
use Rattle.vr_schedules.specs.declared.event.WorldEvent.{WorldEvent}
use Rattle.vr_schedules.specs.declared.trace.Trace.{Trace}
use Rattle.vr_schedules.specs.Traces.{IsTraced}
use Rattle.vr_world.specs.History.{IsOneHistory}
use Rattle.il_text.specs.declared.fault.Fault.{Fault}
use Rattle.il_text.specs.Meaning.{IsTypedProgramOfText, OrMemory}
use Rattle.il_text.specs.Telling.{Puts, IsWhyStopped}
use Rattle.plc_tool.specs.Simulated.{AreKnown, IsSimulated, IsReplicated, IsReportCutShort, IsToldOf, report_line}

module _ {W : Type 0} (w : CountedWriter W) (trace : Trace) (old new : W) where
  pub is_simulated : (text : List ℕ) (budget : ℕ) (Q : Program) (named : List NamedEvent) (events : List WorldEvent) → IsTypedProgramOfText text Q → AreKnown Q named events
      → ReadsImages image_of → IsOneHistory (answers_of Q budget) events trace → (r : Result (Unit {0}) Fault) → Puts w (report_line trace) old new r → OnOk r (IsSimulated text budget named (w.held old) (w.held new))
  is_simulated text budget Q named events is known reads history (Ok x) h =
      record { program = Q; is = is; events = events; known = known; reading = image_of; reads = reads; trace = trace; history = history; written = h.sent }
  is_simulated text budget Q named events is known reads history (Err e) h = tt

  pub is_replicated : (text : List ℕ) (f budget : ℕ) (Q : Program) (named : List NamedEvent) (events : List WorldEvent) → IsTypedProgramOfText text Q → AreKnown Q named events
      → ReadsImages image_of → IsOneHistory (answers_of Q budget) events trace → IsTraced IsSavedAs (group_of f Q budget) events trace → trace.lost.items ≡ [] → (r : Result (Unit {0}) Fault) → Puts w (report_line trace) old new r
      → OnOk r (IsReplicated text f budget named (w.held old) (w.held new))
  is_replicated text f budget Q named events is known reads history traced none (Ok x) h =
      record {
        simulated = record { program = Q; is = is; events = events; known = known; reading = image_of; reads = reads; trace = trace; history = history; written = h.sent };
        traced = traced;
        none_lost = none;
      }
  is_replicated text f budget Q named events is known reads history traced none (Err e) h = tt

  pub is_cut_short : (text : List ℕ) (f budget : ℕ) (Q : Program) (named : List NamedEvent) (events : List WorldEvent) → IsTypedProgramOfText text Q → AreKnown Q named events
      → IsTraced IsSavedAs (group_of f Q budget) events trace → trace.lost.items ≡ [] → (r : Result (Unit {0}) Fault) → Puts w (report_line trace) old new r
      → IfErr r (λ e. IsWhyStopped e (w.faults old) (w.faults new) × IsReportCutShort text f budget named (w.held old) (w.held new) ⊎ OrMemory (IsToldOf text f budget named) e × new ≡ old)
  is_cut_short text f budget Q named events is known traced none (Ok x) h = tt
  is_cut_short text f budget Q named events is known traced none (Err e) h =
      inl (h.why, record { program = Q; is = is; events = events; known = known; trace = trace; traced = traced; none_lost = none; written = h.sent })
