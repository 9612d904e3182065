-- What is put into a trace, and the lines that are written of it.
use Rattle.std.specs.Prelude.{ℕ, List, ◌++◌, Option, Some, None, codes, ◌≡◌, ◌⊎◌, ◌+◌, ◌-◌, ◌^◌, min, [], ◌∷◌, flat_map}
use Rattle.std.specs.Fmt.{decimal}
use Rattle.std.specs.Io.KnownBytes.{Appends}
use Rattle.rtrb.specs.Ring.{sent, received, known_free, IsPair, SameConsumer, SameProducer}
use Rattle.io_model.specs.declared.counted.CountedWrite.{Ghosts as CountedWriter}
use Rattle.il_model.specs.declared.command.Answer.{Answer}
use Rattle.il_text.specs.Lines.{answer_text}
use Rattle.plc_trace.specs.declared.line.Line.{Line}
use Rattle.plc_trace.specs.declared.line.Placed.{Placed}
use Rattle.plc_trace.specs.declared.line.Started.{Started}
use Rattle.plc_trace.specs.declared.line.Traced.{Traced}
use Rattle.plc_trace.specs.declared.trace.Trace.{Trace}
use Rattle.plc_trace.specs.declared.writer.TraceWriter.{TraceWriter}

-- ---- lines

-- that of a machine which was started so often
abbrev pub start_line : Started → List ℕ
start_line started =
    codes "machine " ++ (decimal started.machine ++ (codes " start " ++ (decimal started.starts ++ codes "\n")))

-- how many releases were left out before it, and the answer, as `plc run` prints it
abbrev pub rest_of_line : ℕ → Answer → List ℕ
rest_of_line left_out answer = decimal left_out ++ (codes " " ++ (answer_text answer ++ codes "\n"))

-- the epoch, the place, the number of the request and the moment; a dash stands for a place or a moment that isn't known
abbrev pub line_at : ℕ → Option Placed → ℕ → ℕ → Answer → List ℕ
line_at epoch (Some placed) number left_out answer =
    decimal epoch ++ (codes " " ++ (decimal placed.place ++ (codes " " ++ (decimal number ++ (codes " "
    ++ (decimal placed.moment ++ (codes " " ++ rest_of_line left_out answer)))))))
line_at epoch None number left_out answer =
    decimal epoch ++ (codes " - " ++ (decimal number ++ (codes " - " ++ rest_of_line left_out answer)))

abbrev pub traced_line : Line → List ℕ
traced_line line =
    line_at line.traced.epoch line.traced.placed line.traced.number line.left_out line.traced.answer

-- ---- traces

-- all that was put and found room, in order
abbrev pub told : Trace → List Line
told trace = sent trace.producer

-- what of it was written, in order
abbrev pub written : TraceWriter → List Line
written writer = received writer.consumer

-- nothing was put yet
pub record IsEmpty (trace : Trace) (writer : TraceWriter) : Type 0 where
  pub pair : IsPair trace.producer writer.consumer
  pub told : told trace ≡ []
  pub written : written writer ≡ []
  pub none_left_out : trace.left_out ≡ 0

-- a release stands behind all that were put, with how many were left out before it; or there was no room, and it is
-- counted
pub record IsPut (traced : Traced) (old new : Trace) : Type 0 where
  pub same : SameProducer old.producer new.producer
  pub put : ((told new ≡ told old ++ record { traced = traced; left_out = old.left_out } ∷ []) × (new.left_out ≡ 0))
      ⊎ ((told new ≡ told old) × (new.left_out ≡ min (old.left_out + 1) (2 ^ 64 - 1)))

-- the lines of releases were written that had been put, in order, and nothing else was
pub record Writes {W : Type 0} (w : CountedWriter W) (old new : TraceWriter) (before after : W) : Type 0 where
  pub lines : List Line
  pub same : SameConsumer old.consumer new.consumer
  pub taken : written new ≡ written old ++ lines
  pub text : Appends (w.held before) (w.held after) (flat_map traced_line lines)
