-- Lines of a trace, written one behind the other.
use Rattle.std.proofs.Common.{◌≡◌, ℕ, List, [], ◌∷◌, ◌++◌, length, refl, subst, sym, ap, ◌∙◌, append_assoc, append-nil, flat_map, arith}
use Rattle.std.proofs.KnownBytes.{Appends-nil, Appends-trans}
use Rattle.std.specs.Io.KnownBytes.{Appends}
use Rattle.io_model.specs.declared.counted.CountedWrite.{Ghosts as CountedWriter}
use Rattle.rtrb.specs.Ring.{SameConsumer}
use Rattle.plc_trace.specs.Tracing.{traced_line, Writes, written}
use Rattle.plc_trace.specs.declared.line.Line.{Line}
use Rattle.plc_trace.specs.declared.writer.TraceWriter.{TraceWriter}

pub writes_nothing : {W : Type 0} (w : CountedWriter W) (a : TraceWriter) (at : W) → Writes w a a at at
writes_nothing w a at = record {
  lines = [];
  same = ((refl, refl, refl, refl), refl);
  taken = sym (append-nil (written a));
  text = Appends-nil (w.held at);
}

-- the text of one line more
text_of_more : (lines : List Line) (line : Line) → flat_map traced_line (lines ++ line ∷ []) ≡ flat_map traced_line lines ++ traced_line line
text_of_more [] line = append-nil (traced_line line)
text_of_more (x ∷ xs) line = ap (λ (ys : List ℕ). traced_line x ++ ys) (text_of_more xs line) ∙ sym (append_assoc (traced_line x) (flat_map traced_line xs) (traced_line line))

pub writes_more : {W : Type 0} (w : CountedWriter W) (a b c : TraceWriter) (line : Line) (x y z : W) → Writes w a b x y → SameConsumer b.consumer c.consumer → written c ≡ written b ++ line ∷ [] → Appends (w.held y) (w.held z) (traced_line line) → Writes w a c x z
writes_more w a b c line x y z h same is text = record {
  lines = h.lines ++ line ∷ [];
  same = ((same.0.0 ∙ h.same.0.0, same.0.1 ∙ h.same.0.1, same.0.2 ∙ h.same.0.2, same.0.3 ∙ h.same.0.3), same.1 ∙ h.same.1);
  taken = is ∙ ap (λ (before : List Line). before ++ line ∷ []) h.taken ∙ append_assoc (written a) h.lines (line ∷ []);
  text = subst (λ (it : List ℕ). Appends (w.held x) (w.held z) it) (sym (text_of_more h.lines line)) (Appends-trans (w.held x) (w.held y) (w.held z) (flat_map traced_line h.lines) (traced_line line) h.text text);
}
