use Rattle.std.proofs.Common.{ℕ, List, subst, ◌∙◌}
use Rattle.std.specs.Io.KnownBytes.{Appends}
use Rattle.plc_symbols.proofs.calls.put_names.Goals as goal

pub returns-clause-ok : goal.returns-clause-ok
returns-clause-ok g c = record {
  program = c.in_ok-image.image;
  is = c.in_ok-image.ensures.found;
  written = subst (λ (text : List ℕ). Appends (g.W.CountedWrite.held c.args.out.now) (g.W.CountedWrite.held c.write_all.new.writer) text)
      (c.as_slice.ensures.value ∙ c.in_ok-text.ensures) c.in_ok-write_all.ensures.ok;
}
