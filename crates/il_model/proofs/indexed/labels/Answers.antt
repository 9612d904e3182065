use Rattle.std.proofs.Common.{◌≡◌, ◌∙◌, ℕ, suc, ◌-◌, ◌<◌, List, length, drop, ap, sym, arith, Some, refl}
use Rattle.std.proofs.lemmas.Option.{slice_get_read}
use Rattle.il_model.specs.declared.program.Instr.{Instr}
use Rattle.il_model.specs.Resolved.{has_label}
use Rattle.il_model.proofs.Indexing.{first_where, first_position, put_first, labelled_so}
use Rattle.il_model.proofs.indexed.labels.Goals as goal

pub loop-n-preserved-in_ok-insert : goal.loop-n-preserved-in_ok-insert
loop-n-preserved-in_ok-insert c =
    let is : c.loop-n.n ≡ suc (c.loop-n.n - 1) = omega arith in
    let lt : c.loop-n.n - 1 < length c.args.code.now = omega arith in
    let here = slice_get_read c.args.code.now (length c.args.code.now) (c.loop-n.n - 1) c.index-code-n.result refl lt c.index-code-n.is in
    let label = ap (λ (line : Instr). line.label) c.index-code-n.is ∙ c.in-Some.is ∙ ap (λ (label : List ℕ). Some label) (sym c.bytes.ensures) in
    record {
      within = omega arith;
      found = λ name. put_first (has_label name) c.loop-n.found c.insert.new.self c.args.code.now (c.loop-n.n - 1) c.loop-n.n c.index-code-n.result c.bytes.result.now name c.in_ok-insert.ensures.updates (labelled_so c.index-code-n.result c.bytes.result.now name label) is here (c.loop-n.invariant.found name);
    }

pub returns : goal.returns
returns c = λ name.
    let is : c.loop-n.n ≡ 0 = omega arith in
    c.loop-n.invariant.found name ∙ ap (λ (k : ℕ). first_where (has_label name) k (drop k c.args.code.now)) is ∙ first_position (has_label name) c.args.code.now
