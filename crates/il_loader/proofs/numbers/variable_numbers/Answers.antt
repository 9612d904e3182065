use Rattle.std.proofs.Common.{◌≡◌, ◌∙◌, ℕ, suc, ◌-◌, ◌<◌, List, length, drop, ap, sym, arith, refl}
use Rattle.std.proofs.lemmas.Option.{slice_get_read}
use Rattle.il_model.specs.declared.program.Variable.{Variable}
use Rattle.il_model.specs.Words.{same_name}
use Rattle.il_model.proofs.Indexing.{first_where, first_position}
use Rattle.il_loader.proofs.NameNumbers.{put_first}
use Rattle.il_loader.proofs.numbers.variable_numbers.Goals as goal

pub loop-n-preserved : goal.loop-n-preserved
loop-n-preserved c =
    let is : c.loop-n.n ≡ suc (c.loop-n.n - 1) = omega arith in
    let lt : c.loop-n.n - 1 < length c.args.variables.now = omega arith in
    let here = slice_get_read c.args.variables.now (length c.args.variables.now) (c.loop-n.n - 1) c.index-variables-n.result refl lt c.index-variables-n.is in
    let bytes = c.in_ok-key.ensures.items ∙ c.bytes.ensures ∙ sym (ap (λ (x : Variable). x.name) c.index-variables-n.is) in
    record {
      within = omega arith;
      found = λ name. put_first (λ (x : Variable). same_name x.name name) c.loop-n.found c.insert.new.self c.args.variables.now (c.loop-n.n - 1) c.loop-n.n c.index-variables-n.result c.in_ok-key.key.items name c.in_ok-insert.ensures.updates (ap (λ (key : List ℕ). same_name key name) bytes) is here (c.loop-n.invariant.found name);
    }

pub returns : goal.returns
returns c = λ name.
    let is : c.loop-n.n ≡ 0 = omega arith in
    c.loop-n.invariant.found name ∙ ap (λ (k : ℕ). first_where (λ (x : Variable). same_name x.name name) k (drop k c.args.variables.now)) is ∙ first_position (λ (x : Variable). same_name x.name name) c.args.variables.now
