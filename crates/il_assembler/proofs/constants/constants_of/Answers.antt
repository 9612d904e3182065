use Rattle.std.proofs.Common.{[], Option, ap, ◌∙◌}
use Rattle.il_values.specs.declared.value.Value.{Value}
use Rattle.il_assembler.specs.Walk.{constants_in, literals_in, all_literals}
use Rattle.il_assembler.proofs.Gathered.{line_gathered}
use Rattle.il_assembler.proofs.constants.constants_of.Goals as goal

pub loop-n-preserved : goal.loop-n-preserved
loop-n-preserved c =
    let line = c.index-code-n.result in
    let literal = c.index-literals-n.result in
    line_gathered c.args.code.now c.args.literals.now c.loop-n.n line literal c.loop-n.found c.in_ok-found.found (constants_in [] (all_literals c.args.code.now c.args.literals.now))
    c.loop-n-test.true c.requires c.index-code-n.is (c.in_ok-found.ensures ∙ ap (λ (x : Option Value). constants_in c.loop-n.found (literals_in line x)) c.index-literals-n.is) c.loop-n.invariant
