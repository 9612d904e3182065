use Rattle.std.proofs.Common.{◌≡◌, ℕ, length, ◌∙◌, ap, arith}
use Rattle.std.proofs.lemmas.List.{length-set}
use Rattle.ctl_model.specs.Warm.{warm_value}
use Rattle.ctl_machine.proofs.Warming.{begun, value_step, values_warm}
use Rattle.ctl_machine.proofs.state.begin_values.Goals as goal

pub loop-i-preserved : goal.loop-i-preserved
loop-i-preserved c = record {
  done = value_step c.loop-i.i c.args.variables.now c.args.own.now.items c.loop-i.own.items c.index-variables-i.result c.index.result.now c.warm_value.result c.loop-i-test.true c.requires c.loop-i.invariant.done c.index-variables-i.is c.index.ensures c.warm_value.ensures;
  same = length-set c.loop-i.own.items c.loop-i.i c.warm_value.result ∙ c.loop-i.invariant.same;
}

pub returns : goal.returns
returns c =
    let vs = c.args.variables.now in
    let end : c.loop-i.i ≡ length vs = omega (arith, c.loop-i.auto.i-end, c.loop-i-test.false) in
    c.loop-i.invariant.done ∙ ap (λ (n : ℕ). begun warm_value n vs c.args.own.now.items) end ∙ values_warm vs c.args.own.now.items c.requires
