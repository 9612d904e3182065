use Rattle.std.proofs.Common.{◌≡◌, ℕ, List, length, ◌∙◌, ap, sym, arith}
use Rattle.std.specs.Prelude.{slice_set}
use Rattle.std.proofs.lemmas.List.{length-set}
use Rattle.ctl_model.specs.State.{BlockInstance, cold_instance}
use Rattle.ctl_model.specs.Warm.{warm_instance}
use Rattle.ctl_machine.proofs.Warming.{begun, instance_stays, instance_begins, instances_warm}
use Rattle.ctl_machine.proofs.state.begin_instances.Goals.{then-not-declared-i+in-Sr-1, else-not-declared-i}
use Rattle.ctl_machine.proofs.state.begin_instances.Goals as goal

pub loop-i-preserved : goal.loop-i-preserved
loop-i-preserved c =
    let ds = c.args.declared.now in
    let old = c.args.instances.now.items in
    let i = c.loop-i.i in
    elim c.if-not-declared-i.branch [
      | then-not-declared-i+in-Sr-1 w ↦
          let d = w.index-declared-i-then-not-declared-i in
          rw w.instances-is (record {
            done =
                ap (λ (xs : List BlockInstance). slice_set xs i w.cold.result) c.loop-i.invariant.done
                ∙ sym (instance_begins i ds old c.index-declared-i.result d.result w.cold.result c.loop-i-test.true w.if-not-declared-i.true (w.cold.ensures ∙ ap cold_instance d.is));
            same = length-set c.loop-i.instances.items i w.cold.result ∙ c.loop-i.invariant.same;
          })
      | else-not-declared-i w ↦ rw w.instances-is (record {
        done = c.loop-i.invariant.done ∙ sym (instance_stays i ds old c.index-declared-i.result c.loop-i-test.true w.if-not-declared-i.false);
        same = c.loop-i.invariant.same;
      })
    ]

pub returns : goal.returns
returns c =
    let ds = c.args.declared.now in
    let end : c.loop-i.i ≡ length ds = omega (arith, c.loop-i.auto.i-end, c.loop-i-test.false) in
    c.loop-i.invariant.done ∙ ap (λ (n : ℕ). begun warm_instance n ds c.args.instances.now.items) end ∙ instances_warm ds c.args.instances.now.items c.requires
