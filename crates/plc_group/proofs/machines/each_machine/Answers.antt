use Rattle.std.proofs.Common.{◌≡◌, ◌+◌, ◌<◌, List, ◌∷◌, length, map, drop, Some, arith, sym, ap, subst, ◌∙◌}
use Rattle.toml.specs.Data.{Data}
use Rattle.toml.specs.View.{view}
use Rattle.plc_group.specs.declared.group.Machine.{Machine}
use Rattle.plc_group.specs.Faults.{Fault, IsFirst, each_faults, machine_faults}
use Rattle.plc_group.specs.Values.{all_of, machine_of}
use Rattle.plc_group.proofs.Firsts.{handed}
use Rattle.plc_group.proofs.Walks.{behind, drop_view, from, none_here, one_more, told_here}
use Rattle.plc_group.proofs.machines.each_machine.Goals as goal

pub returns-in_err-next : goal.returns-in_err-next
returns-in_err-next c =
    let ds = map view c.args.values.now in
    let i = c.loop-place.place in
    let v = c.index-values-place.result in
    let e = c.in_err-next.field-0.0 in
    let lt : i < length c.args.values.now = omega arith in
    handed (each_faults ds) (λ machines. all_of machine_of ds ≡ Some machines.items) c.from_residual.result e c.from_residual.ensures.1
    (subst (λ (faults : List Fault). IsFirst faults e) c.loop-place.invariant.faults
    (subst (λ (rest : List Data). IsFirst (from machine_faults i rest) e) (sym (drop_view c.args.values.now i v lt c.index-values-place.is))
    (told_here machine_faults i (view v) (drop (i + 1) ds) e c.in_err-next.ensures)))

pub loop-place-preserved : goal.loop-place-preserved
loop-place-preserved c =
    let ds = map view c.args.values.now in
    let i = c.loop-place.place in
    let v = c.index-values-place.result in
    let rest = drop (i + 1) ds in
    let given = c.loop-place.machines.items in
    let lt : i < length c.args.values.now = omega arith in
    let here : drop i ds ≡ view v ∷ rest = drop_view c.args.values.now i v lt c.index-values-place.is in
    record {
      read = ap (λ (ms : List Machine). behind machine_of ms rest) c.in_ok-push.ensures.items
          ∙ sym (one_more machine_of given (view v) rest c.in_ok-next.next c.in_ok-next.ensures.1)
          ∙ ap (behind machine_of given) (sym here)
          ∙ c.loop-place.invariant.read;
      faults = sym (none_here machine_faults i (view v) rest c.in_ok-next.ensures.0)
          ∙ ap (from machine_faults i) (sym here)
          ∙ c.loop-place.invariant.faults;
    }
