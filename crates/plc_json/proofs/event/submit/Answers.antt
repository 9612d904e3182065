use Rattle.std.proofs.Common.{◌≡◌, Some, sym, ap, length, arith, rules}
use Rattle.serde_json.specs.Find.{as_array}
use Rattle.serde_json.specs.View.{view, items_view}
use Rattle.plc_json.specs.Events.{submit_of}
use Rattle.plc_json.proofs.Pairs.{no_pair}
use Rattle.plc_json.proofs.event.submit.Goals.{in_default-via-then-as_slice-lt2, in_default-via-else-as_slice-lt2+else-this-lt3}
use Rattle.plc_json.proofs.event.submit.Goals as goal

pub returns-in_default-clause-refused : goal.returns-in_default-clause-refused
returns-in_default-clause-refused c = λ shape.
    let array : Some (items_view c.as_slice.result.now) ≡ as_array (view c.args.argument.now) = search rules in
    sym (no_pair submit_of _ c.as_slice.result.now array (λ e. let n = ap length c.as_slice.ensures.value in elim c.in_default.branch [
      | in_default-via-then-as_slice-lt2 w ↦ grind (arith, n, e, w)
      | in_default-via-else-as_slice-lt2+else-this-lt3 w ↦ grind (arith, n, e, w)
    ]))
