use Rattle.std.proofs.Common.{◌≡◌, List, ◌++◌, Some, sym, subst}
use Rattle.toml.specs.Data.{table}
use Rattle.toml.specs.View.{view, table_view}
use Rattle.plc_group.specs.Faults.{IsFirst, addresses_faults, machine_faults, unknown_faults}
use Rattle.plc_group.specs.Values.{machine_of}
use Rattle.plc_group.specs.declared.key.Key.{Key}
use Rattle.plc_group.proofs.Firsts.{handed, told_front}
use Rattle.plc_group.proofs.Sizes.{table_is}
use Rattle.plc_group.proofs.machines.machine.Goals as goal

pub returns-in_err-refuse_unknown : goal.returns-in_err-refuse_unknown
returns-in_err-refuse_unknown c =
    let members = table_view c.in-Some.table.now in
    let place = c.args.place in
    let e = c.in_err-refuse_unknown.field-0.0 in
    let is : view c.args.value.now ≡ table members = table_is (view c.args.value.now) members (sym c.in-Some.ensures) in
    handed (machine_faults place (view c.args.value.now)) (λ m. machine_of (view c.args.value.now) ≡ Some m) c.from_residual.result e c.from_residual.ensures.1
    (subst (λ d. IsFirst (machine_faults place d) e) (sym is)
    (subst (λ (known : List Key). IsFirst (unknown_faults (Some place) known members ++ addresses_faults place members) e) c.as_slice.ensures
    (told_front (unknown_faults (Some place) c.as_slice.result.now members) (addresses_faults place members) e c.in_err-refuse_unknown.ensures)))
