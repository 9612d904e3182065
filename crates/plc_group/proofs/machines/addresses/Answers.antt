use Rattle.std.proofs.Common.{◌≡◌, ◌++◌, Some}
use Rattle.toml.specs.View.{table_view}
use Rattle.plc_group.specs.declared.key.Key.TheVariants as keys
use Rattle.plc_group.specs.Faults.{addresses_faults, status_faults, wanted_faults}
use Rattle.plc_group.specs.Values.{address_of, machine_in}
use Rattle.plc_group.proofs.Firsts.{handed, told_front}
use Rattle.plc_group.proofs.machines.addresses.Goals as goal

pub returns-in_err-wanted_address : goal.returns-in_err-wanted_address
returns-in_err-wanted_address c =
    let table = table_view c.args.table.now in
    let place = c.args.place in
    let e = c.in_err-wanted_address.field-0.0 in
    let more = wanted_faults address_of (Some place) keys.Console table ++ status_faults place table in
    handed (addresses_faults place table) (λ m. machine_in table ≡ Some m) c.from_residual-in_err-wanted_address.result e c.from_residual-in_err-wanted_address.ensures.1
    (rw (c.in_ok-replica.ensures.0, c.in_ok-needed_address.ensures.0)
    (told_front (wanted_faults address_of (Some place) keys.ModbusRead table) more e c.in_err-wanted_address.ensures))

pub returns-in_err-wanted_address-2 : goal.returns-in_err-wanted_address-2
returns-in_err-wanted_address-2 c =
    let table = table_view c.args.table.now in
    let place = c.args.place in
    let e = c.in_err-wanted_address-2.field-0.0 in
    handed (addresses_faults place table) (λ m. machine_in table ≡ Some m) c.from_residual-in_err-wanted_address-2.result e c.from_residual-in_err-wanted_address-2.ensures.1
    (rw (c.in_ok-replica.ensures.0, c.in_ok-needed_address.ensures.0, c.in_ok-wanted_address.ensures.0)
    (told_front (wanted_faults address_of (Some place) keys.Console table) (status_faults place table) e c.in_err-wanted_address-2.ensures))
