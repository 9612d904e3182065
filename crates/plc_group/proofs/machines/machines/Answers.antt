use Rattle.std.proofs.Common.{map, sym, subst, ◌∙◌}
use Rattle.toml.specs.View.{view}
use Rattle.plc_group.specs.Values.{IsSize, machine_of}
use Rattle.plc_group.proofs.Sizes.{all_length, machines_size}
use Rattle.plc_group.proofs.machines.machines.Goals as goal

pub returns-in-None-clause-size : goal.returns-in-None-clause-size
returns-in-None-clause-size c =
    let ds = map view c.in-Some-machines_of.values.now in
    subst IsSize (sym (c.in_ok-machines.machines.ok.0 ∙ all_length machine_of ds c.in_ok-machines.machines.items c.in_ok-machines.ensures.1))
    (machines_size (view c.in-Some.value.now) ds (sym c.in-Some-machines_of.ensures))
