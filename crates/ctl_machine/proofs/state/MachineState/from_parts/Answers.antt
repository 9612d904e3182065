use Rattle.std.proofs.Common.{rules, ◌≡◌, sym, ◌∙◌}
use Rattle.std.proofs.lemmas.List.{reverse-reverse}
use Rattle.ctl_machine.specs.Kept.{all_values}
use Rattle.ctl_machine.proofs.Values.{own_restored}
use Rattle.ctl_machine.proofs.state.MachineState.from_parts.Goals as goal

pub returns-clause-has : goal.returns-clause-has
returns-clause-has c =
    let d : c.args.parts.now.deferred ≡ c.restored_deferred.result.items = search rules in
    let e : c.in_ok-own.own.items ≡ all_values c.args.image.now.variables c.args.parts.now.variables = search rules in (
      record {
        variables = own_restored c.args.image.now.variables c.args.parts.now.variables c.in_ok-own.own.items e c.requires.own;
        instances = search rules;
        input = search rules;
        output = search rules;
        memory = search rules;
        cr = search rules;
        deferred = d ∙ sym (reverse-reverse c.restored_deferred.result.items);
        position = search rules;
      },
      search rules,
    )
