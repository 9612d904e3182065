use Rattle.std.proofs.Common.{List, ap, sym, ◌∙◌}
use Rattle.std.specs.List.{enumerate_from, flat_map}
use Rattle.il_model.specs.declared.program.Instance.{Instance}
use Rattle.il_model.specs.Program.{Program}
use Rattle.plc_figures.proofs.Chains.{equally}
use Rattle.plc_values.specs.Values.{instance_json}
use Rattle.plc_values.proofs.listing.put_instances.Goals as goal

pub returns-clause-text : goal.returns-clause-text
returns-clause-text c = equally (ap (λ (xs : List Instance). flat_map (instance_json c.args.look.now) (enumerate_from 0 xs)) (c.instances.ensures ∙ ap (λ (Q : Program). Q.instances) (sym c.requires.program))) c.in_ok-put_each_instance.ensures.text
