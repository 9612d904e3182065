use Rattle.std.proofs.Common.{◌≡◌, ap, ◌∙◌, rules, option_map}
use Rattle.il_values.specs.Values.{ty_of}
use Rattle.ctl_blocks.specs.Blocks.{output_value}
use Rattle.ctl_blocks.proofs.Outputs.{output_typed}
use Rattle.ctl_blocks.proofs.block.Block.output.Goals as goal

pub returns-else-number-inputs-clause-typed : goal.returns-else-number-inputs-clause-typed
returns-else-number-inputs-clause-typed c =
    let value : c.value_at.result ≡ output_value c.args.self.now c.args.number = search rules in
    ap (option_map ty_of) value ∙ output_typed c.args.self.now c.args.number
