use Rattle.std.proofs.Common.{◌∙◌}
use Rattle.il_declarations.proofs.DeclaredTables.{added}
use Rattle.il_declarations.proofs.declared.put_name.Goals as goal

pub returns : goal.returns
returns c = added c.args.names.now c.insert.new.self c.in_ok-key.key.items c.args.name.now (c.in_ok-key.ensures.items ∙ c.bytes.ensures) c.in_ok-insert.ensures.updates
