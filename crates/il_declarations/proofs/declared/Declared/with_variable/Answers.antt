use Rattle.il_declarations.proofs.DeclaredTables.{put_variable}
use Rattle.il_declarations.proofs.declared.Declared.with_variable.Goals as goal

pub invariant_of-result : goal.invariant_of-result
invariant_of-result c =
    put_variable c.self.inside.variables.items c.push.new.self.items c.self.inside.instances.items c.self.inside.variable_names c.put_name.new.names c.self.inside.instance_names c.self.inside.codes c.put_code.new.codes c.args.v
    c.self.invariant c.in_ok-push.ensures.items c.in_ok-put_name.ensures (rw c.as_slice.ensures.value at c.in_ok-put_code.ensures)
