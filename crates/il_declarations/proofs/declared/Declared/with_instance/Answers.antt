use Rattle.il_declarations.proofs.DeclaredTables.{put_instance}
use Rattle.il_declarations.proofs.declared.Declared.with_instance.Goals as goal

pub invariant_of-result : goal.invariant_of-result
invariant_of-result c =
    put_instance c.self.inside.variables.items c.self.inside.instances.items c.push.new.self.items c.self.inside.variable_names c.self.inside.instance_names c.put_name.new.names c.self.inside.codes c.args.x
    c.self.invariant c.in_ok-push.ensures.items c.in_ok-put_name.ensures
