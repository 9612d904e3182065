use Rattle.std.proofs.Common.{◌≡◌, ◌++◌, drop}
use Rattle.plc_names.specs.Named.{answers_by}
use Rattle.plc_names.proofs.naming.answers_of.Given as goal

abbrev pub invariant-loop-named : goal.invariant-loop-named
invariant-loop-named l = l.answers.items ++ answers_by l.controller (drop l.named-index l.commands) ≡ answers_by l.fn.controller l.commands
