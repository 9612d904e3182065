use Rattle.std.proofs.Common.{◌≡◌, drop, map}
use Rattle.serde_json.specs.View.{view}
use Rattle.plc_json.specs.Commands.{all_of, command_of, named}
use Rattle.plc_json.proofs.Each.{behind}
use Rattle.plc_json.proofs.command.each_command.Given as goal

abbrev pub invariant-loop-json : goal.invariant-loop-json
invariant-loop-json l = behind command_of (map named l.commands.items) (drop l.json-index (map view l.items)) ≡ all_of command_of (map view l.items)
