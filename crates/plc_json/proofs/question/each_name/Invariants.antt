use Rattle.std.proofs.Common.{◌≡◌, drop, map, string_bytes}
use Rattle.serde_json.specs.Find.{as_str}
use Rattle.serde_json.specs.View.{view}
use Rattle.plc_json.specs.Commands.{all_of}
use Rattle.plc_json.proofs.Each.{behind}
use Rattle.plc_json.proofs.question.each_name.Given as goal

abbrev pub invariant-loop-json : goal.invariant-loop-json
invariant-loop-json l = behind as_str (map string_bytes l.names.items) (drop l.json-index (map view l.items)) ≡ all_of as_str (map view l.items)
