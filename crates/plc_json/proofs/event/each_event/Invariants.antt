use Rattle.std.proofs.Common.{◌≡◌, drop, map}
use Rattle.serde_json.specs.View.{view}
use Rattle.plc_json.specs.Commands.{all_of}
use Rattle.plc_json.specs.Events.{event_of, scheduled}
use Rattle.plc_json.proofs.Each.{behind}
use Rattle.plc_json.proofs.event.each_event.Given as goal

abbrev pub invariant-loop-json : goal.invariant-loop-json
invariant-loop-json l = behind event_of (map scheduled l.events.items) (drop l.json-index (map view l.items)) ≡ all_of event_of (map view l.items)
