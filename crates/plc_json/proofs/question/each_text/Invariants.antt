use Rattle.std.proofs.Common.{drop, map}
use Rattle.serde_json.specs.View.{view}
use Rattle.plc_json.specs.Asking.{bytes_of}
use Rattle.plc_json.proofs.Texts.{Told}
use Rattle.plc_json.proofs.question.each_text.Given as goal

abbrev pub invariant-loop-json : goal.invariant-loop-json
invariant-loop-json l = Told (map view l.items) (drop l.json-index (map view l.items)) (map bytes_of l.texts.items)
