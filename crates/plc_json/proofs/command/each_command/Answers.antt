use Rattle.std.proofs.Common.{◌+◌, List, [], ◌∷◌, map, drop, sym, ap, ◌∙◌}
use Rattle.std.proofs.lemmas.List.{map-append}
use Rattle.serde_json.specs.View.{view}
use Rattle.plc_json.specs.Commands.{Named, named, command_of}
use Rattle.plc_json.specs.declared.command.NamedCommand.{NamedCommand}
use Rattle.plc_json.proofs.Each.{behind, tells, tells_none}
use Rattle.plc_json.proofs.Whole.{handed}
use Rattle.plc_json.proofs.command.each_command.Goals as goal

pub returns-in_err-next-clause-refused : goal.returns-in_err-next-clause-refused
returns-in_err-next-clause-refused c =
    handed c.from_residual.result _ c.from_residual.ensures.1
    (λ shape. sym c.loop-json.invariant ∙ tells_none command_of (map named c.loop-json.commands.items) c.args.items.now c.loop-json.json-index c.json-item.result c.loop-json-test.true c.json-item.is (c.in_err-next.ensures.refused shape))

pub loop-json-preserved : goal.loop-json-preserved
loop-json-preserved c =
    let rest = drop (c.loop-json.json-index + 1) (map view c.args.items.now) in
    ap (λ (cs : List NamedCommand). behind command_of (map named cs) rest) c.in_ok-push.ensures.items
    ∙ ap (λ (ns : List Named). behind command_of ns rest) (map-append named c.loop-json.commands.items (c.in_ok-next.next ∷ []))
    ∙ sym (tells command_of (map named c.loop-json.commands.items) c.args.items.now c.loop-json.json-index c.json-item.result c.loop-json-test.true c.json-item.is (named c.in_ok-next.next) c.in_ok-next.ensures.found)
    ∙ c.loop-json.invariant
