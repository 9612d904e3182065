use Rattle.std.proofs.Common.{◌∙◌, arith}
use Rattle.serde_json.specs.View.{view}
use Rattle.plc_json.proofs.Pairs.{no_scan, the_scan}
use Rattle.plc_json.proofs.command.scan.Goals as goal

pub returns-then-len-ne3 : goal.returns-then-len-ne3
returns-then-len-ne3 c = no_scan (view c.args.argument.now) c.in_ok-as_object.field-0.now.entries c.in_ok-as_object.ensures (λ e. omega (arith, e, c.len.ensures.len))

pub returns : goal.returns
returns c = c.scan_with.ensures ∙ the_scan (view c.args.argument.now) c.in_ok-as_object.field-0.now.entries c.in_ok-as_object.ensures (omega (arith, c.len.ensures.len))
