use Rattle.std.proofs.Common.{map, sym, ◌∙◌}
use Rattle.std.specs.List.{list_any}
use Rattle.il_reader.specs.Grammar.{argument}
use Rattle.il_units.specs.Misuse.{names_field}
use Rattle.il_units.proofs.Checks.{any_goes_on, any_found, any_none}
use Rattle.il_units.proofs.misuse.is_named.Goals as goal

pub returns-then-names : goal.returns-then-names
returns-then-names c = any_found (names_field c.args.name.now) argument c.args.args.now c.loop-a.a-index _ (list_any (names_field c.args.name.now) (map argument c.args.args.now)) c.loop-a-test.true (sym c.in_ok-names.ensures ∙ c.if-names.true) c.loop-a.invariant

pub loop-a-preserved : goal.loop-a-preserved
loop-a-preserved c = any_goes_on (names_field c.args.name.now) argument c.args.args.now c.loop-a.a-index _ (list_any (names_field c.args.name.now) (map argument c.args.args.now)) c.loop-a-test.true (sym c.in_ok-names.ensures ∙ c.if-names.false) c.loop-a.invariant

pub returns : goal.returns
returns c = any_none (names_field c.args.name.now) argument c.args.args.now c.loop-a.a-index (list_any (names_field c.args.name.now) (map argument c.args.args.now)) c.loop-a-test.false c.loop-a.invariant
