use Rattle.std.proofs.Common.{◌≡◌, ℕ, List, Some, ap, ◌∙◌, arith, rules}
use Rattle.std.specs.Prelude.{slice_get}
use Rattle.serde_json.specs.View.{view}
use Rattle.plc_json.proofs.Pairs.{not_one, the_one}
use Rattle.plc_json.proofs.command.only_member.Goals as goal

pub returns-then-len-ne1 : goal.returns-then-len-ne1
returns-then-len-ne1 c = not_one c.args.members.now.entries (λ e. omega (arith, e, c.len.ensures.len))

pub returns : goal.returns
returns c =
    let first : slice_get c.args.members.now.entries 0 ≡ Some (c.in_ok-key.key.now, c.in_ok-key.argument.now) = search rules in
    ap (λ (text : List ℕ). Some (text, view c.in_ok-key.argument.now)) c.as_str.ensures.value ∙ the_one c.args.members.now.entries c.in_ok-key.key.now c.in_ok-key.argument.now (omega (arith, c.len.ensures.len)) first
