use Rattle.std.proofs.Common.{◌≡◌, ◌-◌, ◌≤◌, length, take, sym, ap, ◌∙◌, arith, length-take}
use Rattle.net_records.specs.Records.{place_in}
use Rattle.net_records.proofs.Bodies.{of_body}
use Rattle.net_records.proofs.place.go_on.Goals as goal

pub returns-in-Body-clause-given : goal.returns-in-Body-clause-given
returns-in-Body-clause-given c =
    let front = take c.give-count.result c.args.bytes.now in
    c.give-count.ensures.copied ∙ sym (of_body c.args.place.now c.in-Body.left c.in-Body.is c.requires.place front (omega (arith, length-take c.give-count.result c.args.bytes.now))).bodies

pub returns-in-Body-clause-place : goal.returns-in-Body-clause-place
returns-in-Body-clause-place c =
    let front = take c.give-count.result c.args.bytes.now in
    let used : c.in-Body.left - c.give-count.result ≡ c.in-Body.left - length front = omega (arith, length-take c.give-count.result c.args.bytes.now) in
    c.place_in-in-Body.ensures.is ∙ (ap place_in used ∙ sym (of_body c.args.place.now c.in-Body.left c.in-Body.is c.requires.place front (omega (arith, length-take c.give-count.result c.args.bytes.now))).place)
