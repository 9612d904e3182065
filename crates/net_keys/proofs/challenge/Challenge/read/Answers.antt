use Rattle.std.proofs.Common.{◌≡◌, drop, rules, arith}
use Rattle.net_keys.specs.Challenges.{said_in}
use Rattle.net_keys.proofs.Readings.{taken, found, only}
use Rattle.net_keys.proofs.challenge.Challenge.read.Goals as goal

pub returns-then-starts_with-clause-exact : goal.returns-then-starts_with-clause-exact
returns-then-starts_with-clause-exact c =
    let said : c.said_in.result ≡ said_in (drop 8 c.args.bytes.now) = first_of (cc, search rules) in
    taken c.args.bytes.now c.starts_with.result c.said_in.result c.starts_with.ensures.value c.if-starts_with.true said

pub returns-then-starts_with-clause-found : goal.returns-then-starts_with-clause-found
returns-then-starts_with-clause-found c =
    let said : c.said_in.result ≡ said_in (drop 8 c.args.bytes.now) = first_of (cc, search rules) in
    found c.args.bytes.now c.starts_with.result c.said_in.result (omega arith) c.starts_with.ensures.value c.if-starts_with.true said

pub returns-then-starts_with-clause-only : goal.returns-then-starts_with-clause-only
returns-then-starts_with-clause-only c =
    let said : c.said_in.result ≡ said_in (drop 8 c.args.bytes.now) = first_of (cc, search rules) in
    only c.args.bytes.now c.starts_with.result c.said_in.result c.starts_with.ensures.value c.if-starts_with.true said
