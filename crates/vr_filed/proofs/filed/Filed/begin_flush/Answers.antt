use Rattle.std.proofs.Common.{◌≡◌, ◌+◌, length, refl, arith}
use Rattle.vr_filed.proofs.Filing.{begins_of}
use Rattle.vr_filed.proofs.filed.Filed.begin_flush.Goals as goal

pub returns-in-Some-begin_flush-clause-begins : goal.returns-in-Some-begin_flush-clause-begins
returns-in-Some-begin_flush-clause-begins c =
    let old = c.args.self.now in
    let long : c.in-Some.end ≡ old.length + length old.durable.pending.bytes.items = omega (arith, c.in-Some.ensures, c.unwritten.ensures) in
    begins_of old (record old { durable = c.begin_flush.new.self; length = c.in-Some.end }) (record { file = old.file; at = old.length; bytes = c.in-Some-begin_flush.bytes }) c.in-Some-begin_flush.ensures.begun c.begin_flush.ensures.stage
    refl c.in-Some-begin_flush.ensures.some c.in-Some-begin_flush.ensures.rest c.begin_flush.ensures.sum long
