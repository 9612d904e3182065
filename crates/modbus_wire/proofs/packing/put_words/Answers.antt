use Rattle.std.proofs.Common.{◌<◌, length, arith}
use Rattle.modbus_wire.proofs.packing.put_words.Goals as goal

pub push-requires : goal.push-requires
push-requires c = let room : length c.loop-word.pdu.items < 253 = omega (arith, c.loop-word.invariant.short, c.loop-word-test.true, c.requires) in (omega arith, room)

pub push-requires-in-loop-word : goal.push-requires-in-loop-word
push-requires-in-loop-word c = let room : length c.push.new.self.items < 253 = omega (arith, c.push.ensures.len, c.loop-word.invariant.short, c.loop-word-test.true, c.requires) in (omega arith, room)
