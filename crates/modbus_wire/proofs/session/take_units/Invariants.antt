use Rattle.std.proofs.Common.{take}
use Rattle.io_model.specs.Streams.{Rest, Took}
use Rattle.modbus_wire.specs.Frames.{adus}
use Rattle.modbus_wire.proofs.session.take_units.Given as goal

abbrev pub invariant-loop-byte : goal.invariant-loop-byte
invariant-loop-byte l = Took adus (Rest l.initial.held.items) (take l.byte-index l.piece) (Rest l.held.items) l.initial.out.items l.out.items
