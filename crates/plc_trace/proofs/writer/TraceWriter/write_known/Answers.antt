use Rattle.std.proofs.Common.{◌≡◌, List, length, ap, arith}
use Rattle.std.proofs.lemmas.Grind.{common_steps}
use Rattle.rtrb.specs.Ring.{known_items}
use Rattle.plc_trace.specs.declared.line.Line.{Line}
use Rattle.plc_trace.specs.declared.writer.TraceWriter.{TraceWriter}
use Rattle.plc_trace.proofs.Writing.{writes_more, writes_nothing}
use Rattle.plc_trace.proofs.writer.TraceWriter.write_known.Goals as goal

pub loop-init : goal.loop-init
loop-init g c = record { writes = writes_nothing g.F.CountedWrite c.args.self.now c.args.file.now; count = omega arith }

pub loop-preserved : goal.loop-preserved
loop-preserved g c =
    let gone = c.pop_known-line.ensures.received in
    let after : TraceWriter = record c.loop.self { consumer = c.pop_known-line.new.self } in record {
      writes = writes_more g.F.CountedWrite c.args.self.now c.loop.self after c.pop_known-line.result c.args.file.now c.loop.file c.put_line.new.file c.loop.invariant.writes c.pop_known-line.ensures.ring gone.0 c.in_ok-put_line.ensures;
      count = grind (arith, common_steps, ap (λ (xs : List Line). length xs) gone.1, c.loop.invariant.count);
    }
