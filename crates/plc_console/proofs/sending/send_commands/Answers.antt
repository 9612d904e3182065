use Rattle.std.proofs.Common.{◌≡◌}
use Rattle.plc_console.proofs.Passing.{asked_next, no_less}
use Rattle.plc_console.proofs.sending.send_commands.Goals as goal

pub loop-command-preserved : goal.loop-command-preserved
loop-command-preserved g c =
    let same : c.as_slice.result.now ≡ c.command-item.result.items = cc (c.as_slice.ensures.value) in
    let counts = c.in_ok-reply.ensures.counts in
    let before = c.loop-command.invariant.1 in (
      asked_next c.args.commands.now c.loop-command.command-index c.command-item.result c.as_slice.result.now c.loop-command.replies.items c.push.new.self.items c.in_ok-reply.reply
          (g.R.CountedRead.left c.args.reader.now) (g.R.CountedRead.left c.loop-command.reader) (g.R.CountedRead.left c.send_command.new.reader)
          (g.W.CountedWrite.held c.args.writer.now) (g.W.CountedWrite.held c.loop-command.writer) (g.W.CountedWrite.held c.send_command.new.writer)
          (g.O.CountedWrite.held c.args.out.now) (g.O.CountedWrite.held c.loop-command.out) (g.O.CountedWrite.held c.send_command.new.out)
          c.loop-command-test.true c.command-item.is same c.loop-command.invariant.0 c.in_ok-reply.ensures.asked (cc (c.in_ok-push.ensures.items)),
      (
        no_less (g.R.CountedRead.faults c.args.reader.now) (g.R.CountedRead.faults c.loop-command.reader) (g.R.CountedRead.faults c.send_command.new.reader) before.0 counts.0,
        (
          no_less (g.W.CountedWrite.faults c.args.writer.now) (g.W.CountedWrite.faults c.loop-command.writer) (g.W.CountedWrite.faults c.send_command.new.writer) before.1.0 counts.1.0,
          no_less (g.O.CountedWrite.faults c.args.out.now) (g.O.CountedWrite.faults c.loop-command.out) (g.O.CountedWrite.faults c.send_command.new.out) before.1.1 counts.1.1,
        ),
      ),
    )
