use Rattle.std.proofs.Common.{take, map, ◌≤◌}
use Rattle.plc_console.specs.Sending.{Asked, item_bytes}
use Rattle.plc_console.proofs.sending.send_commands.Given as goal

-- those so far were sent and answered
abbrev pub invariant-loop-command : goal.invariant-loop-command
invariant-loop-command g l =
    Asked (map item_bytes (take l.command-index l.commands)) l.replies.items (g.R.CountedRead.left l.initial.reader) (g.R.CountedRead.left l.reader)
    (g.W.CountedWrite.held l.initial.writer) (g.W.CountedWrite.held l.writer) (g.O.CountedWrite.held l.initial.out) (g.O.CountedWrite.held l.out)
    × ((g.R.CountedRead.faults l.initial.reader ≤ g.R.CountedRead.faults l.reader)
    × ((g.W.CountedWrite.faults l.initial.writer ≤ g.W.CountedWrite.faults l.writer)
    × (g.O.CountedWrite.faults l.initial.out ≤ g.O.CountedWrite.faults l.out)))
