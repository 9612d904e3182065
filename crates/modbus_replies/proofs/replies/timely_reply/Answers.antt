use Rattle.std.proofs.Common.{sym, ◌∙◌}
use Rattle.modbus_replies.proofs.Settling.{withheld}
use Rattle.modbus_replies.proofs.replies.timely_reply.Goals as goal

pub returns-then-shows_outputs : goal.returns-then-shows_outputs
returns-then-shows_outputs g c =
    withheld (g.S.Staging.told c.args.staging.now) c.args.are_stale c.args.pdu.now c.args.released.now.image.cells c.exception_reply.result.items
    c.if-are_stale.true (sym c.shows_outputs.ensures ∙ c.if-shows_outputs.true) c.exception_reply.ensures
