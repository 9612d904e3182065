use Rattle.std.proofs.Common.{◌<◌}
use Rattle.io_image.specs.Book.{mask_at}
use Rattle.modbus_replies.proofs.Settling.{took, declined}
use Rattle.modbus_replies.proofs.replies.mask_word.Goals as goal

pub returns-in-Ok : goal.returns-in-Ok
returns-in-Ok g c =
    let pdu = c.args.pdu.now in
    let at = c.args.at in
    rw (c.pdu_of.ensures, ← c.number_at.ensures, ← c.number_at-2.ensures)
    (took (g.S.Staging.told c.args.staging.now) (g.S.Staging.told c.mask_word.new.self) c.in-Ok.field-0 (mask_at at c.number_at.result c.number_at-2.result) (at < 64) pdu pdu c.in-Ok.ensures.told)

pub returns-in-Err : goal.returns-in-Err
returns-in-Err g c =
    let pdu = c.args.pdu.now in
    let at = c.args.at in
    rw (← c.number_at.ensures, ← c.number_at-2.ensures)
    (declined (g.S.Staging.told c.args.staging.now) (g.S.Staging.told c.mask_word.new.self) c.in-Err.field-0 (mask_at at c.number_at.result c.number_at-2.result) (at < 64) pdu c.exception_reply.result.items pdu c.in-Err.ensures.told c.exception_reply.ensures)
